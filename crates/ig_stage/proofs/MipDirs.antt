-- The directories of mips differ from each other, and from those of the scales before.
use Rattle.std.proofs.Common.{◌≡◌, ℕ, zero, suc, Bool, true, false, not, ◌||◌, List, [], ◌∷◌, ◌++◌, drop, map, Some, slice_get, Contains, refl, ap, sym, subst, ◌∙◌, arith, true≢false}
use Rattle.std.proofs.lemmas.Bool.{and_from}
use Rattle.std.proofs.lemmas.List.{append_cancel_left}
use Rattle.std.proofs.lemmas.List.Folds.{list_any-append}
use Rattle.std.proofs.lemmas.Slice.Eq.{bytes_eq-Decides}
use Rattle.std.specs.Str.{bytes_eq}
use Rattle.ig_space.specs.Path.{joined}
use Rattle.ig_info.specs.declared.scale.Scale.{Scale}
use Rattle.ig_info.specs.Scales.{has_key}
use Rattle.ig_record.specs.Columns.{dirs_of_all, is_among}
use Rattle.ig_record.specs.Sound.{are_apart}
use Rattle.ig_meaning.specs.Plan.{place_in}
use Rattle.ig_stage.proofs.AddedMips.{AreNew}

-- ---- keys
itself : (text : List ℕ) → bytes_eq text text ≡ true
itself text = (bytes_eq-Decides text text).1 refl

or-left : (a b : Bool) → a ≡ true → (a || b) ≡ true
or-left true b e = refl
or-left false b e = absurd (true≢false (sym e))

or-right : (a b : Bool) → b ≡ true → (a || b) ≡ true
or-right true b e = refl
or-right false b e = e

-- a scale of the list has its key
pub found-key : (scales : List Scale) (n : ℕ) (s : Scale) → slice_get scales n ≡ Some s → has_key scales s.key ≡ true
found-key [] n s e = absurd cc
found-key (x ∷ xs) zero s e =
    let same : x ≡ s = cc in
    or-left (bytes_eq x.key s.key) (has_key xs s.key) (subst (λ (k : Scale). bytes_eq k.key s.key ≡ true) (sym same) (itself s.key))
found-key (x ∷ xs) (suc n) s e = or-right (bytes_eq x.key s.key) (has_key xs s.key) (found-key xs n s e)

-- a list with one more has the keys that it had, and the one of that scale
has-still : (scales : List Scale) (s : Scale) (key : List ℕ) → has_key scales key ≡ true → has_key (scales ++ s ∷ []) key ≡ true
has-still scales s key h = list_any-append (λ (k : Scale). bytes_eq k.key key) scales (s ∷ []) ∙ or-left (has_key scales key) (has_key (s ∷ []) key) h

has-last : (scales : List Scale) (s : Scale) → has_key (scales ++ s ∷ []) s.key ≡ true
has-last scales s =
    list_any-append (λ (k : Scale). bytes_eq k.key s.key) scales (s ∷ [])
    ∙ or-right (has_key scales s.key) (has_key (s ∷ []) s.key) (or-left (bytes_eq s.key s.key) false (itself s.key))

-- ---- directories
same-key : (layer a b : List ℕ) → joined layer a ≡ joined layer b → a ≡ b
same-key layer a b e = ap (drop 1) (append_cancel_left layer (47 ∷ a) (47 ∷ b) e)

differ_by : (a b : List ℕ) (test : Bool) → bytes_eq a b ≡ test → (a ≡ b → ⊥) → test ≡ false
differ_by a b true is no_way = absurd (no_way ((bytes_eq-Decides a b).0 is))
differ_by a b false is no_way = refl

-- a key that scales have is not that of a new one
keys-apart : (layer key : List ℕ) (old : List Scale) (s : Scale) → has_key old key ≡ true → has_key old s.key ≡ false → bytes_eq (joined layer key) (joined layer s.key) ≡ false
keys-apart layer key old s known new =
    differ_by (joined layer key) (joined layer s.key) (bytes_eq (joined layer key) (joined layer s.key)) refl
    (λ e. true≢false (sym known ∙ ap (has_key old) (same-key layer key s.key e) ∙ new))

none-or : (a b : Bool) → a ≡ false → b ≡ false → (a || b) ≡ false
none-or false b e h = h
none-or true b e h = absurd (true≢false e)

-- the directory of a scale that is there is none of a new one
pub not-among : (layer key : List ℕ) (old scales : List Scale) → has_key old key ≡ true → AreNew old scales → is_among (joined layer key) (dirs_of_all (map (place_in layer) scales)) ≡ false
not-among layer key old [] known h = refl
not-among layer key old (s ∷ scales) known h =
    none-or (bytes_eq (joined layer key) (joined layer s.key)) (is_among (joined layer key) (dirs_of_all (map (place_in layer) scales)))
    (keys-apart layer key old s known h.0) (not-among layer key (old ++ s ∷ []) scales (has-still old s key known) h.2)

pub apart-new : (layer : List ℕ) (old scales : List Scale) → AreNew old scales → are_apart (dirs_of_all (map (place_in layer) scales)) ≡ true
apart-new layer old [] h = refl
apart-new layer old (s ∷ scales) h =
    and_from (not (is_among (joined layer s.key) (dirs_of_all (map (place_in layer) scales)))) (are_apart (dirs_of_all (map (place_in layer) scales)))
    (ap not (not-among layer s.key (old ++ s ∷ []) scales (has-last old s) h.2)) (apart-new layer (old ++ s ∷ []) scales h.2)

-- what is among the directories passes the test
among-is : (dir : List ℕ) (dirs : List (List ℕ)) → Contains dirs dir → is_among dir dirs ≡ true
among-is dir [] (k, few, is) = absurd (omega (arith, few))
among-is dir (other ∷ dirs) (zero, few, is) = or-left (bytes_eq dir other) (is_among dir dirs) ((bytes_eq-Decides dir other).1 (sym is))
among-is dir (other ∷ dirs) (suc k, few, is) = or-right (bytes_eq dir other) (is_among dir dirs) (among-is dir dirs (k, omega (arith, few), is))

pub not-contained : (dir : List ℕ) (dirs : List (List ℕ)) → is_among dir dirs ≡ false → Contains dirs dir → ⊥
not-contained dir dirs none among = true≢false (sym (among-is dir dirs among) ∙ none)
