-- A segment is a path of one part, and a segment in a directory makes a path there.
use Rattle.std.proofs.Common.{◌≡◌, ◌↔◌, ◌<◌, ◌≤◌, ◌+◌, ◌==◌, ◌&&◌, ◌||◌, ◌++◌, ℕ, Bool, true, false, not, List, [], ◌∷◌, refl, sym, ap, subst, ◌∙◌, arith, length, length-append, nat_le, if◌then◌else◌, true≢false}
use Rattle.std.proofs.lemmas.Bool.{and_parts, and_from, leb-true, le-leb, eqb-true, lt-ltb, ltb-true}
use Rattle.std.proofs.Common.{ltb}
use Rattle.std.proofs.lemmas.List.Folds.{list_all-append}
use Rattle.std.specs.List.{list_all, list_any}
use Rattle.ig_space.specs.Path.{is_path, is_segment, is_segment_byte, segments, with_first, joined}
use Rattle.ig_defs.specs.Names.{IsNameIn}

abbrev pub has_slash : List ℕ → Bool
has_slash xs = list_any (λ c. c == 47) xs

part_at : (slash : Bool) (c : ℕ) (cs : List ℕ) → (slash || has_slash cs) ≡ false → (has_slash cs ≡ false → segments cs ≡ cs ∷ [])
    → (if slash then [] ∷ segments cs else with_first c (segments cs)) ≡ (c ∷ cs) ∷ []
part_at true c cs none rest = absurd (true≢false none)
part_at false c cs none rest = rw (rest none) refl

-- no `/`, one part
one_part : (xs : List ℕ) → has_slash xs ≡ false → segments xs ≡ xs ∷ []
one_part [] none = refl
one_part (c ∷ cs) none = part_at (c == 47) c cs none (one_part cs)

byte_at : (c : ℕ) (slash : Bool) → (c == 47) ≡ slash → is_segment_byte c ≡ true → slash ≡ false
byte_at c false e byte = refl
byte_at c true e byte =
    let P : ℕ → Type 0 = λ x. is_segment_byte x ≡ true in absurd (true≢false (sym (subst P (eqb-true c 47 e) byte)))

or_false : (x y : Bool) → x ≡ false → y ≡ false → (x || y) ≡ false
or_false x y p q = rw (p, q) refl

no_slash : (xs : List ℕ) → list_all is_segment_byte xs ≡ true → has_slash xs ≡ false
no_slash [] all = refl
no_slash (c ∷ cs) all =
    let parts = and_parts (is_segment_byte c) (list_all is_segment_byte cs) all in
    or_false (c == 47) (has_slash cs) (byte_at c (c == 47) refl parts.0) (no_slash cs parts.1)

bytes_of : (xs : List ℕ) → is_segment xs ≡ true → list_all is_segment_byte xs ≡ true
bytes_of [] segment = refl
bytes_of (c ∷ cs) segment = (and_parts (not (c == 46 || c == 45)) (list_all is_segment_byte (c ∷ cs)) segment).1

and_true : (x : Bool) → x ≡ true → (x && true) ≡ true
and_true x e = rw e refl

pub is_path-from_segment : (xs : List ℕ) → is_segment xs ≡ true → length xs ≤ 400 → is_path xs ≡ true
unfolding is_path
is_path-from_segment xs segment short =
    and_from (nat_le (length xs) 400) _ (le-leb (length xs) 400 short)
    (rw (one_part xs (no_slash xs (bytes_of xs segment))) (and_true (is_segment xs) segment))

pub is_path-short : (xs : List ℕ) → is_path xs ≡ true → length xs ≤ 400
unfolding is_path
is_path-short xs path = leb-true (length xs) 400 (and_parts (nat_le (length xs) 400) _ path).0

all_of : (xs : List ℕ) → is_path xs ≡ true → list_all is_segment (segments xs) ≡ true
unfolding is_path
all_of xs path = (and_parts (nat_le (length xs) 400) _ path).1

-- the parts of a path in a directory
begins : (cs : List ℕ) → (s : List ℕ) × (ss : List (List ℕ)) × (segments cs ≡ s ∷ ss)
begins [] = ([], [], refl)
begins (c ∷ cs) =
    let rest = begins cs in
    elim (c == 47) as (λ b. (s : List ℕ) × (ss : List (List ℕ)) × ((if b then [] ∷ segments cs else with_first c (segments cs)) ≡ s ∷ ss)) [
      | true ↦ ([], segments cs, refl)
      | false ↦ (c ∷ rest.0, rest.1, rw rest.2 refl)
    ]

first_of_all : (c : ℕ) (s : List ℕ) (us ss ts : List (List ℕ)) → us ≡ s ∷ ss → with_first c (us ++ ts) ≡ with_first c us ++ ts
first_of_all c s us ss ts e = rw e refl

joined_at : (slash : Bool) (c : ℕ) (cs name : List ℕ) → segments (joined cs name) ≡ segments cs ++ segments name
    → (if slash then [] ∷ segments (joined cs name) else with_first c (segments (joined cs name)))
    ≡ (if slash then [] ∷ segments cs else with_first c (segments cs)) ++ segments name
joined_at true c cs name rest = ap (λ ss. [] ∷ ss) rest
joined_at false c cs name rest =
    let b = begins cs in
    ap (with_first c) rest ∙ first_of_all c b.0 (segments cs) b.1 (segments name) b.2

segments-joined : (dir name : List ℕ) → segments (joined dir name) ≡ segments dir ++ segments name
segments-joined [] name = refl
segments-joined (c ∷ cs) name = joined_at (c == 47) c cs name (segments-joined cs name)

pub is_path-joined : (dir name : List ℕ) → is_path dir ≡ true → is_path name ≡ true → length dir + length name < 400 → is_path (joined dir name) ≡ true
unfolding is_path
is_path-joined dir name d n short =
    and_from (nat_le (length (joined dir name)) 400) _ (le-leb (length (joined dir name)) 400 (omega (arith, length-append dir (47 ∷ name))))
    (rw (segments-joined dir name, list_all-append is_segment (segments dir) (segments name)) (and_from _ _ (all_of dir d) (all_of name n)))

-- the name in the directory, by its length
pub IsNameIn-from : (dir name : List ℕ) → is_path dir ≡ true → is_segment name ≡ true → length dir + length name < 400 → IsNameIn dir name
IsNameIn-from dir name d segment short =
    record { segment = segment; path = is_path-joined dir name d (is_path-from_segment name segment (omega (arith, short))) short }

pub IsNameIn-short : (dir name : List ℕ) → IsNameIn dir name → length dir + length name < 400
IsNameIn-short dir name is = omega (arith, length-append dir (47 ∷ name), is_path-short (joined dir name) is.path)

-- of a segment
pub tells_name : (dir name : List ℕ) → is_path dir ≡ true → is_segment name ≡ true → (ltb (length dir + length name) 400 ≡ true) ↔ IsNameIn dir name
tells_name dir name d segment = (
  λ short. IsNameIn-from dir name d segment (ltb-true (length dir + length name) 400 short),
  λ named. lt-ltb (length dir + length name) 400 (IsNameIn-short dir name named),
)

-- of what isn't a segment
pub tells_no_name : (dir name : List ℕ) (told : Bool) → told ≡ is_segment name → told ≡ false → (told ≡ true) ↔ IsNameIn dir name
tells_no_name dir name told is refused = (
  λ yes. absurd (true≢false (sym yes ∙ refused)),
  λ named. is ∙ named.segment,
)
