-- What is known of scales that were added to an info.
use Rattle.std.proofs.Common.{◌≡◌, ◌<◌, ℕ, zero, suc, Bool, true, false, not, List, [], ◌∷◌, ◌++◌, length, nat_lt, Some, slice_get, get_or, Result, Ok, Err, All, codes, refl, ap, sym, subst, arith}
use Rattle.ig_info.specs.declared.error.InfoError.{InfoError}
use Rattle.ig_info.specs.declared.error.InfoError.TheVariants.{Unsupported}
use Rattle.ig_space.specs.declared.geometry.Width.{Width}
use Rattle.ig_info.specs.declared.scale.Scale.{Scale}
use Rattle.ig_info.specs.Added.{HasWidth, added, members_with}
use Rattle.ig_info.specs.Answer.{◌>>=◌, only_if}
use Rattle.ig_info.specs.Info.{InfoData}
use Rattle.ig_info.specs.Scale.{scale_fits}
use Rattle.ig_info.specs.Scales.{has_key}
use Rattle.ig_meaning.specs.Plan.{all_added}
use Rattle.ig_stage.specs.Mips.{AreAsWide}

-- ---- one scale
record IsAdded (i : InfoData) (s : Scale) (more : InfoData) : Type 0 where
  new : has_key i.scales s.key ≡ false
  fits : scale_fits s ≡ true
  scales : more.scales ≡ i.scales ++ s ∷ []

passed : (key few fits : Bool) (i more : InfoData) (a b c : InfoError)
    → (only_if (not key) a >>= λ _. (only_if few b >>= λ _. (only_if fits c >>= λ _. Ok i))) ≡ Ok more → (key ≡ false) × (fits ≡ true) × (i ≡ more)
passed false true true i more a b c e = let same : i ≡ more = cc in (refl, refl, same)
passed true few fits i more a b c e = absurd cc
passed false false fits i more a b c e = absurd cc
passed false true false i more a b c e = absurd cc

is-added : (i : InfoData) (s : Scale) (more : InfoData) → added i s ≡ Ok more → IsAdded i s more
unfolding added
is-added i s more e =
    let longer : InfoData = record { members = members_with s i.members; scales = i.scales ++ s ∷ [] } in
    let p = passed (has_key i.scales s.key) (nat_lt (length i.scales) 100) (scale_fits s) longer more (Unsupported (codes "key")) (Unsupported (codes "scales")) (Unsupported (codes "chunk_sizes")) e in
    record { new = p.0; fits = p.1; scales = ap (λ (j : InfoData). j.scales) (sym p.2) }

-- ---- all of them
-- each scale fits, and has a key that none before it has
abbrev pub AreNew : List Scale → List Scale → Type 0
AreNew old [] = Unit {0}
AreNew old (s ∷ scales) = (has_key old s.key ≡ false) × (scale_fits s ≡ true) × AreNew (old ++ s ∷ []) scales

first-added : (first : Result InfoData InfoError) (scales : List Scale) (last : InfoData) → (first >>= λ more. all_added more scales) ≡ Ok last
    → (more : InfoData) × (first ≡ Ok more) × (all_added more scales ≡ Ok last)
first-added (Ok more) scales last e = (more, refl, e)
first-added (Err x) scales last e = absurd cc

pub are-new : (info last : InfoData) (scales : List Scale) → all_added info scales ≡ Ok last → AreNew info.scales scales
are-new info last [] e = tt
are-new info last (s ∷ scales) e =
    let p = first-added (added info s) scales last e in
    let a = is-added info s p.0 p.1 in
    (a.new, a.fits, subst (λ old. AreNew old scales) a.scales (are-new p.0 last scales p.2))

fit-at : (old scales : List Scale) → AreNew old scales → (k : ℕ) (d : Scale) → k < length scales → scale_fits (get_or scales k d) ≡ true
fit-at old [] h k d few = absurd (omega (arith, few))
fit-at old (s ∷ scales) h zero d few = h.1
fit-at old (s ∷ scales) h (suc k) d few = fit-at (old ++ s ∷ []) scales h.2 k d (omega (arith, few))

pub new-fit : (old scales : List Scale) → AreNew old scales → All (λ (s : Scale). scale_fits s ≡ true) scales
new-fit old scales h = λ k d few. fit-at old scales h k d few

-- ---- widths
found-first : (xs ys : List Scale) (n : ℕ) (s : Scale) → slice_get xs n ≡ Some s → slice_get (xs ++ ys) n ≡ Some s
found-first [] ys n s e = absurd cc
found-first (x ∷ xs) ys zero s e = e
found-first (x ∷ xs) ys (suc n) s e = found-first xs ys n s e

wide-more : (old more : List Scale) (width : Width) → HasWidth old width → HasWidth (old ++ more) width
wide-more old more width h = record { place = h.place; scale = h.scale; found = found-first old more h.place h.scale h.found; same = h.same }

-- an info with a scale added has the scales that it had
pub wide-added : (i more : InfoData) (s : Scale) (new : List Scale) → added i s ≡ Ok more → AreAsWide i.scales new → AreAsWide more.scales new
wide-added i more s new e h = subst (λ scales. AreAsWide scales new) (sym (is-added i s more e).scales) (λ k d few. wide-more i.scales (s ∷ []) (get_or new k d).geometry.width (h k d few))
