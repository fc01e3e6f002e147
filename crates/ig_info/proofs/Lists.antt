-- Lists of values and of scales.
use Rattle.std.proofs.Common.{◌≡◌, ℕ, zero, suc, List, [], ◌∷◌, Bool, true, Option, Some, None, Bor, slice_get, IfSome}
use Rattle.std.proofs.lemmas.Bool.{and_parts}
use Rattle.std.specs.List.{list_all}
use Rattle.std.specs.Option.{option_copied}
use Rattle.serde_json.proofs.Views.{items_len-items_view}

pub ruleset lengths = (items_len-items_view)

-- what all items pass, the one at a place does
pub passes_at : {X : Type 0} (p : X → Bool) (xs : List X) (k : ℕ) → list_all p xs ≡ true → IfSome (slice_get xs k) (λ x. p x ≡ true)
passes_at p [] k all = tt
passes_at p (x ∷ xs) zero all = (and_parts (p x) _ all).0
passes_at p (x ∷ xs) (suc k) all = passes_at p xs k (and_parts (p x) _ all).1

if_copied : {X : Type 0} (P : X → Type 0) (r : Option (Bor X)) → IfSome (option_copied r) P → IfSome r (λ x. P x.now)
if_copied P None h = tt
if_copied P (Some x) h = h

-- the same, of a reference to it
pub copied_passes : {X : Type 0} (p : X → Bool) (xs : List X) (k : ℕ) (r : Option (Bor X)) → option_copied r ≡ slice_get xs k → list_all p xs ≡ true
    → IfSome r (λ x. p x.now ≡ true)
copied_passes p xs k r e all = if_copied (λ x. p x ≡ true) r (rw e (passes_at p xs k all))
