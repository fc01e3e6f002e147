-- A label that is looked up in a table.
use Rattle.std.proofs.Common.{arith, ◌≡◌, ◌≤◌, ◌<◌, ℕ, List, Err, length, get_or, slice_index, slice_index_or, sym, ◌∙◌, inl, inr, ◌⊎◌}
use Rattle.std.specs.Ordering.{nat_cmp}
use Rattle.std.specs.declared.cmp.Ordering.TheVariants.{Equal}
use Rattle.std.specs.List.{Contains}
use Rattle.std.specs.List.Sorted.{IsBinarySearchResult, IsStrictlyIncreasing}
use Rattle.std.proofs.lemmas.Bool.{cases_lt}
use Rattle.std.proofs.lemmas.List.{get_or_default}
use Rattle.std.proofs.lemmas.List.Sorted.{searched}
use Rattle.std.proofs.lemmas.Map.Keys.{non_decreasing_from_sorted, sorted_from_strictly_increasing}
use Rattle.std.proofs.lemmas.Map.Lookups.{exact_unsigned}
use Rattle.ig_cseg.specs.CsegText.{index_in}
use Rattle.ig_cseg.proofs.Rising.{index-at, rises-from_increasing}

pub found : (xs : List ℕ) (label i : ℕ) → IsStrictlyIncreasing xs → i < length xs → ((d : ℕ) → nat_cmp (slice_index_or xs i d) label ≡ Equal) → i ≡ index_in xs label
found xs label i h below same = sym (index-at xs label i (rises-from_increasing xs h) below (exact_unsigned (slice_index_or xs i 0) label (same 0)))

nowhere : (xs : List ℕ) (label i k : ℕ) → ((k : ℕ) → k < i → get_or xs k 0 < label) → ((k : ℕ) → i ≤ k → k < length xs → label < get_or xs k 0)
    → k < length xs → slice_index xs k ≡ label → (k < i) ⊎ (i ≤ k) → ⊥
nowhere xs label i k before after l e (inl m) = absurd (omega (arith, before k m, e))
nowhere xs label i k before after l e (inr m) = absurd (omega (arith, after k m l, e))

pub not_missing : (xs : List ℕ) (label i : ℕ) → IsStrictlyIncreasing xs → Contains xs label → IsBinarySearchResult (λ y. nat_cmp y label) xs (Err i) → ⊥
not_missing xs label i h c r =
    let order = non_decreasing_from_sorted xs (sorted_from_strictly_increasing xs h) in
    let parts = searched xs label (Err i) r (λ i j l m. order i j 0 l m) in
    nowhere xs label i c.0 parts.1 parts.2 c.1 (get_or_default xs c.0 0 label c.1 ∙ c.2) (cases_lt c.0 i)
