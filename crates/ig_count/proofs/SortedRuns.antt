-- Runs of ascending labels, listed.
use Rattle.std.proofs.Common.{arith, ◌≡◌, ◌≢◌, ◌==◌, if◌then◌else◌, ◌+◌, ◌-◌, ◌<◌, ◌≤◌, ℕ, suc, List, [], ◌∷◌, ◌++◌, length, take, slice_index, refl, ap, sym, ◌∙◌, subst, append_assoc}
use Rattle.std.proofs.lemmas.List.{append-nil, take_all}
use Rattle.std.proofs.lemmas.List.Sums.{sum_by_push}
use Rattle.std.proofs.lemmas.List.Sorted.{sum_by-IsPermutation}
use Rattle.std.specs.List.Sorted.{IsNonDecreasing, IsPermutation}
use Rattle.ig_count.specs.declared.counts.LabelCount.{LabelCount}
use Rattle.ig_count.specs.Tables.{AreCounts, IsFrom, tally, times, voxels_at, where_same}

-- the runs before a place are listed, and any table from `low` on may follow
pub record AreListed (sorted : List ℕ) (from : ℕ) (items : List LabelCount) : Type 0 where
  pub each : (label : ℕ) → tally items label ≡ times (take from sorted) label
  pub low : ℕ
  pub above : from < length sorted → low ≤ slice_index sorted from
  pub follows : (rest : List LabelCount) → IsFrom low rest → IsFrom 0 (items ++ rest)

pub none-listed : (sorted : List ℕ) → AreListed sorted 0 []
none-listed sorted = record { each = λ label. refl; low = 0; above = λ h. omega arith; follows = λ rest from. from }

pub more-listed : (sorted : List ℕ) (from to : ℕ) (items next : List LabelCount) (item : LabelCount) → AreListed sorted from items → IsNonDecreasing sorted
    → from < to → to ≤ length sorted → (to < length sorted → slice_index sorted to ≢ slice_index sorted from)
    → ((label : ℕ) → times (take to sorted) label ≡ times (take from sorted) label + where_same (slice_index sorted from) label (to - from))
    → item ≡ record { label = slice_index sorted from; voxels = to - from } → next ≡ items ++ item ∷ [] → AreListed sorted to next
more-listed sorted from to items next item so_far order less within apart sums is pushed =
    let above : so_far.low ≤ slice_index sorted from = so_far.above (omega arith) in
    let label_is : item.label ≡ slice_index sorted from = ap (λ c. c.label) is in
    let voxels_is : item.voxels ≡ to - from = ap (λ c. c.voxels) is in record {
      each = λ label.
          let own : voxels_at label item ≡ where_same (slice_index sorted from) label (to - from) = ap (voxels_at label) is in
          ap (λ l. tally l label) pushed ∙ sum_by_push (voxels_at label) items item ∙ omega (arith, so_far.each label, own, sums label);
      low = suc (slice_index sorted from);
      above = λ h.
          let far : slice_index sorted from ≤ slice_index sorted to = order from to 0 (omega arith) h in
          let other : slice_index sorted to ≢ slice_index sorted from = apart h in
          omega arith;
      follows = λ rest h.
          subst (λ l. IsFrom 0 (l ++ rest)) (sym pushed) (subst (IsFrom 0) (sym (append_assoc items (item ∷ []) rest))
          (so_far.follows (item ∷ rest) (omega arith, omega arith, subst (λ l. IsFrom (suc l) rest) (sym label_is) h)));
    }

pub all-listed : (sorted : List ℕ) (from : ℕ) (items : List LabelCount) → AreListed sorted from items → length sorted ≤ from → AreCounts sorted items
all-listed sorted from items so_far end = record {
  is_table = subst (IsFrom 0) (append-nil items) (so_far.follows [] tt);
  each = λ label. so_far.each label ∙ ap (λ l. times l label) (take_all from sorted end);
}

-- labels in another order have the same table
pub counts-permuted : (labels old sorted view : List ℕ) (counts : List LabelCount) → old ≡ labels → IsPermutation old sorted → view ≡ sorted → AreCounts view counts → AreCounts labels counts
counts-permuted labels old sorted view counts from moved seen are = record {
  is_table = are.is_table;
  each = λ label.
      are.each label ∙ ap (λ l. times l label) seen ∙ sum_by-IsPermutation (λ l. if l == label then 1 else 0) old sorted moved ∙ ap (λ l. times l label) from;
}
