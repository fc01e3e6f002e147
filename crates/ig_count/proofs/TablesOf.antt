-- The table that is made voxel by voxel is the table of the labels.
use Rattle.std.proofs.Common.{arith, ◌≡◌, ◌≢◌, ◌+◌, ◌≤◌, ◌==◌, ◌^◌, ℕ, zero, suc, Bool, true, false, nat_lt, List, [], ◌∷◌, length, if◌then◌else◌, IfOk, Result, Ok, Err, refl, ap, sym, ◌∙◌}
use Rattle.std.proofs.lemmas.Bool.{eqb-false, eqb-true, ltb-false, ltb-true}
use Rattle.std.proofs.lemmas.List.Sums.{count_by-le-length, sum_by-cons}
use Rattle.std.specs.List.{All}
use Rattle.ig_count.specs.declared.counts.LabelCount.{LabelCount}
use Rattle.ig_count.specs.CountsFile.{AreFew}
use Rattle.ig_count.specs.Tables.{AreCounts, IsFrom, counts_of, one_voxel, tally, times, voxels_at, where_same, with_one, with_voxel}
use Rattle.ig_count.proofs.TableLaws.{first, one-table, own}

-- what a table with a voxel more is, by two tests
abbrev tested : ℕ → LabelCount → List LabelCount → Bool → Bool → List LabelCount
tested label c cs below same = if below then one_voxel label ∷ c ∷ cs else (if same then with_one c ∷ cs else c ∷ with_voxel label cs)

-- ---- it has a voxel more of the label
one_more : (b : Bool) (voxels : ℕ) → (if b then suc voxels else 0) ≡ (if b then 1 else 0) + (if b then voxels else 0)
one_more true voxels = omega arith
one_more false voxels = refl

tally_tested : (label l : ℕ) (c : LabelCount) (cs : List LabelCount) (below same : Bool) → (same ≡ true → c.label ≡ label) → tally (with_voxel label cs) l ≡ where_same label l 1 + tally cs l
    → tally (tested label c cs below same) l ≡ where_same label l 1 + tally (c ∷ cs) l
tally_tested label l c cs true same is rest = first (one_voxel label) (c ∷ cs) l
tally_tested label l c cs false true is rest =
    let more : voxels_at l (with_one c) ≡ where_same c.label l 1 + voxels_at l c = one_more (c.label == l) c.voxels in
    let here : where_same c.label l 1 ≡ where_same label l 1 = ap (λ own. where_same own l 1) (is refl) in
    omega (arith, first (with_one c) cs l, first c cs l, more, here)
tally_tested label l c cs false false is rest = omega (arith, first c (with_voxel label cs) l, first c cs l, rest)

tally-with : (label l : ℕ) (cs : List LabelCount) → tally (with_voxel label cs) l ≡ where_same label l 1 + tally cs l
tally-with label l [] = first (one_voxel label) [] l
tally-with label l (c ∷ cs) = tally_tested label l c cs (nat_lt label c.label) (c.label == label) (eqb-true c.label label) (tally-with label l cs)

each : (labels : List ℕ) (l : ℕ) → tally (counts_of labels) l ≡ times labels l
each [] l = refl
each (label ∷ labels) l = tally-with label l (counts_of labels) ∙ ap (λ n. where_same label l 1 + n) (each labels l) ∙ sym (sum_by-cons (λ x. if x == l then 1 else 0) label labels)

-- ---- its labels ascend
from_tested : (low label : ℕ) (c : LabelCount) (cs : List LabelCount) → low ≤ label → IsFrom low (c ∷ cs) → (suc c.label ≤ label → IsFrom (suc c.label) (with_voxel label cs))
    → (below same : Bool) → nat_lt label c.label ≡ below → (c.label == label) ≡ same → IsFrom low (tested label c cs below same)
from_tested low label c cs above from rest true same less is = (above, omega arith, (ltb-true label c.label less, from.1, from.2))
from_tested low label c cs above from rest false true less is = (from.0, omega arith, from.2)
from_tested low label c cs above from rest false false less is =
    let other : c.label ≢ label = eqb-false c.label label is in
    let no_less : c.label ≤ label = ltb-false label c.label less in
    (from.0, from.1, rest (omega arith))

from-with : (low label : ℕ) (cs : List LabelCount) → low ≤ label → IsFrom low cs → IsFrom low (with_voxel label cs)
from-with low label [] above from = (above, omega arith, tt)
from-with low label (c ∷ cs) above from =
    from_tested low label c cs above from (λ later. from-with (suc c.label) label cs later from.2) (nat_lt label c.label) (c.label == label) refl refl

ascends : (labels : List ℕ) → IsFrom 0 (counts_of labels)
ascends [] = tt
ascends (label ∷ labels) = from-with 0 label (counts_of labels) (omega arith) (ascends labels)

-- ---- so it is their table
pub counts-of : (labels : List ℕ) → AreCounts labels (counts_of labels)
counts-of labels = record { is_table = ascends labels; each = each labels }

pub is-counts_of : {E : Type 0} (labels : List ℕ) (r : Result (List LabelCount) E) → IfOk r (AreCounts labels) → IfOk r (λ counts. counts ≡ counts_of labels)
is-counts_of labels (Ok counts) are = one-table labels counts (counts_of labels) are (counts-of labels)
is-counts_of labels (Err e) are = tt

-- ---- few voxels
few-from : (most : ℕ) (cs : List LabelCount) → ((label : ℕ) → tally cs label ≤ most) → All (λ c. c.voxels ≤ most) cs
few-from most [] few k d l = absurd (omega (arith, l))
few-from most (c ∷ cs) few zero d l = omega (arith, few c.label, first c cs c.label, own c c.label refl)
few-from most (c ∷ cs) few (suc k) d l = few-from most cs (λ label. omega (arith, few label, first c cs label)) k d (omega (arith, l))

pub few-counted : (labels : List ℕ) → length labels ≤ 2 ^ 44 → AreFew (counts_of labels)
few-counted labels few = few-from (2 ^ 44) (counts_of labels) (λ label. omega (arith, each labels label, count_by-le-length (λ x. x == label) labels, few))
