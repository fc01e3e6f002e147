-- The sum of two items of one label.
use Rattle.std.proofs.Common.{arith, ◌≡◌, ◌+◌, ◌<◌, ℕ, List, if◌then◌else◌, length, get_or, ◌^◌, refl, ap}
use Rattle.std.proofs.lemmas.Bool.{eq-eqb}
use Rattle.std.proofs.lemmas.List.Sums.{get_or-le-sum_by}
use Rattle.ig_count.specs.declared.counts.LabelCount.{LabelCount}
use Rattle.ig_count.specs.Tables.{tally, voxels_at}

own_voxels : (c : LabelCount) (label : ℕ) → c.label ≡ label → voxels_at label c ≡ c.voxels
own_voxels c label same = ap (λ b. if b then c.voxels else 0) (eq-eqb c.label label same)

-- two items of one label: their sum is bounded as the tables' sum is
pub both-fit : (old more : List LabelCount) (i j : ℕ) (d : LabelCount) → ((label : ℕ) → tally old label + tally more label < 2 ^ 64) → i < length old → j < length more
    → (get_or old i d).label ≡ (get_or more j d).label → (get_or old i d).voxels + (get_or more j d).voxels < 2 ^ 64
both-fit old more i j d fits below within same =
    let label = (get_or more j d).label in
    let one = get_or-le-sum_by (voxels_at label) old i d below in
    let other = get_or-le-sum_by (voxels_at label) more j d within in
    omega (arith, fits label, one, other, own_voxels (get_or old i d) label same, own_voxels (get_or more j d) label refl)
