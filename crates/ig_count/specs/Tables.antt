-- Tables of counts: each label that occurs with its number of voxels, ascending by label.
use Rattle.std.specs.Prelude.{ℕ, suc, ◌+◌, ◌≤◌, ◌≡◌, ◌==◌, nat_lt, if◌then◌else◌, List, [], ◌∷◌, sum_by, count_by, ◌⊎◌}
use Rattle.ig_count.specs.declared.counts.LabelCount.{LabelCount}

-- the labels ascend, from `low` on, and each has a voxel
abbrev pub IsFrom : ℕ → List LabelCount → Type 0
IsFrom low [] = Unit {0}
IsFrom low (c ∷ cs) = (low ≤ c.label) × (1 ≤ c.voxels) × IsFrom (suc c.label) cs

abbrev pub IsTable : List LabelCount → Type 0
IsTable counts = IsFrom 0 counts

-- so many where a voxel's label is this one, else none
abbrev pub where_same : ℕ → ℕ → ℕ → ℕ
where_same own label many = if own == label then many else 0

abbrev pub voxels_at : ℕ → LabelCount → ℕ
voxels_at label c = where_same c.label label c.voxels

-- the voxels that a table has for a label
abbrev pub tally : List LabelCount → ℕ → ℕ
tally counts label = sum_by (voxels_at label) counts

-- the table has an item of the label
abbrev pub IsListed : ℕ → List LabelCount → Type 0
IsListed label [] = ⊥
IsListed label (c ∷ cs) = (c.label ≡ label) ⊎ IsListed label cs

abbrev pub label_of : LabelCount → ℕ
label_of c = c.label

abbrev pub as_count : ℕ × ℕ → LabelCount
as_count e = record { label = e.0; voxels = e.1 }

-- how many of the labels are this one
abbrev pub times : List ℕ → ℕ → ℕ
times labels label = count_by (λ l. l == label) labels

-- the table of the labels of some voxels
pub record AreCounts (labels : List ℕ) (counts : List LabelCount) : Type 0 where
  pub is_table : IsTable counts
  pub each : (label : ℕ) → tally counts label ≡ times labels label

-- a voxel more of a label: in the label's item, or in a new one at its place
abbrev pub one_voxel : ℕ → LabelCount
one_voxel label = record { label = label; voxels = 1 }

abbrev pub with_one : LabelCount → LabelCount
with_one c = record { label = c.label; voxels = suc c.voxels }

abbrev pub with_voxel : ℕ → List LabelCount → List LabelCount
with_voxel label [] = one_voxel label ∷ []
with_voxel label (c ∷ cs) = if nat_lt label c.label then one_voxel label ∷ c ∷ cs else (if c.label == label then with_one c ∷ cs else c ∷ with_voxel label cs)

-- that table, made voxel by voxel
abbrev pub counts_of : List ℕ → List LabelCount
counts_of [] = []
counts_of (label ∷ labels) = with_voxel label (counts_of labels)

-- the table that adds the one to the other, label by label
pub record IsMerged (old more new : List LabelCount) : Type 0 where
  pub is_table : IsTable new
  pub each : (label : ℕ) → tally new label ≡ tally old label + tally more label
