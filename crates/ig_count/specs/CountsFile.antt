-- The file of a table of counts: the number of its items, then each label and its voxels, in 8 bytes each with the lowest
-- first. This project's own.
use Rattle.std.specs.Prelude.{ℕ, ◌≤◌, ◌^◌, ◌&&◌, Bool, true, nat_lt, nat_le, if◌then◌else◌, List, ◌++◌, length, drop, flat_map, Option, Some, None, All}
use Rattle.byteorder.specs.Endian.{little_bytes}
use Rattle.ig_count.specs.declared.counts.LabelCount.{LabelCount}
use Rattle.ig_faces.specs.Records.{file_wrong, number_in, records_in}

-- ---- the text
abbrev pub count_text : LabelCount → List ℕ
count_text c = little_bytes 8 c.label ++ little_bytes 8 c.voxels

abbrev pub counts_text : List LabelCount → List ℕ
counts_text counts = little_bytes 8 (length counts) ++ flat_map count_text counts

-- ---- what stands in a text
abbrev pub count_in : List ℕ → LabelCount
count_in bytes = record { label = number_in 8 bytes; voxels = number_in 8 (drop 8 bytes) }

abbrev pub counts_in : List ℕ → List LabelCount
counts_in bytes = records_in count_in 16 (number_in 8 bytes) (drop 8 bytes)

-- ---- where a text is wrong
-- a label has so many voxels at most
abbrev pub most_voxels : ℕ
most_voxels = 2 ^ 44

abbrev pub is_above : Option LabelCount → ℕ → Bool
is_above None label = true
is_above (Some c) label = nat_lt c.label label

-- the label isn't above the one before, or it has no voxels or too many
abbrev pub count_wrong : Option LabelCount → LabelCount → Option ℕ
count_wrong before c = if is_above before c.label then (if nat_le 1 c.voxels && nat_le c.voxels most_voxels then None else Some 8) else Some 0

abbrev pub counts_wrong : List ℕ → Option ℕ
counts_wrong bytes = file_wrong count_wrong count_in 8 16 (number_in 8 bytes) bytes

-- no label has too many voxels
abbrev pub AreFew : List LabelCount → Type 0
AreFew counts = All (λ c. c.voxels ≤ most_voxels) counts
