-- The raw text of labels (Neuroglancer precomputed volume format, "raw" encoding).
use Rattle.std.specs.Prelude.{ℕ, ◌^◌, ◌<◌, ◌≤◌, List, length, flat_map, slice_index}
use Rattle.std.specs.Int.{bytes_low_first}
use Rattle.ig_space.specs.declared.geometry.Width.{Width}
use Rattle.ig_space.specs.Geometry.{label_len}

-- each label in its bytes, the lowest first
abbrev pub raw_text : Width → List ℕ → List ℕ
raw_text width labels = flat_map (bytes_low_first 0 (label_len width)) labels

-- the label has as many bytes as the width gives it, at most
abbrev pub FitsWidth : Width → ℕ → Type 0
FitsWidth width label = label < 256 ^ label_len width

-- each label fits the width
abbrev pub AllFit : Width → List ℕ → Type 0
AllFit width labels = (k : ℕ) → k < length labels → FitsWidth width (slice_index labels k)

-- the label at this place is the first that does not fit
pub record IsFirstTooWide (width : Width) (labels : List ℕ) (index : ℕ) : Type 0 where
  pub within : index < length labels
  pub wide : 256 ^ label_len width ≤ slice_index labels index
  pub before : (k : ℕ) → k < index → FitsWidth width (slice_index labels k)
