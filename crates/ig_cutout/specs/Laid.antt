-- Labels of a part that were written into a list of labels.
use Rattle.std.specs.Prelude.{◌≡◌, ℕ, ◌*◌, List, length, drop, slice_index}
use Rattle.byteorder.specs.Endian.{little_number}
use Rattle.ig_space.specs.declared.point.Point.{Point}
use Rattle.ig_space.specs.declared.geometry.Width.{Width}
use Rattle.ig_space.specs.Geometry.{label_len}
use Rattle.ig_space.specs.Volume.{IsInside}
use Rattle.ig_cutout.specs.declared.layout.Layout.{Layout}
use Rattle.ig_cutout.specs.Area.{place_in}

-- the label at this place of a raw text
abbrev pub number_in : Width → List ℕ → ℕ → ℕ
number_in width text place = little_number (label_len width) (drop (label_len width * place) text)

-- new has the source's labels of a part of this size, and is else as old
pub record IsLaid (number : ℕ → ℕ) (source target : Layout) (size : Point) (old new : List ℕ) : Type 0 where
  pub long : length new ≡ length old
  pub done : (x y z : ℕ) → IsInside size x y z → slice_index new (place_in target x y z) ≡ number (place_in source x y z)
  pub kept : (place : ℕ) → ((x y z : ℕ) → IsInside size x y z → place ≡ place_in target x y z → ⊥) → slice_index new place ≡ slice_index old place
