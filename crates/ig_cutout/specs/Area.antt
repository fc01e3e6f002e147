-- Two boxes, and where a part of a box stands in the list of its labels.
use Rattle.std.specs.Prelude.{ℕ, ◌+◌, ◌-◌, ◌*◌, ◌≤◌, ◌<◌, min, max}
use Rattle.ig_space.specs.declared.point.Point.{Point}
use Rattle.ig_space.specs.declared.point.Box3.{Box3}
use Rattle.ig_space.specs.Grid.{size_of}
use Rattle.ig_space.specs.Volume.{place_of}
use Rattle.ig_cutout.specs.declared.layout.Layout.{Layout}

-- the box of the voxels that lie in both
abbrev pub common : Box3 → Box3 → Box3
common a b = record {
  lo = record { x = max a.lo.x b.lo.x; y = max a.lo.y b.lo.y; z = max a.lo.z b.lo.z };
  hi = record { x = min a.hi.x b.hi.x; y = min a.hi.y b.hi.y; z = min a.hi.z b.hi.z };
}

-- where the voxels of the part stand in the list of the whole
abbrev pub layout_of : Box3 → Box3 → Layout
layout_of whole part = record {
  start = place_of (size_of whole) (part.lo.x - whole.lo.x) (part.lo.y - whole.lo.y) (part.lo.z - whole.lo.z);
  row = (size_of whole).x;
  plane = (size_of whole).x * (size_of whole).y;
}

-- the place of a voxel of the part, counted from its first
abbrev pub place_in : Layout → ℕ → ℕ → ℕ → ℕ
place_in layout x y z = layout.start + x + layout.row * y + layout.plane * z

-- the same from a later plane on
abbrev pub at_plane : Layout → ℕ → Layout
at_plane layout z = record { start = layout.start + layout.plane * z; row = layout.row; plane = layout.plane }

-- the size of a plane of a part
abbrev pub one_plane : Point → Point
one_plane size = record { x = size.x; y = size.y; z = 1 }

-- each row of a part of this size lies in the list, of which each item takes so many
pub record HasRoom (each : ℕ) (layout : Layout) (size : Point) (length : ℕ) : Type 0 where
  pub rows : (y z : ℕ) → y < size.y → z < size.z → each * (layout.start + layout.row * y + layout.plane * z + size.x) ≤ length

-- rows and planes of a part of this size come one after the other
pub record IsInOrder (layout : Layout) (size : Point) : Type 0 where
  pub rows : size.x ≤ layout.row
  pub planes : layout.row * size.y ≤ layout.plane
