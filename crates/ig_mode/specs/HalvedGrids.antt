-- What becomes of a space, of a box in it, of a grid and of a geometry where the scale is halved so often.
use Rattle.std.specs.Prelude.{ℕ, ◌+◌, ◌-◌, ◌*◌, ◌^◌}
use Rattle.ig_space.specs.declared.point.Point.{Point}
use Rattle.ig_space.specs.declared.point.Box3.{Box3}
use Rattle.ig_space.specs.declared.geometry.Grid.{Grid}
use Rattle.ig_space.specs.declared.geometry.Geometry.{Geometry}
use Rattle.ig_space.specs.Grid.{size_of}
use Rattle.ig_mode.specs.Mips.{down_times, offset_times, size_times, up_times}

-- a box of this size that begins there
abbrev pub box_at : Point → Point → Box3
box_at lo size = record { lo = lo; hi = record { x = lo.x + size.x; y = lo.y + size.y; z = lo.z + size.z } }

-- the whole box of the halved scale
abbrev pub halved_space : ℕ → Box3 → Box3
halved_space m space = box_at (offset_times m space.lo) (size_times m (size_of space))

-- one axis of a box in a scale with this offset: blocks count from the offset
abbrev pub halved_low : ℕ → ℕ → ℕ → ℕ
halved_low m offset lo = down_times m offset + down_times m (lo - offset)

abbrev pub halved_high : ℕ → ℕ → ℕ → ℕ
halved_high m offset hi = down_times m offset + up_times m (hi - offset)

-- the voxels of the halved scale that are made of those of the box
abbrev pub halved_box : ℕ → Point → Box3 → Box3
halved_box m offset b = record {
  lo = record { x = halved_low m offset.x b.lo.x; y = halved_low m offset.y b.lo.y; z = b.lo.z };
  hi = record { x = halved_high m offset.x b.hi.x; y = halved_high m offset.y b.hi.y; z = b.hi.z };
}

-- a grid over this space whose steps are 2^m times these in x and y, and the grid over the halved space with these
abbrev pub long_grid : ℕ → Box3 → Point → Grid
long_grid m space step = record { space = space; step = record { x = 2 ^ m * step.x; y = 2 ^ m * step.y; z = step.z } }

abbrev pub halved_grid : ℕ → Box3 → Point → Grid
halved_grid m space step = record { space = halved_space m space; step = step }

-- the geometry of the halved scale: its chunks, their width and encoding stay
abbrev pub halved_geometry : ℕ → Geometry → Geometry
halved_geometry m g = record {
  offset = offset_times m g.offset;
  size = size_times m g.size;
  chunk = g.chunk;
  width = g.width;
  encoding = g.encoding;
}
