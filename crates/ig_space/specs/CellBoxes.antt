-- The cells of a grid are boxes, and those of the parts of a grid's space are all its cells.
use Rattle.std.specs.Prelude.{◌≡◌, ◌<◌, ℕ, true}
use Rattle.std.proofs.Common.{arith, sym, subst, ◌∙◌}
use Rattle.std.proofs.Math.Nat.{le-add_right}
use Rattle.ig_space.specs.declared.point.Box3.{Box3}
use Rattle.ig_space.specs.declared.geometry.Grid.{Grid}
use Rattle.ig_space.specs.declared.geometry.Geometry.{Geometry}
use Rattle.ig_space.specs.Geometry.{Fits-from, geometry_fits}
use Rattle.ig_space.specs.Grid.{IsBox, IsGrid, IsIn, IsWithin, cell, cell_at, cell_count, chunks_of, hull, number_at}
use Rattle.ig_space.specs.Cells.{cell-number_at, cell-within, cell_at-in, cell_at-is, low-in_cell, low-in_space, number_at-below}
use Rattle.ig_space.specs.HullCells.{hull-numbers}

-- the chunks of a scale that fits are cells of a grid
pub chunks-IsGrid : (g : Geometry) → geometry_fits g ≡ true → IsGrid (chunks_of g)
chunks-IsGrid g h =
    let fits = Fits-from g h in
    record {
      x_step = fits.x_step;
      y_step = fits.y_step;
      z_step = fits.z_step;
      x_order = le-add_right g.offset.x g.size.x;
      y_order = le-add_right g.offset.y g.size.y;
      z_order = le-add_right g.offset.z g.size.z;
      x_small = fits.x_ends;
      y_small = fits.y_ends;
      z_small = fits.z_ends;
    }

-- a part of a space is a box
pub within-IsBox : (g : Grid) → IsGrid g → (a : Box3) → IsWithin a g.space → IsBox a
within-IsBox g grid a part = record {
  x_some = part.x_some;
  y_some = part.y_some;
  z_some = part.z_some;
  x_small = omega (arith, part.x_to, grid.x_small);
  y_small = omega (arith, part.y_to, grid.y_small);
  z_small = omega (arith, part.z_to, grid.z_small);
}

pub cell-IsBox : (g : Grid) → IsGrid g → (k : ℕ) → k < cell_count g → IsBox (cell g k)
cell-IsBox g grid k below = within-IsBox g grid (cell g k) (cell-within g grid k below)

pub cell_at-IsBox : (g : Grid) → IsGrid g → (x y z : ℕ) → IsIn g.space x y z → IsBox (cell_at g x y z)
cell_at-IsBox g grid x y z h =
    subst IsBox (cell-number_at g grid x y z h) (cell-IsBox g grid (number_at g x y z) (number_at-below g grid x y z h))

-- a cell of the grid is one of those that meet a cell of another grid
pub record IsCovered (g parts : Grid) (j : ℕ) : Type 0 where
  pub part : ℕ
  pub part_below : part < cell_count parts
  pub number : ℕ
  pub below : number < cell_count (hull g (cell parts part))
  pub is : cell (hull g (cell parts part)) number ≡ cell g j

-- it meets that of its first voxel, where both grids cut one space
pub covered : (g parts : Grid) → IsGrid g → IsGrid parts → parts.space ≡ g.space → (j : ℕ) → j < cell_count g → IsCovered g parts j
covered g parts grid whole same j below =
    let c = cell g j in
    let there : IsIn g.space c.lo.x c.lo.y c.lo.z = low-in_space g grid j below in
    let here : IsIn parts.space c.lo.x c.lo.y c.lo.z = subst (λ space. IsIn space c.lo.x c.lo.y c.lo.z) (sym same) there in
    let k = number_at parts c.lo.x c.lo.y c.lo.z in
    let k_below = number_at-below parts whole c.lo.x c.lo.y c.lo.z here in
    let in_part : IsIn (cell parts k) c.lo.x c.lo.y c.lo.z
    = subst (λ b. IsIn b c.lo.x c.lo.y c.lo.z) (sym (cell-number_at parts whole c.lo.x c.lo.y c.lo.z here)) (cell_at-in parts whole c.lo.x c.lo.y c.lo.z here) in
    let within : IsWithin (cell parts k) g.space = subst (IsWithin (cell parts k)) same (cell-within parts whole k k_below) in
    let m = hull-numbers g (cell parts k) grid within c.lo.x c.lo.y c.lo.z in_part in
    record {
      part = k;
      part_below = k_below;
      number = number_at (hull g (cell parts k)) c.lo.x c.lo.y c.lo.z;
      below = m.0;
      is = m.1 ∙ cell_at-is g grid j c.lo.x c.lo.y c.lo.z below (low-in_cell g grid j below);
    }
