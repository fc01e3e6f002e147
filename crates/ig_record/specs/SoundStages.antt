-- What a sound stage has.
use Rattle.std.specs.Prelude.{◌≡◌, ◌≤◌, ◌<◌, ◌+◌, ◌-◌, ◌*◌, ◌/◌, ◌^◌, ℕ, true, ◌&&◌, List, [], None, IfSome, nat_le}
use Rattle.std.proofs.Common.{arith, refl, ap, ◌∙◌}
use Rattle.std.proofs.lemmas.Bool.{and_parts, leb-true}
use Rattle.ig_space.specs.Cells.{cell-within}
use Rattle.ig_space.specs.Geometry.{geometry_fits, Fits-from}
use Rattle.ig_space.specs.Grid.{IsGrid, IsWithin, cell_count, count_along, space_of}
use Rattle.ig_record.specs.declared.stage.Kind.{Kind}
use Rattle.ig_record.specs.declared.stage.Kind.TheVariants.{Xfer, Downsample, Faces, Links, Labels, Relabel, Count, Sum, Remove}
use Rattle.ig_record.specs.declared.stage.Stage.{Stage}
use Rattle.ig_record.specs.Sound.{has_come, has_layers, has_members, has_shape, has_split, has_tasks, is_lawful, is_side, is_sound, is_word}
use Rattle.ig_record.specs.SoundFacts.{HasSides, IsDir, IsDir-joined, IsScratch, IsSmall, is_none-None, split-from}
use Rattle.ig_record.specs.SoundKinds.{IsOfKind, kind-of}
use Rattle.ig_record.specs.SoundRows.{HasRow, IsSoundKind, come-kind, row_of}
use Rattle.ig_record.specs.Stage.{cells, greatest, hull_voxels, most_tasks, most_voxels, shape_unit, task_box, task_count, task_grid, task_size, unfit_axis}

-- what stands before the shape
pub record HasLayers (s : Stage) : Type 0 where
  pub layer : List ℕ
  pub key : List ℕ
  pub dir : IsDir s.source.dir
  pub kind : IsOfKind s layer key
  pub row : HasRow s

pub record HasShape (s : Stage) : Type 0 where
  pub sides : HasSides s.shape
  pub small : IsSmall s.shape
  pub fits : unfit_axis (shape_unit s.kind s.source s.dests) s.shape ≡ None

pub record IsSound (s : Stage) : Type 0 where
  pub fits : geometry_fits s.source.geometry ≡ true
  pub layers : HasLayers s
  pub shape : HasShape s
  pub few_cells : cell_count (cells s) ≤ most_tasks
  pub few : task_count s ≤ most_tasks
  pub light : greatest (hull_voxels s) (cell_count (cells s)) ≤ most_voxels

-- ---- from the tests
pub HasLayers-from : (s : Stage) → geometry_fits s.source.geometry ≡ true → has_layers s ≡ true → HasLayers s
HasLayers-from s fits h =
    let p = split-from (has_split s) [] s.source.dir h in
    let a = and_parts (is_word p.before) (is_word p.after && has_members s.kind p.before p.after s) p.passes in
    let b = and_parts (is_word p.after) (has_members s.kind p.before p.after s) a.1 in
    let kind = kind-of s.kind p.before p.after s refl b.0 b.1 in
    record {
      layer = p.before;
      key = p.after;
      dir = IsDir-joined s.source.dir p.before p.after p.whole a.0 b.0;
      kind = kind;
      row = row_of s p.before p.after fits a.0 b.0 kind;
    }

side-from : (n : ℕ) → is_side n ≡ true → (1 ≤ n) × (n ≤ 2 ^ 64 - 1)
side-from n h = let p = and_parts (nat_le 1 n) (nat_le n (2 ^ 64 - 1)) h in (leb-true 1 n p.0, leb-true n (2 ^ 64 - 1) p.1)

pub HasShape-from : (s : Stage) → has_shape s ≡ true → HasShape s
HasShape-from s h =
    let a = and_parts (is_side s.shape.x) _ h in
    let b = and_parts (is_side s.shape.y) _ a.1 in
    let d = and_parts (is_side s.shape.z) _ b.1 in
    let x = side-from s.shape.x a.0 in
    let y = side-from s.shape.y b.0 in
    let z = side-from s.shape.z d.0 in
    record {
      sides = record { x = x.0; y = y.0; z = z.0 };
      small = record { x = x.1; y = y.1; z = z.1 };
      fits = is_none-None (unfit_axis (shape_unit s.kind s.source s.dests) s.shape) d.1;
    }

-- ---- tasks
-- the boxes of tasks have sides
pub task-sides : (kind : Kind) (s : Stage) → geometry_fits s.source.geometry ≡ true → HasSides s.shape → HasSides (task_size kind s)
task-sides Xfer s fits sides = sides
task-sides Downsample s fits sides = sides
task-sides Faces s fits sides = sides
task-sides Links s fits sides = sides
task-sides Labels s fits sides = let f = Fits-from s.source.geometry fits in record { x = f.x_some; y = f.y_some; z = f.z_some }
task-sides Relabel s fits sides = sides
task-sides Count s fits sides = sides
task-sides Sum s fits sides = let f = Fits-from s.source.geometry fits in record { x = f.x_some; y = f.y_some; z = f.z_some }
task-sides Remove s fits sides = sides

-- one box along each axis
along-one : (lo size : ℕ) → 1 ≤ size → count_along lo (lo + size) size ≡ 1
along-one lo size some = let back : lo + size - lo ≡ size = omega arith in ap (λ n. (n + (size - 1)) / size) back ∙ ceiling size some
  where
    ceiling : (size : ℕ) → 1 ≤ size → (size + (size - 1)) / size ≡ 1
    ceiling size some = grind arith

one-task : (s : Stage) → geometry_fits s.source.geometry ≡ true → cell_count (record { space = space_of s.source.geometry; step = s.source.geometry.size }) ≡ 1
one-task s fits =
    let f = Fits-from s.source.geometry fits in
    let g = s.source.geometry in
    let x = along-one g.offset.x g.size.x f.x_some in
    let y = along-one g.offset.y g.size.y f.y_some in
    let z = along-one g.offset.z g.size.z f.z_some in
    λ i. x i * (y i * z i)

-- there are no more tasks than boxes of the shape
tasks-few : (kind : Kind) (s : Stage) → geometry_fits s.source.geometry ≡ true → cell_count (cells s) ≤ most_tasks → cell_count (record { space = space_of s.source.geometry; step = task_size kind s }) ≤ most_tasks
tasks-few Xfer s fits few = few
tasks-few Downsample s fits few = few
tasks-few Faces s fits few = few
tasks-few Links s fits few = few
tasks-few Labels s fits few = let one = one-task s fits in omega (arith, one)
tasks-few Relabel s fits few = few
tasks-few Count s fits few = few
tasks-few Sum s fits few = let one = one-task s fits in omega (arith, one)
tasks-few Remove s fits few = few

pub IsLawful-from : (s : Stage) → is_lawful s ≡ true → IsSound s
IsLawful-from s h =
    let a = and_parts (geometry_fits s.source.geometry) _ h in
    let b = and_parts (has_layers s) _ a.1 in
    let d = and_parts (has_shape s) (has_tasks s) b.1 in
    let e = and_parts (nat_le (cell_count (cells s)) most_tasks) _ d.1 in
    let few = leb-true (cell_count (cells s)) most_tasks e.0 in
    record {
      fits = a.0;
      layers = HasLayers-from s a.0 b.0;
      shape = HasShape-from s d.0;
      few_cells = few;
      few = tasks-few s.kind s a.0 few;
      light = leb-true (greatest (hull_voxels s) (cell_count (cells s))) most_voxels e.1;
    }

pub IsSound-from : (s : Stage) → is_sound s ≡ true → IsSound s
unfolding is_sound
IsSound-from s h = IsLawful-from s (and_parts (has_come s.kind) (is_lawful s) h).1

pub sound-come : (s : Stage) → is_sound s ≡ true → has_come s.kind ≡ true
unfolding is_sound
sound-come s h = (and_parts (has_come s.kind) (is_lawful s) h).0

pub sound-kind : (s : Stage) → is_sound s ≡ true → IsSoundKind s
unfolding is_sound
sound-kind s h =
    let a = and_parts (has_come s.kind) (is_lawful s) h in
    let is = IsLawful-from s a.1 in
    come-kind s is.layers.layer is.layers.key a.0 is.layers.kind

-- ---- the grid of the tasks
pub tasks-IsGrid : (s : Stage) → geometry_fits s.source.geometry ≡ true → HasSides s.shape → IsGrid (task_grid s)
tasks-IsGrid s fits shape =
    let f = Fits-from s.source.geometry fits in
    let sides = task-sides s.kind s fits shape in
    record {
      x_step = sides.x;
      y_step = sides.y;
      z_step = sides.z;
      x_order = omega arith;
      y_order = omega arith;
      z_order = omega arith;
      x_small = f.x_ends;
      y_small = f.y_ends;
      z_small = f.z_ends;
    }

pub task-within : (s : Stage) (k : ℕ) → is_sound s ≡ true → k < task_count s → IsWithin (task_box s k) (space_of s.source.geometry)
task-within s k h below = let is = IsSound-from s h in cell-within (task_grid s) (tasks-IsGrid s is.fits is.shape.sides) k below

-- ---- its scratch
pub scratch_of_sound : (s : Stage) → is_sound s ≡ true → IfSome s.scratch IsScratch
scratch_of_sound s h = (IsSound-from s h).layers.row.keeps
