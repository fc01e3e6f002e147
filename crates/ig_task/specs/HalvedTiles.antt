-- The tasks of a stage of mips cut each scale into boxes of whole chunks, in the same order.
use Rattle.std.specs.Prelude.{◌≡◌, ◌<◌, ◌≤◌, ◌+◌, ◌-◌, ◌*◌, ◌/◌, ◌%◌, ◌^◌, ℕ, suc, List, [], ◌∷◌, length}
use Rattle.std.proofs.Common.{arith, ap, sym, subst, ◌∙◌, inl, inr}
use Rattle.std.proofs.Math.Nat.{div-add-mod', mul-mod_left}
use Rattle.std.proofs.lemmas.Nat.{pow-add}
use Rattle.ig_space.specs.declared.point.Point.{Point}
use Rattle.ig_space.specs.declared.geometry.Geometry.{Geometry}
use Rattle.ig_space.specs.declared.geometry.Grid.{Grid}
use Rattle.ig_space.specs.declared.place.Place.{Place}
use Rattle.ig_space.specs.Cells.{cell-within}
use Rattle.ig_space.specs.CellBoxes.{chunks-IsGrid}
use Rattle.ig_space.specs.Grid.{IsGrid, cell, cell_count, chunks_of, counts, hull, point_at, space_of}
use Rattle.ig_mode.specs.Aligned.{IsAligned}
use Rattle.ig_mode.specs.CellLaws.{cell-aligned as cell-is_aligned, cell-halved, cells-as-many, geometry-after, grid-halved, space-halved}
use Rattle.ig_mode.specs.HalvedGrids.{halved_box, halved_geometry, halved_grid, long_grid}
use Rattle.ig_record.specs.declared.stage.Kind.{Kind}
use Rattle.ig_record.specs.declared.stage.Kind.TheVariants.{Downsample}
use Rattle.ig_record.specs.declared.stage.Stage.{Stage}
use Rattle.ig_record.specs.SoundFacts.{IsScale}
use Rattle.ig_record.specs.SoundKinds.{AreMips}
use Rattle.ig_record.specs.SoundStages.{IsSound, tasks-IsGrid}
use Rattle.ig_record.specs.Stage.{before_mips, shape_unit, task_box, task_count, task_grid, task_size}
use Rattle.ig_meaning.specs.TaskBoxes.{IsWhole, cell-aligned, unfit_axis-none}
use Rattle.ig_task.specs.KindFacts.{IsDownsample}
use Rattle.ig_task.specs.Scales.{HasScale, scale-few, scale-is}
use Rattle.ig_task.specs.Tiles.{IsTiled}

-- ---- steps
-- Along one axis: a side of whole chunks of a later scale is 2^m times a step of whole chunks.
record HasStep (m chunk side : ℕ) : Type 0 where
  step : ℕ
  is : 2 ^ m * step ≡ side
  whole : step % chunk ≡ 0

step-of : (m n chunk side : ℕ) → m ≤ n → side % (2 ^ n * chunk) ≡ 0 → HasStep m chunk side
step-of m n chunk side few whole =
    let last : m + (n - m) ≡ n = omega (arith, few) in
    let power : 2 ^ n ≡ 2 ^ m * 2 ^ (n - m) = ap (λ k. 2 ^ k) (sym last) ∙ pow-add 2 m (n - m) in
    let q = side / (2 ^ n * chunk) in
    let parts : side ≡ q * (2 ^ n * chunk) = omega (arith, div-add-mod' side (2 ^ n * chunk), whole) in
    record {
      step = q * 2 ^ (n - m) * chunk;
      is = regroup (2 ^ m) (2 ^ (n - m)) q chunk ∙ ap (λ p. q * (p * chunk)) (sym power) ∙ sym parts;
      whole = mul-mod_left (q * 2 ^ (n - m)) chunk;
    }
  where
    regroup : (a b q c : ℕ) → a * (q * b * c) ≡ q * (a * b * c)
    regroup a b q c = grind arith

-- ---- a scale
-- The scale is the source halved m times, and the boxes of the tasks are 2^m times steps of whole chunks.
pub record IsMipScale (s : Stage) (m : ℕ) (place : Place) : Type 0 where
  pub scale : IsScale place
  pub geometry : place.geometry ≡ halved_geometry m s.source.geometry
  pub step : Point
  pub tasks : long_grid m (space_of s.source.geometry) step ≡ task_grid s
  pub whole : IsWhole s.source.geometry.chunk step

after : (m : ℕ) (g : Geometry) → halved_geometry 1 (halved_geometry m g) ≡ halved_geometry (suc m) g
after m g = let next : m + 1 ≡ suc m = omega arith in geometry-after m g ∙ ap (λ n. halved_geometry n g) next

-- each scale is the source, halved as often as its number says
scale-geometry : (layer : List ℕ) (g : Geometry) (m : ℕ) (places : List Place) → AreMips layer (halved_geometry m g) places → (n : ℕ) (place : Place) → HasScale (suc m) places n place
    → place.geometry ≡ halved_geometry n g
scale-geometry layer g m [] are n place none = absurd none
scale-geometry layer g m (first ∷ rest) are n place (inl is) =
    ap (λ (p : Place). p.geometry) (sym is.1) ∙ are.0.geometry ∙ after m g ∙ ap (λ k. halved_geometry k g) is.0
scale-geometry layer g m (first ∷ rest) are n place (inr later) =
    scale-geometry layer g (suc m) rest (subst (λ (h : Geometry). AreMips layer h rest) (after m g) are.1) n place later

pub mip_scale : (s : Stage) → IsSound s → s.kind ≡ Downsample → IsDownsample s → (m : ℕ) (place : Place) → HasScale 1 s.dests m place → IsMipScale s m place
mip_scale s h is d m place has =
    let chunk = s.source.geometry.chunk in
    let few = scale-few 1 s.dests m place has in
    let unit : shape_unit s.kind s.source s.dests ≡ before_mips (length s.dests) chunk = ap (λ (kind : Kind). shape_unit kind s.source s.dests) is in
    let shape : IsWhole (before_mips (length s.dests) chunk) s.shape = subst (λ (u : Point). IsWhole u s.shape) unit (unfit_axis-none (shape_unit s.kind s.source s.dests) s.shape h.shape.fits) in
    let x = step-of m (length s.dests) chunk.x s.shape.x (omega (arith, few.1)) shape.x in
    let y = step-of m (length s.dests) chunk.y s.shape.y (omega (arith, few.1)) shape.y in
    let size : task_size s.kind s ≡ s.shape = ap (λ (kind : Kind). task_size kind s) is in
    record {
      scale = scale-is 1 s.dests m place h.layers.row.scales has;
      geometry = scale-geometry d.layer s.source.geometry 0 s.dests d.mips.mips m place has;
      step = record { x = x.step; y = y.step; z = s.shape.z };
      tasks = (λ i. record { space = space_of s.source.geometry; step = record { x = x.is i; y = y.is i; z = s.shape.z } })
          ∙ ap (λ (step : Point). record { space = space_of s.source.geometry; step = step }) (sym size);
      whole = record { x = x.whole; y = y.whole; z = shape.z };
    }

module _ (s : Stage) (h : IsSound s) (m : ℕ) (place : Place) (mip : IsMipScale s m place) where
  -- the boxes of the tasks, in the scale
  abbrev pub mip_parts : Grid
  mip_parts = halved_grid m (space_of s.source.geometry) mip.step

  long-IsGrid : IsGrid (long_grid m (space_of s.source.geometry) mip.step)
  long-IsGrid = subst IsGrid (sym mip.tasks) (tasks-IsGrid s h.fits h.shape.sides)

  pub mip-count : task_count s ≡ cell_count mip_parts
  mip-count = ap (λ (g : Grid). cell_count g) (sym mip.tasks) ∙ cells-as-many m (space_of s.source.geometry) mip.step long-IsGrid

  pub mip-box : (k : ℕ) → halved_box m s.source.geometry.offset (task_box s k) ≡ cell mip_parts k
  mip-box k =
      ap (λ (g : Grid). halved_box m s.source.geometry.offset (cell g k)) (sym mip.tasks) ∙ cell-halved m (space_of s.source.geometry) mip.step long-IsGrid k

  -- the box of a task holds whole blocks
  pub task-aligned : (k : ℕ) → k < task_count s → IsAligned m (space_of s.source.geometry) (task_box s k)
  task-aligned k below =
      subst (λ (g : Grid). IsAligned m (space_of s.source.geometry) (cell g k)) mip.tasks
      (cell-is_aligned m (space_of s.source.geometry) mip.step long-IsGrid k (subst (λ (g : Grid). k < cell_count g) (sym mip.tasks) below))

  mip-space : mip_parts.space ≡ space_of place.geometry
  mip-space = space-halved m s.source.geometry ∙ ap (λ (g : Geometry). space_of g) (sym mip.geometry)

  -- are made of whole chunks
  pub mip-tiled : IsTiled place mip_parts
  mip-tiled =
      let grid = grid-halved m (space_of s.source.geometry) mip.step long-IsGrid in
      let chunks : chunks_of place.geometry ≡ record { space = mip_parts.space; step = s.source.geometry.chunk }
      = (λ i. record { space = sym mip-space i; step = ap (λ (g : Geometry). g.chunk) mip.geometry i }) in
      record {
        dir = mip.scale.dir;
        fits = mip.scale.fits;
        grid = grid;
        space = mip-space;
        whole = λ k below.
            ap (λ (g : Grid). (hull g (cell mip_parts k)).space) chunks
            ∙ cell-aligned mip_parts.space s.source.geometry.chunk mip.step (point_at (counts mip_parts) k) mip.whole
            (subst IsGrid chunks (chunks-IsGrid place.geometry mip.scale.fits)) (cell-within mip_parts grid k below);
      }
