-- The box of the source that a chunk of a mip is made of lies in the box of the task whose part of the mip the chunk begins in.
use Rattle.std.specs.Prelude.{◌≡◌, ◌<◌, ◌≤◌, ◌+◌, ◌-◌, ◌*◌, ◌/◌, ◌%◌, ◌^◌, ℕ, min, true}
use Rattle.std.proofs.Common.{arith, ap, sym, subst, ◌∙◌, mul-pos}
use Rattle.std.proofs.Math.Nat.{div-add-mod', div-lt_iff_lt-mul, mul-div_cancel, mul-le-mul_left, mul-le-mul_right}
use Rattle.std.proofs.lemmas.Nat.{pow_pos}
use Rattle.ig_space.specs.declared.point.Point.{Point}
use Rattle.ig_space.specs.declared.point.Box3.{Box3}
use Rattle.ig_space.specs.declared.geometry.Geometry.{Geometry}
use Rattle.ig_space.specs.declared.geometry.Grid.{Grid}
use Rattle.ig_space.specs.declared.place.Place.{Place}
use Rattle.ig_space.specs.CellBoxes.{chunks-IsGrid}
use Rattle.ig_space.specs.Geometry.{geometry_fits}
use Rattle.ig_space.specs.Grid.{IsGrid, IsIn, cell, chunks_of, counts, high_along, low_along, point_at, space_of}
use Rattle.ig_mode.specs.CellLaws.{cell-halved, space-halved}
use Rattle.ig_mode.specs.HalvedGrids.{halved_box, halved_geometry, halved_high, halved_low, long_grid}
use Rattle.ig_mode.specs.Halves.{down-whole, up-min, up-whole}
use Rattle.ig_mode.specs.Mips.{down_times, up_times}
use Rattle.ig_record.specs.declared.stage.Stage.{Stage}
use Rattle.ig_record.specs.SoundFacts.{sides-fit}
use Rattle.ig_record.specs.SoundStages.{IsSound}
use Rattle.ig_record.specs.Stage.{task_box}
use Rattle.ig_meaning.specs.Wants.{mip_box}
use Rattle.ig_task.specs.HalvedTiles.{IsMipScale, mip-box, mip_parts}

-- ---- one axis
-- a step of whole chunks that holds a chunk's begin holds its end
whole-next : (chunk step a b : ℕ) → 1 ≤ chunk → step % chunk ≡ 0 → a * chunk < (b + 1) * step → (a + 1) * chunk ≤ (b + 1) * step
whole-next chunk step a b some whole begins =
    let rows : step ≡ step / chunk * chunk = omega (arith, div-add-mod' step chunk, whole) in
    let ends : (b + 1) * step ≡ (b + 1) * (step / chunk) * chunk = grind arith in
    let number : a * chunk / chunk < (b + 1) * (step / chunk) = (div-lt_iff_lt-mul some).1 (omega (arith, begins, ends)) in
    let same : a * chunk / chunk ≡ a = mul-div_cancel a some in
    let more : (a + 1) * chunk ≤ (b + 1) * (step / chunk) * chunk = mul-le-mul_right chunk (omega (arith, number, same)) in
    omega (arith, more, ends)

-- where a cell begins and ends in the mip
low-halved : (m lo step i : ℕ) → halved_low m lo (low_along lo (2 ^ m * step) i) ≡ down_times m lo + i * step
low-halved m lo step i =
    let same : lo + i * (2 ^ m * step) - lo ≡ 2 ^ m * (i * step) = grind arith in
    ap (λ n. down_times m lo + down_times m n) same ∙ ap (λ n. down_times m lo + n) (down-whole m (i * step))

high-halved : (m lo hi step i : ℕ) → halved_high m lo (high_along lo hi (2 ^ m * step) i) ≤ down_times m lo + (i + 1) * step
high-halved m lo hi step i =
    let product : (i + 1) * (2 ^ m * step) ≡ 2 ^ m * ((i + 1) * step) = grind arith in
    let less : min (lo + (i + 1) * (2 ^ m * step)) hi - lo ≡ min (2 ^ m * ((i + 1) * step)) (hi - lo) = omega (arith, product) in
    let up = ap (up_times m) less ∙ up-min m (2 ^ m * ((i + 1) * step)) (hi - lo) in
    omega (arith, up, up-whole m ((i + 1) * step))

record IsInSide (from to low high : ℕ) : Type 0 where
  begins : low ≤ from
  ends : to ≤ high

-- 2^m times as long: the cell a of chunks lies in the cell b of steps, where it begins there once halved
side-within : (m lo hi chunk step a b : ℕ) → 1 ≤ chunk → step % chunk ≡ 0 → halved_low m lo (low_along lo (2 ^ m * step) b) ≤ halved_low m lo (low_along lo (2 ^ m * chunk) a)
    → halved_low m lo (low_along lo (2 ^ m * chunk) a) < halved_high m lo (high_along lo hi (2 ^ m * step) b)
    → IsInSide (low_along lo (2 ^ m * chunk) a) (high_along lo hi (2 ^ m * chunk) a) (low_along lo (2 ^ m * step) b) (high_along lo hi (2 ^ m * step) b)
side-within m lo hi chunk step a b some whole from to =
    let at_a = low-halved m lo chunk a in
    let at_b = low-halved m lo step b in
    let end_b = high-halved m lo hi step b in
    let low : 2 ^ m * (b * step) ≤ 2 ^ m * (a * chunk) = mul-le-mul_left (2 ^ m) (omega (arith, from, at_a, at_b)) in
    let next : (a + 1) * chunk ≤ (b + 1) * step = whole-next chunk step a b some whole (omega (arith, to, at_a, end_b)) in
    let high : 2 ^ m * ((a + 1) * chunk) ≤ 2 ^ m * ((b + 1) * step) = mul-le-mul_left (2 ^ m) next in
    let low_a : a * (2 ^ m * chunk) ≡ 2 ^ m * (a * chunk) = grind arith in
    let low_b : b * (2 ^ m * step) ≡ 2 ^ m * (b * step) = grind arith in
    let high_a : (a + 1) * (2 ^ m * chunk) ≡ 2 ^ m * ((a + 1) * chunk) = grind arith in
    let high_b : (b + 1) * (2 ^ m * step) ≡ 2 ^ m * ((b + 1) * step) = grind arith in
    record { begins = omega (arith, low, low_a, low_b); ends = omega (arith, high, high_a, high_b) }

-- and as long as it is
depth-within : (lo hi chunk step a b : ℕ) → 1 ≤ chunk → step % chunk ≡ 0 → low_along lo step b ≤ low_along lo chunk a → low_along lo chunk a < high_along lo hi step b
    → IsInSide (low_along lo chunk a) (high_along lo hi chunk a) (low_along lo step b) (high_along lo hi step b)
depth-within lo hi chunk step a b some whole from to =
    let next : (a + 1) * chunk ≤ (b + 1) * step = whole-next chunk step a b some whole (omega (arith, to)) in
    record { begins = from; ends = omega (arith, next) }

-- ---- three axes
module _ (source : Geometry) (fits : geometry_fits source ≡ true) (m : ℕ) (place : Place) (is : place.geometry ≡ halved_geometry m source) where
  -- the boxes of the source that chunks are made of
  pub blocks-IsGrid : IsGrid (long_grid m (space_of source) place.geometry.chunk)
  blocks-IsGrid =
      let grid = chunks-IsGrid source fits in
      let sides = sides-fit source fits in
      subst (λ (p : Point). IsGrid (long_grid m (space_of source) p)) (ap (λ (g : Geometry). g.chunk) (sym is))
      (record {
        x_step = mul-pos (pow_pos m) sides.x;
        y_step = mul-pos (pow_pos m) sides.y;
        z_step = sides.z;
        x_order = grid.x_order;
        y_order = grid.y_order;
        z_order = grid.z_order;
        x_small = grid.x_small;
        y_small = grid.y_small;
        z_small = grid.z_small;
      })

  -- are those of the chunks, once halved
  pub block-chunk : (i : ℕ) → halved_box m source.offset (mip_box source m place i) ≡ cell (chunks_of place.geometry) i
  block-chunk i =
      let space = space-halved m source ∙ ap (λ (g : Geometry). space_of g) (sym is) in
      cell-halved m (space_of source) place.geometry.chunk blocks-IsGrid i
      ∙ ap (λ (b : Box3). cell (record { space = b; step = place.geometry.chunk }) i) space

-- the cell of the blocks lies in the cell of the steps
cells-within : (m : ℕ) (space : Box3) (chunk step : Point) (i k x y z : ℕ) → 1 ≤ chunk.x → 1 ≤ chunk.y → 1 ≤ chunk.z → step.x % chunk.x ≡ 0 → step.y % chunk.y ≡ 0 → step.z % chunk.z ≡ 0
    → (let a = halved_box m space.lo (cell (long_grid m space chunk) i) in IsIn (halved_box m space.lo (cell (long_grid m space step) k)) a.lo.x a.lo.y a.lo.z)
    → IsIn (cell (long_grid m space chunk) i) x y z → IsIn (cell (long_grid m space step) k) x y z
cells-within m space chunk step i k x y z x_some y_some z_some x_whole y_whole z_whole begins inside =
    let p = point_at (counts (long_grid m space chunk)) i in
    let q = point_at (counts (long_grid m space step)) k in
    let along_x = side-within m space.lo.x space.hi.x chunk.x step.x p.x q.x x_some x_whole begins.x_from begins.x_to in
    let along_y = side-within m space.lo.y space.hi.y chunk.y step.y p.y q.y y_some y_whole begins.y_from begins.y_to in
    let along_z = depth-within space.lo.z space.hi.z chunk.z step.z p.z q.z z_some z_whole begins.z_from begins.z_to in
    record {
      x_from = omega (arith, along_x.begins, inside.x_from);
      x_to = omega (arith, along_x.ends, inside.x_to);
      y_from = omega (arith, along_y.begins, inside.y_from);
      y_to = omega (arith, along_y.ends, inside.y_to);
      z_from = omega (arith, along_z.begins, inside.z_from);
      z_to = omega (arith, along_z.ends, inside.z_to);
    }

-- the blocks of a chunk that begins in the part of a task lie in the task's box
pub blocks-within : (s : Stage) (h : IsSound s) (m : ℕ) (place : Place) (mip : IsMipScale s m place) (i k : ℕ)
    → (let c = cell (chunks_of place.geometry) i in IsIn (cell (mip_parts s h m place mip) k) c.lo.x c.lo.y c.lo.z)
    → (x y z : ℕ) → IsIn (mip_box s.source.geometry m place i) x y z → IsIn (task_box s k) x y z
blocks-within s h m place mip i k begins x y z inside =
    let source = s.source.geometry in
    let sides = sides-fit source h.fits in
    let chunk : place.geometry.chunk ≡ source.chunk = ap (λ (g : Geometry). g.chunk) mip.geometry in
    let box : halved_box m source.offset (cell (long_grid m (space_of source) mip.step) k) ≡ cell (mip_parts s h m place mip) k
    = ap (λ (g : Grid). halved_box m source.offset (cell g k)) mip.tasks ∙ mip-box s h m place mip k in
    let of_chunk = subst (λ (b : Box3). IsIn (cell (mip_parts s h m place mip) k) b.lo.x b.lo.y b.lo.z) (sym (block-chunk source h.fits m place mip.geometry i)) begins in
    let a = halved_box m source.offset (mip_box source m place i) in
    let of_task = subst (λ (b : Box3). IsIn b a.lo.x a.lo.y a.lo.z) (sym box) of_chunk in
    subst (λ (g : Grid). IsIn (cell g k) x y z) mip.tasks
    (cells-within m (space_of source) source.chunk mip.step i k x y z sides.x sides.y sides.z mip.whole.x mip.whole.y mip.whole.z
    (subst (λ (p : Point). (let b = halved_box m source.offset (cell (long_grid m (space_of source) p) i) in IsIn (halved_box m source.offset (cell (long_grid m (space_of source) mip.step) k)) b.lo.x b.lo.y b.lo.z)) chunk of_task)
    (subst (λ (p : Point). IsIn (cell (long_grid m (space_of source) p) i) x y z) chunk inside))
