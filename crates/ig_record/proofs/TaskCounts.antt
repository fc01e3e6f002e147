-- The tasks of a sound stage.
use Rattle.std.proofs.Common.{◌≡◌, ◌≤◌, ◌<◌, ◌+◌, ◌^◌, ℕ, true, IfSome, arith, mul-pos, le_refl}
use Rattle.ig_space.specs.Cells.{index-below}
use Rattle.ig_space.specs.Geometry.{geometry_fits, Fits-from}
use Rattle.ig_space.specs.Grid.{count_along}
use Rattle.ig_record.specs.declared.stage.Stage.{Stage}
use Rattle.ig_record.specs.Stage.{task_count, task_size}
use Rattle.ig_record.specs.Sound.{is_sound}
use Rattle.ig_record.specs.SoundFacts.{HasSides, IsScratch}
use Rattle.ig_record.specs.SoundStages.{IsSound-from, task-sides}

pub sound-fits : (s : Stage) → is_sound s ≡ true → geometry_fits s.source.geometry ≡ true
sound-fits s h = (IsSound-from s h).fits

pub sound-sides : (s : Stage) → is_sound s ≡ true → HasSides s.shape
sound-sides s h = (IsSound-from s h).shape.sides

-- ---- how many

along-some : (lo size step : ℕ) → 1 ≤ size → 1 ≤ step → 1 ≤ count_along lo (lo + size) step
along-some lo size step some cut =
    let first = index-below lo (lo + size) step lo cut (le_refl lo) (omega (arith, some)) in
    omega (arith, first)

pub tasks-some : (s : Stage) → is_sound s ≡ true → 1 ≤ task_count s
tasks-some s h =
    let f = Fits-from s.source.geometry (sound-fits s h) in
    let sides = task-sides s.kind s (sound-fits s h) (sound-sides s h) in
    let step = task_size s.kind s in
    let g = s.source.geometry in
    mul-pos (along-some g.offset.x g.size.x step.x f.x_some sides.x)
    (mul-pos (along-some g.offset.y g.size.y step.y f.y_some sides.y) (along-some g.offset.z g.size.z step.z f.z_some sides.z))

pub tasks-few : (s : Stage) → is_sound s ≡ true → task_count s ≤ 1000000
tasks-few s h = (IsSound-from s h).few

-- ---- what calls on a sound stage ask for
pub sound_scratch : (s : Stage) → is_sound s ≡ true → IfSome s.scratch IsScratch
sound_scratch s h = (IsSound-from s h).layers.row.keeps

pub task_number : (s : Stage) (k : ℕ) → is_sound s ≡ true → k < task_count s → k < 10 ^ 6
task_number s k h below = let few = (IsSound-from s h).few in omega (arith, few, below)
