-- So far the first directories were empty.
use Rattle.std.proofs.Common.{◌≡◌, ◌≤◌, ℕ, List}
use Rattle.ig_defs.specs.Log.{files_of}
use Rattle.ig_defs.specs.Own.{Moment}
use Rattle.ig_meaning.specs.Making.{Making}
use Rattle.ig_record.specs.declared.stage.Stage.{Stage}
use Rattle.ig_task.specs.Pipeline.{is_allowed}
use Rattle.ig_stage.specs.Free.{KnowsQueue}
use Rattle.ig_stage.proofs.FreeLayers.{EmptySoFar}
use Rattle.ig_stage.proofs.NewLayers.{LooksSoFar}
use Rattle.ig_stage.proofs.making.check_dirs.Given as goal

abbrev pub invariant-loop-dir : goal.invariant-loop-dir
invariant-loop-dir g l =
    (g.S.Store.rule l.store ≡ g.S.Store.rule l.fn.store) × (g.S.Store.faults l.fn.store ≤ g.S.Store.faults l.store)
    × (g.S.Store.tells → (earlier : List Stage) (planned_as : Stage → List Moment → Making) (s : Stage)
    → LooksSoFar (is_allowed (g.S.Store.rule l.fn.store)) earlier planned_as s l.dirs l.dir-index (g.S.Store.log l.fn.store) (g.S.Store.log l.store))
    × (g.S.Store.tells → (q : List ℕ) (stages : List Stage) → KnowsQueue (g.S.Store.rule l.fn.store) q stages (files_of (g.S.Store.log l.fn.store))
    → EmptySoFar (g.S.Store.rule l.fn.store) q stages l.dirs l.dir-index (files_of (g.S.Store.log l.store)))
