-- So far the first paths were read.
use Rattle.std.proofs.Common.{◌≡◌, ◌≤◌, take}
use Rattle.ig_cutout.specs.Inputs.{paths_of}
use Rattle.ig_stage.specs.Pipeline.{local_rule}
use Rattle.ig_stage.specs.Running.{ReadSoFar}
use Rattle.ig_stage.proofs.running.read_inputs.Given as goal

abbrev pub invariant-loop-path : goal.invariant-loop-path
invariant-loop-path g l =
    (g.S.Store.rule l.store ≡ local_rule) × (g.S.Store.faults l.fn.store ≤ g.S.Store.faults l.store)
    × (paths_of l.inputs ≡ take l.path-index l.paths)
    × (g.S.Store.tells → ReadSoFar l.paths l.path-index (g.S.Store.log l.fn.store) (g.S.Store.log l.store) l.inputs)
