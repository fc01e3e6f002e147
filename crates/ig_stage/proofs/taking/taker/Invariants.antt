-- The first of all of them that has one is the first of those that are left.
use Rattle.std.proofs.Common.{◌≡◌, drop}
use Rattle.ig_meaning.specs.Taken.{taker_from}
use Rattle.ig_stage.proofs.taking.taker.Given as goal

abbrev pub invariant-loop-stage : goal.invariant-loop-stage
invariant-loop-stage l = (l.number ≡ l.stage-index) × (taker_from 0 l.stages l.new ≡ taker_from l.number (drop l.stage-index l.stages) l.new)
