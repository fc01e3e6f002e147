-- The mips that are wanted are those that are there, and those of the last one that are left.
use Rattle.std.proofs.Common.{◌≡◌, ◌++◌}
use Rattle.ig_meaning.specs.Plan.{mips_of}
use Rattle.ig_stage.specs.Mips.{CanDouble}
use Rattle.ig_stage.proofs.mipping.mips_of.Given as goal

abbrev pub invariant-loop-rest : goal.invariant-loop-rest
invariant-loop-rest l = record { whole : mips_of l.levels l.scale ≡ l.mips ++ mips_of l.rest l.last; room : CanDouble l.rest l.last.resolution }

abbrev pub decreases-loop-rest : goal.decreases-loop-rest
decreases-loop-rest l = l.rest
