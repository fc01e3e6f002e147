use Rattle.ig_rule.specs.ScratchWanted.{has_maker, scratch_apart, scratch_wanted}
use Rattle.ig_rule.proofs.laws.scratch_is_wanted.Goals as goal

pub returns-clause-maker : goal.returns-clause-maker
returns-clause-maker c = has_maker

pub returns-clause-apart : goal.returns-clause-apart
returns-clause-apart c = scratch_apart

pub returns-clause-wanted : goal.returns-clause-wanted
returns-clause-wanted c = scratch_wanted
