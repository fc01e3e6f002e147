use Rattle.std.proofs.Common.{sym, ◌∙◌}
use Rattle.ig_worker.proofs.LastTurns.{settled_last}
use Rattle.ig_worker.proofs.Nearing.{settled_nearer}
use Rattle.ig_worker.proofs.Stepping.{stepped_by}
use Rattle.ig_worker.proofs.steps.advance.Goals as goal

pub returns-clause-steps : goal.returns-clause-steps
returns-clause-steps g c tells =
    stepped_by _ _ _ c.args.notes.now c.args.phase _ _ c.go_on.new.notes c.go_on.result c.settle.result.0 c.settle.result.1 c.go_on.ensures.plan (c.go_on.ensures.went tells) c.go_on.ensures.may c.settle.ensures

pub returns-clause-left : goal.returns-clause-left
returns-clause-left g c going =
    settled_nearer _ _ c.args.notes.now c.go_on.new.notes c.args.phase c.go_on.result c.settle.result.0 c.settle.result.1 going c.requires.fits c.go_on.ensures.plan c.go_on.ensures.tried c.go_on.ensures.goes c.settle.ensures

pub returns-clause-over : goal.returns-clause-over
returns-clause-over g c =
    settled_last _ _ c.args.notes.now c.go_on.new.notes c.args.phase c.go_on.result c.settle.result.0 c.settle.result.1 (sym c.is_over.ensures ∙ c.if-is_over.false) c.go_on.ensures.goes c.settle.ensures
