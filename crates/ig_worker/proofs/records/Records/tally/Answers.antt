use Rattle.std.proofs.Common.{ap, arith, sym, ◌∙◌}
use Rattle.ig_worker.specs.Stages.{unlisted}
use Rattle.ig_worker.proofs.Tallies.{tally_more, tally_none, tally_stage}
use Rattle.ig_worker.proofs.records.Records.tally.Goals as goal

pub loop-number-init : goal.loop-number-init
loop-number-init c = tally_none c.args.places.now c.args.self.now _ (c.into_iter-number-iterator.ensures.into_iter_gives.0 ∙ c.self.view_is) c.requires.known

pub tasks-tasks-requires : goal.tasks-tasks-requires
tasks-tasks-requires c = (tally_stage _ _ c.in-Some.number.now c.in-Some.stage.now c.in-Some.ensures.steps c.loop-number.invariant.4).sound

pub unlisted-requires-clause-stage : goal.unlisted-requires-clause-stage
unlisted-requires-clause-stage c = (tally_stage _ _ c.in-Some.number.now c.in-Some.stage.now c.in-Some.ensures.steps c.loop-number.invariant.4).few

pub loop-number-preserved : goal.loop-number-preserved
loop-number-preserved c =
    tally_more c.args.places.now _ _ _ c.in-Some.number.now c.in-Some.stage.now c.loop-number.tally.tasks c.loop-number.tally.unlisted c.from.result c.unlisted.result c.in-Some.ensures.steps c.loop-number.invariant
    (c.from.ensures ∙ c.tasks-tasks.ensures.value) (omega (arith, c.from.ensures, c.tasks-tasks.ensures.few))
    (λ given has. c.unlisted.ensures.count given has ∙ ap (unlisted given c.in-Some.number.now) (sym c.from.ensures)) (omega (arith, c.from.ensures, c.unlisted.ensures.few))
