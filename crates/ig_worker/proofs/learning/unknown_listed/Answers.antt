use Rattle.std.proofs.Common.{◌<◌, ◌++◌, [], length, get_or, ap, subst, ◌∙◌}
use Rattle.ig_worker.specs.Stages.{with_unknown}
use Rattle.ig_worker.proofs.ListedStages.{listed_more}
use Rattle.ig_worker.proofs.learning.unknown_listed.Goals as goal

pub loop-name-preserved : goal.loop-name-preserved
loop-name-preserved c = (
  listed_more c.args.known.now c.args.names.now c.loop-name.name-index c.name-item.result _ c.loop-name.unread _
      (subst (λ xs. c.loop-name.name-index < length xs) c.as_slice-name-items.ensures c.loop-name-test.true)
      (c.name-item.is ∙ ap (λ xs. get_or xs c.loop-name.name-index c.name-item.result) c.as_slice-name-items.ensures)
      c.loop-name.invariant.0
      (c.in_ok-add_unknown.ensures.added ∙ ap (λ stage. c.loop-name.unread ++ with_unknown c.args.known.now stage []) c.stage_named.ensures.stage),
  c.add_unknown.ensures.few,
)
