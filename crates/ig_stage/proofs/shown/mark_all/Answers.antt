use Rattle.std.proofs.Common.{◌<◌, length, get_or, ap, subst, ◌∙◌}
use Rattle.ig_stage.specs.Shown.{listed_dir}
use Rattle.ig_stage.proofs.Flags.{marks_more}
use Rattle.ig_stage.proofs.shown.mark_all.Goals as goal

pub loop-name-preserved : goal.loop-name-preserved
loop-name-preserved c =
    marks_more (listed_dir c.args.listing) c.args.number c.args.given.now c.loop-name.name-index c.name-item.result _ _ _
    (subst (λ xs. c.loop-name.name-index < length xs) c.as_slice-name-items.ensures c.loop-name-test.true)
    (c.name-item.is ∙ ap (λ xs. get_or xs c.loop-name.name-index c.name-item.result) c.as_slice-name-items.ensures)
    c.loop-name.invariant c.mark_name.ensures
