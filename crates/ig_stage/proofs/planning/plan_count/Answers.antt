use Rattle.std.proofs.Common.{Some, ap, refl}
use Rattle.ig_stage.proofs.Drafts.{count-draft, sides_of_fitting}
use Rattle.ig_stage.proofs.planning.plan_count.Goals as goal

pub twice-requires : goal.twice-requires
twice-requires c = sides_of_fitting c.args.scale.now c.requires.fits

pub returns-clause-draft : goal.returns-clause-draft
returns-clause-draft c =
    count-draft _ c.args.request.now c.args.scale.now c.requires.limits c.requires.counts c.requires.fits refl (ap Some c.in_ok-scratch_of.ensures)
    c.in_ok-place_of.ensures c.new.ensures refl c.box_size.ensures.some c.box_size.ensures.small
