use Rattle.std.proofs.Common.{[], ◌∷◌, ◌++◌, ap, refl, ◌∙◌}
use Rattle.ig_meaning.specs.Plan.{place_in}
use Rattle.ig_record.specs.declared.stage.InfoFile.{InfoFile}
use Rattle.ig_stage.proofs.Drafts.{copy-draft, sides_of_fitting}
use Rattle.ig_stage.proofs.planning.plan_copy.Goals as goal

pub twice-requires : goal.twice-requires
twice-requires c = sides_of_fitting c.in_ok-new.new c.in_ok-info.ensures.fits

pub returns-clause-draft : goal.returns-clause-draft
returns-clause-draft c =
    copy-draft _ c.args.request.now c.args.scale.now c.in_ok-new.new c.in_ok-place_of.field-0 c.in_ok-info.info c.requires.limits c.requires.dest c.requires.fits c.in_ok-info.ensures.fits
    c.in_ok-new.ensures refl refl c.in_ok-place_of-2.ensures (c.in_ok-push.ensures.ok ∙ ap (λ dests. dests ++ c.in_ok-place_of.field-0 ∷ []) c.new-dests.ensures)
    (c.in_ok-place_of.ensures ∙ ap (λ layer. place_in layer c.in_ok-new.new) c.new_layer.ensures.value) refl
    (ap (λ (file : InfoFile). file.path) c.in_ok-info.ensures.info.2) c.in_ok-info.ensures.text c.box_size.ensures.some c.box_size.ensures.small
