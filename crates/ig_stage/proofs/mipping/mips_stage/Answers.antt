use Rattle.std.proofs.Common.{Some, ap, refl, subst, sym, unwrap_or, ◌∙◌}
use Rattle.ig_record.specs.declared.stage.InfoFile.{InfoFile}
use Rattle.ig_stage.specs.Mips.{AreAsWide}
use Rattle.ig_stage.specs.Requests.{shown_request}
use Rattle.ig_stage.proofs.AddedMips.{are-new, new-fit}
use Rattle.ig_stage.proofs.Drafts.{resolution_of_fitting, sides_of_fitting}
use Rattle.ig_stage.proofs.MipDrafts.{mips-draft, mips-planned}
use Rattle.ig_stage.proofs.MipKeys.{can-double-often}
use Rattle.ig_stage.proofs.MipSteps.{wide-mips}
use Rattle.ig_stage.proofs.mipping.mips_stage.Goals as goal

pub mips_of-requires : goal.mips_of-requires
mips_of-requires c =
    let scale = c.args.scale.now in
    can-double-often c.args.request.now.levels scale.resolution c.requires.limits.few_levels (resolution_of_fitting scale c.requires.fits)

pub mips_info-requires-clause-width : goal.mips_info-requires-clause-width
mips_info-requires-clause-width c =
    let scales = c.args.info.now.scales in
    let scale = c.args.scale.now in
    subst (AreAsWide scales) (sym c.in_ok-mips.ensures)
    (wide-mips c.args.request.now.levels scale scales (record { place = c.args.request.now.mip; scale = scale; found = c.requires.found; same = refl }))

pub places_of-requires-clause-fit : goal.places_of-requires-clause-fit
places_of-requires-clause-fit c =
    let put = c.in_ok-put.ensures.info in
    new-fit c.args.info.now.scales c.in_ok-mips.mips (are-new c.args.info.now put.0 c.in_ok-mips.mips put.1)

pub before_mips-requires-clause-chunk : goal.before_mips-requires-clause-chunk
before_mips-requires-clause-chunk c = sides_of_fitting c.args.scale.now c.requires.fits

pub returns-clause-planned : goal.returns-clause-planned
returns-clause-planned c =
    let put = c.in_ok-put.ensures.info in
    mips-planned (shown_request c.args.request.now) c.args.scale.now c.args.info.now put.0 c.in_ok-mips.mips _ c.in_ok-mips.ensures put.1 refl refl c.in_ok-place_of.ensures
    c.in_ok-places_of.ensures (c.box_size.ensures.value ∙ ap (unwrap_or c.args.request.now.shape) c.before_mips.ensures.value) (ap Some put.2)

pub returns-clause-draft : goal.returns-clause-draft
returns-clause-draft c =
    let put = c.in_ok-put.ensures.info in
    mips-draft _ c.args.request.now c.args.scale.now c.args.info.now put.0 c.in_ok-mips.mips c.in_ok-put.put c.requires.limits c.requires.halves c.requires.fits c.requires.found
    c.in_ok-mips.ensures put.1 refl refl c.in_ok-place_of.ensures c.in_ok-places_of.ensures refl (ap (λ (file : InfoFile). file.path) put.2) c.in_ok-put.ensures.text
    c.box_size.ensures.some c.box_size.ensures.small
