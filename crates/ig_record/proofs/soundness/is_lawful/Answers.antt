use Rattle.std.proofs.Common.{sym, ◌∙◌}
use Rattle.ig_record.specs.SoundStages.{HasLayers-from}
use Rattle.ig_record.proofs.soundness.is_lawful.Goals as goal
use Rattle.ig_record.proofs.soundness.is_lawful.Goals.{then-fits, else-fits}

pub has_shape-requires-clause-few : goal.has_shape-requires-clause-few
has_shape-requires-clause-few c =
    elim c.if-fits.branch [
      | then-fits w ↦
          (HasLayers-from c.args.stage.now (sym c.fits.ensures.value ∙ w.if-fits.true) (sym w.has_layers.ensures ∙ sym w.value-is ∙ c.if-has_layers.true)).row.few
      | else-fits w ↦ let value = w.value-is in let here = c.if-has_layers.true in let other = w.if-fits.false in absurd cc
    ]

pub has_shape-requires-clause-sides : goal.has_shape-requires-clause-sides
has_shape-requires-clause-sides c =
    elim c.if-fits.branch [
      | then-fits w ↦
          (HasLayers-from c.args.stage.now (sym c.fits.ensures.value ∙ w.if-fits.true) (sym w.has_layers.ensures ∙ sym w.value-is ∙ c.if-has_layers.true)).row.unit
      | else-fits w ↦ let value = w.value-is in let here = c.if-has_layers.true in let other = w.if-fits.false in absurd cc
    ]
