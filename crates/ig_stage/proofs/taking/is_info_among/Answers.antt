use Rattle.std.proofs.Common.{refl, sym, ◌∙◌}
use Rattle.ig_record.specs.Columns.{output_dirs}
use Rattle.ig_stage.proofs.InfoPaths.{info-among, no-info}
use Rattle.ig_stage.proofs.taking.is_info_among.Goals as goal

pub returns-in-Some : goal.returns-in-Some
returns-in-Some c =
    c.writes_in.ensures
    ∙ info-among c.args.info.now c.in-Some.layer.now (output_dirs c.args.stage.now) (sym c.as_bytes.ensures.value ∙ c.in-Some.ensures.some)

pub returns-in-None : goal.returns-in-None
returns-in-None c = no-info c.args.info.now (output_dirs c.args.stage.now) (λ layer is. c.in-None.ensures.none refl layer (c.as_bytes.ensures.value ∙ is))
