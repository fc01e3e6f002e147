use Rattle.std.proofs.Common.{ap, refl, sym, ◌∙◌}
use Rattle.std.proofs.lemmas.Result.{err_from_is_err_and}
use Rattle.ig_meaning.specs.Plan.{info_path}
use Rattle.ig_stage.proofs.Lookings.{looks_forgotten, looks_stopped}
use Rattle.ig_stage.proofs.Makings.{found_source, missed_source}
use Rattle.ig_stage.proofs.making.read_source.Goals as goal

pub returns-in_err-path-clause-looks : goal.returns-in_err-path-clause-looks
returns-in_err-path-clause-looks g c = λ tells earlier planned_as request same.
    let p = err_from_is_err_and c.from_residual.result c.from_residual.ensures.1 in
    looks_forgotten _ _ _ _ _ _ p.1 p.2

pub returns-in_err-bytes-clause-looks : goal.returns-in_err-bytes-clause-looks
returns-in_err-bytes-clause-looks g c = λ tells earlier planned_as request same.
    let p = err_from_is_err_and c.from_residual-in_err-bytes.result c.from_residual-in_err-bytes.ensures.1 in
    looks_stopped _ _ _ _ _ c.in_err-bytes.field-0.0 _ _ p.1 p.2 refl (c.in_err-bytes.ensures.went tells)

pub returns-in-Some-clause-looks : goal.returns-in-Some-clause-looks
returns-in-Some-clause-looks g c = λ tells earlier planned_as request same.
    let w = c.in_ok-bytes.ensures.went tells in
    found_source _ earlier planned_as _ _ request _ _ (c.in_ok-path.ensures ∙ ap info_path (sym same)) w.0 (sym c.in-Some.is ∙ w.1)

pub returns-in-None-clause-looks : goal.returns-in-None-clause-looks
returns-in-None-clause-looks g c = λ tells earlier planned_as request same.
    let w = c.in_ok-bytes.ensures.went tells in
    missed_source _ earlier planned_as _ _ request _ (c.in_ok-path.ensures ∙ ap info_path (sym same)) w.0 (sym c.in-None.is ∙ w.1)
