use Rattle.std.proofs.lemmas.Result.{err_from_is_err_and}
use Rattle.ig_stage.proofs.NewLayers.{found_none, found_some, info_absent, info_present, info_stopped, no_info}
use Rattle.ig_stage.proofs.Lookings.{looks_read_memory}
use Rattle.ig_stage.proofs.making.check_info.Goals as goal

pub returns-clause-looks : goal.returns-clause-looks
returns-clause-looks g c = λ tells earlier planned_as.
    let w = c.in_ok-has.ensures.went tells in
    info_absent _ earlier planned_as _ _ c.args.stage.now c.in-Some.info.now (found_some _ _ _ _ c.fresh_info.ensures c.in-Some.is) _ c.if-branch.false w.0 w.1

pub returns-in_default-clause-looks : goal.returns-in_default-clause-looks
returns-in_default-clause-looks g c = λ tells earlier planned_as. no_info _ earlier planned_as _ c.args.stage.now (found_none _ _ _ c.fresh_info.ensures c.in_default.is)

pub returns-in_err-has-clause-looks : goal.returns-in_err-has-clause-looks
returns-in_err-has-clause-looks g c = λ tells earlier planned_as.
    let p = err_from_is_err_and c.from_residual.result c.from_residual.ensures.1 in
    info_stopped _ earlier planned_as _ _ c.args.stage.now c.in-Some.info.now (found_some _ _ _ _ c.fresh_info.ensures c.in-Some.is) c.in_err-has.field-0.0 _ _ p.1 p.2 (c.in_err-has.ensures.went tells)

pub returns-in_err-copy-clause-looks : goal.returns-in_err-copy-clause-looks
returns-in_err-copy-clause-looks g c = λ tells earlier planned_as.
    let p = err_from_is_err_and c.from_residual-in_err-copy.result c.from_residual-in_err-copy.ensures.1 in
    looks_read_memory _ _ _ _ _ _ _ _ p.1 p.2 (c.in_ok-has.ensures.went tells).0

pub returns-then-branch-clause-looks : goal.returns-then-branch-clause-looks
returns-then-branch-clause-looks g c = λ tells earlier planned_as.
    let w = c.in_ok-has.ensures.went tells in
    info_present _ earlier planned_as _ _ c.args.stage.now c.in-Some.info.now (found_some _ _ _ _ c.fresh_info.ensures c.in-Some.is) _ _ c.if-branch.true c.in_ok-copy.ensures w.0 w.1
