use Rattle.std.proofs.Common.{refl, sym}
use Rattle.std.proofs.lemmas.Result.{err_from_is_err_and}
use Rattle.ig_stage.proofs.FreeLayers.{listed_empty}
use Rattle.ig_stage.proofs.Lookings.{looks_listed_memory, looks_stopped}
use Rattle.ig_stage.proofs.NewLayers.{dir_empty, dir_listed, empty_from_none}
use Rattle.ig_stage.proofs.making.check_dir.Goals as goal

pub returns-in_err-given-clause-looks : goal.returns-in_err-given-clause-looks
returns-in_err-given-clause-looks g c = λ tells earlier planned_as s rest.
    let p = err_from_is_err_and c.from_residual.result c.from_residual.ensures.1 in
    looks_stopped _ _ _ _ _ c.in_err-given.field-0.0 _ _ p.1 p.2 refl (c.in_err-given.ensures.went tells)

pub returns-in_err-name_in-in-Some-clause-looks : goal.returns-in_err-name_in-in-Some-clause-looks
returns-in_err-name_in-in-Some-clause-looks g c = λ tells earlier planned_as s rest.
    let p = err_from_is_err_and c.from_residual-in_err-name_in-in-Some.result c.from_residual-in_err-name_in-in-Some.ensures.1 in
    looks_listed_memory _ _ _ _ _ _ _ _ _ p.1 p.2 (c.in_ok-given.ensures.went tells) (c.in_ok-given.ensures.lists tells)

pub returns-in-Some-clause-looks : goal.returns-in-Some-clause-looks
returns-in-Some-clause-looks g c = λ tells earlier planned_as s rest.
    dir_listed _ earlier planned_as _ _ s c.args.dir.now rest c.in_ok-given.given c.in-Some.name.now _ (sym c.in-Some.ensures) c.in_ok-name_in-in-Some.ensures (c.in_ok-given.ensures.went tells)
    (c.in_ok-given.ensures.lists tells)

pub returns-clause-looks : goal.returns-clause-looks
returns-clause-looks g c = λ tells earlier planned_as s rest.
    dir_empty _ earlier planned_as _ _ s c.args.dir.now rest c.in_ok-given.given (empty_from_none _ c.in-None.ensures) (c.in_ok-given.ensures.went tells) (c.in_ok-given.ensures.lists tells)

pub returns-clause-empty : goal.returns-clause-empty
returns-clause-empty g c = λ tells q stages knows.
    listed_empty _ q stages _ _ c.args.dir.now c.in_ok-given.given (empty_from_none _ c.in-None.ensures) knows (c.in_ok-given.ensures.went tells)
