use Rattle.std.proofs.Common.{arith, ◌<◌, ◌++◌, ◌∷◌, [], length, get_or, take, ◌∙◌, ap, sym, subst}
use Rattle.std.proofs.lemmas.List.{map-append}
use Rattle.std.proofs.lemmas.Result.{err_from_is_err_and}
use Rattle.ig_cutout.specs.Inputs.{path_of, paths_of}
use Rattle.ig_stage.proofs.InputReads.{fails_to_read, not_read, read_in_vain, read_next, take_more}
use Rattle.ig_stage.proofs.running.read_inputs.Goals as goal

pub returns-in_err-found-clause-did : goal.returns-in_err-found-clause-did
returns-in_err-found-clause-did g c = λ tells.
    let p = err_from_is_err_and c.from_residual-in_err-found.result c.from_residual-in_err-found.ensures.1 in
    fails_to_read _ _ _ _ _ _ p.1 p.2
    (not_read _ _ _ _ _ (c.loop-path.invariant.3 tells) c.path-item.result (subst (λ xs. c.loop-path.path-index < length xs) c.as_slice-path-items.ensures c.loop-path-test.true)
    (c.path-item.is ∙ ap (λ xs. get_or xs c.loop-path.path-index c.path-item.result) c.as_slice-path-items.ensures)
    _ c.in_ok-path.path c.in_err-found.field-0.0 (c.in_err-found.ensures.did tells c.loop-path.invariant.0))

pub returns-in_err-push-clause-did : goal.returns-in_err-push-clause-did
returns-in_err-push-clause-did g c = λ tells.
    let p = err_from_is_err_and c.from_residual-in_err-push.result c.from_residual-in_err-push.ensures.1 in
    fails_to_read _ _ _ _ _ _ p.1 p.2
    (read_in_vain _ _ _ _ _ (c.loop-path.invariant.3 tells) c.path-item.result (subst (λ xs. c.loop-path.path-index < length xs) c.as_slice-path-items.ensures c.loop-path-test.true)
    (c.path-item.is ∙ ap (λ xs. get_or xs c.loop-path.path-index c.path-item.result) c.as_slice-path-items.ensures)
    _ c.in_ok-path.path c.in_ok-found.found c.in_ok-path.ensures (c.in_ok-found.ensures.did tells c.loop-path.invariant.0))

pub loop-path-preserved : goal.loop-path-preserved
loop-path-preserved g c =
    let below = subst (λ xs. c.loop-path.path-index < length xs) c.as_slice-path-items.ensures c.loop-path-test.true in
    let is = c.path-item.is ∙ ap (λ xs. get_or xs c.loop-path.path-index c.path-item.result) c.as_slice-path-items.ensures in (
      c.read.ensures.rule ∙ c.loop-path.invariant.0,
      omega (arith, c.loop-path.invariant.1, c.in_ok-found.ensures.cause.later),
      ap paths_of c.in_ok-push.ensures.ok ∙ map-append path_of c.loop-path.inputs (record { path = c.in_ok-path.path; found = c.in_ok-found.found } ∷ [])
          ∙ ap (λ paths. paths ++ c.in_ok-path.path ∷ []) c.loop-path.invariant.2 ∙ ap (λ p. take c.loop-path.path-index c.args.paths.now ++ p ∷ []) c.in_ok-path.ensures
          ∙ sym (take_more c.args.paths.now c.loop-path.path-index c.path-item.result below is),
      λ tells.
          read_next _ _ _ _ _ (c.loop-path.invariant.3 tells) c.path-item.result below is _ c.in_ok-path.path c.in_ok-found.found _ c.in_ok-path.ensures (c.in_ok-found.ensures.did tells c.loop-path.invariant.0) c.in_ok-push.ensures.ok,
    )
