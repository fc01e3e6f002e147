use Rattle.std.proofs.Common.{List, None, Some, Ok, length, sym, ap, subst, ◌∙◌}
use Rattle.std.proofs.lemmas.Result.{err_from_is_err_and}
use Rattle.ig_space.specs.declared.task_id.TaskId.{TaskId}
use Rattle.ig_cutout.specs.declared.types.Input.{Input}
use Rattle.ig_worker.specs.declared.turn.Line.TheVariants as line
use Rattle.ig_worker.specs.declared.turn.Turn.TheVariants.{Said}
use Rattle.ig_worker.specs.Fit.{IsFitPhase}
use Rattle.ig_worker.specs.Places.{fetching}
use Rattle.ig_worker.proofs.Fetches.{fetching-fits, fetching-on, goes_fetching, led_fetching, led_unread, moves_fetching, next_is, one_more}
use Rattle.ig_worker.proofs.Leading.{led_before, led_error, led_in_vain}
use Rattle.ig_worker.proofs.tasks.fetch.Goals as goal

pub returns-in_err-path-clause-went : goal.returns-in_err-path-clause-went
returns-in_err-path-clause-went g c = λ tells.
    let p = err_from_is_err_and c.from_residual.result c.from_residual.ensures.1 in
    led_error _ _ _ _ _ _ _ _ _ p.1 p.2 (led_before _ _ _ c.args.notes.now c.args.notes.now)

pub returns-in_err-bytes-clause-went : goal.returns-in_err-bytes-clause-went
returns-in_err-bytes-clause-went g c = λ tells.
    let next = next_is c.args.paths c.as_slice.result.now (length c.args.given) c.len.result c.in_ok-path.path c.index-as_slice-len.result c.as_slice.ensures c.len.ensures c.index-as_slice-len.is c.in_ok-path.ensures c.requires.fits.more in
    let p = err_from_is_err_and c.from_residual-in_err-bytes.result c.from_residual-in_err-bytes.ensures.1 in
    led_error _ _ _ _ _ _ _ _ _ p.1 p.2
    (led_unread c.args.notes.now c.args.name c.args.paths c.args.given c.args.names c.in_ok-path.path next _ _ _ c.in_err-bytes.field-0.0 (c.in_err-bytes.ensures.answered tells))

pub returns-in_default-clause-goes : goal.returns-in_default-clause-goes
returns-in_default-clause-goes g c =
    let next = next_is c.args.paths c.as_slice.result.now (length c.args.given) c.len.result c.in_ok-path.path c.index-as_slice-len.result c.as_slice.ensures c.len.ensures c.index-as_slice-len.is c.in_ok-path.ensures c.requires.fits.more in
    goes_fetching c.args.notes.now c.args.name c.args.paths c.args.given c.args.names c.in_ok-path.path next None _ c.next_try.ensures
    (ap (λ (id : TaskId). Ok (Said (line.Missing id c.in_ok-path.path))) (sym c.task_of-id.ensures))

pub returns-in_default-clause-went : goal.returns-in_default-clause-went
returns-in_default-clause-went g c = λ tells.
    let next = next_is c.args.paths c.as_slice.result.now (length c.args.given) c.len.result c.in_ok-path.path c.index-as_slice-len.result c.as_slice.ensures c.len.ensures c.index-as_slice-len.is c.in_ok-path.ensures c.requires.fits.more in
    led_fetching c.args.notes.now c.args.name c.args.paths c.args.given c.args.names c.in_ok-path.path next _ _ _ c.in_ok-bytes.field-0 None
    (record { phase = c.next_try.result; turn = Said (line.Missing c.task_of-id.result c.in_ok-path.path) }) c.in_default.is (c.in_ok-bytes.ensures.answered tells) c.next_try.ensures
    (ap (λ (id : TaskId). Ok (Said (line.Missing id c.in_ok-path.path))) (sym c.task_of-id.ensures))

pub returns-in_err-push-clause-went : goal.returns-in_err-push-clause-went
returns-in_err-push-clause-went g c = λ tells.
    let next = next_is c.args.paths c.as_slice.result.now (length c.args.given) c.len.result c.in_ok-path.path c.index-as_slice-len.result c.as_slice.ensures c.len.ensures c.index-as_slice-len.is c.in_ok-path.ensures c.requires.fits.more in
    let p = err_from_is_err_and c.from_residual-in_err-push.result c.from_residual-in_err-push.ensures.1 in
    led_error _ _ _ _ _ _ _ _ _ p.1 p.2
    (led_in_vain _ _ _ _ c.args.notes.now c.args.notes.now (moves_fetching c.args.notes.now c.args.name c.args.paths c.args.given c.args.names c.in_ok-path.path next _ _ _ _ (c.in_ok-bytes.ensures.answered tells)))

pub returns-clause-fits : goal.returns-clause-fits
returns-clause-fits g c =
    let next = next_is c.args.paths c.as_slice.result.now (length c.args.given) c.len.result c.in_ok-path.path c.index-as_slice-len.result c.as_slice.ensures c.len.ensures c.index-as_slice-len.is c.in_ok-path.ensures c.requires.fits.more in
    subst (IsFitPhase c.args.notes.now) (sym (c.fetching.ensures ∙ ap (λ (more : List Input). fetching c.args.name c.args.paths more c.args.names) c.in_ok-push.ensures.ok))
    (fetching-fits c.args.notes.now c.args.name c.args.paths _ c.args.names (one_more c.args.notes.now c.args.name c.args.paths c.args.given c.args.names c.in_ok-path.path next c.in-Some.bytes c.requires.fits))

pub returns-clause-goes : goal.returns-clause-goes
returns-clause-goes g c =
    let next = next_is c.args.paths c.as_slice.result.now (length c.args.given) c.len.result c.in_ok-path.path c.index-as_slice-len.result c.as_slice.ensures c.len.ensures c.index-as_slice-len.is c.in_ok-path.ensures c.requires.fits.more in
    goes_fetching c.args.notes.now c.args.name c.args.paths c.args.given c.args.names c.in_ok-path.path next (Some c.in-Some.bytes) _
    (c.fetching.ensures ∙ ap (λ (more : List Input). fetching c.args.name c.args.paths more c.args.names) c.in_ok-push.ensures.ok)
    (fetching-on c.args.notes.now c.args.name c.args.paths _ c.args.names)

pub returns-clause-went : goal.returns-clause-went
returns-clause-went g c = λ tells.
    let next = next_is c.args.paths c.as_slice.result.now (length c.args.given) c.len.result c.in_ok-path.path c.index-as_slice-len.result c.as_slice.ensures c.len.ensures c.index-as_slice-len.is c.in_ok-path.ensures c.requires.fits.more in
    led_fetching c.args.notes.now c.args.name c.args.paths c.args.given c.args.names c.in_ok-path.path next _ _ _ c.in_ok-bytes.field-0 (Some c.in-Some.bytes)
    _ c.in-Some.is (c.in_ok-bytes.ensures.answered tells)
    (c.fetching.ensures ∙ ap (λ (more : List Input). fetching c.args.name c.args.paths more c.args.names) c.in_ok-push.ensures.ok)
    (fetching-on c.args.notes.now c.args.name c.args.paths _ c.args.names)
