use Rattle.std.proofs.Common.{◌<◌, ◌^◌, refl}
use Rattle.std.proofs.lemmas.List.Elements.{All-rest}
use Rattle.std.proofs.lemmas.Result.{err_from_is_err_and}
use Rattle.ig_worker.proofs.RecordReads.{fit_noted, goes_to_learnt, knowing, led_to_learnt, led_unlearnt, led_unnoted, noted_stages, taken}
use Rattle.ig_worker.proofs.learning.learn.Goals as goal

pub returns-in_err-stage-clause-went : goal.returns-in_err-stage-clause-went
returns-in_err-stage-clause-went g c = λ tells.
    let p = err_from_is_err_and c.from_residual.result c.from_residual.ensures.1 in
    led_unlearnt _ _ _ c.args.notes.now c.args.unread c.unwrap-number.result c.take.new.self c.args.then
    (taken c.args.unread c.take.new.self c.take.result c.unwrap-number.result c.take.ensures.first c.unwrap-number.ensures)
    c.args.notes.now c.from_residual.result c.in_err-stage.field-0.0 _ p.1 p.2 (c.in_err-stage.ensures.given tells)

pub returns-in_err-note-clause-went : goal.returns-in_err-note-clause-went
returns-in_err-note-clause-went g c = λ tells.
    let p = err_from_is_err_and c.from_residual-in_err-note.result c.from_residual-in_err-note.ensures.1 in
    led_unnoted _ _ _ c.args.notes.now c.args.unread c.unwrap-number.result c.take.new.self c.args.then
    (taken c.args.unread c.take.new.self c.take.result c.unwrap-number.result c.take.ensures.first c.unwrap-number.ensures)
    (knowing c.args.notes.now c.note.new.self) c.in_ok-stage.stage c.from_residual-in_err-note.result _ p.1 p.2 (c.in_ok-stage.ensures.given tells)

pub returns-in_err-phase-clause-went : goal.returns-in_err-phase-clause-went
returns-in_err-phase-clause-went g c = λ tells.
    let p = err_from_is_err_and c.from_residual-in_err-phase.result c.from_residual-in_err-phase.ensures.1 in
    led_unnoted _ _ _ c.args.notes.now c.args.unread c.unwrap-number.result c.take.new.self c.args.then
    (taken c.args.unread c.take.new.self c.take.result c.unwrap-number.result c.take.ensures.first c.unwrap-number.ensures)
    (knowing c.args.notes.now c.note.new.self) c.in_ok-stage.stage c.from_residual-in_err-phase.result _ p.1 p.2 (c.in_ok-stage.ensures.given tells)

pub learning-requires-clause-known : goal.learning-requires-clause-known
learning-requires-clause-known g c =
    noted_stages c.args.notes.now.known c.note.new.self c.args.unread c.unwrap-number.result c.take.new.self c.in_ok-stage.stage c.requires.notes.known c.requires.fits.1
    (taken c.args.unread c.take.new.self c.take.result c.unwrap-number.result c.take.ensures.first c.unwrap-number.ensures)
    c.in_ok-stage.ensures.sound c.in_ok-note.ensures.ok c.in_ok-note.ensures.ascending

pub learning-requires-clause-few : goal.learning-requires-clause-few
learning-requires-clause-few g c =
    All-rest (λ n. n < 10 ^ 4) c.unwrap-number.result c.take.new.self c.args.unread (taken c.args.unread c.take.new.self c.take.result c.unwrap-number.result c.take.ensures.first c.unwrap-number.ensures) c.requires.fits.1

pub returns-in_err-phase-clause-notes : goal.returns-in_err-phase-clause-notes
returns-in_err-phase-clause-notes g c =
    fit_noted c.args.notes.now c.note.new.self c.requires.notes
    (noted_stages c.args.notes.now.known c.note.new.self c.args.unread c.unwrap-number.result c.take.new.self c.in_ok-stage.stage c.requires.notes.known c.requires.fits.1
    (taken c.args.unread c.take.new.self c.take.result c.unwrap-number.result c.take.ensures.first c.unwrap-number.ensures)
    c.in_ok-stage.ensures.sound c.in_ok-note.ensures.ok c.in_ok-note.ensures.ascending)

pub returns-clause-notes : goal.returns-clause-notes
returns-clause-notes g c =
    fit_noted c.args.notes.now c.note.new.self c.requires.notes
    (noted_stages c.args.notes.now.known c.note.new.self c.args.unread c.unwrap-number.result c.take.new.self c.in_ok-stage.stage c.requires.notes.known c.requires.fits.1
    (taken c.args.unread c.take.new.self c.take.result c.unwrap-number.result c.take.ensures.first c.unwrap-number.ensures)
    c.in_ok-stage.ensures.sound c.in_ok-note.ensures.ok c.in_ok-note.ensures.ascending)

pub returns-clause-fits : goal.returns-clause-fits
returns-clause-fits g c = c.in_ok-phase.ensures.fits (knowing c.args.notes.now c.note.new.self) refl c.requires.fits.2

pub returns-clause-goes : goal.returns-clause-goes
returns-clause-goes g c =
    let found = c.in_ok-stage.ensures.found in
    goes_to_learnt c.args.notes.now c.args.unread c.unwrap-number.result c.take.new.self c.args.then found.0 c.in_ok-stage.stage c.note.new.self c.in_ok-phase.phase
    (taken c.args.unread c.take.new.self c.take.result c.unwrap-number.result c.take.ensures.first c.unwrap-number.ensures) found.1 c.in_ok-note.ensures.ok c.in_ok-phase.ensures.phase

pub returns-clause-went : goal.returns-clause-went
returns-clause-went g c = λ tells.
    led_to_learnt _ _ _ c.args.notes.now c.args.unread c.unwrap-number.result c.take.new.self c.args.then
    (taken c.args.unread c.take.new.self c.take.result c.unwrap-number.result c.take.ensures.first c.unwrap-number.ensures)
    c.in_ok-stage.stage c.note.new.self c.in_ok-phase.phase (c.in_ok-stage.ensures.given tells) c.in_ok-note.ensures.ok c.in_ok-phase.ensures.phase
