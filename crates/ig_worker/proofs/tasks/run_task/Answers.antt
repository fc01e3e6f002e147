use Rattle.std.proofs.Common.{List, Result, IfOk, sym, subst, ◌∙◌}
use Rattle.std.proofs.lemmas.Result.{err_from_is_err_and}
use Rattle.ig_cutout.specs.declared.types.Output.{Output}
use Rattle.ig_worker.specs.declared.turn.Why.{Why}
use Rattle.ig_task.specs.Wanted.{AreOutputs}
use Rattle.ig_worker.specs.Acting.{BuriesRefused, outcome_of}
use Rattle.ig_worker.specs.Moves.{HandsOver, IsOutcome, Makes, Refuses, RunsTask}
use Rattle.ig_worker.proofs.Leading.{goes_if, led_as, led_before, led_error}
use Rattle.ig_worker.proofs.Runs.{known-sound}
use Rattle.ig_worker.proofs.tasks.run_task.Goals as goal

pub run_over-requires-clause-sound : goal.run_over-requires-clause-sound
run_over-requires-clause-sound g c = known-sound c.args.notes.now.known c.requires.notes.known c.args.name.stage c.in-Some.stage.now (sym c.in-Some.ensures)

pub returns-in_err-outputs-clause-went : goal.returns-in_err-outputs-clause-went
returns-in_err-outputs-clause-went g c = λ tells.
    let p = err_from_is_err_and c.from_residual.result c.from_residual.ensures.1 in
    led_error _ _ _ _ _ _ _ _ _ p.1 (p.2 ∙ c.in_err-outputs.ensures.memory) (led_before _ _ _ c.args.notes.now c.args.notes.now)

pub hand_over-requires-clause-fits : goal.hand_over-requires-clause-fits
hand_over-requires-clause-fits g c =
    let are = subst (λ (r : Result (List Output) Why). IfOk r (AreOutputs c.in-Some.stage.now c.args.name.task)) c.in-Ok.is c.in_ok-outputs.ensures.are in
    record {
      stage = c.in-Some.stage.now;
      leased = record { fits = c.requires.fits.leased.fits; stage = sym c.in-Some.ensures; below = c.requires.fits.leased.below };
      done = 0;
      paths = are.paths;
      texts = are.texts;
      ahead = c.requires.fits.ahead;
    }

pub returns-in-Ok-clause-goes : goal.returns-in-Ok-clause-goes
returns-in-Ok-clause-goes g c =
    let comes = subst (λ (r : Result (List Output) Why). IsOutcome c.in-Some.stage.now c.args.name.task c.args.given (outcome_of r)) c.in-Ok.is c.in_ok-outputs.ensures.comes in
    goes_if (λ m. HandsOver c.args.notes.now c.args.name c.in-Ok.outputs c.args.names m) _
    (λ m h. record { stage = c.in-Some.stage.now; is = sym c.in-Some.ensures; outcome = Makes c.in-Ok.outputs; comes = comes; acts = h }) c.args.notes.now c.hand_over.result c.hand_over.ensures.goes

pub returns-in-Ok-clause-went : goal.returns-in-Ok-clause-went
returns-in-Ok-clause-went g c = λ tells.
    let comes = subst (λ (r : Result (List Output) Why). IsOutcome c.in-Some.stage.now c.args.name.task c.args.given (outcome_of r)) c.in-Ok.is c.in_ok-outputs.ensures.comes in
    led_as _ _ _ (λ m. HandsOver c.args.notes.now c.args.name c.in-Ok.outputs c.args.names m) (λ m. RunsTask c.args.notes.now c.args.name c.args.given c.args.names m)
    (λ m h. record { stage = c.in-Some.stage.now; is = sym c.in-Some.ensures; outcome = Makes c.in-Ok.outputs; comes = comes; acts = h }) c.args.notes.now c.args.notes.now c.hand_over.result (c.hand_over.ensures.went tells)

pub returns-in-Err-clause-goes : goal.returns-in-Err-clause-goes
returns-in-Err-clause-goes g c =
    let comes = subst (λ (r : Result (List Output) Why). IsOutcome c.in-Some.stage.now c.args.name.task c.args.given (outcome_of r)) c.in-Err.is c.in_ok-outputs.ensures.comes in
    goes_if (λ m. BuriesRefused c.args.notes.now c.args.name c.in-Err.cause c.args.names m) _
    (λ m h. record { stage = c.in-Some.stage.now; is = sym c.in-Some.ensures; outcome = Refuses c.in-Err.cause; comes = comes; acts = h }) c.args.notes.now c.refuse.result c.refuse.ensures.goes

pub returns-in-Err-clause-went : goal.returns-in-Err-clause-went
returns-in-Err-clause-went g c = λ tells.
    let comes = subst (λ (r : Result (List Output) Why). IsOutcome c.in-Some.stage.now c.args.name.task c.args.given (outcome_of r)) c.in-Err.is c.in_ok-outputs.ensures.comes in
    led_as _ _ _ (λ m. BuriesRefused c.args.notes.now c.args.name c.in-Err.cause c.args.names m) (λ m. RunsTask c.args.notes.now c.args.name c.args.given c.args.names m)
    (λ m h. record { stage = c.in-Some.stage.now; is = sym c.in-Some.ensures; outcome = Refuses c.in-Err.cause; comes = comes; acts = h }) c.args.notes.now c.args.notes.now c.refuse.result (c.refuse.ensures.went tells)
