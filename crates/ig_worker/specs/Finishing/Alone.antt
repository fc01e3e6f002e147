-- A worker by itself finishes all tasks of its queue, where nothing keeps it from that.
use Rattle.std.specs.Prelude.{◌≡◌, ◌≤◌, ◌<◌, ◌^◌, ◌==◌, ◌+◌, ℕ, false, if◌then◌else◌, List, [], ◌∷◌, length, None, Some, refl}
use Rattle.std.proofs.Common.{arith, inl, ap, sym, subst, ◌∙◌}
use Rattle.std.proofs.lemmas.Bool.{ne_eqb}
use Rattle.std.proofs.lemmas.Option.{none-some, same_Some}
use Rattle.ig_defs.specs.Files.{Files}
use Rattle.ig_defs.specs.Log.{Log, files_of}
use Rattle.ig_defs.specs.TurnLaws.{prefix_of, prefix_then}
use Rattle.ig_defs.specs.Turns.{Idled, IsPrefix}
use Rattle.ig_rule.specs.Prefixes.{legal_sound}
use Rattle.ig_rule.specs.declared.role.Role.{Role}
use Rattle.ig_rule.specs.Sound.{Legal, Sound}
use Rattle.ig_task.specs.Facts.{stage_reader}
use Rattle.ig_task.specs.Kinds.{kinds}
use Rattle.ig_worker.specs.declared.notes.Notes.{Notes}
use Rattle.ig_worker.specs.declared.phase.Phase.{Phase}
use Rattle.ig_worker.specs.declared.phase.Phase.TheVariants.{Starting, Learning, Asking, Trying, Fetching, Running, Finishing, Closing, ListingDead, ListingDone, Telling, Over, Broken}
use Rattle.ig_worker.specs.declared.plan.Plan.{Plan}
use Rattle.ig_worker.specs.declared.turn.End.{End}
use Rattle.ig_worker.specs.declared.turn.End.TheVariants.{Finished, Spent}
use Rattle.ig_worker.specs.Finishing.Calls.{call_alone, parts_own}
use Rattle.ig_worker.specs.Finishing.Done.{done_goes}
use Rattle.ig_worker.specs.Finishing.Going.{GoesOn, GoesOnAt, StaysGoing}
use Rattle.ig_worker.specs.Finishing.Jobs.{run_in_order}
use Rattle.ig_worker.specs.Finishing.Listings.{closing_goes, dead_goes, learning_goes, starting_goes}
use Rattle.ig_worker.specs.Finishing.Rounds.{asking_goes}
use Rattle.ig_worker.specs.Finishing.Tasks.{fetching_goes, finishing_goes, running_goes}
use Rattle.ig_worker.specs.Finishing.Tries.{trying_goes}
pub use Rattle.ig_worker.specs.Finishing.CanFinish.{IsOnItsWay}
use Rattle.ig_worker.specs.Finishing.CanFinish.{AreOwn, CanFinish, stage_at}
use Rattle.ig_worker.specs.Course.{Course, end_at, fresh}
use Rattle.ig_worker.specs.Ending.Course.{course_later, course_prefix}
use Rattle.ig_worker.specs.Ending.Places.{call_stays, course_keeps, fresh_stays}
use Rattle.ig_worker.specs.Fit.{IsFitPhase}
use Rattle.ig_worker.specs.Keeping.Lists.{none_in}
use Rattle.ig_worker.specs.Moves.{Move}
use Rattle.ig_worker.specs.Places.{State, stands}
use Rattle.ig_worker.specs.Plans.{HasLimits}
use Rattle.ig_worker.specs.Ending.Standing.{AllowsFor, Stays}

-- ---- at first
-- A worker that has done nothing yet is on the way to its end.
pub fresh_goes : (plan : Plan) (at : ℕ) (files : Files) → CanFinish plan at files → GoesOn at files (fresh plan) files
fresh_goes plan at files h =
    let turns = h.turns in
    record {
      kept = record { records = λ n. refl; sealed = h.sealed; no_letters = h.no_letters; known = λ r among. absurd (none_in r among) };
      goes = (
        h.names,
        record {
          only = h.only;
          left = record { in_order = h.in_order; only = λ name among. inl (h.only name among); each = λ name ahead. inl (h.each name ahead); due = h.due; tries = h.tries; turns = omega (arith, turns) };
          can = record { files = files; agree = λ path apart. refl; run = run_in_order (stage_at plan.queue files) h.names files h.run };
        },
      );
    }

-- ---- each move
place_goes : (notes : Notes) (phase : Phase) → StaysGoing (stands notes phase)
place_goes notes Starting = starting_goes notes
place_goes notes (Learning unread later) = learning_goes notes unread later
place_goes notes Asking = asking_goes notes
place_goes notes (Trying names) = trying_goes notes names
place_goes notes (Fetching name paths given names) = fetching_goes notes name paths given names
place_goes notes (Running name given names) = running_goes notes name given names
place_goes notes (Finishing name outputs names) = finishing_goes notes name outputs names
place_goes notes Closing = closing_goes notes
place_goes notes ListingDead = dead_goes notes
place_goes notes (ListingDone letters) = done_goes notes letters
place_goes notes (Telling letters count) = λ at from to first old new m later fit sound knows c goes. absurd c.leads
place_goes notes (Over end) = λ at from to first old new m later fit sound knows c goes. absurd c.leads
place_goes notes (Broken error) = λ at from to first old new m later fit sound knows c goes. absurd c.leads

-- Each move keeps it on the way.
pub goes_on : (s : State) → StaysGoing s
goes_on s = place_goes s.notes s.phase

-- ---- a course
-- So does a course during which nobody else takes a step.
along : (role : Role) (plan : Plan) (at : ℕ) (first : Files) (from : ℕ) (s : State) (old : Log) (ms : List Move) (to : ℕ) (next : State) (last new : Log) → at ≤ from → to < 10 ^ 10 → Stays plan from s old
    → GoesOn at first s (files_of old) → Course (AllowsFor role plan) from s old ms to next last → IsPrefix last new → AreOwn old new → GoesOn at first next (files_of last)
along role plan at first from s old [] to next last new later small stays goes c grows own =
    subst (λ (log : Log). GoesOn at first next (files_of log)) (sym c.2) (subst (λ (t : State). GoesOn at first t (files_of old)) (sym c.1) goes)
along role plan at first from s old (m ∷ ms) to next last new later small stays goes c grows own =
    let allows = AllowsFor role plan in
    let after = c.2 in
    let rest = course_later allows c.0 m.next c.1 ms to next last c.4 in
    let more = prefix_then (course_prefix allows c.0 m.next c.1 ms to next last c.4) grows in
    let parts = parts_own old c.1 new (prefix_of c.3.answered.acted) more own in
    let sound : Sound stage_reader s.notes.plan.queue (files_of old)
    = subst (λ (p : Plan). Sound stage_reader p.queue (files_of old)) (sym stays.place.of_plan) (legal_sound stage_reader kinds plan.queue old stays.legal) in
    let alone = call_alone role plan from c.0 s old c.1 m stays c.3 parts.0 in
    along role plan at first c.0 m.next c.1 ms to next last new (omega (arith, later, after)) small (call_stays role plan from c.0 s old c.1 m c.2 (omega (arith, rest, small)) stays c.3)
    (goes_on s at from c.0 first (files_of old) (files_of c.1) m later stays.place.fit sound stays.known alone goes) c.4 grows parts.1

-- ---- the end
not_spent : (tried turns long : ℕ) → tried + long ≤ turns → 0 < long → tried ≡ turns → ⊥
not_spent tried turns long within some same = absurd (omega (arith, within, some, same))

ends_finished : (at : ℕ) (first now : Files) (notes : Notes) (phase : Phase) → IsFitPhase notes phase → GoesOnAt at first now notes phase → (e : End) → end_at notes phase ≡ Some e → (tasks : ℕ) × (e ≡ Finished tasks)
ends_finished at first now notes (Over end) fit goes e is = (goes.0, sym (same_Some end e is) ∙ goes.1)
ends_finished at first now notes (Trying names) fit goes e is =
    let turns = notes.plan.turns in
    let other : (notes.tried == turns) ≡ false = ne_eqb notes.tried turns (not_spent notes.tried turns (length names) goes.1.left.turns fit.0) in
    absurd (none-some e (sym (ap (λ b. if b then Some (Spent turns) else None) other) ∙ is))
ends_finished at first now notes (Telling letters count) fit goes e is = absurd goes
ends_finished at first now notes Starting fit goes e is = absurd (none-some e is)
ends_finished at first now notes (Learning unread later) fit goes e is = absurd (none-some e is)
ends_finished at first now notes Asking fit goes e is = absurd (none-some e is)
ends_finished at first now notes (Fetching name paths given names) fit goes e is = absurd (none-some e is)
ends_finished at first now notes (Running name given names) fit goes e is = absurd (none-some e is)
ends_finished at first now notes (Finishing name outputs names) fit goes e is = absurd (none-some e is)
ends_finished at first now notes Closing fit goes e is = absurd (none-some e is)
ends_finished at first now notes ListingDead fit goes e is = absurd (none-some e is)
ends_finished at first now notes (ListingDone letters) fit goes e is = absurd (none-some e is)
ends_finished at first now notes (Broken error) fit goes e is = absurd goes

-- Where nothing keeps it from that, the log is legal, and nobody else takes a step, a worker that ends has finished.
pub alone_finishes : (role : Role) (plan : Plan) (from : ℕ) (old : Log) (ms : List Move) (to : ℕ) (next : State) (last new : Log) → HasLimits plan → to < 10 ^ 10 → Legal stage_reader plan.queue old
    → CanFinish plan from (files_of old) → Course (AllowsFor role plan) from (fresh plan) old ms to next last → Idled (AllowsFor role plan) last new → AreOwn old new → IsOnItsWay next
alone_finishes role plan from old ms to next last new limits small legal can c idled own =
    let first = files_of old in
    let goes = along role plan from first from (fresh plan) old ms to next last new (omega arith) small (fresh_stays plan from old limits legal) (fresh_goes plan from first can) c
    (prefix_of idled) own in
    let stays = course_keeps role plan from old ms to next last limits small legal c in
    record {
      finishes = ends_finished from first (files_of last) next.notes next.phase stays.place.fit.phase goes.goes;
      never_broken = λ error e. subst (λ (p : Phase). GoesOnAt from first (files_of last) next.notes p) e goes.goes;
    }
