-- A task is handed over, or its name is moved.
use Rattle.std.proofs.Common.{◌≡◌, ◌+◌, ℕ, Bool, List, [], ◌∷◌, map, drop, Option, None, Ok, Err, refl, sym, ap, subst, ◌∙◌, inl, inr}
use Rattle.std.specs.List.{All}
use Rattle.std.proofs.lemmas.List.{drop-drop}
use Rattle.std.proofs.lemmas.List.Elements.{All-drop}
use Rattle.ig_defs.specs.declared.error.StoreError.{StoreError}
use Rattle.ig_defs.specs.declared.error.StoreError.TheVariants as store
use Rattle.ig_defs.specs.declared.queue_name.QueueName.{QueueName}
use Rattle.ig_defs.specs.declared.step.Act.{Act}
use Rattle.ig_defs.specs.Files.{Files}
use Rattle.ig_defs.specs.Log.{Log}
use Rattle.ig_cutout.specs.declared.types.Output.{Output}
use Rattle.ig_record.specs.Columns.{paths_of}
use Rattle.ig_task.specs.Wanted.{path_of}
use Rattle.ig_worker.specs.declared.next.Next.{Next}
use Rattle.ig_worker.specs.declared.notes.Notes.{Notes}
use Rattle.ig_worker.specs.declared.phase.Phase.{Phase}
use Rattle.ig_worker.specs.declared.phase.Phase.TheVariants.{Finishing}
use Rattle.ig_worker.specs.declared.turn.Line.{Line}
use Rattle.ig_worker.specs.declared.turn.Turn.TheVariants.{On}
use Rattle.ig_worker.specs.Acting.{WasCalled}
use Rattle.ig_defs.specs.Answers.{Answer, Answered, Found, IsAnswered, IsChange, Names, Put, Removes, Shifts, WasThere}
use Rattle.ig_worker.specs.Errors.{worker_error_of}
use Rattle.ig_task.specs.Wanted.{HasText}
use Rattle.ig_worker.specs.Fit.{IsFinishing}
use Rattle.ig_worker.specs.Steps.{answer_of, Made}
use Rattle.ig_worker.specs.Led.{Goes, Led}
use Rattle.ig_worker.specs.Moves.{HandsOver, Move, call_by, call_for, moves}
use Rattle.ig_worker.specs.Places.{stands}
use Rattle.ig_worker.proofs.Leading.{led_on, shift_made}

-- ---- a name is moved, and where that leads is told by whether it was there
module _ (notes : Notes) (first last : List ℕ) (place : Bool → Phase) (said : Bool → List Line) where
  abbrev pub Shifted : Move → Type 0
  Shifted m = (there : Bool) × (m ≡ moves (Shifts first last) (WasThere there) (stands notes (place there)) (said there))

  pub goes_shifted : (there : Bool) (to : Next) → to.phase ≡ place there → answer_of (said there) (place there) ≡ Ok to.turn → Goes Shifted notes to
  goes_shifted there to is says = record {
    move = moves (Shifts first last) (WasThere there) (stands notes (place there)) (said there);
    leads = (there, refl);
    next = ap (stands notes) (sym is);
    turn = subst (λ phase. answer_of (said there) phase ≡ Ok to.turn) (sym is) says;
  }

  pub moves_shifted : (allows : Bool → Files → Act → Type 0) (old new : Log) (answer : Answer) → IsAnswered allows old new (Shifts first last) answer → (m : Move) × Made allows old new Shifted m
  moves_shifted allows old new answer a =
      shift_made allows old new Shifted first last (λ there. (stands notes (place there), said there, (there, refl))) answer a

  pub led_shifted : (allows : Bool → Files → Act → Type 0) (old new : Log) (before : Notes) (there : Bool) (to : Next) → IsAnswered allows old new (Shifts first last) (WasThere there)
      → to.phase ≡ place there → answer_of (said there) (place there) ≡ Ok to.turn → Led allows old new Shifted before notes (Ok to)
  unfolding goes_shifted
  led_shifted allows old new before there to a is says = led_on allows old new Shifted before notes to (goes_shifted there to is says) a

  -- the call failed, and the name was moved all the same
  shifted_all_the_same : (allows : Bool → Files → Act → Type 0) (old new : Log) (answer : Answer) → IsAnswered allows old new (Shifts first last) answer → IsChange (Shifts first last) answer
      → (m : Move) × Made allows old new Shifted m × IsChange m.call m.answer
  shifted_all_the_same allows old new (WasThere there) a changes =
      (moves (Shifts first last) (WasThere there) (stands notes (place there)) (said there), record { answered = a; leads = (there, refl) }, changes)
  shifted_all_the_same allows old new (Names given) a changes = absurd changes
  shifted_all_the_same allows old new (Found found) a changes = absurd changes
  shifted_all_the_same allows old new Put a changes = absurd changes

  pub led_unshifted : (allows : Bool → Files → Act → Type 0) (old new : Log) (before : Notes) (e : StoreError) → Answered allows old new (Shifts first last) (Err e)
      → Led allows old new Shifted before notes (Err (worker_error_of e))
  led_unshifted allows old new before store.Failed (inl idled) = inl idled
  led_unshifted allows old new before store.Failed (inr made) = inr (shifted_all_the_same allows old new made.answer made.answered made.changes)
  led_unshifted allows old new before store.Memory idled = inl idled

-- ---- a removal
pub called_removed : (allows : Bool → Files → Act → Type 0) (old new : Log) (path : List ℕ) (text : Option (List ℕ)) (there : Bool) → text ≡ None → IsAnswered allows old new (Removes path) (WasThere there)
    → (answer : Answer) × IsAnswered allows old new (call_by path text) answer
called_removed allows old new path text there none a =
    (WasThere there, subst (λ (t : Option (List ℕ)). IsAnswered allows old new (call_by path t) (WasThere there)) (sym none) a)

-- ---- the next output is settled
module _ (notes : Notes) (name : QueueName) (outputs : List Output) (names : List QueueName) (output : Output) (rest : List Output) (are : outputs ≡ output ∷ rest) where
  goes_on : Goes (λ m. HandsOver notes name (output ∷ rest) names m) notes (record { phase = Finishing name rest names; turn = On })
  goes_on = record { move = moves (call_for output) Put (stands notes (Finishing name rest names)) []; leads = (Put, refl); next = refl; turn = refl }

  pub goes_settled : Goes (λ m. HandsOver notes name outputs names m) notes (record { phase = Finishing name rest names; turn = On })
  goes_settled = subst (λ (os : List Output). Goes (λ m. HandsOver notes name os names m) notes (record { phase = Finishing name rest names; turn = On })) (sym are) goes_on

  pub led_settled : (allows : Bool → Files → Act → Type 0) (old new : Log) → (answer : Answer) × IsAnswered allows old new (call_for output) answer
      → Led allows old new (λ m. HandsOver notes name outputs names m) notes notes (Ok (record { phase = Finishing name rest names; turn = On }))
  led_settled allows old new (answer, a) =
      subst (λ (os : List Output). Led allows old new (λ m. HandsOver notes name os names m) notes notes (Ok (record { phase = Finishing name rest names; turn = On }))) (sym are)
      (moves (call_for output) answer (stands notes (Finishing name rest names)) [], record { answered = a; leads = (answer, refl) }, refl, refl)

  unsettled : (allows : Bool → Files → Act → Type 0) (old new : Log) (e : StoreError) → Answered allows old new (call_for output) (Err e)
      → Led allows old new (λ m. HandsOver notes name (output ∷ rest) names m) notes notes (Err (worker_error_of e))
  unsettled allows old new store.Failed (inl idled) = inl idled
  unsettled allows old new store.Failed (inr made) =
      inr (moves (call_for output) made.answer (stands notes (Finishing name rest names)) [], record { answered = made.answered; leads = (made.answer, refl) }, made.changes)
  unsettled allows old new store.Memory idled = inl idled

  pub led_unsettled : (allows : Bool → Files → Act → Type 0) (old new : Log) (e : StoreError) → WasCalled allows old new (call_for output) (Err e)
      → Led allows old new (λ m. HandsOver notes name outputs names m) notes notes (Err (worker_error_of e))
  led_unsettled allows old new e a =
      subst (λ (os : List Output). Led allows old new (λ m. HandsOver notes name os names m) notes notes (Err (worker_error_of e))) (sym are) (unsettled allows old new e a)

  pub still_finishing : IsFinishing notes name outputs names → IsFinishing notes name rest names
  still_finishing f = record {
    stage = f.stage;
    leased = f.leased;
    done = f.done + 1;
    paths = ap (drop 1) (sym (ap (map path_of) are) ∙ f.paths) ∙ drop-drop 1 f.done (paths_of f.stage name.task);
    texts = subst (λ (os : List Output). All (HasText f.stage) os) (ap (drop 1) are) (All-drop (HasText f.stage) 1 outputs f.texts);
    ahead = f.ahead;
  }
