-- A worker's course goes on.
use Rattle.std.proofs.Common.{◌≤◌, ℕ, Bool, true, false, nat_le, List, [], ◌∷◌, ◌++◌, refl, subst, arith}
use Rattle.ig_defs.specs.declared.queue_name.QueueName.{QueueName}
use Rattle.ig_defs.specs.declared.step.Act.{Act}
use Rattle.ig_defs.specs.Files.{Files}
use Rattle.ig_defs.specs.Log.{Log}
use Rattle.ig_worker.specs.declared.notes.Notes.{Notes}
use Rattle.ig_worker.specs.declared.phase.Phase.{Phase}
use Rattle.ig_worker.specs.declared.phase.Phase.TheVariants.{Starting, Learning, Asking, Trying, Fetching, Running, Finishing, Closing, ListingDead, ListingDone, Telling, Over, Broken}
use Rattle.ig_worker.specs.declared.plan.Plan.{Plan}
use Rattle.ig_worker.specs.Course.{Course, fresh}
use Rattle.ig_worker.specs.Knows.{Knows}
use Rattle.ig_worker.specs.Moves.{Leads, LeasesName, ListsQueue, Move, TriesBy, TriesName}
use Rattle.ig_worker.specs.Places.{State}
use Rattle.ig_worker.specs.Steps.{Called}

-- ---- the clock's answer before a call may be an earlier one
module _ (from mid to : ℕ) (before : from ≤ mid) (notes : Notes) (m : Move) where
  lists_earlier : ListsQueue mid to notes m → ListsQueue from to notes m
  lists_earlier h = record { now = h.now; after = omega (arith, before, h.after); before = h.before; given = h.given; names = h.names; are = h.are; is = h.is }

  leases_earlier : (name : QueueName) (names : List QueueName) → LeasesName mid to notes name names m → LeasesName from to notes name names m
  leases_earlier name names h = record { now = h.now; after = omega (arith, before, h.after); before = h.before; there = h.there; is = h.is }

  tries_by_earlier : (often : Bool) (name : QueueName) (names : List QueueName) → TriesBy often mid to notes name names m → TriesBy often from to notes name names m
  tries_by_earlier true name names h = h
  tries_by_earlier false name names h = leases_earlier name names h

  tries_earlier : (names : List QueueName) → TriesName mid to notes names m → TriesName from to notes names m
  tries_earlier [] h = absurd h
  tries_earlier (name ∷ names) h = (h.0, tries_by_earlier (nat_le notes.plan.tries name.attempt) name names h.1)

  leads_earlier : (phase : Phase) → Leads mid to notes phase m → Leads from to notes phase m
  leads_earlier Starting h = h
  leads_earlier (Learning unread later) h = h
  leads_earlier Asking h = lists_earlier h
  leads_earlier (Trying names) h = tries_earlier names h
  leads_earlier (Fetching name paths given names) h = h
  leads_earlier (Running name given names) h = h
  leads_earlier (Finishing name outputs names) h = h
  leads_earlier Closing h = h
  leads_earlier ListingDead h = h
  leads_earlier (ListingDone letters) h = h
  leads_earlier (Telling letters count) h = h
  leads_earlier (Over end) h = h
  leads_earlier (Broken error) h = h

module _ (allows : Bool → Files → Act → Type 0) where
  called_earlier : (from mid to : ℕ) → from ≤ mid → (s : State) (old new : Log) (m : Move) → Called allows mid to s old new m → Called allows from to s old new m
  called_earlier from mid to before s old new m h =
      record { answered = h.answered; leads = leads_earlier from mid to before s.notes m s.phase h.leads }

  -- ---- a course
  -- time may pass after it
  pub course_later : (from : ℕ) (s : State) (old : Log) (ms : List Move) (to later : ℕ) (next : State) (new : Log) → to ≤ later → Course allows from s old ms to next new
      → Course allows from s old ms later next new
  course_later from s old [] to later next new after h = (omega (arith, after, h.0), h.1, h.2)
  course_later from s old (m ∷ ms) to later next new after h = (h.0, h.1, h.2, h.3, course_later h.0 m.next h.1 ms to later next new after h.4)

  -- and then one more call
  pub course_then : (from : ℕ) (s : State) (old : Log) (ms : List Move) (to later : ℕ) (place : State) (mid new : Log) (m : Move) → to ≤ later → Course allows from s old ms to place mid
      → Called allows to later place mid new m → Course allows from s old (ms ++ m ∷ []) later m.next new
  course_then from s old [] to later place mid new m after h called =
      let there : Called allows to later s old new m = subst (λ p. Called allows to later p old new m) h.1 (subst (λ log. Called allows to later place log new m) h.2 called) in
      (later, new, omega (arith, after, h.0), called_earlier from to later h.0 s old new m there, (omega arith, refl, refl))
  course_then from s old (first ∷ ms) to later place mid new m after h called =
      (h.0, h.1, h.2, h.3, course_then h.0 first.next h.1 ms to later place mid new m after h.4 called)

-- ---- at first
-- a fresh worker knows nothing
pub fresh_knows : (plan : Plan) (files : Files) → Knows (fresh plan) files
fresh_knows plan files = record {
  stages = λ kept among. absurd (omega (arith, among.1));
  removals = λ listed. absurd cc;
  leases = λ l among. absurd (omega (arith, among.1));
}
