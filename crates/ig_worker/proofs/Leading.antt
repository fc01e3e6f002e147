-- What a call on a store comes to leads on.
use Rattle.std.proofs.Common.{◌≡◌, ℕ, Bool, List, Option, Result, Ok, Err, IfOk, sym, ap, subst, ◌∙◌, inl, inr}
use Rattle.ig_defs.specs.declared.step.Act.{Act}
use Rattle.ig_defs.specs.Files.{Files}
use Rattle.ig_defs.specs.Log.{Log}
use Rattle.ig_defs.specs.TurnLaws.{idled_nothing}
use Rattle.ig_worker.specs.declared.error.WorkerError.{WorkerError}
use Rattle.ig_worker.specs.declared.error.WorkerError.TheVariants.{Absent, BadRecord, Failed, Memory}
use Rattle.ig_worker.specs.declared.next.Next.{Next}
use Rattle.ig_worker.specs.declared.notes.Notes.{Notes}
use Rattle.ig_worker.specs.declared.turn.Line.{Line}
use Rattle.ig_defs.specs.Answers.{Answer, Found, IsAnswered, Names, Put, Reads, Shifts, WasThere}
use Rattle.ig_worker.specs.Steps.{Made}
use Rattle.ig_worker.specs.Led.{Goes, Led}
use Rattle.ig_worker.specs.Moves.{Move, moves}
use Rattle.ig_worker.specs.Places.{State}

module _ (allows : Bool → Files → Act → Type 0) (old new : Log) (sort : Move → Type 0) where
  abbrev pub AMove : Type 0
  AMove = (m : Move) × Made allows old new sort m

  -- ---- moves of a call, by what it found
  pub read_made : (path : List ℕ) → ((found : Option (List ℕ)) → (next : State) × (said : List Line) × sort (moves (Reads path) (Found found) next said))
      → (answer : Answer) → IsAnswered allows old new (Reads path) answer → AMove
  read_made path each (Names given) a = absurd a.takes
  read_made path each (Found found) a = let e = each found in (moves (Reads path) (Found found) e.0 e.1, record { answered = a; leads = e.2 })
  read_made path each Put a = absurd a.takes
  read_made path each (WasThere there) a = absurd a.takes

  pub shift_made : (from to : List ℕ) → ((there : Bool) → (next : State) × (said : List Line) × sort (moves (Shifts from to) (WasThere there) next said))
      → (answer : Answer) → IsAnswered allows old new (Shifts from to) answer → AMove
  shift_made from to each (Names given) a = absurd a.takes
  shift_made from to each (Found found) a = absurd a.takes
  shift_made from to each Put a = absurd a.takes
  shift_made from to each (WasThere there) a = let e = each there in (moves (Shifts from to) (WasThere there) e.0 e.1, record { answered = a; leads = e.2 })

  module _ (before now : Notes) where
    -- it leads there
    pub led_on : (to : Next) (g : Goes sort now to) → IsAnswered allows old new g.move.call g.move.answer → Led allows old new sort before now (Ok to)
    led_on to g a = (g.move, record { answered = a; leads = g.leads }, g.next, g.turn)

    -- memory ran out after the call
    pub led_in_vain : AMove → Led allows old new sort before now (Err Memory)
    led_in_vain made = inr made

-- memory ran out before the call
pub led_before : (allows : Bool → Files → Act → Type 0) (log : Log) (sort : Move → Type 0) (before now : Notes) → Led allows log log sort before now (Err Memory)
led_before allows log sort before now = inl (idled_nothing allows log)

-- an error that is passed on
pub led_error : (allows : Bool → Files → Act → Type 0) (old new : Log) (sort : Move → Type 0) (before now : Notes) (result : Result Next WorkerError) (e made : WorkerError) → result ≡ Err made → made ≡ e
    → Led allows old new sort before now (Err e) → Led allows old new sort before now result
led_error allows old new sort before now result e made is same led = subst (Led allows old new sort before now) (sym (is ∙ ap Err same)) led

-- ---- moves of one sort are moves of another
made_as : (allows : Bool → Files → Act → Type 0) (old new : Log) (sort other : Move → Type 0) → ((m : Move) → sort m → other m) → (m : Move) → Made allows old new sort m → Made allows old new other m
made_as allows old new sort other into m made = record { answered = made.answered; leads = into m made.leads }

pub led_as : (allows : Bool → Files → Act → Type 0) (old new : Log) (sort other : Move → Type 0) → ((m : Move) → sort m → other m) → (before now : Notes)
    → (result : Result Next WorkerError) → Led allows old new sort before now result → Led allows old new other before now result
led_as allows old new sort other into before now (Ok to) (m, made, next, turn) = (m, made_as allows old new sort other into m made, next, turn)
led_as allows old new sort other into before now (Err Failed) (inl idled) = inl idled
led_as allows old new sort other into before now (Err Failed) (inr (m, made, changes)) = inr (m, made_as allows old new sort other into m made, changes)
led_as allows old new sort other into before now (Err Memory) (inl idled) = inl idled
led_as allows old new sort other into before now (Err Memory) (inr (m, made)) = inr (m, made_as allows old new sort other into m made)
led_as allows old new sort other into before now (Err (Absent path)) (m, made, next) = (m, made_as allows old new sort other into m made, next)
led_as allows old new sort other into before now (Err (BadRecord path member)) (m, made, next) = (m, made_as allows old new sort other into m made, next)

pub goes_as : (sort other : Move → Type 0) → ((m : Move) → sort m → other m) → (now : Notes) (to : Next) → Goes sort now to → Goes other now to
goes_as sort other into now to g = record { move = g.move; leads = into g.move g.leads; next = g.next; turn = g.turn }

pub goes_if : (sort other : Move → Type 0) → ((m : Move) → sort m → other m) → (now : Notes) (result : Result Next WorkerError) → IfOk result (Goes sort now) → IfOk result (Goes other now)
goes_if sort other into now (Ok to) g = goes_as sort other into now to g
goes_if sort other into now (Err e) g = tt
