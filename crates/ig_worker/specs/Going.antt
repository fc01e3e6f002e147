-- What a step of a worker that is not over comes to.
use Rattle.std.specs.Prelude.{◌≡◌, ◌⊎◌, ℕ, Bool, Result, Ok, Err}
use Rattle.ig_defs.specs.declared.step.Act.{Act}
use Rattle.ig_defs.specs.Files.{Files}
use Rattle.ig_defs.specs.Log.{Log}
use Rattle.ig_worker.specs.declared.error.WorkerError.{WorkerError}
use Rattle.ig_worker.specs.declared.error.WorkerError.TheVariants.{Memory}
use Rattle.ig_worker.specs.declared.next.Next.{Next}
use Rattle.ig_worker.specs.declared.notes.Notes.{Notes}
use Rattle.ig_worker.specs.declared.phase.Phase.{Phase}
use Rattle.ig_worker.specs.declared.phase.Phase.TheVariants.{Broken}
use Rattle.ig_worker.specs.declared.turn.Turn.{Turn}
use Rattle.ig_worker.specs.Left.{IsShort}
use Rattle.ig_worker.specs.Led.{Goes, Led}
use Rattle.ig_worker.specs.Moves.{Leads}
use Rattle.ig_worker.specs.Places.{stands}
use Rattle.ig_worker.specs.Steps.{Rests}

-- a step without a call gives this
abbrev pub RestsBy : Notes → Phase → Notes → Result Next WorkerError → Type 0
RestsBy before phase now (Ok next) = Rests before phase (stands now next.phase) (Ok next.turn)
RestsBy before phase now (Err e) = ⊥

-- a call was made from this place, or none was needed
abbrev pub GoesOn : (Bool → Files → Act → Type 0) → ℕ → ℕ → Notes → Phase → Log → Log → Notes → Result Next WorkerError → Type 0
GoesOn allows from to before phase old new now result = Led allows old new (Leads from to before phase) before now result ⊎ ((new ≡ old) × RestsBy before phase now result)

-- and it leads there
abbrev pub GoesTo : ℕ → ℕ → Notes → Phase → Notes → Next → Type 0
GoesTo from to before phase now next = Goes (Leads from to before phase) now next ⊎ Rests before phase (stands now next.phase) (Ok next.turn)

-- What a step comes to, by where it goes on: a copy of an error is kept, or want of memory where none can be made.
pub record IsBrokenBy (e : WorkerError) (phase : Phase) : Type 0 where
  pub kept : WorkerError
  pub is : phase ≡ Broken kept
  pub error : (kept ≡ e) ⊎ (kept ≡ Memory)

abbrev pub IsSettled : Result Next WorkerError → Phase → Result Turn WorkerError → Type 0
IsSettled (Ok next) phase result = IsShort phase × (phase ≡ next.phase) × (result ≡ Ok next.turn)
IsSettled (Err e) phase result = IsBrokenBy e phase × (result ≡ Err e)
