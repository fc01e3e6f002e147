-- What one call on a store comes to, and where it leads.
use Rattle.std.specs.Prelude.{◌≡◌, ◌⊎◌, Bool, Result, Ok, Err}
use Rattle.ig_defs.specs.declared.step.Act.{Act}
use Rattle.ig_defs.specs.Files.{Files}
use Rattle.ig_defs.specs.Log.{Log}
use Rattle.ig_defs.specs.Answers.{IsChange}
use Rattle.ig_defs.specs.Turns.{Idled}
use Rattle.ig_worker.specs.declared.error.WorkerError.{WorkerError}
use Rattle.ig_worker.specs.declared.error.WorkerError.TheVariants.{Failed, Memory}
use Rattle.ig_worker.specs.declared.next.Next.{Next}
use Rattle.ig_worker.specs.declared.notes.Notes.{Notes}
use Rattle.ig_worker.specs.declared.phase.Phase.TheVariants.{Broken}
use Rattle.ig_worker.specs.Moves.{Move}
use Rattle.ig_worker.specs.Places.{stands}
use Rattle.ig_worker.specs.Steps.{Made, answer_of}

-- By the result: a move of this sort was made, which leads there; or it leads to this error; or the store failed, where the call was
-- not made, or was made all the same and changed the files; or memory ran out, before the call or after it.
abbrev pub Led : (Bool → Files → Act → Type 0) → Log → Log → (Move → Type 0) → Notes → Notes → Result Next WorkerError → Type 0
Led allows old new leads before now (Ok next) = (m : Move) × Made allows old new leads m × (m.next ≡ stands now next.phase) × (answer_of m.said next.phase ≡ Ok next.turn)
Led allows old new leads before now (Err Failed) = Idled allows old new ⊎ ((m : Move) × Made allows old new leads m × IsChange m.call m.answer)
Led allows old new leads before now (Err Memory) = Idled allows old new ⊎ ((m : Move) × Made allows old new leads m)
Led allows old new leads before now (Err error) = (m : Move) × Made allows old new leads m × (m.next ≡ stands before (Broken error))

-- A move of this sort, made or not, leads there: what is known of a store that doesn't tell its log too.
pub record Goes (sort : Move → Type 0) (now : Notes) (to : Next) : Type 0 where
  pub move : Move
  pub leads : sort move
  pub next : move.next ≡ stands now to.phase
  pub turn : answer_of move.said to.phase ≡ Ok to.turn
