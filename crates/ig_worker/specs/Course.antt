-- The course of a worker: its own steps, one after the other, and how it ends.
use Rattle.std.specs.Prelude.{◌≡◌, ◌≤◌, ◌==◌, ℕ, Bool, if◌then◌else◌, List, [], ◌∷◌, ◌++◌, Option, None, Some}
use Rattle.ig_defs.specs.declared.step.Act.{Act}
use Rattle.ig_defs.specs.Files.{Files}
use Rattle.ig_defs.specs.Log.{Log}
use Rattle.ig_worker.specs.declared.notes.Notes.{Notes}
use Rattle.ig_worker.specs.declared.phase.Phase.{Phase}
use Rattle.ig_worker.specs.declared.phase.Phase.TheVariants.{Starting, Trying, Telling, Over}
use Rattle.ig_worker.specs.declared.plan.Plan.{Plan}
use Rattle.ig_worker.specs.declared.turn.End.{End}
use Rattle.ig_worker.specs.declared.turn.End.TheVariants.{Letters, Spent}
use Rattle.ig_worker.specs.declared.turn.Line.{Line}
use Rattle.ig_worker.specs.Moves.{Move}
use Rattle.ig_worker.specs.Places.{State, stands}
use Rattle.ig_worker.specs.Steps.{Called}

-- These moves lead a worker from one place and log to another, one after the other, while others take steps before each. The
-- clock's last answers are `from` at first and `to` at last.
abbrev pub Course : (Bool → Files → Act → Type 0) → ℕ → State → Log → List Move → ℕ → State → Log → Type 0
Course allows from s old [] to next new = (from ≤ to) × (next ≡ s) × (new ≡ old)
Course allows from s old (m ∷ ms) to next new = (between : ℕ) × (mid : Log) × (from ≤ between) × Called allows from between s old mid m × Course allows between m.next mid ms to next new

-- a worker of this plan that has done nothing yet
abbrev pub fresh : Plan → State
fresh plan = stands (record { plan = plan; known = []; at = 0; tried = 0 }) Starting

-- what it has to say of these moves
abbrev pub said_of : List Move → List Line
said_of [] = []
said_of (m ∷ ms) = m.said ++ said_of ms

-- how a worker ends that stands here and makes no call any more
abbrev pub end_at : Notes → Phase → Option End
end_at notes (Over end) = Some end
end_at notes (Telling letters count) = Some (Letters count)
end_at notes (Trying names) = if notes.tried == notes.plan.turns then Some (Spent notes.plan.turns) else None
end_at notes phase = None
