-- Where a worker stands, and where it stands next.
use Rattle.std.specs.Prelude.{ℕ, zero, suc, ◌+◌, ◌==◌, Bool, if◌then◌else◌, true, false, List, [], ◌∷◌, ◌++◌, length, Option, None, Some}
use Rattle.ig_space.specs.declared.task_id.TaskId.{TaskId}
use Rattle.ig_defs.specs.declared.queue_name.QueueName.{QueueName}
use Rattle.ig_cutout.specs.declared.types.Input.{Input}
use Rattle.ig_record.specs.declared.stage.Stage.{Stage}
use Rattle.ig_record.specs.Answers.{record_fault}
use Rattle.ig_record.specs.Reading.{record_in}
use Rattle.ig_record.specs.Columns.{inputs_of}
use Rattle.ig_meaning.specs.QueueMaking.{record_path}
use Rattle.ig_worker.specs.declared.error.WorkerError.TheVariants.{Absent, BadRecord}
use Rattle.ig_worker.specs.declared.notes.Notes.{Notes}
use Rattle.ig_worker.specs.declared.phase.Phase.{Phase}
use Rattle.ig_worker.specs.declared.phase.Phase.TheVariants.{Learning, Asking, Trying, Fetching, Running, Closing, ListingDead, Telling, Over, Broken}
use Rattle.ig_worker.specs.declared.phase.Then.{Then}
use Rattle.ig_worker.specs.declared.phase.Then.TheVariants.{Ask, Try, Count}
use Rattle.ig_worker.specs.declared.turn.End.{End}
use Rattle.ig_worker.specs.declared.turn.End.TheVariants.{Finished, Waiting}
use Rattle.ig_worker.specs.Stages.{Known, stage_in, with_stage, open_names, all_unlisted, all_tasks}

-- What contracts see of a worker: what it has noted, and where it stands.
pub record State : Type 0 where
  pub notes : Notes
  pub phase : Phase

abbrev pub stands : Notes → Phase → State
stands notes phase = record { notes = notes; phase = phase }

-- ---- the notes after a step
-- the clock has answered
abbrev pub asked : Notes → ℕ → Notes
asked notes now = record { plan = notes.plan; known = notes.known; at = now; tried = notes.tried }

-- one more name was tried
abbrev pub tried_one : Notes → Notes
tried_one notes = record { plan = notes.plan; known = notes.known; at = notes.at; tried = notes.tried + 1 }

abbrev pub noted : Notes → ℕ → Stage → Notes
noted notes n s = record { plan = notes.plan; known = with_stage n s notes.known; at = notes.at; tried = notes.tried }

-- ---- the next place
-- after a round's listing
abbrev pub round_of : List QueueName → Phase
round_of [] = Closing
round_of (name ∷ names) = Trying (name ∷ names)

-- once all records are read
abbrev pub learnt_all : Known → Then → Phase
learnt_all known Ask = Asking
learnt_all known (Try names) = round_of (open_names known names)
learnt_all known Count = ListingDead

-- with these records still to be read
abbrev pub learning : Known → List ℕ → Then → Phase
learning known [] after = learnt_all known after
learning known (n ∷ unread) after = Learning (n ∷ unread) after

-- by what the text of a record says
abbrev pub learnt_by : Notes → ℕ → List ℕ → Then → List ℕ → Option Stage → State
learnt_by notes n unread after text None = stands notes (Broken (BadRecord (record_path notes.plan.queue n) (record_fault n text)))
learnt_by notes n unread after text (Some s) = stands (noted notes n s) (learning (with_stage n s notes.known) unread after)

-- by what was found of a record
abbrev pub learnt : Notes → ℕ → List ℕ → Then → Option (List ℕ) → State
learnt notes n unread after None = stands notes (Broken (Absent (record_path notes.plan.queue n)))
learnt notes n unread after (Some text) = learnt_by notes n unread after text (record_in n text)

-- after a try
abbrev pub next_try : List QueueName → Phase
next_try [] = Asking
next_try (name ∷ names) = Trying (name ∷ names)

-- with so many of its inputs found
abbrev pub fetching : QueueName → List (List ℕ) → List Input → List QueueName → Phase
fetching name paths given names = if length given == length paths then Running name given names else Fetching name paths given names

abbrev pub begun_by : Option Stage → QueueName → List QueueName → Phase
begun_by None name names = next_try names
begun_by (Some s) name names = fetching name (inputs_of s name.task) [] names

-- once a task is leased under this name
abbrev pub begun : Known → QueueName → List QueueName → Phase
begun known name names = begun_by (stage_in known name.stage) name names

-- by whether the name was there to be leased
abbrev pub leased_or_gone : Bool → Known → QueueName → List QueueName → Phase
leased_or_gone true known name names = begun known name names
leased_or_gone false known name names = next_try names

-- by what was found of an input
abbrev pub fetched : QueueName → List (List ℕ) → List Input → List QueueName → List ℕ → Option (List ℕ) → Phase
fetched name paths given names path None = next_try names
fetched name paths given names path (Some bytes) = fetching name paths (given ++ record { path = path; found = Some bytes } ∷ []) names

-- how it ends, by how many tasks are not done and how many there are
abbrev pub end_by : ℕ → ℕ → End
end_by zero tasks = Finished tasks
end_by (suc n) tasks = Waiting (suc n)

-- once the tasks that are done were listed: it ends, or the first dead letter is told
abbrev pub counted : Known → List TaskId → List (List ℕ) → Phase
counted known [] given = Over (end_by (all_unlisted given known) (all_tasks known))
counted known (id ∷ letters) given = Telling letters (length letters + 1)
