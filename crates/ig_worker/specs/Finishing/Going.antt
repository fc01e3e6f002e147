-- What a worker by itself keeps at each place of its course, where nothing keeps it from finishing all tasks.
use Rattle.std.specs.Prelude.{◌≡◌, ◌⊎◌, ◌≤◌, ◌<◌, ◌+◌, ℕ, true, List, [], ◌∷◌, All, length, Option, Some, Contains, None, IsSome}
use Rattle.ig_space.specs.declared.task_id.TaskId.{TaskId}
use Rattle.ig_defs.specs.declared.queue_name.QueueName.{QueueName}
use Rattle.ig_defs.specs.declared.step.Act.{Act}
use Rattle.ig_defs.specs.Files.{Files, file_at}
use Rattle.ig_defs.specs.Log.{after}
use Rattle.ig_defs.specs.QueueNames.{queue_fits, task_of}
use Rattle.ig_cutout.specs.declared.types.Output.{Output}
use Rattle.ig_record.specs.declared.stage.Stage.{Stage}
use Rattle.ig_meaning.specs.Jobs.{with_outputs}
use Rattle.ig_meaning.specs.Task.{task_outputs}
use Rattle.ig_rule.specs.Facts.{Facts}
use Rattle.ig_rule.specs.QueueFiles.{Dead, Done, IsApartFrom, Queued, Record, queue_of}
use Rattle.ig_rule.specs.Rule.{Allowed}
use Rattle.ig_rule.specs.Sound.{Sound}
use Rattle.ig_rule.specs.Stages.{Clear, Sealed, stages_in}
use Rattle.ig_task.specs.Facts.{stage_reader}
use Rattle.ig_worker.specs.declared.notes.Notes.{Notes}
use Rattle.ig_worker.specs.declared.phase.Phase.{Phase}
use Rattle.ig_worker.specs.declared.phase.Phase.TheVariants.{Starting, Learning, Asking, Trying, Fetching, Running, Finishing, Closing, ListingDead, ListingDone, Telling, Over, Broken}
use Rattle.ig_worker.specs.declared.phase.Then.TheVariants.{Ask, Try, Count}
use Rattle.ig_worker.specs.declared.plan.Plan.{Plan}
use Rattle.ig_worker.specs.declared.turn.End.TheVariants.{Finished}
use Rattle.ig_defs.specs.Answers.{Takes}
use Rattle.ig_worker.specs.Finishing.CanFinish.{AreInOrder, IsAhead, stage_at}
use Rattle.ig_worker.specs.Fit.{IsFit}
use Rattle.ig_worker.specs.Knows.{Knows}
use Rattle.ig_worker.specs.Moves.{Leads, Move}
use Rattle.ig_worker.specs.Places.{State}
use Rattle.ig_worker.specs.Stages.{Known}
use Rattle.ig_worker.specs.Ending.Standing.{IsKnown}

-- ---- a call
-- The own act of this move, which the worker's place allows, and nothing else.
pub record CalledAlone (q : List ℕ) (from to : ℕ) (s : State) (old new : Files) (m : Move) : Type 0 where
  pub act : Act
  pub may : Allowed stage_reader q old act
  pub takes : Takes old [] m.call m.answer act
  pub files : new ≡ after old act
  pub leads : Leads from to s.notes s.phase m

-- ---- what stays so
-- The records are those of the files at first, each stage is sealed, there is no dead letter, and what is known is recorded.
pub record IsKept (q : List ℕ) (first now : Files) (noted : Known) : Type 0 where
  pub records : (n : ℕ) → queue_of q now (Record n) ≡ queue_of q first (Record n)
  pub sealed : (n : ℕ) (t : Facts) → stages_in stage_reader q now n ≡ Some t → Sealed (queue_of q now) n
  pub no_letters : (id : TaskId) → queue_of q now (Dead id) ≡ None
  pub known : (r : ℕ × Stage) → Contains noted r → stage_at q first r.0 ≡ Some r.1

-- each stage that is recorded is known
abbrev pub AllKnown : List ℕ → Files → Known → Type 0
AllKnown q now known = (n : ℕ) (t : Facts) → stages_in stage_reader q now n ≡ Some t → IsKnown known n

-- ---- the tasks ahead
-- The name is gone, and its task, of a stage that is not under removal, is done.
pub record IsRun (q : List ℕ) (files : Files) (name : QueueName) : Type 0 where
  pub fits : queue_fits name ≡ true
  pub gone : queue_of q files (Queued name) ≡ None
  pub done : IsSome (queue_of q files (Done (task_of name)))
  pub stage : Facts
  pub is : stages_in stage_reader q files name.stage ≡ Some stage
  pub clear : Clear (stages_in stage_reader q files) name.stage stage

-- Each of these names is ahead, or is gone since its task is done. No other is ahead but the one that is held, if one is. They may
-- be leased, and the turns suffice for them.
pub record AreLeft (plan : Plan) (at tried : ℕ) (now : Files) (held : Option QueueName) (names : List QueueName) : Type 0 where
  pub in_order : AreInOrder names
  pub only : (name : QueueName) → Contains names name → IsAhead plan.queue now name ⊎ IsRun plan.queue now name
  pub each : (name : QueueName) → IsAhead plan.queue now name → Contains names name ⊎ (held ≡ Some name)
  pub due : All (λ name. name.visible ≤ at) names
  pub tries : All (λ name. name.attempt < plan.tries) names
  pub turns : tried + length names ≤ plan.turns

-- the files agree at each path that is no queue file's
abbrev pub Agree : List ℕ → Files → Files → Type 0
Agree q a b = (path : List ℕ) → IsApartFrom q path → file_at a path ≡ file_at b path

-- The task of the name does not refuse over these files.
pub record Runs (stages : ℕ → Option Stage) (files : Files) (name : QueueName) : Type 0 where
  pub stage : Stage
  pub is : stages name.stage ≡ Some stage
  pub outputs : List Output
  pub makes : task_outputs stage name.task (file_at files) ≡ Some outputs

-- None of the tasks of these names refuses, each over the files as they are when those before it are done.
abbrev pub RunInOrder : (ℕ → Option Stage) → Files → List QueueName → Type 0
RunInOrder stages files [] = Unit {0}
RunInOrder stages files (name ∷ names) = (run : Runs stages files name) × RunInOrder stages (with_outputs files run.outputs) names

-- The tasks can be run in order, over files that agree with these.
pub record CanRun (q : List ℕ) (stages : ℕ → Option Stage) (now : Files) (names : List QueueName) : Type 0 where
  pub files : Files
  pub agree : Agree q now files
  pub run : RunInOrder stages files names

-- With no task held, these are to be tried.
pub record AreTried (at : ℕ) (first now : Files) (notes : Notes) (names : List QueueName) : Type 0 where
  pub left : AreLeft notes.plan at notes.tried now None names
  pub can : CanRun notes.plan.queue (stage_at notes.plan.queue first) now names

-- With no task held, these are ahead, and no others.
pub record AreAhead (at : ℕ) (first now : Files) (notes : Notes) (names : List QueueName) : Type 0 where
  pub only : (name : QueueName) → Contains names name → IsAhead notes.plan.queue now name
  pub left : AreLeft notes.plan at notes.tried now None names
  pub can : CanRun notes.plan.queue (stage_at notes.plan.queue first) now names

-- This one is held, which is to be run first.
pub record IsHolding (at : ℕ) (first now : Files) (notes : Notes) (name : QueueName) (names : List QueueName) : Type 0 where
  pub all : AllKnown notes.plan.queue now notes.known
  pub held : IsAhead notes.plan.queue now name
  pub left : AreLeft notes.plan at notes.tried now (Some name) names
  pub can : CanRun notes.plan.queue (stage_at notes.plan.queue first) now (name ∷ names)

-- This one is held; once these outputs are put or taken away, the others can be run.
pub record IsHanding (at : ℕ) (first now : Files) (notes : Notes) (name : QueueName) (done : Files) (names : List QueueName) : Type 0 where
  pub all : AllKnown notes.plan.queue now notes.known
  pub held : IsAhead notes.plan.queue now name
  pub left : AreLeft notes.plan at notes.tried now (Some name) names
  pub can : CanRun notes.plan.queue (stage_at notes.plan.queue first) done names

-- none is ahead
pub record IsNoneLeft (now : Files) (notes : Notes) : Type 0 where
  pub all : AllKnown notes.plan.queue now notes.known
  pub none : (name : QueueName) → IsAhead notes.plan.queue now name → ⊥

-- Each stage that is recorded is known, or is still to be read, as are no others.
pub record IsLearning (q : List ℕ) (now : Files) (known : Known) (unread : List ℕ) : Type 0 where
  pub all : (n : ℕ) (t : Facts) → stages_in stage_reader q now n ≡ Some t → IsKnown known n ⊎ Contains unread n
  pub only : (n : ℕ) → Contains unread n → (t : Facts) × (stages_in stage_reader q now n ≡ Some t)

-- ---- places
abbrev pub GoesOnAt : ℕ → Files → Files → Notes → Phase → Type 0
GoesOnAt at first now notes Starting = (names : List QueueName) × AreAhead at first now notes names
GoesOnAt at first now notes (Learning unread Ask) = IsLearning notes.plan.queue now notes.known unread × ((names : List QueueName) × AreAhead at first now notes names)
GoesOnAt at first now notes (Learning unread (Try names)) = ⊥
GoesOnAt at first now notes (Learning unread Count) = ⊥
GoesOnAt at first now notes Asking = AllKnown notes.plan.queue now notes.known × ((names : List QueueName) × AreAhead at first now notes names)
GoesOnAt at first now notes (Trying names) = AllKnown notes.plan.queue now notes.known × AreTried at first now notes names
GoesOnAt at first now notes (Fetching name paths given names) = IsHolding at first now notes name names
GoesOnAt at first now notes (Running name given names) = IsHolding at first now notes name names
GoesOnAt at first now notes (Finishing name outputs names) = IsHanding at first now notes name (with_outputs now outputs) names
GoesOnAt at first now notes Closing = IsNoneLeft now notes
GoesOnAt at first now notes ListingDead = IsNoneLeft now notes
GoesOnAt at first now notes (ListingDone letters) = (letters ≡ []) × IsNoneLeft now notes
GoesOnAt at first now notes (Telling letters count) = ⊥
GoesOnAt at first now notes (Over end) = (tasks : ℕ) × (end ≡ Finished tasks)
GoesOnAt at first now notes (Broken error) = ⊥

-- The worker is on the way to its end.
pub record GoesOn (at : ℕ) (first : Files) (s : State) (now : Files) : Type 0 where
  pub kept : IsKept s.notes.plan.queue first now s.notes.known
  pub goes : GoesOnAt at first now s.notes s.phase

-- Each move from here keeps it on the way.
abbrev pub StaysGoing : State → Type 0
StaysGoing s = (at from to : ℕ) (first old new : Files) (m : Move) → at ≤ from → IsFit s → Sound stage_reader s.notes.plan.queue old → Knows s old
    → CalledAlone s.notes.plan.queue from to s old new m → GoesOn at first s old → GoesOn at first m.next new
