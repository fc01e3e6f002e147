-- What a worker keeps fits together, whatever the files are.
use Rattle.std.specs.Prelude.{◌≡◌, ◌≤◌, ◌<◌, ◌^◌, ℕ, true, List, take, drop, length, is_some, map, Some}
use Rattle.std.specs.List.{All}
use Rattle.std.specs.List.Sorted.{IsStrictlySortedBy}
use Rattle.std.specs.Ordering.{nat_cmp}
use Rattle.ig_defs.specs.declared.queue_name.QueueName.{QueueName}
use Rattle.ig_defs.specs.QueueNames.{queue_fits}
use Rattle.ig_cutout.specs.declared.types.Input.{Input}
use Rattle.ig_cutout.specs.declared.types.Output.{Output}
use Rattle.ig_cutout.specs.Inputs.{paths_of as input_paths}
use Rattle.ig_record.specs.declared.stage.Stage.{Stage}
use Rattle.ig_record.specs.Sound.{is_sound}
use Rattle.ig_record.specs.Columns.{inputs_of, paths_of}
use Rattle.ig_task.specs.Wanted.{HasText, path_of}
use Rattle.ig_worker.specs.declared.notes.Notes.{Notes}
use Rattle.ig_worker.specs.declared.phase.Phase.{Phase}
use Rattle.ig_worker.specs.declared.phase.Phase.TheVariants.{Starting, Learning, Asking, Trying, Fetching, Running, Finishing, Closing, ListingDead, ListingDone, Telling, Over, Broken}
use Rattle.ig_worker.specs.declared.phase.Then.{Then}
use Rattle.ig_worker.specs.declared.phase.Then.TheVariants.{Ask, Try, Count}
use Rattle.ig_worker.specs.Plans.{HasLimits}
use Rattle.ig_worker.specs.Places.{State}
use Rattle.ig_worker.specs.Stages.{Known, stage_in, open_tasks}

-- ---- the notes
-- a sound stage, with a number that has its places
pub record IsStage (r : ℕ × Stage) : Type 0 where
  pub few : r.0 < 10 ^ 4
  pub sound : is_sound r.1 ≡ true

abbrev pub number_of : ℕ × Stage → ℕ
number_of r = r.0

pub record AreStages (known : Known) : Type 0 where
  pub each : All IsStage known
  pub ascending : IsStrictlySortedBy nat_cmp (map number_of known)

pub record AreFitNotes (notes : Notes) : Type 0 where
  pub plan : HasLimits notes.plan
  pub known : AreStages notes.known
  pub at : notes.at < 10 ^ 10
  pub tried : notes.tried ≤ notes.plan.turns

-- ---- names
-- a name that was listed and may be leased
pub record IsDue (at : ℕ) (name : QueueName) : Type 0 where
  pub fits : queue_fits name ≡ true
  pub due : name.visible ≤ at

-- and whose task may be run
pub record IsOpen (notes : Notes) (name : QueueName) : Type 0 where
  pub due : IsDue notes.at name
  pub below : name.task < open_tasks notes.known name.stage

-- the name of a leased task, of this stage
pub record IsLeased (notes : Notes) (name : QueueName) (s : Stage) : Type 0 where
  pub fits : queue_fits name ≡ true
  pub stage : stage_in notes.known name.stage ≡ Some s
  pub below : name.task < open_tasks notes.known name.stage

-- ---- places
abbrev pub IsFound : Input → Type 0
IsFound input = is_some input.found ≡ true

abbrev pub IsFitThen : ℕ → Then → Type 0
IsFitThen at Ask = Unit {0}
IsFitThen at (Try names) = All (IsDue at) names
IsFitThen at Count = Unit {0}

abbrev pub AreOpen : Notes → List QueueName → Type 0
AreOpen notes names = All (IsOpen notes) names

pub record IsFetching (notes : Notes) (name : QueueName) (paths : List (List ℕ)) (given : List Input) (names : List QueueName) : Type 0 where
  pub stage : Stage
  pub leased : IsLeased notes name stage
  pub inputs : paths ≡ inputs_of stage name.task
  pub read : input_paths given ≡ take (length given) paths
  pub found : All IsFound given
  pub more : length given < length paths
  pub ahead : AreOpen notes names

pub record IsRunning (notes : Notes) (name : QueueName) (given : List Input) (names : List QueueName) : Type 0 where
  pub stage : Stage
  pub leased : IsLeased notes name stage
  pub read : input_paths given ≡ inputs_of stage name.task
  pub found : All IsFound given
  pub ahead : AreOpen notes names

pub record IsFinishing (notes : Notes) (name : QueueName) (outputs : List Output) (names : List QueueName) : Type 0 where
  pub stage : Stage
  pub leased : IsLeased notes name stage
  pub done : ℕ
  pub paths : map path_of outputs ≡ drop done (paths_of stage name.task)
  pub texts : All (HasText stage) outputs
  pub ahead : AreOpen notes names

abbrev pub IsFitPhase : Notes → Phase → Type 0
IsFitPhase notes Starting = Unit {0}
IsFitPhase notes (Learning unread then) = (0 < length unread) × All (λ n. n < 10 ^ 4) unread × IsFitThen notes.at then
IsFitPhase notes Asking = Unit {0}
IsFitPhase notes (Trying names) = (0 < length names) × AreOpen notes names
IsFitPhase notes (Fetching name paths given names) = IsFetching notes name paths given names
IsFitPhase notes (Running name given names) = IsRunning notes name given names
IsFitPhase notes (Finishing name outputs names) = IsFinishing notes name outputs names
IsFitPhase notes Closing = Unit {0}
IsFitPhase notes ListingDead = Unit {0}
IsFitPhase notes (ListingDone letters) = Unit {0}
IsFitPhase notes (Telling letters count) = Unit {0}
IsFitPhase notes (Over end) = Unit {0}
IsFitPhase notes (Broken error) = Unit {0}

pub record IsFit (s : State) : Type 0 where
  pub notes : AreFitNotes s.notes
  pub phase : IsFitPhase s.notes s.phase
