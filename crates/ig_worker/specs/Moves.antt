-- The course of a worker: from each place, the own calls that may follow, and where they lead.
use Rattle.std.specs.Prelude.{◌≡◌, ◌≤◌, ◌<◌, ℕ, nat_le, Bool, true, false, List, [], ◌∷◌, length, map, slice_get, Option, None, Some, codes}
use Rattle.ig_space.specs.Path.{joined}
use Rattle.ig_space.specs.declared.task_id.TaskId.{TaskId}
use Rattle.ig_defs.specs.declared.queue_name.QueueName.{QueueName}
use Rattle.ig_defs.specs.QueueNames.{task_of}
use Rattle.ig_rule.specs.QueueFiles.{Queued, Dead, Done, path_of}
use Rattle.ig_layer.specs.Layer.{Reading}
use Rattle.ig_cutout.specs.declared.types.Input.{Input}
use Rattle.ig_cutout.specs.declared.types.Output.{Output}
use Rattle.ig_cutout.specs.Inputs.{HoldsAll, cause_of}
use Rattle.ig_record.specs.declared.stage.Stage.{Stage}
use Rattle.ig_meaning.specs.Refusal as meaning
use Rattle.ig_meaning.specs.QueueMaking.{record_path, stages_dir}
use Rattle.ig_meaning.specs.Task.{task_outputs, task_refusal}
use Rattle.ig_queue.specs.Candidates.{AreCandidates}
use Rattle.ig_queue.specs.Moves.{leased_name}
use Rattle.ig_worker.specs.declared.notes.Notes.{Notes}
use Rattle.ig_worker.specs.declared.phase.Phase.{Phase}
use Rattle.ig_worker.specs.declared.phase.Phase.TheVariants.{Starting, Learning, Asking, Trying, Fetching, Running, Finishing, Closing, ListingDead, ListingDone, Telling, Over, Broken}
use Rattle.ig_worker.specs.declared.phase.Then.{Then}
use Rattle.ig_worker.specs.declared.phase.Then.TheVariants.{Ask, Try, Count}
use Rattle.ig_worker.specs.declared.turn.Line.{Line}
use Rattle.ig_worker.specs.declared.turn.Line.TheVariants as line
use Rattle.ig_worker.specs.declared.turn.Why.{Why}
use Rattle.ig_worker.specs.declared.turn.Why.TheVariants as why
use Rattle.ig_defs.specs.Answers.{Call, Lists, Reads, Puts, Shifts, Removes, Answer, Names, Found, WasThere}
use Rattle.ig_worker.specs.Places.{State, stands, asked, tried_one, learning, learnt, next_try, leased_or_gone, fetched, counted}
use Rattle.ig_worker.specs.Stages.{stage_in, tasks_listed, unknown_listed, unknown_named}

-- An own call, what it found, where the worker stands then, and what it has to say.
pub record Move : Type 0 where
  pub call : Call
  pub answer : Answer
  pub next : State
  pub said : List Line

abbrev pub moves : Call → Answer → State → List Line → Move
moves call answer next said = record { call = call; answer = answer; next = next; said = said }

-- ---- where the files stand
abbrev pub queued_path : Notes → QueueName → List ℕ
queued_path notes name = path_of notes.plan.queue (Queued name)

abbrev pub dead_path : Notes → QueueName → List ℕ
dead_path notes name = path_of notes.plan.queue (Dead (task_of name))

abbrev pub done_path : Notes → QueueName → List ℕ
done_path notes name = path_of notes.plan.queue (Done (task_of name))

-- the name, leased at this second
abbrev pub leased : Notes → ℕ → QueueName → QueueName
leased notes now name = leased_name now notes.plan.lease name

-- ---- listings of stages, and reads of records
abbrev pub ListsStages : Notes → Then → Move → Type 0
ListsStages notes later m = (given : List (List ℕ)) × (m ≡ moves (Lists (stages_dir notes.plan.queue)) (Names given) (stands notes (learning notes.known (unknown_listed notes.known given) later)) [])

abbrev pub ReadsRecord : Notes → List ℕ → Then → Move → Type 0
ReadsRecord notes [] later m = ⊥
ReadsRecord notes (n ∷ unread) later m = (found : Option (List ℕ)) × (m ≡ moves (Reads (record_path notes.plan.queue n)) (Found found) (learnt notes n unread later found) [])

-- ---- a round: the clock is asked, and the queue is listed
pub record ListsQueue (from to : ℕ) (notes : Notes) (m : Move) : Type 0 where
  pub now : ℕ
  pub after : from ≤ now
  pub before : now ≤ to
  pub given : List (List ℕ)
  pub names : List QueueName
  pub are : AreCandidates given now names
  pub is : m ≡ moves (Lists (joined notes.plan.queue (codes "queue"))) (Names given) (stands (asked notes now) (learning notes.known (unknown_named notes.known names) (Try names))) []

-- ---- a try
abbrev pub by_presence : Bool → Line → Line → Line
by_presence true there gone = there
by_presence false there gone = gone

abbrev pub said_if : Bool → Line → List Line
said_if true l = l ∷ []
said_if false l = []

-- a name that was leased too often is buried
abbrev pub BuriesName : Notes → QueueName → List QueueName → Move → Type 0
BuriesName notes name names m = (there : Bool) × (m ≡ moves (Shifts (queued_path notes name) (dead_path notes name)) (WasThere there) (stands (tried_one notes) (next_try names)) (said_if there (line.Buried (task_of name) (why.Tries name.attempt))))

-- the clock is asked, and the name is leased
pub record LeasesName (from to : ℕ) (notes : Notes) (name : QueueName) (names : List QueueName) (m : Move) : Type 0 where
  pub now : ℕ
  pub after : from ≤ now
  pub before : now ≤ to
  pub there : Bool
  pub is : m ≡ moves (Shifts (queued_path notes name) (queued_path notes (leased notes now name))) (WasThere there) (stands (tried_one (asked notes now)) (leased_or_gone there notes.known (leased notes now name) names)) []

abbrev pub TriesBy : Bool → ℕ → ℕ → Notes → QueueName → List QueueName → Move → Type 0
TriesBy true from to notes name names m = BuriesName notes name names m
TriesBy false from to notes name names m = LeasesName from to notes name names m

-- a name is tried, where the turns are not spent
abbrev pub TriesName : ℕ → ℕ → Notes → List QueueName → Move → Type 0
TriesName from to notes [] m = ⊥
TriesName from to notes (name ∷ names) m = (notes.tried < notes.plan.turns) × TriesBy (nat_le notes.plan.tries name.attempt) from to notes name names m

-- ---- a task
abbrev pub said_of_input : QueueName → List ℕ → Option (List ℕ) → List Line
said_of_input name path None = line.Missing (task_of name) path ∷ []
said_of_input name path (Some bytes) = []

pub record ReadsInput (notes : Notes) (name : QueueName) (paths : List (List ℕ)) (given : List Input) (names : List QueueName) (m : Move) : Type 0 where
  pub path : List ℕ
  pub next : slice_get paths (length given) ≡ Some path
  pub found : Option (List ℕ)
  pub is : m ≡ moves (Reads path) (Found found) (stands notes (fetched name paths given names path found)) (said_of_input name path found)

-- what comes of a run: outputs, or why the task is buried
pub data Outcome : Type 0 where
  Makes : (outputs : List Output) → Outcome
  Refuses : (cause : Why) → Outcome

-- a refusal, as the definitions of stages name it
abbrev pub IsCause : Why → Option meaning.Refusal → Type 0
IsCause (why.Tries attempt) r = ⊥
IsCause (why.Malformed path cause) r = r ≡ Some (meaning.Malformed path (cause_of cause))
IsCause (why.TooManyParts count) r = r ≡ Some (meaning.TooManyParts count)

abbrev pub ComesOf : Stage → ℕ → Reading → Outcome → Type 0
ComesOf s k files (Makes outputs) = task_outputs s k files ≡ Some outputs
ComesOf s k files (Refuses cause) = IsCause cause (task_refusal s k files)

-- this comes of task k over these inputs, in whatever files they stand
abbrev pub IsOutcome : Stage → ℕ → List Input → Outcome → Type 0
IsOutcome s k given outcome = (files : Reading) → HoldsAll files given → ComesOf s k files outcome

-- the call for an output
abbrev pub call_by : List ℕ → Option (List ℕ) → Call
call_by path (Some bytes) = Puts path bytes
call_by path None = Removes path

abbrev pub call_for : Output → Call
call_for output = call_by output.path output.text

-- the next output is put, or taken away; after the last one the task is done
abbrev pub HandsOver : Notes → QueueName → List Output → List QueueName → Move → Type 0
HandsOver notes name [] names m = (there : Bool) × (m ≡ moves (Shifts (queued_path notes name) (done_path notes name)) (WasThere there) (stands notes (next_try names)) (by_presence there (line.Done (task_of name)) (line.Late (task_of name)) ∷ []))
HandsOver notes name (output ∷ outputs) names m = (answer : Answer) × (m ≡ moves (call_for output) answer (stands notes (Finishing name outputs names)) [])

-- the first act of what comes of a run
abbrev pub ActsOn : Notes → QueueName → Outcome → List QueueName → Move → Type 0
ActsOn notes name (Makes outputs) names m = HandsOver notes name outputs names m
ActsOn notes name (Refuses cause) names m = (there : Bool) × (m ≡ moves (Shifts (queued_path notes name) (dead_path notes name)) (WasThere there) (stands notes (next_try names)) (by_presence there (line.Buried (task_of name) cause) (line.Late (task_of name)) ∷ []))

pub record RunsTask (notes : Notes) (name : QueueName) (given : List Input) (names : List QueueName) (m : Move) : Type 0 where
  pub stage : Stage
  pub is : stage_in notes.known name.stage ≡ Some stage
  pub outcome : Outcome
  pub comes : IsOutcome stage name.task given outcome
  pub acts : ActsOn notes name outcome names m

-- ---- the end
abbrev pub ListsDead : Notes → Move → Type 0
ListsDead notes m = (given : List (List ℕ)) × (m ≡ moves (Lists (joined notes.plan.queue (codes "dead"))) (Names given) (stands notes (ListingDone (tasks_listed given))) [])

abbrev pub ListsDone : Notes → List TaskId → Move → Type 0
ListsDone notes letters m = (given : List (List ℕ)) × (m ≡ moves (Lists (joined notes.plan.queue (codes "done"))) (Names given) (stands notes (counted notes.known letters given)) (map line.Letter letters))

-- ---- all of them
-- Where a worker stands here, and the clock's last answer is `from` before the call and `to` after it, this may be its move.
abbrev pub Leads : ℕ → ℕ → Notes → Phase → Move → Type 0
Leads from to notes Starting m = ListsStages notes Ask m
Leads from to notes (Learning unread later) m = ReadsRecord notes unread later m
Leads from to notes Asking m = ListsQueue from to notes m
Leads from to notes (Trying names) m = TriesName from to notes names m
Leads from to notes (Fetching name paths given names) m = ReadsInput notes name paths given names m
Leads from to notes (Running name given names) m = RunsTask notes name given names m
Leads from to notes (Finishing name outputs names) m = HandsOver notes name outputs names m
Leads from to notes Closing m = ListsStages notes Count m
Leads from to notes ListingDead m = ListsDead notes m
Leads from to notes (ListingDone letters) m = ListsDone notes letters m
Leads from to notes (Telling letters count) m = ⊥
Leads from to notes (Over end) m = ⊥
Leads from to notes (Broken error) m = ⊥
