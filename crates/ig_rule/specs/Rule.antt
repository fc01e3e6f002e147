-- The rule: what any process may do to the files of a queue at a moment, whatever others do.
use Rattle.std.specs.Prelude.{◌≡◌, ◌^◌, ◌≤◌, ◌<◌, ℕ, true, false, List, [], ◌∷◌, ◌++◌, None, Some, IsSome, codes}
use Rattle.ig_space.specs.declared.task_id.TaskId.{TaskId}
use Rattle.ig_defs.specs.declared.queue_name.QueueName.{QueueName}
use Rattle.ig_defs.specs.declared.step.Act.{Act}
use Rattle.ig_defs.specs.declared.step.Act.TheVariants as act
use Rattle.ig_defs.specs.Files.{Files, file_at}
use Rattle.ig_defs.specs.Own.{File}
use Rattle.ig_defs.specs.QueueNames.{task_of}
use Rattle.ig_rule.specs.QueueFiles.{QueueFile, Record, Seal, Queued, Dead, Done, fits, path_of, Queue, queue_of}
use Rattle.ig_rule.specs.Facts.{Facts, Reader, IsPath}
use Rattle.ig_rule.specs.Stages.{Records, recorded, stages_in, task_id, Clear, Stands, Sealed, Named}
use Rattle.ig_rule.specs.Room.{Room}

-- ---- puts

-- A path of a stage that is not under removal gets its wanted text.
pub record PutsOutput (records : Records) (files : Files) (path bytes : List ℕ) : Type 0 where
  pub number : ℕ
  pub stage : Facts
  pub is : records number ≡ Some stage
  pub makes : stage.removes ≡ false
  pub path_is : IsPath stage path
  pub text : stage.wanted (file_at files) path ≡ Some bytes
  pub clear : Clear records number stage

-- The record of stage m, for which there is room, where all stages before it are recorded and sealed and there is no other.
pub record PutsRecord (read : Reader) (queue : Queue) (q : List ℕ) (files : Files) (path bytes : List ℕ) : Type 0 where
  pub number : ℕ
  pub stage : Facts
  pub path_is : path ≡ path_of q (Record number)
  pub before : (n : ℕ) → n < number → IsSome (queue (Record n)) × Sealed queue n
  pub no_other : (n : ℕ) → number ≤ n → queue (Record n) ≡ None
  pub few : number < 10 ^ 4
  pub text : read number bytes ≡ Some stage
  pub room : Room (recorded read queue) queue q files number stage

-- Stage n is the last one that is recorded.
pub record IsLast (records : Records) (queue : Queue) (n : ℕ) (s : Facts) : Type 0 where
  pub is : records n ≡ Some s
  pub none_after : (m : ℕ) → n < m → queue (Record m) ≡ None

-- The info of the last stage, which is not sealed.
pub record PutsInfo (records : Records) (queue : Queue) (path bytes : List ℕ) : Type 0 where
  pub number : ℕ
  pub stage : Facts
  pub last : IsLast records queue number stage
  pub unsealed : queue (Seal number) ≡ None
  pub info : File
  pub info_is : stage.info ≡ Some info
  pub path_is : path ≡ info.path
  pub text : bytes ≡ info.bytes

-- the name of a task that was never leased
abbrev pub fresh_name : TaskId → QueueName
fresh_name id = record { visible = 0; stage = id.stage; task = id.task; attempt = 0 }

-- The fresh name of a task of the last stage, which is not sealed.
pub record PutsTask (records : Records) (queue : Queue) (q path bytes : List ℕ) : Type 0 where
  pub number : ℕ
  pub stage : Facts
  pub task : ℕ
  pub last : IsLast records queue number stage
  pub unsealed : queue (Seal number) ≡ None
  pub below : task < stage.tasks
  pub path_is : path ≡ path_of q (Queued (fresh_name (task_id number task)))
  pub text : bytes ≡ stage.text task

-- the text of each seal
abbrev pub seal_text : List ℕ
seal_text = codes "sealed" ++ 10 ∷ []

-- The seal of the last stage, whose info stands and whose tasks are all named.
pub record PutsSeal (records : Records) (queue : Queue) (q : List ℕ) (files : Files) (path bytes : List ℕ) : Type 0 where
  pub number : ℕ
  pub stage : Facts
  pub last : IsLast records queue number stage
  pub path_is : path ≡ path_of q (Seal number)
  pub text : bytes ≡ seal_text
  pub info : (info : File) → stage.info ≡ Some info → file_at files info.path ≡ Some info.bytes
  pub named : (k : ℕ) → k < stage.tasks → Named queue (task_id number k)

-- The puts that are allowed.
pub data MayPut (read : Reader) (queue : Queue) (q : List ℕ) (files : Files) (path bytes : List ℕ) : Type 0 where
  an_output : PutsOutput (recorded read queue) files path bytes → MayPut read queue q files path bytes
  a_record : PutsRecord read queue q files path bytes → MayPut read queue q files path bytes
  an_info : PutsInfo (recorded read queue) queue path bytes → MayPut read queue q files path bytes
  a_task : PutsTask (recorded read queue) queue q path bytes → MayPut read queue q files path bytes
  a_seal : PutsSeal (recorded read queue) queue q files path bytes → MayPut read queue q files path bytes

-- ---- moves and removals

-- The task may be called done: its stage is not under removal, and what it makes stands.
pub record MayBeDone (records : Records) (files : Files) (id : TaskId) : Type 0 where
  pub stage : Facts
  pub is : records id.stage ≡ Some stage
  pub stands : Stands files stage id.task
  pub clear : Clear records id.stage stage

-- A name may become another of its task: a queued one each, the done name only where the task may be called done, and a dead
-- letter a queued one.
abbrev pub MayBecome : Records → Files → QueueFile → QueueFile → Type 0
MayBecome records files (Queued name) (Queued other) = task_of other ≡ task_of name
MayBecome records files (Queued name) (Dead id) = id ≡ task_of name
MayBecome records files (Queued name) (Done id) = (id ≡ task_of name) × MayBeDone records files id
MayBecome records files (Dead id) (Queued name) = task_of name ≡ id
MayBecome records files x y = ⊥

-- The moves that are allowed: of a name that is there.
pub record MayMove (records : Records) (queue : Queue) (q : List ℕ) (files : Files) (from to : List ℕ) : Type 0 where
  pub name : QueueFile
  pub other : QueueFile
  pub from_is : from ≡ path_of q name
  pub to_is : to ≡ path_of q other
  pub there : IsSome (queue name)
  pub fitting : fits other ≡ true
  pub becomes : MayBecome records files name other

-- The removals that are allowed: of the paths of recorded removals.
pub record MayRemove (records : Records) (path : List ℕ) : Type 0 where
  pub number : ℕ
  pub stage : Facts
  pub is : records number ≡ Some stage
  pub removes : stage.removes ≡ true
  pub path_is : IsPath stage path

-- The act is allowed in these files, for the queue with this directory.
abbrev pub Allowed : Reader → List ℕ → Files → Act → Type 0
Allowed read q files (act.Read path) = Unit {0}
Allowed read q files (act.List dir given) = Unit {0}
Allowed read q files (act.Put path bytes) = MayPut read (queue_of q files) q files path bytes
Allowed read q files (act.Move from to) = MayMove (stages_in read q files) (queue_of q files) q files from to
Allowed read q files (act.Remove path) = MayRemove (stages_in read q files) path
