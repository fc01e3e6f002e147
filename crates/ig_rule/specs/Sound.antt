-- What the files of a queue keep at each moment, and logs whose steps are all allowed.
use Rattle.std.specs.Prelude.{◌≡◌, ◌≢◌, ◌≤◌, ◌<◌, ℕ, suc, true, false, List, None, Some, IsSome}
use Rattle.ig_space.specs.declared.task_id.TaskId.{TaskId}
use Rattle.ig_defs.specs.declared.step.Step.{Step}
use Rattle.ig_defs.specs.Files.{Files, file_at}
use Rattle.ig_defs.specs.Log.{Log, AreAllowed}
use Rattle.ig_rule.specs.QueueFiles.{QueueFile, Record, Seal, Done, named_task, Queue, queue_of}
use Rattle.ig_rule.specs.Facts.{Facts, Pass, Reader, IsPath, Uses, LiesInOne}
use Rattle.ig_rule.specs.Stages.{Records, stages_in, task_id, IsSpared, Clear, Stands, Sealed, Named, Finished}
use Rattle.ig_rule.specs.Room.{AreApart, IsOutsideQueue, IsNotRemovedBy, HasPass}
use Rattle.ig_rule.specs.Rule.{Allowed}

-- The stages are numbered without a gap. All but the last are sealed, and nothing else is.
pub record AreNumbered (records : Records) (queue : Queue) : Type 0 where
  pub count : ℕ
  pub present : (n : ℕ) → n < count → IsSome (records n)
  pub no_more : (n : ℕ) → count ≤ n → queue (Record n) ≡ None
  pub sealed : (n : ℕ) → suc n < count → Sealed queue n
  pub no_seal : (n : ℕ) → count ≤ n → queue (Seal n) ≡ None

-- The stages are apart from each other, from the queue and from what was removed before them, and each has its earlier pass.
pub record AreSoundStages (q : List ℕ) (records : Records) : Type 0 where
  pub apart : (n m : ℕ) (s t : Facts) → n ≢ m → records n ≡ Some s → records m ≡ Some t → AreApart s t
  pub outside : (n : ℕ) (s : Facts) → records n ≡ Some s → IsOutsideQueue q s
  pub passes : (n : ℕ) (s : Facts) (key : Pass) → records n ≡ Some s → s.needs ≡ Some key → HasPass records n key
  pub after_removal : (r n : ℕ) (t s : Facts) → r < n → records r ≡ Some t → t.removes ≡ true → records n ≡ Some s → IsNotRemovedBy s t

-- The task is one of a recorded stage, and this is the text of its names.
pub record IsTask (records : Records) (id : TaskId) (bytes : List ℕ) : Type 0 where
  pub stage : Facts
  pub is : records id.stage ≡ Some stage
  pub below : id.task < stage.tasks
  pub text : bytes ≡ stage.text id.task

-- Each name is that of a task and has its text. Each task of a sealed stage is named. A stage that uses what was removed after
-- it is finished.
pub record AreSoundNames (records : Records) (queue : Queue) : Type 0 where
  pub tasks : (x : QueueFile) (id : TaskId) (bytes : List ℕ) → named_task x ≡ Some id → queue x ≡ Some bytes → IsTask records id bytes
  pub named : (n k : ℕ) (s : Facts) → records n ≡ Some s → Sealed queue n → k < s.tasks → Named queue (task_id n k)
  pub before_removal : (n r : ℕ) (s t : Facts) → n < r → records n ≡ Some s → records r ≡ Some t → t.removes ≡ true → Uses s t.source → Finished queue n s

-- These bytes are the wanted text of one of the stage's paths.
pub record IsWanted (s : Facts) (files : Files) (path bytes : List ℕ) : Type 0 where
  pub path_is : IsPath s path
  pub text : s.wanted (file_at files) path ≡ Some bytes

-- Where the source of a stage is spared, its output directories hold nothing but wanted texts. Where it is not under removal,
-- what its done tasks make stands.
pub record AreSoundFiles (records : Records) (queue : Queue) (files : Files) : Type 0 where
  pub outputs : (n : ℕ) (s : Facts) → records n ≡ Some s → s.removes ≡ false → IsSpared records n s.source
      → (path bytes : List ℕ) → LiesInOne s.outputs path → file_at files path ≡ Some bytes → IsWanted s files path bytes
  pub done : (n k : ℕ) (s : Facts) → records n ≡ Some s → Clear records n s → IsSome (queue (Done (task_id n k))) → Stands files s k

-- The files are sound, for the queue with this directory.
pub record Sound (read : Reader) (q : List ℕ) (files : Files) : Type 0 where
  pub numbered : AreNumbered (stages_in read q files) (queue_of q files)
  pub stages : AreSoundStages q (stages_in read q files)
  pub names : AreSoundNames (stages_in read q files) (queue_of q files)
  pub outputs : AreSoundFiles (stages_in read q files) (queue_of q files) files

-- Each of the steps, whosever it is, is allowed at its moment.
abbrev pub AreAllowedSteps : Reader → List ℕ → Files → List Step → Type 0
AreAllowedSteps read q files steps = AreAllowed (λ mine given a. Allowed read q given a) files steps

-- The log is legal: its opening files are sound, and each of its steps was allowed at its moment.
pub record Legal (read : Reader) (q : List ℕ) (log : Log) : Type 0 where
  pub opening : Sound read q log.opening
  pub steps : AreAllowedSteps read q log.opening log.steps
