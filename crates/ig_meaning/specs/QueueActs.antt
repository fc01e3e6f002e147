-- What the making of a stage adds to its queue.
use Rattle.std.specs.Prelude.{◌≡◌, ◌<◌, ◌^◌, ℕ, true, List, [], ◌∷◌, ◌++◌, map, Contains, codes}
use Rattle.std.specs.List.Sorted.{IsStrictlySortedBy}
use Rattle.std.specs.Ordering.{nat_cmp}
use Rattle.ig_space.specs.declared.task_id.TaskId.{TaskId}
use Rattle.ig_space.specs.Chunks.{listed}
use Rattle.ig_space.specs.Path.{joined}
use Rattle.ig_defs.specs.declared.queue_name.QueueName.{QueueName}
use Rattle.ig_defs.specs.declared.step.Act.{Act}
use Rattle.ig_defs.specs.declared.step.Act.TheVariants as act
use Rattle.ig_defs.specs.Own.{File, Moment}
use Rattle.ig_defs.specs.QueueNames.{queue_file, queue_fits, task_file, task_of}
use Rattle.ig_rule.specs.QueueFiles.{Queued, path_of}
use Rattle.ig_rule.specs.Rule.{fresh_name, seal_text}
use Rattle.ig_rule.specs.Stages.{task_id}
use Rattle.ig_record.specs.declared.stage.Stage.{Stage}
use Rattle.ig_record.specs.Record.{record_text, task_text}
use Rattle.ig_record.specs.Stage.{task_count}
use Rattle.ig_meaning.specs.Jobs.{info_files}
use Rattle.ig_meaning.specs.Making.{Making, Refused, Unfinished, Planned, New, Continues}
use Rattle.ig_meaning.specs.QueueMaking.{record_path, seal_path}

abbrev pub acts_of : List Moment → List Act
acts_of [] = []
acts_of (m ∷ ms) = m.act ∷ acts_of ms

abbrev pub put_of : File → Act
put_of file = act.Put file.path file.bytes

-- ---- the files of stage n
abbrev pub record_file : List ℕ → ℕ → Stage → File
record_file q n s = record { path = record_path q n; bytes = record_text n s }

-- the name of task k, which was never leased
abbrev pub name_file : List ℕ → ℕ → Stage → ℕ → File
name_file q n s k = record { path = path_of q (Queued (fresh_name (task_id n k))); bytes = task_text (task_id n k) s }

abbrev pub seal_file : List ℕ → ℕ → File
seal_file q n = record { path = seal_path q n; bytes = seal_text }

-- A new stage: its record, its info, the name of each task in order, and the seal.
abbrev pub new_files : List ℕ → ℕ → Stage → List File
new_files q n s = record_file q n s ∷ (info_files s.info ++ (listed (name_file q n s) (task_count s) ++ seal_file q n ∷ []))

-- ---- a stage that is continued
-- a listing of the queue's three directories of names shows the task
pub data IsShown (queued dead done : List (List ℕ)) (id : TaskId) : Type 0 where
  is_queued : (name : QueueName) → queue_fits name ≡ true → task_of name ≡ id → Contains queued (queue_file name) → IsShown queued dead done id
  is_dead : Contains dead (task_file id) → IsShown queued dead done id
  is_done : Contains done (task_file id) → IsShown queued dead done id

-- These are the tasks of stage n that no listing shows, in order.
pub record AreUnshown (queued dead done : List (List ℕ)) (n tasks : ℕ) (left : List ℕ) : Type 0 where
  pub ascending : IsStrictlySortedBy nat_cmp left
  pub each : (k : ℕ) → Contains left k → (k < tasks) × (IsShown queued dead done (task_id n k) → ⊥)
  pub all : (k : ℕ) → k < tasks → (IsShown queued dead done (task_id n k) → ⊥) → Contains left k

-- its info, the three listings, the name of each task that they do not show, in order, and the seal
abbrev pub continued_acts : List ℕ → ℕ → Stage → List (List ℕ) → List (List ℕ) → List (List ℕ) → List ℕ → List Act
continued_acts q n s queued dead done left =
    map put_of (info_files s.info) ++ (act.List (joined q (codes "queue")) queued ∷ act.List (joined q (codes "dead")) dead ∷ act.List (joined q (codes "done")) done
    ∷ map put_of (map (name_file q n s) left ++ seal_file q n ∷ []))

pub record IsContinuation (q : List ℕ) (n : ℕ) (s : Stage) (acts : List Act) : Type 0 where
  pub queued : List (List ℕ)
  pub dead : List (List ℕ)
  pub done : List (List ℕ)
  pub left : List ℕ
  pub unshown : AreUnshown queued dead done n (task_count s) left
  pub are : acts ≡ continued_acts q n s queued dead done left

-- what the own steps after the looks are, once all was done
abbrev pub HasMade : List ℕ → Making → Type 0
HasMade q (New n s after) = acts_of after ≡ map put_of (new_files q n s)
HasMade q (Continues n s after) = IsContinuation q n s (acts_of after)
HasMade q (Planned s after) = ⊥
HasMade q (Refused refusal) = ⊥
HasMade q Unfinished = ⊥
