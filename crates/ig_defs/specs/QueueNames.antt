-- The names of the files of a queue: this project's own.
use Rattle.std.specs.Prelude.{ℕ, zero, suc, ◌+◌, ◌/◌, ◌%◌, ◌^◌, Bool, ◌&&◌, nat_lt, List, [], ◌∷◌, ◌++◌, codes}
use Rattle.ig_space.specs.declared.task_id.TaskId.{TaskId}
use Rattle.ig_defs.specs.declared.queue_name.QueueName.{QueueName}

-- the last n decimal digits of a number, the highest first
abbrev pub digits : ℕ → ℕ → List ℕ
digits zero v = []
digits (suc n) v = digits n (v / 10) ++ (48 + v % 10) ∷ []

-- ---- a stage: SSSS.json
abbrev pub stage_fits : ℕ → Bool
stage_fits stage = nat_lt stage (10 ^ 4)

abbrev pub stage_file : ℕ → List ℕ
stage_file stage = digits 4 stage ++ codes ".json"

-- ---- a task that is done or dead: SSSS-TTTTTT.json
abbrev pub task_fits : TaskId → Bool
task_fits id = stage_fits id.stage && nat_lt id.task (10 ^ 6)

abbrev pub task_file : TaskId → List ℕ
task_file id = digits 4 id.stage ++ 45 ∷ (digits 6 id.task ++ codes ".json")

-- ---- a task in the queue: VVVVVVVVVV--SSSS-TTTTTT-AAA.json
abbrev pub task_of : QueueName → TaskId
task_of name = record { stage = name.stage; task = name.task }

abbrev pub queue_fits : QueueName → Bool
queue_fits name = nat_lt name.visible (10 ^ 10) && (task_fits (task_of name) && nat_lt name.attempt (10 ^ 3))

abbrev pub queue_file : QueueName → List ℕ
queue_file name = digits 10 name.visible ++ 45 ∷ 45 ∷ (digits 4 name.stage ++ 45 ∷ (digits 6 name.task ++ 45 ∷ (digits 3 name.attempt ++ codes ".json")))
