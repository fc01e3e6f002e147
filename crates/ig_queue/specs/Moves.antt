-- What a move of a task's name answers.
use Rattle.std.specs.Prelude.{◌≡◌, ◌+◌, ℕ, Bool, true, false, min, List, Some, Result, Ok, Err}
use Rattle.ig_space.specs.declared.task_id.TaskId.{TaskId}
use Rattle.ig_defs.specs.declared.error.StoreError.{StoreError}
use Rattle.ig_defs.specs.declared.queue_name.QueueName.{QueueName}
use Rattle.ig_defs.specs.declared.step.Act.{Act}
use Rattle.ig_defs.specs.declared.step.Step.{Step}
use Rattle.ig_defs.specs.Files.{Files}
use Rattle.ig_defs.specs.Log.{ByOthers, replay}
use Rattle.ig_rule.specs.Facts.{Reader}
use Rattle.ig_rule.specs.Roles.{Allows}
use Rattle.ig_rule.specs.Rule.{MayBeDone}
use Rattle.ig_rule.specs.Stages.{stages_in}
use Rattle.ig_rule.specs.declared.role.Role.{Role}
use Rattle.ig_queue.specs.declared.types.Lease.{Lease}
use Rattle.ig_queue.specs.declared.types.Lease.TheVariants.{Leased, Gone}
use Rattle.ig_queue.specs.declared.types.Closed.{Closed}
use Rattle.ig_queue.specs.declared.types.Closed.TheVariants.{Done, Late}

-- the name of a task once it is leased for so many seconds
abbrev pub leased_name : ℕ → ℕ → QueueName → QueueName
leased_name now seconds name = record { visible = min (now + seconds) 9999999999; stage = name.stage; task = name.task; attempt = name.attempt + 1 }

-- a lease has this name
abbrev pub IsLeaseOf : QueueName → Lease → Type 0
IsLeaseOf name (Leased given) = given ≡ name
IsLeaseOf name Gone = Unit {0}

-- what an answer says of the move: whether the file was there
abbrev pub lease_made : Result Lease StoreError → Result Bool StoreError
lease_made (Ok (Leased given)) = Ok true
lease_made (Ok Gone) = Ok false
lease_made (Err e) = Err e

abbrev pub close_made : Result Closed StoreError → Result Bool StoreError
close_made (Ok Done) = Ok true
close_made (Ok Late) = Ok false
close_made (Err e) = Err e

-- Others do what the rule of the queue with this directory leaves to them beside a process of this role.
abbrev pub OthersKeep : (Bool → Files → Act → Type 0) → Reader → Role → List ℕ → Type 0
OthersKeep allows read role q = (files : Files) (a : Act) → allows false files a → Allows read role (Some q) false files a

-- Whatever others do first, the task may then be called done.
abbrev pub MayBeDoneBeside : (Bool → Files → Act → Type 0) → Reader → List ℕ → Files → TaskId → Type 0
MayBeDoneBeside allows read q files id =
    (others : List Step) → ByOthers allows files others → MayBeDone (stages_in read q (replay files others)) (replay files others) id
