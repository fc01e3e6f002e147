-- What is so where a worker stands on its course, and what lasts from there.
use Rattle.std.specs.Prelude.{◌≡◌, ◌≤◌, ℕ, Bool, true, List, Some, IsSome, is_some}
use Rattle.ig_space.specs.declared.task_id.TaskId.{TaskId}
use Rattle.ig_defs.specs.declared.step.Act.{Act}
use Rattle.ig_defs.specs.Files.{Files}
use Rattle.ig_defs.specs.Log.{Log, files_of}
use Rattle.ig_rule.specs.Facts.{Facts}
use Rattle.ig_rule.specs.QueueFiles.{Done, queue_of}
use Rattle.ig_rule.specs.Roles.{Allows}
use Rattle.ig_rule.specs.declared.role.Role.{Role}
use Rattle.ig_rule.specs.Sound.{Legal}
use Rattle.ig_rule.specs.Stages.{stages_in}
use Rattle.ig_task.specs.Facts.{stage_reader}
use Rattle.ig_worker.specs.declared.plan.Plan.{Plan}
use Rattle.ig_worker.specs.Fit.{IsFit}
use Rattle.ig_worker.specs.Knows.{Knows}
use Rattle.ig_worker.specs.Places.{State}
use Rattle.ig_worker.specs.Stages.{Known, stage_in}

-- what a process of the role allows beside it, for the queue of this plan
abbrev pub AllowsFor : Role → Plan → Bool → Files → Act → Type 0
AllowsFor role plan = Allows stage_reader role (Some plan.queue)

-- ---- a place
-- Of this plan, fit, and with a last answer of the clock that is no later than this.
pub record Fits (plan : Plan) (now : ℕ) (s : State) : Type 0 where
  pub of_plan : s.notes.plan ≡ plan
  pub fit : IsFit s
  pub later : s.notes.at ≤ now

-- A worker of this plan stands here, while the clock's last answer is `now`: what it keeps fits, the log is legal, and what it
-- knows is so.
pub record Stays (plan : Plan) (now : ℕ) (s : State) (log : Log) : Type 0 where
  pub place : Fits plan now s
  pub legal : Legal stage_reader plan.queue log
  pub known : Knows s (files_of log)

-- the worker has read the record of stage n
abbrev pub IsKnown : Known → ℕ → Type 0
IsKnown known n = is_some (stage_in known n) ≡ true

-- ---- stages and tasks
-- A stage with these facts is recorded in this log.
abbrev pub IsRecorded : Plan → Log → ℕ → Facts → Type 0
IsRecorded plan log n t = stages_in stage_reader plan.queue (files_of log) n ≡ Some t

-- Each stage that was recorded is so still, and each task that was done is.
pub record Lasts (q : List ℕ) (old new : Files) : Type 0 where
  pub stages : (n : ℕ) (t : Facts) → stages_in stage_reader q old n ≡ Some t → stages_in stage_reader q new n ≡ Some t
  pub done : (id : TaskId) → IsSome (queue_of q old (Done id)) → IsSome (queue_of q new (Done id))
