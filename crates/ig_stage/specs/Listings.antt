-- What the listings of a queue tell a maker of its tasks: this project's own.
use Rattle.std.specs.Prelude.{◌<◌, ℕ, Bool, List, [], ◌∷◌, codes}
use Rattle.ig_space.specs.Path.{joined}
use Rattle.ig_defs.specs.declared.step.Act.{Act}
use Rattle.ig_defs.specs.declared.step.Act.TheVariants as act
use Rattle.ig_defs.specs.Files.{Files}
use Rattle.ig_defs.specs.Log.{Log}
use Rattle.ig_rule.specs.Stages.{task_id}
use Rattle.ig_meaning.specs.QueueActs.{IsShown}
use Rattle.ig_stage.specs.Open.{Does}
use Rattle.ig_stage.specs.Shown.{IsSet, Marks, ShowsTask}

-- The one own act listed the directory, and the flags of the tasks of stage n that it showed were set.
pub record DoesList (allows : Bool → Files → Act → Type 0) (q : List ℕ) (n : ℕ) (dir : List ℕ) (flags now : List Bool) (old new : Log) : Type 0 where
  pub given : List (List ℕ)
  pub does : Does allows old new (act.List (joined q dir) given ∷ [])
  pub marks : Marks (ShowsTask dir given n) flags now

-- The own acts were the three listings, and the flags of the first tasks of stage n are set exactly where one showed the task.
pub record DoesListAll (allows : Bool → Files → Act → Type 0) (q : List ℕ) (n tasks : ℕ) (flags : List Bool) (old new : Log) : Type 0 where
  pub queued : List (List ℕ)
  pub dead : List (List ℕ)
  pub done : List (List ℕ)
  pub does : Does allows old new (act.List (joined q (codes "queue")) queued ∷ act.List (joined q (codes "dead")) dead ∷ act.List (joined q (codes "done")) done ∷ [])
  pub set : (k : ℕ) → k < tasks → IsShown queued dead done (task_id n k) → IsSet flags k
  pub only : (k : ℕ) → k < tasks → IsSet flags k → IsShown queued dead done (task_id n k)
