-- What a maker of stages knows of a queue, in which it alone makes stages.
use Rattle.std.specs.Prelude.{◌≡◌, ℕ, Bool, List, None, Some, slice_get, option_map}
use Rattle.ig_defs.specs.declared.step.Act.{Act}
use Rattle.ig_defs.specs.Files.{Files}
use Rattle.ig_record.specs.declared.stage.Stage.{Stage}
use Rattle.ig_rule.specs.Facts.{IsPath}
use Rattle.ig_rule.specs.QueueFiles.{QueueFile, named_task, queue_of}
use Rattle.ig_rule.specs.Roles.{Allows}
use Rattle.ig_rule.specs.Sound.{Sound}
use Rattle.ig_rule.specs.Stages.{stages_in}
use Rattle.ig_rule.specs.declared.role.Role.TheVariants.{Maker}
use Rattle.ig_task.specs.Facts.{facts_of, stage_reader}

-- It knows all recorded stages, by their numbers.
pub record KnowsStages (q : List ℕ) (stages : List Stage) (files : Files) : Type 0 where
  pub sound : Sound stage_reader q files
  pub recorded : (n : ℕ) → stages_in stage_reader q files n ≡ option_map (facts_of n) (slice_get stages n)

-- Sound files whose records and seals are those that were there first.
pub record KeepsStages (q : List ℕ) (first files : Files) : Type 0 where
  pub sound : Sound stage_reader q files
  pub same : (x : QueueFile) → named_task x ≡ None → queue_of q files x ≡ queue_of q first x

-- what others do beside a maker
abbrev pub Others : List ℕ → Bool → Files → Act → Type 0
Others q = Allows stage_reader Maker (Some q)

-- the path is none of these stages'
abbrev pub IsPathOfNone : List Stage → List ℕ → Type 0
IsPathOfNone stages path = (n : ℕ) (s : Stage) → slice_get stages n ≡ Some s → IsPath (facts_of n s) path → ⊥
