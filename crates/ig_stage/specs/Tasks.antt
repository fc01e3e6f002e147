-- What a task makes of its inputs, where it makes files.
use Rattle.std.specs.Prelude.{◌≡◌, ℕ, List, None, Some, map}
use Rattle.ig_defs.specs.Own.{File}
use Rattle.ig_layer.specs.Layer.{Reading}
use Rattle.ig_record.specs.declared.stage.Stage.{Stage}
use Rattle.ig_meaning.specs.Task.{task_outputs, task_refusal}
use Rattle.ig_cutout.specs.declared.types.Output.{Output}
use Rattle.ig_cutout.specs.Outputs.{output_of}

-- the task does not refuse, and the outputs put these files
pub record MakesFiles (s : Stage) (k : ℕ) (files : Reading) (outputs : List Output) : Type 0 where
  pub fine : task_refusal s k files ≡ None
  pub made : List File
  pub are : task_outputs s k files ≡ Some (map output_of made)
  pub put : outputs ≡ map output_of made
