-- What a task of a stage that makes files makes are files.
use Rattle.std.proofs.Common.{◌≡◌, ℕ, false, List, Some, is_some, sym, ap, ◌∙◌}
use Rattle.ig_layer.specs.Layer.{Reading}
use Rattle.ig_record.specs.declared.stage.Stage.{Stage}
use Rattle.ig_record.specs.Columns.{removed_dir}
use Rattle.ig_meaning.specs.Agreeing.{made-fine}
use Rattle.ig_meaning.specs.Jobs.{files_put}
use Rattle.ig_meaning.specs.Task.{task_outputs}
use Rattle.ig_cutout.specs.declared.types.Output.{Output}
use Rattle.ig_task.specs.PutOutputs.{outputs-put}
use Rattle.ig_task.specs.Wanted.{AreWanted}
use Rattle.ig_stage.specs.Tasks.{MakesFiles}

pub makes_files : (s : Stage) → is_some (removed_dir s) ≡ false → (k : ℕ) (files : Reading) (outputs : List Output) → task_outputs s k files ≡ Some outputs → AreWanted s k files outputs → MakesFiles s k files outputs
makes_files s makes k files outputs made wanted =
    let put = outputs-put s k files outputs makes wanted in
    record { fine = (made-fine s k files outputs made).0; made = files_put outputs; are = made ∙ ap Some (sym put); put = sym put }
