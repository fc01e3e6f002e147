-- What a task makes of what it is to be given is what is wanted.
use Rattle.std.proofs.Common.{◌≡◌, ◌<◌, ℕ, true, List, Some, Result, Ok, Err, IfOk}
use Rattle.ig_layer.specs.Layer.{Reading}
use Rattle.ig_record.specs.declared.stage.Stage.{Stage}
use Rattle.ig_record.specs.Sound.{is_sound}
use Rattle.ig_record.specs.Stage.{task_count}
use Rattle.ig_cutout.specs.declared.types.Input.{Input}
use Rattle.ig_cutout.specs.declared.types.Output.{Output}
use Rattle.ig_cutout.specs.Inputs.{HoldsAll}
use Rattle.ig_meaning.specs.Task.{task_outputs}
use Rattle.ig_task.specs.declared.error.RunError.{RunError}
use Rattle.ig_task.specs.Facts.{given_to}
use Rattle.ig_task.specs.GivenPasses.{outputs-are_wanted}
use Rattle.ig_task.specs.Wanted.{AreWanted}

pub wanted_if : (s : Stage) → is_sound s ≡ true → (k : ℕ) → k < task_count s → (inputs : List Input) (result : Result (List Output) RunError)
    → IfOk result (λ outputs. (files : Reading) → HoldsAll files inputs → task_outputs s k files ≡ Some outputs)
    → IfOk result (λ outputs. (files : Reading) → HoldsAll (given_to s files) inputs → AreWanted s k files outputs)
wanted_if s sound k below inputs (Ok outputs) made = λ files holds. outputs-are_wanted s sound k below files outputs (made (given_to s files) holds)
wanted_if s sound k below inputs (Err e) made = tt
