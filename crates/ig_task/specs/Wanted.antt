-- Outputs that are as the stage wants them.
use Rattle.std.specs.Prelude.{◌≡◌, ℕ, not, true, false, List, None, Some, is_some, map}
use Rattle.std.specs.List.{All}
use Rattle.ig_layer.specs.Layer.{Reading}
use Rattle.ig_record.specs.declared.stage.Stage.{Stage}
use Rattle.ig_record.specs.Columns.{paths_of, removed_dir}
use Rattle.ig_cutout.specs.declared.types.Output.{Output}
use Rattle.ig_meaning.specs.Wants.{wanted_text}

-- the path of an output
abbrev pub path_of : Output → List ℕ
path_of output = output.path

-- its text is the one that is wanted at its path
pub record HasWantedText (s : Stage) (files : Reading) (output : Output) : Type 0 where
  pub bytes : List ℕ
  pub text : output.text ≡ Some bytes
  pub wanted : wanted_text s files output.path ≡ Some bytes

-- The outputs of task k: at each of its paths, in order, the wanted text; of a removal, nothing.
pub record AreWanted (s : Stage) (k : ℕ) (files : Reading) (outputs : List Output) : Type 0 where
  pub paths : map path_of outputs ≡ paths_of s k
  pub made : is_some (removed_dir s) ≡ false → All (HasWantedText s files) outputs
  pub gone : is_some (removed_dir s) ≡ true → All (λ (output : Output). output.text ≡ None) outputs

-- of a removal nothing is to stand, and else something
abbrev pub HasText : Stage → Output → Type 0
HasText s output = is_some output.text ≡ not (is_some (removed_dir s))

-- outputs at each of the task's paths, in order, with what is to stand there
pub record AreOutputs (s : Stage) (k : ℕ) (outputs : List Output) : Type 0 where
  pub paths : map path_of outputs ≡ paths_of s k
  pub texts : All (HasText s) outputs
