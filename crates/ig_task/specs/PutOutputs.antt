-- The outputs of a stage that makes files are files to be put.
use Rattle.std.specs.Prelude.{◌≡◌, ℕ, suc, false, List, [], ◌∷◌, ◌++◌, Some, is_some, All, map, refl}
use Rattle.std.proofs.Common.{arith, ap, sym, ◌∙◌}
use Rattle.ig_cutout.specs.declared.types.Output.{Output}
use Rattle.ig_cutout.specs.Outputs.{output_of}
use Rattle.ig_layer.specs.Layer.{Reading}
use Rattle.ig_record.specs.declared.stage.Stage.{Stage}
use Rattle.ig_record.specs.Columns.{removed_dir}
use Rattle.ig_meaning.specs.Jobs.{file_put, files_put}
use Rattle.ig_task.specs.Wanted.{AreWanted, HasWantedText}

one_put : (output : Output) (bytes : List ℕ) → output.text ≡ Some bytes → output_of (record { path = output.path; bytes = bytes }) ≡ output
one_put output bytes e = λ i. record { path = output.path; text = sym e i }

all_put : (s : Stage) (files : Reading) (outputs : List Output) → All (HasWantedText s files) outputs → map output_of (files_put outputs) ≡ outputs
all_put s files [] wanted = refl
all_put s files (output ∷ outputs) wanted =
    let w = wanted 0 output (omega arith) in
    ap (λ text. map output_of (file_put output.path text ++ files_put outputs)) w.text
    ∙ ap (λ o. o ∷ map output_of (files_put outputs)) (one_put output w.bytes w.text)
    ∙ ap (λ rest. output ∷ rest) (all_put s files outputs (λ k d below. wanted (suc k) d (omega (arith, below))))

pub outputs-put : (s : Stage) (k : ℕ) (files : Reading) (outputs : List Output) → is_some (removed_dir s) ≡ false → AreWanted s k files outputs → map output_of (files_put outputs) ≡ outputs
outputs-put s k files outputs makes wanted = all_put s files outputs (wanted.made makes)
