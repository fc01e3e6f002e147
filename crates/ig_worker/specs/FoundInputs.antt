-- What was found of the inputs of a task, as files.
use Rattle.std.specs.Prelude.{◌≡◌, ◌≢◌, ◌<◌, ℕ, zero, suc, Bool, true, false, if◌then◌else◌, List, [], ◌∷◌, length, get_or, None, refl}
use Rattle.std.specs.Str.{bytes_eq}
use Rattle.std.proofs.Common.{arith, ap, sym, subst, ◌∙◌}
use Rattle.std.proofs.lemmas.List.{get_or-map, length-map}
use Rattle.std.proofs.lemmas.Slice.Eq.{bytes_eq-Decides}
use Rattle.ig_layer.specs.Layer.{Reading}
use Rattle.ig_cutout.specs.declared.types.Input.{Input}
use Rattle.ig_cutout.specs.Inputs.{HoldsAll, path_of, paths_of}
use Rattle.ig_record.specs.declared.stage.Stage.{Stage}
use Rattle.ig_record.specs.Columns.{inputs_of}
use Rattle.ig_record.specs.Sound.{is_sound}
use Rattle.ig_record.specs.Stage.{task_count}
use Rattle.ig_task.specs.InputPaths.{inputs-apart}
use Rattle.ig_task.specs.ReadPasses.{AreApart}

-- what was found at a path, by the first input that has it
abbrev pub found_at : List Input → Reading
found_at [] path = None
found_at (input ∷ given) path = if bytes_eq input.path path then input.found else found_at given path

is_other : (b : Bool) → (b ≡ true → ⊥) → b ≡ false
is_other true no_way = absurd (no_way refl)
is_other false no_way = refl

-- one input more
holds_more : (input : Input) (given : List Input) → AreApart (paths_of (input ∷ given)) → HoldsAll (found_at given) given → HoldsAll (found_at (input ∷ given)) (input ∷ given)
holds_more input given apart later zero d below = ap (λ b. if b then input.found else found_at given input.path) ((bytes_eq-Decides input.path input.path).1 refl)
holds_more input given apart later (suc k) d below =
    let here : Input = get_or given k d in
    let few : k < length given = omega (arith, below) in
    let differs : input.path ≢ here.path
    = λ same. apart.0 (k, omega (arith, few, length-map given path_of), get_or-map path_of given k d input.path few ∙ sym same) in
    ap (λ b. if b then input.found else found_at given here.path) (is_other (bytes_eq input.path here.path) (λ test. differs ((bytes_eq-Decides input.path here.path).0 test)))
    ∙ later k d few

-- At the paths of inputs, none of which comes twice, this is what was found.
holds_found : (given : List Input) → AreApart (paths_of given) → HoldsAll (found_at given) given
holds_found [] apart = λ k d below. absurd (omega (arith, below))
holds_found (input ∷ given) apart = holds_more input given apart (holds_found given apart.1)

-- So it is of the inputs of a task.
pub holds_inputs : (s : Stage) → is_sound s ≡ true → (k : ℕ) → k < task_count s → (given : List Input) → paths_of given ≡ inputs_of s k → HoldsAll (found_at given) given
holds_inputs s sound k below given are = holds_found given (subst AreApart (sym are) (inputs-apart s sound k below))
