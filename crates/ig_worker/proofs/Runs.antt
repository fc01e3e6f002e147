-- What comes of a task all of whose inputs were found.
use Rattle.std.specs.Prelude.{Contains, IsSome}
use Rattle.std.proofs.Common.{arith, ◌≡◌, ◌<◌, ℕ, suc, Bool, true, false, if◌then◌else◌, List, [], ◌∷◌, length, get_or, Option, None, Some, is_some, sym, ap, subst, ◌∙◌, ◌==◌}
use Rattle.std.specs.List.{All}
use Rattle.std.proofs.lemmas.List.{get_or-map, length-map}
use Rattle.ig_layer.specs.Layer.{Reading}
use Rattle.ig_cutout.specs.declared.types.Input.{Input}
use Rattle.ig_cutout.specs.Inputs.{HoldsAll, path_of, paths_of}
use Rattle.ig_record.specs.declared.stage.Stage.{Stage}
use Rattle.ig_record.specs.Sound.{is_sound}
use Rattle.ig_record.specs.Columns.{inputs_of}
use Rattle.ig_worker.specs.Fit.{AreStages, IsFound, IsStage}
use Rattle.ig_worker.specs.Stages.{Known, stage_in}

-- ---- no input is missing
-- Where an input was found, the file is there.
pub all-there : (s : Stage) (k : ℕ) (files : Reading) (given : List Input) → HoldsAll files given → All IsFound given → paths_of given ≡ inputs_of s k
    → (path : List ℕ) → Contains (inputs_of s k) path → IsSome (files path)
all-there s k files given holds found are path among = by_place (subst (λ (paths : List (List ℕ)). Contains paths path) (sym are) among)
  where
    by_place : Contains (paths_of given) path → IsSome (files path)
    by_place (i, below, is) =
        let d : Input = record { path = []; found = None } in
        let few : i < length given = omega (arith, below, sym (length-map given path_of)) in
        let at : (get_or given i d).path ≡ path = sym (get_or-map path_of given i d path few) ∙ is in
        ap (λ p. is_some (files p)) (sym at) ∙ ap (λ (o : Option (List ℕ)). is_some o) (holds i d few) ∙ found i d few

-- ---- known stages are sound
abbrev IsSoundIf : Option Stage → Type 0
IsSoundIf None = Unit {0}
IsSoundIf (Some s) = is_sound s ≡ true

found_by : (t s : Stage) (b : Bool) (rest : Option Stage) → (if b then Some t else rest) ≡ Some s → is_sound t ≡ true → (rest ≡ Some s → is_sound s ≡ true) → is_sound s ≡ true
found_by t s true rest e here later = subst IsSoundIf e here
found_by t s false rest e here later = later e

sound_in : (known : Known) → All IsStage known → (n : ℕ) (s : Stage) → stage_in known n ≡ Some s → is_sound s ≡ true
sound_in [] each n s e = absurd cc
sound_in (r ∷ rest) each n s e =
    found_by r.1 s (r.0 == n) (stage_in rest n) e (each 0 r (omega arith)).sound (sound_in rest (λ i d below. each (suc i) d (omega (arith, below))) n s)

pub known-sound : (known : Known) → AreStages known → (n : ℕ) (s : Stage) → stage_in known n ≡ Some s → is_sound s ≡ true
known-sound known are n s e = sound_in known are.each n s e
