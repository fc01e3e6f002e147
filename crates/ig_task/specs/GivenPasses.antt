-- What a task of a stage is to be given, its source and what earlier passes want, and what it makes of that.
use Rattle.std.specs.Prelude.{◌≡◌, ◌⊎◌, ◌<◌, ℕ, true, false, if◌then◌else◌, List, Option, None, Some, refl}
use Rattle.std.proofs.Common.{ap, inl, inr, sym, ◌∙◌}
use Rattle.std.proofs.lemmas.Bool.{cases_Bool}
use Rattle.std.proofs.lemmas.Option.{none-some}
use Rattle.ig_space.specs.declared.place.Place.{Place}
use Rattle.ig_space.specs.Geometry.{geometry_fits}
use Rattle.ig_layer.specs.Layer.{Labels, Reading, volume_at}
use Rattle.ig_cutout.specs.declared.types.Output.{Output}
use Rattle.ig_record.specs.declared.stage.Stage.{Stage}
use Rattle.ig_record.specs.Columns.{paths_of}
use Rattle.ig_record.specs.Sound.{is_sound}
use Rattle.ig_record.specs.SoundStages.{IsSound-from}
use Rattle.ig_record.specs.Stage.{task_count}
use Rattle.ig_meaning.specs.Lasting.{KeepsChunksOf, volume-lasts}
use Rattle.ig_meaning.specs.Sequential.{HasScratch, task-wanted}
use Rattle.ig_meaning.specs.Task.{task_outputs}
use Rattle.ig_meaning.specs.Wants.{is_chunk_of, outputs_at, scratch_by, scratch_text}
use Rattle.ig_task.specs.Facts.{given_to, is_scratch}
use Rattle.ig_task.specs.Kinds.{stage-laws}
use Rattle.ig_task.specs.MadeOutputs.{are-wanted}
use Rattle.ig_task.specs.ReadPasses.{reads-passes}
use Rattle.ig_task.specs.Wanted.{AreWanted}

-- ---- volumes
same_option : {A : Type 0} (a b : Option A) → ((x : A) → a ≡ Some x → b ≡ Some x) → ((x : A) → b ≡ Some x → a ≡ Some x) → a ≡ b
same_option (Some x) b on back = sym (on x refl)
same_option None (Some y) on back = absurd (none-some y (back y refl))
same_option None None on back = refl

-- Over files with the same chunks the volume is the same.
volume-same : (place : Place) → geometry_fits place.geometry ≡ true → (old new : Reading) → KeepsChunksOf place old new → KeepsChunksOf place new old → volume_at old place ≡ volume_at new place
volume-same place fits old new on back = λ i x y z.
    same_option (volume_at old place x y z) (volume_at new place x y z) (volume-lasts place fits old new on x y z) (volume-lasts place fits new old back x y z) i

-- ---- what it is to be given
-- At the path of a file of an earlier pass it is what that wants,
pub given-pass : (s : Stage) (files : Reading) (path : List ℕ) → is_scratch s path ≡ true → given_to s files path ≡ scratch_text s files path
given-pass s files path e = ap (λ test. if test then scratch_text s files path else files path) e

-- and at that of a chunk what stands there.
pub given-chunk : (s : Stage) → is_sound s ≡ true → (files : Reading) (path : List ℕ) → is_chunk_of s.source path ≡ true → given_to s files path ≡ files path
given-chunk s sound files path chunk = by_test (cases_Bool (is_scratch s path))
  where
    by_test : (is_scratch s path ≡ true) ⊎ (is_scratch s path ≡ false) → given_to s files path ≡ files path
    by_test (inl e) = absurd ((stage-laws 0 s sound).scratch_apart path e chunk)
    by_test (inr e) = ap (λ test. if test then scratch_text s files path else files path) e

-- So it has the volume of the files,
volume-given : (s : Stage) → is_sound s ≡ true → (files : Reading) → volume_at (given_to s files) s.source ≡ volume_at files s.source
volume-given s sound files =
    volume-same s.source (IsSound-from s sound).fits (given_to s files) files
    (λ path bytes chunk e. sym (given-chunk s sound files path chunk) ∙ e) (λ path bytes chunk e. given-chunk s sound files path chunk ∙ e)

-- and what earlier passes want.
given-wanted : (s : Stage) → is_sound s ≡ true → (k : ℕ) → k < task_count s → (files : Reading) → HasScratch s k (given_to s files)
given-wanted s sound k below files path among =
    given-pass s files path ((reads-passes s sound).reads k below path among) ∙ ap (λ (volume : Labels). scratch_by s.kind s volume path) (sym (volume-given s sound files))

-- ---- what it makes
-- What a task of a sound stage makes of files that have what earlier passes want is what the stage wants,
pub held-are_wanted : (s : Stage) → is_sound s ≡ true → (k : ℕ) → k < task_count s → (files : Reading) (outputs : List Output) → HasScratch s k files → task_outputs s k files ≡ Some outputs → AreWanted s k files outputs
held-are_wanted s sound k below files outputs has made = are-wanted s sound k below files outputs (task-wanted s k files outputs has made)

-- and so is what it makes of what it is to be given.
pub outputs-are_wanted : (s : Stage) → is_sound s ≡ true → (k : ℕ) → k < task_count s → (files : Reading) (outputs : List Output) → task_outputs s k (given_to s files) ≡ Some outputs → AreWanted s k files outputs
outputs-are_wanted s sound k below files outputs made =
    are-wanted s sound k below files outputs
    (ap (λ volume. outputs_at s volume (paths_of s k)) (sym (volume-given s sound files)) ∙ task-wanted s k (given_to s files) outputs (given-wanted s sound k below files) made)
