-- A stage that is written elsewhere, run one task after the other.
use Rattle.std.specs.Prelude.{◌≡◌, true, List, Some}
use Rattle.ig_defs.specs.Files.{Files, file_at}
use Rattle.ig_cutout.specs.declared.types.Output.{Output}
use Rattle.ig_record.specs.declared.stage.Stage.{Stage}
use Rattle.ig_record.specs.Sound.{is_sound}
use Rattle.ig_meaning.specs.Jobs.{jobs_of, sequential, with_info, with_outputs}
use Rattle.ig_meaning.specs.Sequential.{IsElsewhere, sequential-wanted}
use Rattle.ig_meaning.specs.Wants.{wanted_outputs}
use Rattle.ig_task.specs.MadeOutputs.{given-scratch}

-- The tasks of a sound stage, none of which makes an input of another, leave exactly what is wanted.
pub sequential-is_wanted : (s : Stage) → is_sound s ≡ true → IsElsewhere s → (files after : Files) → sequential (jobs_of s) (with_info s.info files) ≡ Some after
    → (outputs : List Output) × (wanted_outputs s (file_at files) ≡ Some outputs) × (with_outputs (with_info s.info files) outputs ≡ after)
sequential-is_wanted s sound elsewhere files after =
    sequential-wanted s sound elsewhere files after (λ k below. given-scratch s sound k (file_at (with_info s.info files)))
