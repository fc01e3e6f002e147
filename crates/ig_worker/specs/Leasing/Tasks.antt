-- What a leased task makes of what was found of its inputs, whatever the files are.
use Rattle.std.specs.Prelude.{◌≡◌, ◌<◌, ℕ, Bool, true, false, if◌then◌else◌, List, Some}
use Rattle.std.proofs.Common.{arith, ap, sym, subst, ◌∙◌}
use Rattle.std.proofs.lemmas.Option.{same_Some}
use Rattle.ig_defs.specs.declared.queue_name.QueueName.{QueueName}
use Rattle.ig_cutout.specs.declared.types.Input.{Input}
use Rattle.ig_cutout.specs.declared.types.Output.{Output}
use Rattle.ig_cutout.specs.Inputs.{paths_of as input_paths}
use Rattle.ig_record.specs.declared.stage.Stage.{Stage}
use Rattle.ig_record.specs.Columns.{inputs_of}
use Rattle.ig_record.specs.Stage.{task_count}
use Rattle.ig_task.specs.ReadPasses.{reads-passes}
use Rattle.ig_task.specs.Wanted.{AreOutputs}
use Rattle.ig_worker.specs.declared.notes.Notes.{Notes}
use Rattle.ig_worker.specs.Fit.{AreFitNotes, IsFinishing, IsRunning}
use Rattle.ig_worker.specs.FoundInputs.{found_at, holds_inputs}
use Rattle.ig_worker.specs.Keeping.Tasks.{known_sound}
use Rattle.ig_worker.specs.Moves.{IsOutcome, Makes}
use Rattle.ig_worker.specs.Stages.{Known, is_under_removal, open_tasks, stage_in, tasks_by}

-- ---- tasks
below_by : (b : Bool) (k count : ℕ) → k < (if b then 0 else count) → k < count
below_by true k count below = absurd (omega (arith, below))
below_by false k count below = below

-- a task that may be run is one of its stage
pub open_below : (known : Known) (n k : ℕ) (s : Stage) → stage_in known n ≡ Some s → k < open_tasks known n → k < task_count s
open_below known n k s e below = below_by (is_under_removal known n s) k (task_count s) (subst (λ o. k < tasks_by known n o) e below)

-- By what was found of its inputs, whatever the files are now, a task makes an output at each of its paths.
pub ran_outputs : (notes : Notes) (name : QueueName) (given : List Input) (names : List QueueName) → AreFitNotes notes → IsRunning notes name given names → (s : Stage) → stage_in notes.known name.stage ≡ Some s
    → (outputs : List Output) → IsOutcome s name.task given (Makes outputs) → AreOutputs s name.task outputs
ran_outputs notes name given names fit_notes fit s e outputs comes =
    let sound = known_sound notes fit_notes name.stage s e in
    let below = open_below notes.known name.stage name.task s e fit.leased.below in
    let same : fit.stage ≡ s = same_Some fit.stage s (sym fit.leased.stage ∙ e) in
    let read : input_paths given ≡ inputs_of s name.task = fit.read ∙ ap (λ t. inputs_of t name.task) same in
    (reads-passes s sound).makes name.task below (found_at given) outputs (comes (found_at given) (holds_inputs s sound name.task below given read))

-- they are handed over
pub ran_finishing : (notes : Notes) (name : QueueName) (given : List Input) (names : List QueueName) → AreFitNotes notes → IsRunning notes name given names → (s : Stage) → stage_in notes.known name.stage ≡ Some s
    → (outputs : List Output) → IsOutcome s name.task given (Makes outputs) → IsFinishing notes name outputs names
ran_finishing notes name given names fit_notes fit s e outputs comes =
    let are = ran_outputs notes name given names fit_notes fit s e outputs comes in
    record { stage = s; leased = record { fits = fit.leased.fits; stage = e; below = fit.leased.below }; done = 0; paths = are.paths; texts = are.texts; ahead = fit.ahead }
