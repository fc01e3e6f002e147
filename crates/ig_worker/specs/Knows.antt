-- What a worker knows of the files.
use Rattle.std.specs.Prelude.{◌-◌, ℕ, Bool, not, true, false, List, [], ◌∷◌, length, filter, map, take, Option, None, Some}
use Rattle.ig_defs.specs.declared.queue_name.QueueName.{QueueName}
use Rattle.ig_defs.specs.Files.{Files}
use Rattle.ig_defs.specs.Own.{File}
use Rattle.ig_defs.specs.QueueNames.{task_of}
use Rattle.ig_cutout.specs.declared.types.Input.{Input}
use Rattle.ig_cutout.specs.declared.types.Output.{Output}
use Rattle.ig_record.specs.declared.stage.Stage.{Stage}
use Rattle.ig_record.specs.Columns.{paths_of}
use Rattle.ig_rule.specs.Known.{KeptStage, Lease, Memory}
use Rattle.ig_rule.specs.Known as rule
use Rattle.ig_task.specs.Facts.{facts_of, is_scratch, stage_reader}
use Rattle.ig_worker.specs.declared.phase.Phase.{Phase}
use Rattle.ig_worker.specs.declared.phase.Phase.TheVariants.{Starting, Learning, Asking, Trying, Fetching, Running, Finishing, Closing, ListingDead, ListingDone, Telling, Over, Broken}
use Rattle.ig_worker.specs.Places.{State}
use Rattle.ig_worker.specs.Stages.{Known, stage_in}

abbrev pub kept_of : ℕ × Stage → KeptStage
kept_of r = record { number = r.0; stage = facts_of r.0 r.1 }

-- ---- a leased task
abbrev pub with_file : List ℕ → Option (List ℕ) → List File → List File
with_file path None files = files
with_file path (Some bytes) files = record { path = path; bytes = bytes } ∷ files

-- the files that were found
abbrev pub found_files : List Input → List File
found_files [] = []
found_files (input ∷ given) = with_file input.path input.found (found_files given)

-- those of them that are of its source, and those that earlier passes made
abbrev pub of_source : Stage → List File → List File
of_source s files = filter (λ file. not (is_scratch s file.path)) files

abbrev pub of_passes : Stage → List File → List File
of_passes s files = filter (λ file. is_scratch s file.path) files

-- the files that are to be put
abbrev pub made_files : List Output → List File
made_files [] = []
made_files (output ∷ outputs) = with_file output.path output.text (made_files outputs)

-- of a task's paths, those that are no longer among the outputs
abbrev pub finished_paths : List (List ℕ) → List Output → List (List ℕ)
finished_paths paths outputs = take (length paths - length outputs) paths

abbrev pub fetched_lease : QueueName → List Input → Stage → Lease
fetched_lease name given s = record { id = task_of name; stage = facts_of name.stage s; sources = of_source s (found_files given); scratch = of_passes s (found_files given); outputs = []; finished = [] }

abbrev pub made_lease : QueueName → List Output → Stage → Lease
made_lease name outputs s = record { id = task_of name; stage = facts_of name.stage s; sources = []; scratch = []; outputs = made_files outputs; finished = finished_paths (paths_of s name.task) outputs }

abbrev pub one_lease : (Stage → Lease) → Option Stage → List Lease
one_lease lease None = []
one_lease lease (Some s) = lease s ∷ []

abbrev pub leases_at : Known → Phase → List Lease
leases_at known Starting = []
leases_at known (Learning unread then) = []
leases_at known Asking = []
leases_at known (Trying names) = []
leases_at known (Fetching name paths given names) = one_lease (fetched_lease name given) (stage_in known name.stage)
leases_at known (Running name given names) = one_lease (fetched_lease name given) (stage_in known name.stage)
leases_at known (Finishing name outputs names) = one_lease (made_lease name outputs) (stage_in known name.stage)
leases_at known Closing = []
leases_at known ListingDead = []
leases_at known (ListingDone letters) = []
leases_at known (Telling letters count) = []
leases_at known (Over end) = []
leases_at known (Broken error) = []

-- ---- the listed stages
abbrev pub has_listed : Phase → Bool
has_listed Starting = false
has_listed (Broken error) = false
has_listed phase = true

abbrev pub unread_at : Phase → List ℕ
unread_at (Learning unread then) = unread
unread_at phase = []

-- ---- all that it keeps
abbrev pub memory_of : State → Memory
memory_of s = record { stages = map kept_of s.notes.known; has_listed = has_listed s.phase; unread = unread_at s.phase; leases = leases_at s.notes.known s.phase }

-- What the worker keeps is so in these files.
abbrev pub Knows : State → Files → Type 0
Knows s files = rule.Known stage_reader s.notes.plan.queue files (memory_of s)
