-- The sequential run: each task in order, on the files as they are then.
use Rattle.std.specs.Prelude.{ℕ, List, [], ◌∷◌, ◌++◌, map, Option, None, Some}
use Rattle.std.specs.FinMap as maps
use Rattle.ig_space.specs.Chunks.{listed}
use Rattle.ig_defs.specs.Files.{Files, file_at}
use Rattle.ig_defs.specs.Own.{File}
use Rattle.ig_cutout.specs.declared.types.Output.{Output}
use Rattle.ig_cutout.specs.Outputs.{output_of}
use Rattle.ig_record.specs.declared.stage.InfoFile.{InfoFile}
use Rattle.ig_record.specs.declared.stage.Stage.{Stage}
use Rattle.ig_record.specs.Columns.{inputs_of}
use Rattle.ig_record.specs.Stage.{task_count}
use Rattle.ig_meaning.specs.Task.{task_outputs}
use Rattle.ig_meaning.specs.Wants.{flattened}

-- ---- outputs
-- the files once an output is put, or is taken away
abbrev pub with_text : Files → List ℕ → Option (List ℕ) → Files
with_text files path (Some bytes) = maps.insert files path bytes
with_text files path None = maps.remove files path

abbrev pub with_outputs : Files → List Output → Files
with_outputs files [] = files
with_outputs files (output ∷ outputs) = with_outputs (with_text files output.path output.text) outputs

-- the files that outputs put
abbrev pub file_put : List ℕ → Option (List ℕ) → List File
file_put path None = []
file_put path (Some text) = record { path = path; bytes = text } ∷ []

abbrev pub files_put : List Output → List File
files_put [] = []
files_put (output ∷ outputs) = file_put output.path output.text ++ files_put outputs

-- ---- jobs
-- a task of a stage
pub record Job : Type 0 where
  pub stage : Stage
  pub task : ℕ

-- the files that stand after a run, where no task refused, and what was put or taken away so far
pub record Ran : Type 0 where
  pub files : Option Files
  pub changes : List Output

abbrev pub with_task : List Output → Files → Option (List Output) → Ran
with_task changes now (Some outputs) = record { files = Some (with_outputs now outputs); changes = changes ++ outputs }
with_task changes now None = record { files = None; changes = changes }

abbrev pub run_on : Job → List Output → Option Files → Ran
run_on job changes (Some now) = with_task changes now (task_outputs job.stage job.task (file_at now))
run_on job changes None = record { files = None; changes = changes }

abbrev pub run_job : Ran → Job → Ran
run_job ran job = run_on job ran.changes ran.files

abbrev pub run_jobs : Ran → List Job → Ran
run_jobs ran [] = ran
run_jobs ran (job ∷ jobs) = run_jobs (run_job ran job) jobs

-- before the first
abbrev pub begun : Files → Ran
begun files = record { files = Some files; changes = [] }

-- the files that jobs leave; undefined where one refuses
abbrev pub sequential : List Job → Files → Option Files
sequential jobs files = (run_jobs (begun files) jobs).files

-- ---- a stage
abbrev pub job_of : Stage → ℕ → Job
job_of s k = record { stage = s; task = k }

-- the first n tasks
abbrev pub first_jobs : Stage → ℕ → List Job
first_jobs s n = listed (job_of s) n

abbrev pub jobs_of : Stage → List Job
jobs_of s = first_jobs s (task_count s)

-- the file of an info
abbrev pub file_of : InfoFile → File
file_of info = record { path = info.path; bytes = info.text }

abbrev pub info_files : Option InfoFile → List File
info_files None = []
info_files (Some info) = file_of info ∷ []

-- the files once the info is put
abbrev pub with_info : Option InfoFile → Files → Files
with_info info files = with_outputs files (map output_of (info_files info))

-- what it puts and takes away: the info, and then what its jobs do, up to the first that refuses
abbrev pub planned_changes : Stage → Files → List Output
planned_changes s files = map output_of (info_files s.info) ++ (run_jobs (begun (with_info s.info files)) (jobs_of s)).changes

-- what of that it puts
abbrev pub planned_puts : Stage → Files → List File
planned_puts s files = files_put (planned_changes s files)

-- the paths that it reads, in order
abbrev pub planned_reads : Stage → List (List ℕ)
planned_reads s = flattened (listed (inputs_of s) (task_count s))
