-- The sequential run of the tasks of names is one run after the other, none of which refuses.
use Rattle.std.specs.Prelude.{◌≡◌, ℕ, List, [], ◌∷◌, ◌++◌, Option, None, Some, IsSome, is_some, option_and_then, option_map, refl}
use Rattle.std.proofs.Common.{ap, sym, subst, true≢false, ◌∙◌}
use Rattle.std.proofs.lemmas.Option.{none-some, same_Some}
use Rattle.ig_defs.specs.declared.queue_name.QueueName.{QueueName}
use Rattle.ig_defs.specs.Files.{Files, file_at}
use Rattle.ig_cutout.specs.declared.types.Output.{Output}
use Rattle.ig_record.specs.declared.stage.Stage.{Stage}
use Rattle.ig_meaning.specs.JobLaws.{jobs-stop}
use Rattle.ig_meaning.specs.Jobs.{Job, Ran, job_of, run_jobs, sequential, with_outputs, with_task}
use Rattle.ig_meaning.specs.Sequential.{first-from}
use Rattle.ig_meaning.specs.Task.{task_outputs}
use Rattle.ig_worker.specs.Finishing.Going.{RunInOrder}
use Rattle.ig_worker.specs.Finishing.CanFinish.{jobs_named, sequential_named}

-- so far these files, and these changes
abbrev so_far : List Output → Files → Ran
so_far changes files = record { files = Some files; changes = changes }

stage_from : (k : ℕ) (o : Option Stage) (job : Job) → option_map (λ s. job_of s k) o ≡ Some job → (s : Stage) × (o ≡ Some s) × (job_of s k ≡ job)
stage_from k None job e = absurd (none-some job e)
stage_from k (Some s) job e = (s, refl, same_Some (job_of s k) job e)

module _ (stages : ℕ → Option Stage) where
  -- a run that goes on after the first of the tasks has outputs of it
  first_runs : (name : QueueName) (names : List QueueName) (changes : List Output) (files : Files) (s : Stage) → stages name.stage ≡ Some s → (jobs : List Job)
      → ((outputs : List Output) → IsSome (run_jobs (so_far (changes ++ outputs) (with_outputs files outputs)) jobs).files → RunInOrder stages (with_outputs files outputs) names)
      → (made : Option (List Output)) → task_outputs s name.task (file_at files) ≡ made → IsSome (run_jobs (with_task changes files made) jobs).files → RunInOrder stages files (name ∷ names)
  first_runs name names changes files s is jobs rest None e ran =
      let stop = (jobs-stop (with_task changes files None) jobs refl).stopped in
      absurd (true≢false (sym ran ∙ ap is_some stop))
  first_runs name names changes files s is jobs rest (Some outputs) e ran = (record { stage = s; is = is; outputs = outputs; makes = e }, rest outputs ran)

  all_run : (names : List QueueName) (changes : List Output) (files : Files) (jobs : List Job) → jobs_named stages names ≡ Some jobs → IsSome (run_jobs (so_far changes files) jobs).files
      → RunInOrder stages files names
  all_run [] changes files jobs are ran = tt
  all_run (name ∷ names) changes files jobs are ran =
      let f = first-from (option_map (λ s. job_of s name.task) (stages name.stage)) (jobs_named stages names) jobs are in
      let of = stage_from name.task (stages name.stage) f.head f.first_is in
      let same : job_of of.0 name.task ∷ f.tail ≡ jobs = ap (λ (job : Job). job ∷ f.tail) of.2 ∙ f.are in
      first_runs name names changes files of.0 of.1 f.tail
      (λ outputs more. all_run names (changes ++ outputs) (with_outputs files outputs) f.tail f.rest_is more)
      (task_outputs of.0 name.task (file_at files)) refl
      (subst (λ (all : List Job). IsSome (run_jobs (so_far changes files) all).files) (sym same) ran)

  run_by : (names : List QueueName) (files : Files) (jobs : Option (List Job)) → jobs_named stages names ≡ jobs → IsSome (option_and_then (λ jobs. sequential jobs files) jobs)
      → RunInOrder stages files names
  run_by names files None are ran = absurd (true≢false (sym ran))
  run_by names files (Some jobs) are ran = all_run names [] files jobs are ran

  -- Where their sequential run is defined, none refuses over the files that those before it leave.
  pub run_in_order : (names : List QueueName) (files : Files) → IsSome (sequential_named stages names files) → RunInOrder stages files names
  run_in_order names files ran = run_by names files (jobs_named stages names) refl ran
