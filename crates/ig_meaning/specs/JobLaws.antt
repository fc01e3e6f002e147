-- Laws on runs of jobs: they go on from what stands, and stop at the first that refuses.
use Rattle.std.specs.Prelude.{◌≡◌, ◌⊎◌, ℕ, zero, suc, ◌<◌, ◌≤◌, List, [], ◌∷◌, ◌++◌, Option, None, Some, map}
use Rattle.std.proofs.Common.{arith, ap, sym, ◌∙◌, refl, inl, inr, append_assoc}
use Rattle.std.proofs.lemmas.Bool.{cases_lt}
use Rattle.std.proofs.lemmas.List.{append-nil}
use Rattle.ig_space.specs.Chunks.{listed}
use Rattle.ig_defs.specs.Files.{Files, file_at}
use Rattle.ig_defs.specs.Own.{File, put_all}
use Rattle.ig_cutout.specs.declared.types.Output.{Output}
use Rattle.ig_cutout.specs.Outputs.{output_of}
use Rattle.ig_record.specs.declared.stage.Stage.{Stage}
use Rattle.ig_meaning.specs.Jobs.{Job, Ran, begun, file_put, files_put, first_jobs, job_of, run_job, run_jobs, run_on, with_outputs, with_task, with_text}
use Rattle.ig_meaning.specs.Task.{task_outputs}

-- ---- outputs
pub with_outputs-append : (now : Files) (xs ys : List Output) → with_outputs now (xs ++ ys) ≡ with_outputs (with_outputs now xs) ys
with_outputs-append now [] ys = refl
with_outputs-append now (x ∷ xs) ys = with_outputs-append (with_text now x.path x.text) xs ys

pub files_put-append : (xs ys : List Output) → files_put (xs ++ ys) ≡ files_put xs ++ files_put ys
files_put-append [] ys = refl
files_put-append (x ∷ xs) ys = ap (λ rest. file_put x.path x.text ++ rest) (files_put-append xs ys) ∙ sym (append_assoc (file_put x.path x.text) (files_put xs) (files_put ys))

pub files_put-of : (files : List File) → files_put (map output_of files) ≡ files
files_put-of [] = refl
files_put-of (file ∷ files) = ap (λ rest. file ∷ rest) (files_put-of files)

-- outputs that put files put them
pub with_outputs-put : (now : Files) (files : List File) → with_outputs now (map output_of files) ≡ put_all now files
with_outputs-put now [] = refl
with_outputs-put now (file ∷ files) = with_outputs-put (with_text now file.path (Some file.bytes)) files

-- ---- jobs
pub run_jobs-append : (ran : Ran) (xs ys : List Job) → run_jobs ran (xs ++ ys) ≡ run_jobs (run_jobs ran xs) ys
run_jobs-append ran [] ys = refl
run_jobs-append ran (x ∷ xs) ys = run_jobs-append (run_job ran x) xs ys

-- what was done before stays first
abbrev pub Grows : List Output → List Output → Type 0
Grows first all = (rest : List Output) × (all ≡ first ++ rest)

task-grows : (changes : List Output) (now : Files) (outputs : Option (List Output)) → Grows changes (with_task changes now outputs).changes
task-grows changes now None = ([], sym (append-nil changes))
task-grows changes now (Some outputs) = (outputs, refl)

job-grows : (job : Job) (changes : List Output) (now : Option Files) → Grows changes (run_on job changes now).changes
job-grows job changes None = ([], sym (append-nil changes))
job-grows job changes (Some now) = task-grows changes now (task_outputs job.stage job.task (file_at now))

pub jobs-grow : (ran : Ran) (jobs : List Job) → Grows ran.changes (run_jobs ran jobs).changes
jobs-grow ran [] = ([], sym (append-nil ran.changes))
jobs-grow ran (job ∷ jobs) =
    let one = job-grows job ran.changes ran.files in
    let more = jobs-grow (run_job ran job) jobs in
    (one.0 ++ more.0, more.1 ∙ ap (λ first. first ++ more.0) one.1 ∙ append_assoc ran.changes one.0 more.0)

-- a run that stopped does no more
pub record IsStopped (ran : Ran) (changes : List Output) : Type 0 where
  pub stopped : ran.files ≡ None
  pub same : ran.changes ≡ changes

pub jobs-stop : (ran : Ran) (jobs : List Job) → ran.files ≡ None → IsStopped (run_jobs ran jobs) ran.changes
jobs-stop ran [] stop = record { stopped = stop; same = refl }
jobs-stop ran (job ∷ jobs) stop =
    let one : run_job ran job ≡ record { files = None; changes = ran.changes } = ap (run_on job ran.changes) stop in
    let more = jobs-stop (run_job ran job) jobs (ap (λ (r : Ran). r.files) one) in
    record { stopped = more.stopped; same = more.same ∙ ap (λ (r : Ran). r.changes) one }

-- ---- the tasks of a stage
listed_by : {A : Type 0} (f : ℕ → A) (n m : ℕ) → n ≤ suc m → (n ≤ m → (rest : List A) × (listed f m ≡ listed f n ++ rest)) → (m < n) ⊎ (n ≤ m) → (rest : List A) × (listed f (suc m) ≡ listed f n ++ rest)
listed_by f n m order before (inl last) = let same : suc m ≡ n = omega (arith, order, last) in ([], ap (listed f) same ∙ sym (append-nil (listed f n)))
listed_by f n m order before (inr more) =
    let p = before more in
    (p.0 ++ f m ∷ [], ap (λ first. first ++ f m ∷ []) p.1 ∙ append_assoc (listed f n) p.0 (f m ∷ []))

-- the first n of them come first
pub listed-first : {A : Type 0} (f : ℕ → A) (n m : ℕ) → n ≤ m → (rest : List A) × (listed f m ≡ listed f n ++ rest)
listed-first f n zero order = let same : zero ≡ n = omega (arith, order) in ([], ap (listed f) same ∙ sym (append-nil (listed f n)))
listed-first f n (suc m) order = listed_by f n m order (listed-first f n m) (cases_lt m n)

module _ (s : Stage) (files : Files) where
  -- what the first n tasks leave
  abbrev pub ran_first : ℕ → Ran
  ran_first n = run_jobs (begun files) (first_jobs s n)

  pub ran-next : (n : ℕ) → ran_first (suc n) ≡ run_job (ran_first n) (job_of s n)
  ran-next n = run_jobs-append (begun files) (first_jobs s n) (job_of s n ∷ [])

  ran-more : (n m : ℕ) → n ≤ m → (rest : List Job) × (ran_first m ≡ run_jobs (ran_first n) rest)
  ran-more n m order = let p = listed-first (job_of s) n m order in (p.0, ap (run_jobs (begun files)) p.1 ∙ run_jobs-append (begun files) (first_jobs s n) p.0)

  pub changes-grow : (n m : ℕ) → n ≤ m → Grows (ran_first n).changes (ran_first m).changes
  changes-grow n m order =
      let p = ran-more n m order in
      let g = jobs-grow (ran_first n) p.0 in
      (g.0, ap (λ (r : Ran). r.changes) p.1 ∙ g.1)

  pub run-stops : (n m : ℕ) → n ≤ m → (ran_first n).files ≡ None → IsStopped (ran_first m) (ran_first n).changes
  run-stops n m order stop =
      let p = ran-more n m order in
      let st = jobs-stop (ran_first n) p.0 stop in
      record { stopped = ap (λ (r : Ran). r.files) p.1 ∙ st.stopped; same = ap (λ (r : Ran). r.changes) p.1 ∙ st.same }

  -- a task whose outputs are defined
  pub ran-made : (n : ℕ) (now : Files) (outputs : List Output) → (ran_first n).files ≡ Some now → task_outputs s n (file_at now) ≡ Some outputs
      → ran_first (suc n) ≡ record { files = Some (with_outputs now outputs); changes = (ran_first n).changes ++ outputs }
  ran-made n now outputs is made = ran-next n ∙ ap (run_on (job_of s n) (ran_first n).changes) is ∙ ap (with_task (ran_first n).changes now) made

  -- a task that refuses
  pub ran-refused : (n : ℕ) (now : Files) → (ran_first n).files ≡ Some now → task_outputs s n (file_at now) ≡ None → ran_first (suc n) ≡ record { files = None; changes = (ran_first n).changes }
  ran-refused n now is none = ran-next n ∙ ap (run_on (job_of s n) (ran_first n).changes) is ∙ ap (with_task (ran_first n).changes now) none
