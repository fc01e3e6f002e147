-- A run of a stage that makes files, task by task.
use Rattle.std.proofs.Common.{arith, ◌≡◌, ◌<◌, ◌+◌, ◌-◌, ℕ, suc, List, [], ◌∷◌, ◌++◌, length, take, map, Option, None, Some, Ok, refl, sym, ap, subst, ◌∙◌}
use Rattle.std.proofs.Math.Seq.{take-length}
use Rattle.std.proofs.lemmas.List.{append-nil, append_assoc}
use Rattle.ig_space.specs.Chunks.{listed}
use Rattle.ig_defs.specs.declared.step.Act.{Act}
use Rattle.ig_defs.specs.declared.step.Act.TheVariants as act
use Rattle.ig_defs.specs.Files.{Files, file_at}
use Rattle.ig_defs.specs.Log.{Log, files_of}
use Rattle.ig_defs.specs.Own.{File, put_all, puts_of, reads_of}
use Rattle.ig_defs.specs.Puts.{put_all-append}
use Rattle.ig_meaning.specs.Fault.{Find, fault_of_tasks, finds_in, finds_of}
use Rattle.ig_record.specs.declared.stage.Stage.{Stage}
use Rattle.ig_record.specs.declared.stage.InfoFile.{InfoFile}
use Rattle.ig_record.specs.Columns.{inputs_of}
use Rattle.ig_record.specs.Stage.{task_count}
use Rattle.ig_cutout.specs.Outputs.{output_of}
use Rattle.ig_meaning.specs.Finds.{fault_of_tasks-goes_on}
use Rattle.ig_meaning.specs.JobLaws.{files_put-append, files_put-of, ran-made, ran_first, with_outputs-put}
use Rattle.ig_meaning.specs.Jobs.{Ran, files_put, info_files, with_info}
use Rattle.ig_meaning.specs.Sequential.{flattened-next}
use Rattle.ig_meaning.specs.Wants.{flattened}
use Rattle.ig_stage.specs.Did.{Did, after_all, moments_from}
use Rattle.ig_stage.specs.Running.{PutsInfo, RunsSome, TaskDone, puts_all, reads_all}
use Rattle.ig_stage.proofs.Dids.{did_nothing, did_then, moments_from-append, after_all-append}
use Rattle.ig_stage.proofs.InputReads.{after-reads}
use Rattle.ig_stage.proofs.RunMoments.{after-puts, finds_of-more, finds_of-puts, finds_of-reads, puts_of-more, puts_of-puts, puts_of-reads, reads_of-more, reads_of-puts, reads_of-reads}

-- ---- the own steps of one task
task_acts : Stage → ℕ → List File → List Act
task_acts s k outputs = reads_all (inputs_of s k) ++ puts_all outputs

module _ (s : Stage) (k : ℕ) (files : Files) (outputs : List File) where
  moments-task : moments_from files (reads_all (inputs_of s k) ++ puts_all outputs)
      ≡ moments_from files (reads_all (inputs_of s k)) ++ moments_from (after_all files (reads_all (inputs_of s k))) (puts_all outputs)
  moments-task = moments_from-append files (reads_all (inputs_of s k)) (puts_all outputs)

  pub puts_of-task : puts_of (moments_from files (reads_all (inputs_of s k) ++ puts_all outputs)) ≡ outputs
  puts_of-task =
      ap puts_of moments-task ∙ puts_of-more (moments_from files (reads_all (inputs_of s k))) (moments_from (after_all files (reads_all (inputs_of s k))) (puts_all outputs))
      ∙ ap (λ first. first ++ puts_of (moments_from (after_all files (reads_all (inputs_of s k))) (puts_all outputs))) (puts_of-reads files (inputs_of s k))
      ∙ puts_of-puts (after_all files (reads_all (inputs_of s k))) outputs

  pub reads_of-task : reads_of (moments_from files (reads_all (inputs_of s k) ++ puts_all outputs)) ≡ inputs_of s k
  reads_of-task =
      ap reads_of moments-task ∙ reads_of-more (moments_from files (reads_all (inputs_of s k))) (moments_from (after_all files (reads_all (inputs_of s k))) (puts_all outputs))
      ∙ ap (λ last. reads_of (moments_from files (reads_all (inputs_of s k))) ++ last) (reads_of-puts (after_all files (reads_all (inputs_of s k))) outputs)
      ∙ append-nil (reads_of (moments_from files (reads_all (inputs_of s k)))) ∙ reads_of-reads files (inputs_of s k)

  pub finds_of-task : finds_of (moments_from files (reads_all (inputs_of s k) ++ puts_all outputs)) ≡ finds_in (file_at files) (inputs_of s k)
  finds_of-task =
      ap finds_of moments-task ∙ finds_of-more (moments_from files (reads_all (inputs_of s k))) (moments_from (after_all files (reads_all (inputs_of s k))) (puts_all outputs))
      ∙ ap (λ last. finds_of (moments_from files (reads_all (inputs_of s k))) ++ last) (finds_of-puts (after_all files (reads_all (inputs_of s k))) outputs)
      ∙ append-nil (finds_of (moments_from files (reads_all (inputs_of s k)))) ∙ finds_of-reads files (inputs_of s k)

  pub after-task : after_all files (reads_all (inputs_of s k) ++ puts_all outputs) ≡ put_all files outputs
  after-task =
      after_all-append files (reads_all (inputs_of s k)) (puts_all outputs) ∙ ap (λ now. after_all now (puts_all outputs)) (after-reads files (inputs_of s k)) ∙ after-puts files outputs

-- ---- the run begins with its info
with_info_put : (s : Stage) (info : InfoFile) → s.info ≡ Some info → (old new : Log) → Did old new (act.Put info.path info.text ∷ []) → RunsSome s old new 0
with_info_put s info has old new did = record {
  acts = act.Put info.path info.text ∷ [];
  did = did;
  files = refl;
  now = ap (λ i. Some (with_info i (files_of old))) has ∙ ap Some (sym did.files);
  puts = ap (λ i. info_files i ++ []) (sym has);
  reads = refl;
  fault = λ rest. let all : task_count s ≡ task_count s - 0 = omega arith in ap (λ m. fault_of_tasks s m 0 rest) all;
}

-- or with nothing, where it has none
with_nothing : (s : Stage) → s.info ≡ None → (log : Log) → RunsSome s log log 0
with_nothing s none log = record {
  acts = [];
  did = did_nothing log;
  files = refl;
  now = ap (λ i. Some (with_info i (files_of log))) none;
  puts = ap (λ i. info_files i ++ []) (sym none);
  reads = refl;
  fault = λ rest. let all : task_count s ≡ task_count s - 0 = omega arith in ap (λ m. fault_of_tasks s m 0 rest) all;
}

begins_with : (s : Stage) (info : Option InfoFile) → s.info ≡ info → (old new : Log) (x : Unit {0}) → PutsInfo info old new (Ok x) → RunsSome s old new 0
begins_with s (Some info) has old new x put = with_info_put s info has old new put
begins_with s None none old new x same = subst (λ log. RunsSome s old log 0) (sym same) (with_nothing s none old)

pub run_begins : (s : Stage) (old new : Log) (x : Unit {0}) → PutsInfo s.info old new (Ok x) → RunsSome s old new 0
run_begins s old new x put = begins_with s s.info refl old new x put

-- ---- and goes on by a task
module _ (s : Stage) (old mid new : Log) (n : ℕ) (below : n < task_count s) (so : RunsSome s old mid n) where
  one_more : n + 1 ≡ suc n
  one_more = omega arith

  left : task_count s - n ≡ suc (task_count s - (n + 1))
  left = omega (arith, below)

  -- what the own steps are once those of this task were made
  module _ (acts : List Act) (did : Did mid new acts) where
    pub all_did : Did old new (so.acts ++ acts)
    all_did = did_then old mid new so.acts acts so.did did

    pub all_moments : moments_from (files_of old) (so.acts ++ acts) ≡ moments_from (files_of old) so.acts ++ moments_from (files_of mid) acts
    all_moments = moments_from-append (files_of old) so.acts acts ∙ ap (λ files. moments_from (files_of old) so.acts ++ moments_from files acts) (sym so.did.files)

    pub all_finds : (rest : List Find) → finds_of (moments_from (files_of old) (so.acts ++ acts)) ++ rest
        ≡ finds_of (moments_from (files_of old) so.acts) ++ (finds_of (moments_from (files_of mid) acts) ++ rest)
    all_finds rest =
        ap (λ ms. finds_of ms ++ rest) all_moments ∙ ap (λ finds. finds ++ rest) (finds_of-more (moments_from (files_of old) so.acts) (moments_from (files_of mid) acts))
        ∙ append_assoc (finds_of (moments_from (files_of old) so.acts)) (finds_of (moments_from (files_of mid) acts)) rest

    pub all_puts : puts_of (moments_from (files_of old) (so.acts ++ acts)) ≡ puts_of (moments_from (files_of old) so.acts) ++ puts_of (moments_from (files_of mid) acts)
    all_puts = ap puts_of all_moments ∙ puts_of-more (moments_from (files_of old) so.acts) (moments_from (files_of mid) acts)

    pub all_reads : reads_of (moments_from (files_of old) (so.acts ++ acts)) ≡ reads_of (moments_from (files_of old) so.acts) ++ reads_of (moments_from (files_of mid) acts)
    all_reads = ap reads_of all_moments ∙ reads_of-more (moments_from (files_of old) so.acts) (moments_from (files_of mid) acts)

    -- where the steps of this task left its files, so do all
    pub all_files : (outputs : List File) → puts_of (moments_from (files_of mid) acts) ≡ outputs → after_all (files_of mid) acts ≡ put_all (files_of mid) outputs
        → after_all (files_of old) (so.acts ++ acts) ≡ put_all (files_of old) (puts_of (moments_from (files_of old) (so.acts ++ acts)))
    all_files outputs put left_them =
        after_all-append (files_of old) so.acts acts ∙ ap (λ now. after_all now acts) (sym so.did.files) ∙ left_them
        ∙ ap (λ now. put_all now outputs) (so.did.files ∙ so.files)
        ∙ sym (put_all-append (files_of old) (puts_of (moments_from (files_of old) so.acts)) outputs)
        ∙ ap (put_all (files_of old)) (ap (λ last. puts_of (moments_from (files_of old) so.acts) ++ last) (sym put) ∙ sym all_puts)

  task_whole : (outputs : List File) (number : ℕ) → number ≡ length outputs → take number outputs ≡ outputs
  task_whole outputs number is = ap (λ m. take m outputs) is ∙ take-length outputs

  pub run_goes_on : TaskDone s n mid new → RunsSome s old new (n + 1)
  run_goes_on done =
      let outputs = done.outputs in
      let acts = reads_all (inputs_of s n) ++ puts_all outputs in
      let did : Did mid new acts = subst (λ files. Did mid new (reads_all (inputs_of s n) ++ puts_all files)) (take-length outputs) done.puts.did in
      let begun = with_info s.info (files_of old) in
      let next = ran-made s begun n (files_of mid) (map output_of outputs) so.now done.puts.made in
      let left_them = after-task s n (files_of mid) outputs in
      record {
        acts = so.acts ++ acts;
        did = all_did acts did;
        files = all_files acts did outputs (puts_of-task s n (files_of mid) outputs) left_them;
        now = ap (λ m. (ran_first s begun m).files) one_more ∙ ap (λ (r : Ran). r.files) next ∙ ap Some (with_outputs-put (files_of mid) outputs ∙ sym (did.files ∙ left_them));
        puts = all_puts acts did ∙ ap (λ last. puts_of (moments_from (files_of old) so.acts) ++ last) (puts_of-task s n (files_of mid) outputs)
            ∙ ap (λ first. first ++ outputs) so.puts
            ∙ append_assoc (info_files s.info) (files_put (ran_first s begun n).changes) outputs
            ∙ ap (λ puts. info_files s.info ++ puts)
            (sym (ap (λ m. files_put (ran_first s begun m).changes) one_more ∙ ap (λ (r : Ran). files_put r.changes) next
            ∙ files_put-append (ran_first s begun n).changes (map output_of outputs) ∙ ap (λ last. files_put (ran_first s begun n).changes ++ last) (files_put-of outputs)));
        reads = all_reads acts did ∙ ap (λ last. reads_of (moments_from (files_of old) so.acts) ++ last) (reads_of-task s n (files_of mid) outputs)
            ∙ ap (λ first. first ++ inputs_of s n) so.reads
            ∙ sym (ap (λ m. flattened (listed (inputs_of s) m)) one_more ∙ flattened-next (inputs_of s) n);
        fault = λ rest.
            ap (fault_of_tasks s (task_count s) 0) (all_finds acts did rest ∙ ap (λ found. finds_of (moments_from (files_of old) so.acts) ++ (found ++ rest)) (finds_of-task s n (files_of mid) outputs))
            ∙ so.fault (finds_in (file_at (files_of mid)) (inputs_of s n) ++ rest)
            ∙ ap (λ m. fault_of_tasks s m n (finds_in (file_at (files_of mid)) (inputs_of s n) ++ rest)) left
            ∙ fault_of_tasks-goes_on s (task_count s - (n + 1)) n (file_at (files_of mid)) rest done.puts.fine;
      }
