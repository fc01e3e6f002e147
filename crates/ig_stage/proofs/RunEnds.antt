-- Each end of a run of a stage that makes files.
use Rattle.std.proofs.Common.{arith, ◌≡◌, ◌<◌, ◌≤◌, ◌+◌, ◌-◌, ℕ, zero, suc, List, [], ◌∷◌, ◌++◌, length, take, drop, map, Option, None, Some, Result, Err, refl, sym, ap, subst, ◌∙◌}
use Rattle.std.proofs.lemmas.List.{append-nil, append_assoc, take-append-drop, length-take}
use Rattle.ig_defs.specs.declared.step.Act.{Act}
use Rattle.ig_defs.specs.declared.step.Act.TheVariants as act
use Rattle.ig_defs.specs.Files.{Files, file_at}
use Rattle.ig_defs.specs.Log.{Log, files_of}
use Rattle.ig_defs.specs.Own.{File, put_all, puts_of}
use Rattle.ig_meaning.specs.Agreeing.{refused-none}
use Rattle.ig_meaning.specs.Ending.{AreFirst, Ending, Finished, Refuses, StoreFailed, NoMemory}
use Rattle.ig_meaning.specs.Fault.{fault_of_run, fault_of_tasks, finds_in, finds_of}
use Rattle.ig_meaning.specs.Finds.{fault_of_tasks-goes_on, fault_of_tasks-refuses, fault_of_tasks-unread}
use Rattle.ig_meaning.specs.JobLaws.{changes-grow, files_put-append, files_put-of, ran-made, ran-refused, ran_first, run-stops}
use Rattle.ig_meaning.specs.Jobs.{Ran, file_of, files_put, info_files, planned_puts, with_info}
use Rattle.ig_meaning.specs.Refusal.{Refusal}
use Rattle.ig_cutout.specs.Outputs.{output_of}
use Rattle.ig_record.specs.declared.stage.Stage.{Stage}
use Rattle.ig_record.specs.declared.stage.InfoFile.{InfoFile}
use Rattle.ig_record.specs.Columns.{inputs_of}
use Rattle.ig_record.specs.Stage.{task_count}
use Rattle.ig_task.specs.OwnInputs.{inputs-some}
use Rattle.ig_task.specs.Runs.{sequential-is_wanted}
use Rattle.ig_stage.specs.Did.{Did, not_made, was_made, after_all, moments_from}
use Rattle.ig_stage.specs.Drafts.{CanRun}
use Rattle.ig_stage.specs.Running.{FailsTask, FailsToPut, PutsInfo, PutsOfTask, Runs, RunsSome, in_reading, in_putting, while_reading, while_putting, ending_of, ending_of_local, puts_all, reads_all}
use Rattle.ig_stage.specs.declared.error.LocalError.{LocalError}
use Rattle.ig_stage.proofs.Dids.{did_nothing}
use Rattle.ig_stage.proofs.InputReads.{after-reads}
use Rattle.ig_stage.proofs.RunMoments.{finds_of-reads, puts_of-reads}
use Rattle.ig_stage.proofs.RunSteps.{after-task, all_did, all_files, all_finds, all_puts, finds_of-task, puts_of-task}

take-all : {A : Type 0} (xs more : List A) → take (length xs) (xs ++ more) ≡ xs
take-all [] more = refl
take-all (x ∷ xs) more = ap (λ rest. x ∷ rest) (take-all xs more)

few_of : {A : Type 0} (xs : List A) (n : ℕ) → n < length xs → length (take n xs) < length xs
few_of xs n fewer = let long = length-take n xs in omega (arith, long, fewer)

-- some first ones, where more follow
first_of-more : {A : Type 0} (xs more all : List A) → all ≡ xs ++ more → AreFirst xs all
first_of-more xs more all is = record { number = length xs; are = sym (ap (take (length xs)) is ∙ take-all xs more) }

module _ (s : Stage) (can : CanRun s) where
  -- where nothing more was read there is no refusal
  no_more : (left k : ℕ) → left + k ≤ task_count s → fault_of_tasks s left k [] ≡ None
  no_more zero k few = refl
  no_more (suc left) k few = fault_of_tasks-unread s (suc left) k (λ path. None) [] (inputs-some s can.sound can.makes k (omega (arith, few)))

  module _ (old : Log) where
    begun : Files
    begun = with_info s.info (files_of old)

    -- what the first tasks put
    first_puts : ℕ → List File
    first_puts n = files_put (ran_first s begun n).changes

    -- the plan: the info, and what the tasks put
    plan : planned_puts s (files_of old) ≡ info_files s.info ++ first_puts (task_count s)
    unfolding begun first_puts
    plan =
        files_put-append (map output_of (info_files s.info)) (ran_first s (with_info s.info (files_of old)) (task_count s)).changes
        ∙ ap (λ first. first ++ files_put (ran_first s (with_info s.info (files_of old)) (task_count s)).changes) (files_put-of (info_files s.info))

    -- it begins with what the first tasks put
    plan_goes_on : (n : ℕ) → n ≤ task_count s → (rest : List File) × (planned_puts s (files_of old) ≡ (info_files s.info ++ first_puts n) ++ rest)
    unfolding first_puts
    plan_goes_on n few =
        let p = changes-grow s begun n (task_count s) few in (
          files_put p.0,
          plan ∙ ap (λ puts. info_files s.info ++ puts) (ap files_put p.1 ∙ files_put-append (ran_first s begun n).changes p.0)
              ∙ sym (append_assoc (info_files s.info) (files_put (ran_first s begun n).changes) (files_put p.0)),
        )

    no_memory : (new : Log) (acts : List Act) → Did old new acts → after_all (files_of old) acts ≡ put_all (files_of old) (puts_of (moments_from (files_of old) acts))
        → AreFirst (puts_of (moments_from (files_of old) acts)) (planned_puts s (files_of old)) → Runs s old new NoMemory
    no_memory new acts did files first = record { acts = acts; did = did; files = files; run = record { fault = tt; puts = first; reads = tt; wanted = tt; refused = tt; sequential = tt } }

    store_failed : (new : Log) (acts : List Act) → Did old new acts → after_all (files_of old) acts ≡ put_all (files_of old) (puts_of (moments_from (files_of old) acts))
        → fault_of_run s (moments_from (files_of old) acts) ≡ None → AreFirst (puts_of (moments_from (files_of old) acts)) (planned_puts s (files_of old)) → Runs s old new StoreFailed
    store_failed new acts did files none first = record { acts = acts; did = did; files = files; run = record { fault = none; puts = first; reads = tt; wanted = tt; refused = tt; sequential = tt } }

    idle : fault_of_tasks s (task_count s) 0 [] ≡ None
    idle = no_more (task_count s) 0 (omega arith)

    -- memory ran out before it began
    pub not_begun : Runs s old old NoMemory
    not_begun = no_memory old [] (did_nothing old) refl (first_of-more [] (planned_puts s (files_of old)) (planned_puts s (files_of old)) refl)

    module _ (info : InfoFile) (has : s.info ≡ Some info) where
      one_info : planned_puts s (files_of old) ≡ file_of info ∷ first_puts (task_count s)
      one_info = plan ∙ ap (λ i. info_files i ++ first_puts (task_count s)) has

      put_failed : (new : Log) (e : Ending) → FailsToPut old new info.path info.text e → Runs s old new e
      put_failed new StoreFailed (not_made did) = store_failed new [] did refl idle (first_of-more [] (planned_puts s (files_of old)) (planned_puts s (files_of old)) refl)
      put_failed new StoreFailed (was_made did) =
          store_failed new (act.Put info.path info.text ∷ []) did refl idle (first_of-more (file_of info ∷ []) (first_puts (task_count s)) (planned_puts s (files_of old)) one_info)
      put_failed new NoMemory did = no_memory new [] did refl (first_of-more [] (planned_puts s (files_of old)) (planned_puts s (files_of old)) refl)
      put_failed new (Refuses r) fails = absurd fails
      put_failed new Finished fails = absurd fails

    failed_by : (info : Option InfoFile) → s.info ≡ info → (new : Log) (e : LocalError) → PutsInfo info old new (Err e) → Runs s old new (ending_of_local e)
    failed_by (Some info) has new e fails = put_failed info has new (ending_of_local e) fails
    failed_by None none new e fails = absurd fails

    -- the info was not put
    pub info_failed : (new : Log) (e : LocalError) → PutsInfo s.info old new (Err e) → Runs s old new (ending_of_local e)
    info_failed new e fails = failed_by s.info refl new e fails

    -- all tasks were run
    pub all_done : (new : Log) → RunsSome s old new (task_count s) → Runs s old new Finished
    unfolding begun first_puts
    all_done new so =
        let w = sequential-is_wanted s can.sound can.elsewhere (files_of old) (files_of new) so.now in
        let left_them = so.did.files ∙ so.files in
        let none : task_count s - task_count s ≡ 0 = omega arith in record {
          acts = so.acts;
          did = so.did;
          files = so.files;
          run = record {
            fault = ap (fault_of_tasks s (task_count s) 0) (sym (append-nil (finds_of (moments_from (files_of old) so.acts)))) ∙ so.fault []
                ∙ ap (λ m. fault_of_tasks s m (task_count s) []) none;
            puts = so.puts ∙ sym plan;
            reads = so.reads;
            wanted = record { sound = can.sound; outputs = w.0; wanted = w.1; put = sym left_them ∙ sym w.2 };
            refused = tt;
            sequential = so.now ∙ ap Some left_them;
          };
        }

    module _ (mid : Log) (n : ℕ) (below : n < task_count s) (so : RunsSome s old mid n) where
      -- ---- some inputs were read, and nothing was put
      read_files : (new : Log) (paths : List (List ℕ)) (did : Did mid new (reads_all paths))
          → after_all (files_of old) (so.acts ++ reads_all paths) ≡ put_all (files_of old) (puts_of (moments_from (files_of old) (so.acts ++ reads_all paths)))
      read_files new paths did = all_files s old mid new n below so (reads_all paths) did [] (puts_of-reads (files_of mid) paths) (after-reads (files_of mid) paths)

      read_puts : (new : Log) (paths : List (List ℕ)) → Did mid new (reads_all paths)
          → puts_of (moments_from (files_of old) (so.acts ++ reads_all paths)) ≡ info_files s.info ++ first_puts n
      unfolding begun first_puts
      read_puts new paths did =
          all_puts s old mid new n below so (reads_all paths) did ∙ ap (λ last. puts_of (moments_from (files_of old) so.acts) ++ last) (puts_of-reads (files_of mid) paths)
          ∙ append-nil (puts_of (moments_from (files_of old) so.acts)) ∙ so.puts

      read_first : (new : Log) (paths : List (List ℕ)) → Did mid new (reads_all paths)
          → AreFirst (puts_of (moments_from (files_of old) (so.acts ++ reads_all paths))) (planned_puts s (files_of old))
      read_first new paths did =
          let p = plan_goes_on n (omega (arith, below)) in
          first_of-more (puts_of (moments_from (files_of old) (so.acts ++ reads_all paths))) p.0 (planned_puts s (files_of old)) (p.1 ∙ ap (λ puts. puts ++ p.0) (sym (read_puts new paths did)))

      read_fault : (new : Log) (paths : List (List ℕ)) → Did mid new (reads_all paths)
          → fault_of_run s (moments_from (files_of old) (so.acts ++ reads_all paths)) ≡ fault_of_tasks s (task_count s - n) n (finds_in (file_at (files_of mid)) paths)
      read_fault new paths did =
          ap (fault_of_tasks s (task_count s) 0) (sym (append-nil (finds_of (moments_from (files_of old) (so.acts ++ reads_all paths)))) ∙ all_finds s old mid new n below so (reads_all paths) did []
          ∙ ap (λ found. finds_of (moments_from (files_of old) so.acts) ++ found) (append-nil (finds_of (moments_from (files_of mid) (reads_all paths))) ∙ finds_of-reads (files_of mid) paths))
          ∙ so.fault (finds_in (file_at (files_of mid)) paths)

      left : task_count s - n ≡ suc (task_count s - (n + 1))
      left = omega (arith, below)

      -- the task refused
      task_refused : (new : Log) (r : Refusal) → FailsTask s n mid new (Refuses r) → Runs s old new (Refuses r)
      unfolding begun first_puts
      task_refused new r h =
          let paths = inputs_of s n in
          let next = ran-refused s begun n (files_of mid) so.now (refused-none s n (file_at (files_of mid)) r h.1) in
          let stops = run-stops s begun (suc n) (task_count s) below (ap (λ (t : Ran). t.files) next) in record {
            acts = so.acts ++ reads_all paths;
            did = all_did s old mid new n below so (reads_all paths) h.0;
            files = read_files new paths h.0;
            run = record {
              fault = read_fault new paths h.0 ∙ ap (λ m. fault_of_tasks s m n (finds_in (file_at (files_of mid)) paths)) left
                  ∙ fault_of_tasks-refuses s (task_count s - (n + 1)) n (file_at (files_of mid)) r h.1;
              puts = read_puts new paths h.0
                  ∙ ap (λ puts. info_files s.info ++ puts) (sym (ap (λ (t : Ran). files_put t.changes) next) ∙ sym (ap files_put stops.same)) ∙ sym plan;
              reads = tt;
              wanted = tt;
              refused = stops.stopped;
              sequential = tt;
            };
          }

      -- ---- all inputs were read, and some outputs put
      module _ (new : Log) (outputs : List File) (number : ℕ) (part : PutsOfTask s n mid new outputs number) where
        put_acts : List Act
        put_acts = reads_all (inputs_of s n) ++ puts_all (take number outputs)

        put_files : after_all (files_of old) (so.acts ++ put_acts) ≡ put_all (files_of old) (puts_of (moments_from (files_of old) (so.acts ++ put_acts)))
        unfolding put_acts
        put_files = all_files s old mid new n below so put_acts part.did (take number outputs) (puts_of-task s n (files_of mid) (take number outputs)) (after-task s n (files_of mid) (take number outputs))

        put_puts : puts_of (moments_from (files_of old) (so.acts ++ put_acts)) ≡ (info_files s.info ++ first_puts n) ++ take number outputs
        unfolding put_acts begun first_puts
        put_puts =
            all_puts s old mid new n below so put_acts part.did
            ∙ ap (λ last. puts_of (moments_from (files_of old) so.acts) ++ last) (puts_of-task s n (files_of mid) (take number outputs)) ∙ ap (λ first. first ++ take number outputs) so.puts

        -- the plan goes on with all of the outputs
        put_plan : (rest : List File) × (planned_puts s (files_of old) ≡ ((info_files s.info ++ first_puts n) ++ take number outputs) ++ rest)
        unfolding begun first_puts
        put_plan =
            let made = ran-made s begun n (files_of mid) (map output_of outputs) so.now part.made in
            let next : first_puts (suc n) ≡ first_puts n ++ outputs
            = ap (λ (t : Ran). files_put t.changes) made ∙ files_put-append (ran_first s begun n).changes (map output_of outputs) ∙ ap (λ last. first_puts n ++ last) (files_put-of outputs) in
            let p = plan_goes_on (suc n) below in
            let first = info_files s.info ++ first_puts n in (
              drop number outputs ++ p.0,
              p.1 ∙ ap (λ puts. (info_files s.info ++ puts) ++ p.0) next
                  ∙ ap (λ puts. puts ++ p.0) (sym (append_assoc (info_files s.info) (first_puts n) outputs))
                  ∙ ap (λ all. (first ++ all) ++ p.0) (sym (take-append-drop number outputs))
                  ∙ ap (λ puts. puts ++ p.0) (sym (append_assoc first (take number outputs) (drop number outputs)))
                  ∙ append_assoc (first ++ take number outputs) (drop number outputs) p.0,
            )

        put_first : AreFirst (puts_of (moments_from (files_of old) (so.acts ++ put_acts))) (planned_puts s (files_of old))
        put_first = first_of-more (puts_of (moments_from (files_of old) (so.acts ++ put_acts))) put_plan.0 (planned_puts s (files_of old)) (put_plan.1 ∙ ap (λ puts. puts ++ put_plan.0) (sym put_puts))

        put_fault : fault_of_run s (moments_from (files_of old) (so.acts ++ put_acts)) ≡ None
        unfolding put_acts
        put_fault =
            let finds = finds_in (file_at (files_of mid)) (inputs_of s n) in
            ap (fault_of_tasks s (task_count s) 0) (sym (append-nil (finds_of (moments_from (files_of old) (so.acts ++ put_acts)))) ∙ all_finds s old mid new n below so put_acts part.did []
            ∙ ap (λ found. finds_of (moments_from (files_of old) so.acts) ++ (found ++ [])) (finds_of-task s n (files_of mid) (take number outputs)))
            ∙ so.fault (finds ++ []) ∙ ap (λ m. fault_of_tasks s m n (finds ++ [])) left
            ∙ fault_of_tasks-goes_on s (task_count s - (n + 1)) n (file_at (files_of mid)) [] part.fine
            ∙ no_more (task_count s - (n + 1)) (n + 1) (omega (arith, below))

        put_did : Did old new (so.acts ++ put_acts)
        unfolding put_acts
        put_did = all_did s old mid new n below so put_acts part.did

      -- the task stopped
      pub task_failed : (new : Log) (e : Ending) → FailsTask s n mid new e → Runs s old new e
      task_failed new (Refuses r) h = task_refused new r h
      task_failed new StoreFailed (while_reading h) =
          let paths = take h.number (inputs_of s n) in
          store_failed new (so.acts ++ reads_all paths) (all_did s old mid new n below so (reads_all paths) h.did) (read_files new paths h.did)
          (read_fault new paths h.did ∙ fault_of_tasks-unread s (task_count s - n) n (file_at (files_of mid)) paths (few_of (inputs_of s n) h.number h.fewer))
          (read_first new paths h.did)
      task_failed new StoreFailed (while_putting outputs number part) =
          store_failed new (so.acts ++ put_acts new outputs number part) (put_did new outputs number part) (put_files new outputs number part) (put_fault new outputs number part) (put_first new outputs number part)
      task_failed new NoMemory (in_reading h) =
          let paths = take h.number (inputs_of s n) in
          no_memory new (so.acts ++ reads_all paths) (all_did s old mid new n below so (reads_all paths) h.did) (read_files new paths h.did) (read_first new paths h.did)
      task_failed new NoMemory (in_putting outputs number part) =
          no_memory new (so.acts ++ put_acts new outputs number part) (put_did new outputs number part) (put_files new outputs number part) (put_first new outputs number part)
      task_failed new Finished fails = absurd fails

-- the ending of an error that is passed on
pub passed_on : {T : Type 0} (s : Stage) (old new : Log) (result : Result T LocalError) (given made : LocalError) → result ≡ Err made → made ≡ given
    → Runs s old new (ending_of_local given) → Runs s old new (ending_of result)
passed_on s old new result given made is same runs = subst (λ r. Runs s old new (ending_of r)) (sym is) (subst (λ e. Runs s old new (ending_of_local e)) (sym same) runs)
