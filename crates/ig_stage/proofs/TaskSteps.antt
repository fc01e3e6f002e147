-- The own steps of a task, from those of its parts.
use Rattle.std.proofs.Common.{◌≡◌, ℕ, List, ◌++◌, length, take, Result, Ok, Err, sym, ap, subst, ◌∙◌}
use Rattle.std.proofs.Math.Seq.{take-length}
use Rattle.std.proofs.lemmas.List.{take-map}
use Rattle.ig_defs.specs.Files.{file_at}
use Rattle.ig_defs.specs.Log.{Log, files_of}
use Rattle.ig_meaning.specs.Ending.{Ending, Finished, Refuses, StoreFailed, NoMemory}
use Rattle.ig_record.specs.declared.stage.Stage.{Stage}
use Rattle.ig_record.specs.Columns.{inputs_of}
use Rattle.ig_cutout.specs.declared.types.Output.{Output}
use Rattle.ig_cutout.specs.Outputs.{output_of}
use Rattle.ig_stage.specs.Did.{Did}
use Rattle.ig_stage.specs.Running.{FailsTask, FailsToPutAll, PutsOfTask, PutsOutputs, RunsTask, in_putting, while_putting, ending_of_local, puts_all, reads_all}
use Rattle.ig_stage.specs.Tasks.{MakesFiles}
use Rattle.ig_stage.specs.declared.error.LocalError.{LocalError}
use Rattle.ig_stage.proofs.Dids.{did_then}
use Rattle.ig_meaning.specs.JobLaws.{files_put-of}
use Rattle.ig_meaning.specs.Jobs.{files_put}

module _ (s : Stage) (k : ℕ) (old mid : Log) (paths : List (List ℕ)) (outputs : List Output) (are : paths ≡ inputs_of s k) (read : Did old mid (reads_all paths)) (makes : MakesFiles s k (file_at (files_of old)) outputs) where
  some_files : (n : ℕ) → files_put (take n outputs) ≡ take n makes.made
  some_files n = ap (λ (all : List Output). files_put (take n all)) makes.put ∙ ap files_put (take-map output_of n makes.made) ∙ files_put-of (take n makes.made)

  puts_some : (new : Log) (n : ℕ) → Did mid new (puts_all (files_put (take n outputs))) → PutsOfTask s k old new makes.made n
  puts_some new n did = record {
    fine = makes.fine;
    made = makes.are;
    did = subst (λ all. Did old new (reads_all all ++ puts_all (take n makes.made))) are
        (did_then old mid new (reads_all paths) (puts_all (take n makes.made)) read (subst (λ files. Did mid new (puts_all files)) (some_files n) did));
  }

  whole : files_put outputs ≡ take (length makes.made) makes.made
  whole = ap files_put makes.put ∙ files_put-of makes.made ∙ sym (take-length makes.made)

  task_failed : (new : Log) (e : Ending) → FailsToPutAll outputs mid new e → FailsTask s k old new e
  task_failed new StoreFailed some = while_putting makes.made some.number (puts_some new some.number some.did)
  task_failed new NoMemory some = in_putting makes.made some.number (puts_some new some.number some.did)
  task_failed new (Refuses r) fails = absurd fails
  task_failed new Finished fails = absurd fails

  pub task_ran : (new : Log) (result : Result (Unit {0}) LocalError) → PutsOutputs outputs mid new result → RunsTask s k old new result
  task_ran new (Ok done) did = record {
    outputs = makes.made;
    puts = record {
      fine = makes.fine;
      made = makes.are;
      did = subst (λ all. Did old new (reads_all all ++ puts_all (take (length makes.made) makes.made))) are
          (did_then old mid new (reads_all paths) (puts_all (take (length makes.made) makes.made)) read (subst (λ files. Did mid new (puts_all files)) whole did));
    };
  }
  task_ran new (Err e) fails = task_failed new (ending_of_local e) fails
