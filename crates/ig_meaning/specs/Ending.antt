-- How a call ended, and what its own steps then are.
use Rattle.std.specs.Prelude.{◌≡◌, ℕ, true, List, take, Option, None, Some}
use Rattle.ig_defs.specs.Files.{Files, file_at}
use Rattle.ig_defs.specs.Own.{File, Moment, put_all, puts_of, reads_of}
use Rattle.ig_meaning.specs.Refusal.{Refusal}
use Rattle.ig_record.specs.declared.stage.Stage.{Stage}
use Rattle.ig_record.specs.Sound.{is_sound}
use Rattle.ig_cutout.specs.declared.types.Output.{Output}
use Rattle.ig_meaning.specs.Jobs.{jobs_of, planned_puts, planned_reads, sequential, with_info, with_outputs}
use Rattle.ig_meaning.specs.Wants.{wanted_outputs}
use Rattle.ig_meaning.specs.Fault.{fault_of_run}

pub data Ending : Type 0 where
  Finished : Ending
  Refuses : (refusal : Refusal) → Ending
  StoreFailed : Ending
  NoMemory : Ending

-- the fault is that of the ending; want of memory may come at any place
abbrev pub IsFaultOf : Ending → Option Refusal → Type 0
IsFaultOf Finished fault = fault ≡ None
IsFaultOf (Refuses refusal) fault = fault ≡ Some refusal
IsFaultOf StoreFailed fault = fault ≡ None
IsFaultOf NoMemory fault = Unit {0}

-- some first ones of these
pub record AreFirst {A : Type 0} (xs all : List A) : Type 0 where
  pub number : ℕ
  pub are : xs ≡ take number all

-- all of these, where the run went as far as it could; else some first ones
abbrev pub AreAsFar : {A : Type 0} → Ending → List A → List A → Type 0
AreAsFar Finished xs all = xs ≡ all
AreAsFar (Refuses refusal) xs all = xs ≡ all
AreAsFar StoreFailed xs all = AreFirst xs all
AreAsFar NoMemory xs all = AreFirst xs all

-- The stage is sound, and with these puts the files are what they are with its info and then what is wanted of it.
pub record PutsWanted (s : Stage) (files : Files) (puts : List File) : Type 0 where
  pub sound : is_sound s ≡ true
  pub outputs : List Output
  pub wanted : wanted_outputs s (file_at files) ≡ Some outputs
  pub put : put_all files puts ≡ with_outputs (with_info s.info files) outputs

abbrev pub IfFinished : Ending → Type 0 → Type 0
IfFinished Finished P = P
IfFinished (Refuses refusal) P = Unit {0}
IfFinished StoreFailed P = Unit {0}
IfFinished NoMemory P = Unit {0}

abbrev pub IfRefused : Ending → Type 0 → Type 0
IfRefused Finished P = Unit {0}
IfRefused (Refuses refusal) P = P
IfRefused StoreFailed P = Unit {0}
IfRefused NoMemory P = Unit {0}

-- The own steps of a run of the stage on these files, which ended so.
pub record HasRun (s : Stage) (files : Files) (ms : List Moment) (ending : Ending) : Type 0 where
  pub fault : IsFaultOf ending (fault_of_run s ms)
  pub puts : AreAsFar ending (puts_of ms) (planned_puts s files)
  pub reads : IfFinished ending (reads_of ms ≡ planned_reads s)
  pub wanted : IfFinished ending (PutsWanted s files (puts_of ms))
  pub refused : IfRefused ending (sequential (jobs_of s) (with_info s.info files) ≡ None)
  pub sequential : IfFinished ending (sequential (jobs_of s) (with_info s.info files) ≡ Some (put_all files (puts_of ms)))
