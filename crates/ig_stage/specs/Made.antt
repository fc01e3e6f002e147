-- What the making of a stage in a queue did: this project's own.
use Rattle.std.specs.Prelude.{◌≡◌, ◌<◌, ◌^◌, ℕ, Bool, true, false, is_some, List, Option, None, Some, Result, Ok, Err, length}
use Rattle.std.specs.List.{All}
use Rattle.ig_defs.specs.declared.step.Act.{Act}
use Rattle.ig_defs.specs.Files.{Files}
use Rattle.ig_defs.specs.Log.{Log, files_of}
use Rattle.ig_defs.specs.Own.{Moment, steps_since}
use Rattle.ig_meaning.specs.Call.{AllLook}
use Rattle.ig_meaning.specs.Ending.{Ending, Finished, Refuses, StoreFailed, NoMemory}
use Rattle.ig_meaning.specs.Fault.{fault_of_making}
use Rattle.ig_meaning.specs.Making.{Making, Refused, Unfinished, Planned, New, Continues}
use Rattle.ig_meaning.specs.QueueActs.{HasMade}
use Rattle.ig_meaning.specs.QueueMaking.{making_of_enqueue}
use Rattle.ig_meaning.specs.Taken.{taken_by}
use Rattle.ig_meaning.specs.Words as meaning
use Rattle.ig_record.specs.Columns.{removed_dir}
use Rattle.ig_record.specs.Sound.{is_sound}
use Rattle.ig_record.specs.Stage.{task_count}
use Rattle.ig_record.specs.declared.stage.Stage.{Stage}
use Rattle.ig_rule.specs.QueueFiles.{queue_of}
use Rattle.ig_rule.specs.Room.{IsOutsideQueue}
use Rattle.ig_rule.specs.Sound.{Legal}
use Rattle.ig_rule.specs.Stages.{Sealed}
use Rattle.ig_rule.specs.Went.{Went}
use Rattle.ig_stage.specs.Errors.{ending_of_make}
use Rattle.ig_stage.specs.Free.{IsFree}
use Rattle.ig_stage.specs.Looking.{AllListTruly, OthersLook}
use Rattle.ig_stage.specs.Open.{maker_rule}
use Rattle.ig_stage.specs.declared.enqueuing.Made.{Made}
use Rattle.ig_stage.specs.declared.enqueuing.Made.TheVariants as made
use Rattle.ig_stage.specs.declared.error.MakeError.{MakeError}
use Rattle.ig_task.specs.Facts.{facts_of, stage_reader}
use Rattle.ig_task.specs.Pipeline.{is_allowed}
use Rattle.ig_task.specs.declared.pipeline.Pipeline.{Pipeline}

-- ---- what was made

-- the numbers of the stage that a making is of
abbrev pub made_of : Making → Option Made
made_of (New n s after) = Some (made.New n s.kind (task_count s))
made_of (Continues n s after) = Some (made.Continued n s.kind (task_count s))
made_of (Planned s after) = None
made_of (Refused refusal) = None
made_of Unfinished = None

-- the number of the stage that was made
abbrev pub stage_number : Made → ℕ
stage_number (made.New n kind tasks) = n
stage_number (made.Continued n kind tasks) = n

-- it is sealed
abbrev pub IsSealed : List ℕ → Files → Made → Type 0
IsSealed q files m = Sealed (queue_of q files) (stage_number m)

-- The own steps of a making that failed so: where it is refused they only look; where the store failed it is not refused.
abbrev pub EndsSo : Ending → Making → List Moment → Type 0
EndsSo (Refuses r) making ms = (making ≡ Refused r) × AllLook ms
EndsSo StoreFailed making ms = fault_of_making making ≡ None
EndsSo NoMemory making ms = Unit {0}
EndsSo Finished making ms = ⊥

-- these own steps are a making, by its result
abbrev pub AreMaking : List ℕ → Result Made MakeError → Making → List Moment → Type 0
AreMaking q (Ok m) making ms = HasMade q making × (made_of making ≡ Some m)
AreMaking q (Err e) making ms = EndsSo (ending_of_make e) making ms

-- the listings of a making that was refused are true
abbrev pub EndsTruly : Ending → List Moment → Type 0
EndsTruly (Refuses r) ms = AllListTruly ms
EndsTruly StoreFailed ms = Unit {0}
EndsTruly NoMemory ms = Unit {0}
EndsTruly Finished ms = Unit {0}

abbrev pub MakesTruly : Result Made MakeError → List Moment → Type 0
MakesTruly (Ok m) ms = Unit {0}
MakesTruly (Err e) ms = EndsTruly (ending_of_make e) ms

-- As long as no stage is known, the own steps only look.
abbrev pub LooksFirst : Making → List Moment → Type 0
LooksFirst (Refused refusal) ms = AllLook ms
LooksFirst Unfinished ms = AllLook ms
LooksFirst (Planned s after) ms = AllLook ms
LooksFirst (New n s after) ms = Unit {0}
LooksFirst (Continues n s after) ms = Unit {0}

-- The log grew by a making in this queue. Where others only looked, its listings are true, if it was refused.
pub record MakesBy (allows : Bool → Files → Act → Type 0) (q : List ℕ) (making : List Moment → Making) (old new : Log) (result : Result Made MakeError) : Type 0 where
  pub ms : List Moment
  pub went : Went allows old new ms
  pub are : AreMaking q result (making ms) ms
  pub looks : LooksFirst (making ms) ms
  pub truly : OthersLook (steps_since old new) → MakesTruly result ms

-- The making of a stage in a queue.
abbrev pub MakesIn : List ℕ → meaning.Request → Log → Log → Result Made MakeError → Type 0
MakesIn q request old new result = MakesBy (is_allowed (maker_rule q)) q (making_of_enqueue q request) old new result

-- ---- where a record may be put

-- The record of a stage that makes files may be put after those of these stages.
pub record CanRecord (q : List ℕ) (stages : List Stage) (s : Stage) (files : Files) : Type 0 where
  pub free : IsFree q stages s files
  pub sealed : (n : ℕ) → n < length stages → Sealed (queue_of q files) n
  pub all_sound : All (λ t. is_sound t ≡ true) stages
  pub sound : is_sound s ≡ true
  pub makes : is_some (removed_dir s) ≡ false
  pub not_taken : taken_by stages s ≡ None
  pub outside : IsOutsideQueue q (facts_of (length stages) s)
  pub few : length stages < 10 ^ 4

-- A maker of this queue, whose log is legal, may put it.
pub record MayRecord (rule : Pipeline) (q : List ℕ) (n : ℕ) (stages : List Stage) (s : Stage) (log : Log) : Type 0 where
  pub is : rule ≡ maker_rule q
  pub legal : Legal stage_reader q log
  pub number : n ≡ length stages
  pub can : CanRecord q stages s (files_of log)
