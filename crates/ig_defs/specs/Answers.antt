-- What a call on a store finds, and what it did: by exactly which steps the log grew, and the answer.
use Rattle.std.specs.Prelude.{◌≡◌, ◌⊎◌, ℕ, Bool, true, false, List, Option, is_some, Result, Ok, Err}
use Rattle.ig_defs.specs.declared.error.StoreError.{StoreError}
use Rattle.ig_defs.specs.declared.error.StoreError.TheVariants.{Failed, Memory}
use Rattle.ig_defs.specs.declared.step.Act.{Act}
use Rattle.ig_defs.specs.declared.step.Act.TheVariants as act
use Rattle.ig_defs.specs.declared.step.Step.{Step}
use Rattle.ig_defs.specs.Calls.{ListsNames}
use Rattle.ig_defs.specs.Files.{Files, file_at}
use Rattle.ig_defs.specs.Log.{Log, files_of, replay}
use Rattle.ig_defs.specs.Turns.{Acted, Idled}

-- ---- a call and its answer
pub data Call : Type 0 where
  Lists : (dir : List ℕ) → Call
  Reads : (path : List ℕ) → Call
  Sees : (path : List ℕ) → Call
  Puts : (path bytes : List ℕ) → Call
  Shifts : (from to : List ℕ) → Call
  Removes : (path : List ℕ) → Call

-- What it found: the names that it gave, the bytes of a file, nothing to tell, or whether the file was there.
pub data Answer : Type 0 where
  Names : (given : List (List ℕ)) → Answer
  Found : (bytes : Option (List ℕ)) → Answer
  Put : Answer
  WasThere : (there : Bool) → Answer

abbrev pub act_if : Bool → Act → List ℕ → Act
act_if true a path = a
act_if false a path = act.Read path

-- After these steps of others, the own act of the call, which found this. A move or a removal of a file that is gone stands as
-- the read of it.
abbrev pub Takes : Files → List Step → Call → Answer → Act → Type 0
Takes files others (Lists dir) (Names given) a = (a ≡ act.List dir given) × ListsNames dir given files others
Takes files others (Reads path) (Found bytes) a = (a ≡ act.Read path) × (bytes ≡ file_at (replay files others) path)
Takes files others (Sees path) (WasThere there) a = (a ≡ act.Read path) × (there ≡ is_some (file_at (replay files others) path))
Takes files others (Puts path bytes) Put a = a ≡ act.Put path bytes
Takes files others (Shifts from to) (WasThere there) a = (a ≡ act_if there (act.Move from to) from) × (there ≡ is_some (file_at (replay files others) from))
Takes files others (Removes path) (WasThere there) a = (a ≡ act_if there (act.Remove path) path) × (there ≡ is_some (file_at (replay files others) path))
Takes files others call answer a = ⊥

-- of an answer: the call changed the files
abbrev pub IsChange : Call → Answer → Type 0
IsChange (Puts path bytes) Put = Unit {0}
IsChange (Shifts from to) (WasThere there) = there ≡ true
IsChange (Removes path) (WasThere there) = there ≡ true
IsChange call answer = ⊥

-- ---- what a call did
-- The own act of this call, after steps of others, which found this.
pub record IsAnswered (allows : Bool → Files → Act → Type 0) (old new : Log) (call : Call) (answer : Answer) : Type 0 where
  pub act : Act
  pub acted : Acted allows old new act
  pub takes : Takes (files_of old) acted.others call answer act

-- Though it failed, this call was made, and it changed the files.
pub record WasMade (allows : Bool → Files → Act → Type 0) (old new : Log) (call : Call) : Type 0 where
  pub answer : Answer
  pub answered : IsAnswered allows old new call answer
  pub changes : IsChange call answer

-- By the result. Where it failed it was not made, or it was made all the same if it was to change the files.
abbrev pub Answered : (Bool → Files → Act → Type 0) → Log → Log → Call → Result Answer StoreError → Type 0
Answered allows old new call (Ok answer) = IsAnswered allows old new call answer
Answered allows old new call (Err Failed) = Idled allows old new ⊎ WasMade allows old new call
Answered allows old new call (Err Memory) = Idled allows old new

-- results as answers
abbrev pub answer_by : {T : Type 0} → (T → Answer) → Result T StoreError → Result Answer StoreError
answer_by answer (Ok x) = Ok (answer x)
answer_by answer (Err e) = Err e

abbrev pub put_answer : Unit {0} → Answer
put_answer done = Put
