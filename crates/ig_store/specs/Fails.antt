-- Calls of a store in memory that are to fail.
use Rattle.std.specs.Prelude.{ℕ, Bool, true, false, ◌&&◌, nat_le, if◌then◌else◌, List, [], ◌∷◌, Option, None, Some, Result, Ok, Err, IsErr, IsErrOf, min, ◌+◌, ◌-◌, ◌^◌, ◌≤◌}
use Rattle.std.proofs.Common.{arith}
use Rattle.ig_defs.specs.declared.step.Act.{Act}
use Rattle.ig_defs.specs.declared.error.StoreError.{StoreError}
use Rattle.ig_defs.specs.declared.error.StoreError.TheVariants.{Failed, Memory}
use Rattle.ig_store.specs.declared.fails.Fail.{Fail}

-- whether the call of this number fails, and then whether its own step is made: the first in the list counts
abbrev pub fail_of : List Fail → ℕ → Option Bool
fail_of [] call = None
fail_of (fail ∷ fails) call = if nat_le fail.from call && nat_le call fail.to then Some fail.made else fail_of fails call

-- one more, up to the last value of a count
abbrev pub counted : ℕ → ℕ
counted count = min (count + 1) (2 ^ 64 - 1)

-- the count of faults as it is shown, which is 0 where no call can fail
abbrev pub shown : List Fail → ℕ → ℕ
shown [] count = 0
shown (fail ∷ fails) count = min count (2 ^ 64 - 1)

-- how often a store with these can fail
abbrev pub most_of : List Fail → ℕ
most_of [] = 0
most_of (fail ∷ fails) = 2 ^ 64 - 1

pub shown-most : (fails : List Fail) (count : ℕ) → shown fails count ≤ most_of fails
shown-most [] count = omega arith
shown-most (fail ∷ fails) count = omega arith

-- a call answers `Failed` where it is to fail, and nowhere else
abbrev pub Answers : {T : Type 0} → Option Bool → Result T StoreError → Type 0
Answers None result = IsErrOf result Failed → ⊥
Answers (Some made) result = IsErrOf result Failed

-- a put, a move or a removal does so too, but one which is to be made may want memory for it
abbrev pub AnswersPut : {T : Type 0} → Option Bool → Result T StoreError → Type 0
AnswersPut None result = IsErrOf result Failed → ⊥
AnswersPut (Some false) result = IsErrOf result Failed
AnswersPut (Some true) result = IsErr result

-- whether a put was made
abbrev pub is_made : Option Bool → Result (Unit {0}) StoreError → Bool
is_made fail (Ok done) = true
is_made None (Err e) = false
is_made (Some made) (Err Failed) = made
is_made (Some made) (Err Memory) = false

-- the own acts of a move or a removal, by whether the file is there: the change where it is made, or a look where there is
-- no file
abbrev pub acts_of : Option Bool → Bool → Act → Act → Result Bool StoreError → List Act
acts_of fail there change look (Ok true) = change ∷ []
acts_of fail there change look (Ok false) = look ∷ []
acts_of None there change look (Err e) = []
acts_of (Some made) there change look (Err Failed) = if made && there then change ∷ [] else []
acts_of (Some made) there change look (Err Memory) = []
