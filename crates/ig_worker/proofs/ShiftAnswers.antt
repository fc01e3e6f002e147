-- A move of a task's name answers its call.
use Rattle.std.proofs.Common.{◌≡◌, ℕ, Bool, List, Result, subst}
use Rattle.ig_defs.specs.declared.error.StoreError.{StoreError}
use Rattle.ig_defs.specs.declared.step.Act.{Act}
use Rattle.ig_defs.specs.Answers.{answer_by, Answered, Shifts, WasThere}
use Rattle.ig_defs.specs.Files.{Files}
use Rattle.ig_defs.specs.Log.{Log}

-- by whether the move was made
pub shift_answered : (allows : Bool → Files → Act → Type 0) (old new : Log) (from to : List ℕ) (made is : Result Bool StoreError) → made ≡ is
    → Answered allows old new (Shifts from to) (answer_by WasThere made) → Answered allows old new (Shifts from to) (answer_by WasThere is)
shift_answered allows old new from to made is same t =
    subst (λ (r : Result Bool StoreError). Answered allows old new (Shifts from to) (answer_by WasThere r)) same t
