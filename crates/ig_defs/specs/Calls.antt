-- When a call may fail, and what a listing gives.
use Rattle.std.specs.Prelude.{◌≤◌, ℕ, List, IsErrOf, Contains, Result}
use Rattle.std.specs.List.Sorted.{IsStrictlySortedBy}
use Rattle.std.specs.Ordering.{nat_cmp}
use Rattle.std.specs.Cmp.Lexicographic.{slice_cmp}
use Rattle.ig_defs.specs.declared.step.Step.{Step}
use Rattle.ig_defs.specs.declared.error.StoreError.{StoreError}
use Rattle.ig_defs.specs.declared.error.StoreError.TheVariants.{Failed}
use Rattle.ig_defs.specs.Causes.{Rose}
use Rattle.ig_defs.specs.Files.{Files}
use Rattle.ig_defs.specs.Names.{StandsThroughout, StandsOnce}

-- the count of faults does not fall, and `Failed` comes only where it rose
pub record HasCause {T : Type 0} (before now : ℕ) (result : Result T StoreError) : Type 0 where
  pub later : before ≤ now
  pub failed : IsErrOf result Failed → Rose before now

-- The names come in the order of their bytes, each once. One that stood all the while is given, and none is given
-- that never stood.
pub record ListsNames (dir : List ℕ) (given : List (List ℕ)) (files : Files) (others : List Step) : Type 0 where
  pub sorted : IsStrictlySortedBy (slice_cmp nat_cmp) given
  pub each : (name : List ℕ) → StandsThroughout files others dir name → Contains given name
  pub only : (name : List ℕ) → Contains given name → StandsOnce files others dir name
