-- What a process did while others took steps beside it, each allowed by the rule at its moment.
use Rattle.std.specs.Prelude.{◌≡◌, ◌⊎◌, ℕ, Bool, false, List, [], ◌∷◌, ◌++◌, Option, is_some, Result, Ok, Err}
use Rattle.ig_defs.specs.declared.step.Act.{Act}
use Rattle.ig_defs.specs.declared.step.Act.TheVariants as act
use Rattle.ig_defs.specs.declared.step.Step.{Step}
use Rattle.ig_defs.specs.declared.error.StoreError.{StoreError}
use Rattle.ig_defs.specs.declared.error.StoreError.TheVariants.{Failed, Memory}
use Rattle.ig_defs.specs.Files.{Files, file_at}
use Rattle.ig_defs.specs.Log.{Log, after, files_of}
use Rattle.ig_defs.specs.Own.{Moment, own_moments}
use Rattle.ig_defs.specs.Turns.{Acted, Idled, Listed}

-- each step of others is allowed at its moment
abbrev pub OthersAllowed : (Bool → Files → Act → Type 0) → Files → List Step → Type 0
OthersAllowed allows files [] = Unit {0}
OthersAllowed allows files (step ∷ steps) = (step.mine ≡ false → allows false files step.act) × OthersAllowed allows (after files step.act) steps

-- The log grew by steps among which the own ones are these, each with the files as they were when it was taken.
pub record Went (allows : Bool → Files → Act → Type 0) (old new : Log) (ms : List Moment) : Type 0 where
  pub steps : List Step
  pub opening : new.opening ≡ old.opening
  pub grown : new.steps ≡ old.steps ++ steps
  pub others : OthersAllowed allows (files_of old) steps
  pub moments : own_moments (files_of old) steps ≡ ms

-- ---- by the result of the call
abbrev pub WentRead : (Bool → Files → Act → Type 0) → Log → Log → List ℕ → Result (Option (List ℕ)) StoreError → Type 0
WentRead allows old new path (Ok found) = Acted allows old new (act.Read path) × (found ≡ file_at (files_of new) path)
WentRead allows old new path (Err e) = Idled allows old new

abbrev pub WentHas : (Bool → Files → Act → Type 0) → Log → Log → List ℕ → Result Bool StoreError → Type 0
WentHas allows old new path (Ok found) = Acted allows old new (act.Read path) × (found ≡ is_some (file_at (files_of new) path))
WentHas allows old new path (Err e) = Idled allows old new

abbrev pub WentList : (Bool → Files → Act → Type 0) → Log → Log → List ℕ → Result (List (List ℕ)) StoreError → Type 0
WentList allows old new dir (Ok given) = Listed allows old new dir given
WentList allows old new dir (Err e) = Idled allows old new

-- a put that failed may have been made
abbrev pub WentPut : (Bool → Files → Act → Type 0) → Log → Log → List ℕ → List ℕ → Result (Unit {0}) StoreError → Type 0
WentPut allows old new path bytes (Ok done) = Acted allows old new (act.Put path bytes)
WentPut allows old new path bytes (Err Failed) = Idled allows old new ⊎ Acted allows old new (act.Put path bytes)
WentPut allows old new path bytes (Err Memory) = Idled allows old new
