-- What one call on a store did: by exactly which steps the log grew.
use Rattle.std.specs.Prelude.{◌≡◌, ℕ, Bool, List, [], ◌∷◌, ◌++◌}
use Rattle.ig_defs.specs.declared.step.Act.{Act}
use Rattle.ig_defs.specs.declared.step.Act.TheVariants as act
use Rattle.ig_defs.specs.declared.step.Step.{Step}
use Rattle.ig_defs.specs.Calls.{ListsNames}
use Rattle.ig_defs.specs.Files.{Files}
use Rattle.ig_defs.specs.Log.{Log, ByOthers, files_of, own_all}

-- The log grew by these steps of others, each allowed at its moment, and then by the own acts.
pub record Grew (allows : Bool → Files → Act → Type 0) (old new : Log) (acts : List Act) : Type 0 where
  pub others : List Step
  pub by : ByOthers allows (files_of old) others
  pub opening : new.opening ≡ old.opening
  pub grown : new.steps ≡ old.steps ++ (others ++ own_all acts)

-- steps of others, and then one own act
abbrev pub Acted : (Bool → Files → Act → Type 0) → Log → Log → Act → Type 0
Acted allows old new a = Grew allows old new (a ∷ [])

-- steps of others, and no own act
abbrev pub Idled : (Bool → Files → Act → Type 0) → Log → Log → Type 0
Idled allows old new = Grew allows old new []

-- a listing, with the steps of others during which names came or went
pub record Listed (allows : Bool → Files → Act → Type 0) (old new : Log) (dir : List ℕ) (given : List (List ℕ)) : Type 0 where
  pub acted : Acted allows old new (act.List dir given)
  pub names : ListsNames dir given (files_of old) acted.others

-- ---- moments of a log
-- The first log is the second one at an earlier moment: what came since are later steps.
pub record IsPrefix (first log : Log) : Type 0 where
  pub later : List Step
  pub opening : log.opening ≡ first.opening
  pub grown : log.steps ≡ first.steps ++ later

-- Of a call whose log was `old` at first and is `new` now: from the moment `from` to the moment `to` of it the directory was
-- listed, and these names were given. Others took exactly these steps between the beginning of the listing and its own act.
pub record ListedIn (allows : Bool → Files → Act → Type 0) (old from to new : Log) (dir : List ℕ) (given : List (List ℕ)) (others : List Step) : Type 0 where
  pub began : IsPrefix old from
  pub by : ByOthers allows (files_of from) others
  pub opening : to.opening ≡ from.opening
  pub own : to.steps ≡ from.steps ++ (others ++ own_all (act.List dir given ∷ []))
  pub names : ListsNames dir given (files_of from) others
  pub ended : IsPrefix to new
