-- The log: opening files, and each step since. A prefix of it is a stop at that moment.
use Rattle.std.specs.Prelude.{◌≡◌, ℕ, Bool, true, false, List, [], ◌∷◌, Option, None, Some}
use Rattle.std.specs.FinMap as map
use Rattle.ig_defs.specs.declared.step.Act.{Act}
use Rattle.ig_defs.specs.declared.step.Act.TheVariants as act
use Rattle.ig_defs.specs.declared.step.Step.{Step}
use Rattle.ig_defs.specs.Files.{Files}

pub record Log : Type 0 where
  pub opening : Files
  pub steps : List Step

-- the files once what stood at from, if anything, has become the file at to
abbrev pub moved : Files → List ℕ → List ℕ → Option (List ℕ) → Files
moved files from to None = files
moved files from to (Some bytes) = map.insert (map.remove files from) to bytes

-- the files after an act
abbrev pub after : Files → Act → Files
after files (act.Read path) = files
after files (act.List dir given) = files
after files (act.Put path bytes) = map.insert files path bytes
after files (act.Move from to) = moved files from to (map.get files from)
after files (act.Remove path) = map.remove files path

-- the files after steps
abbrev pub replay : Files → List Step → Files
replay files [] = files
replay files (step ∷ steps) = replay (after files step.act) steps

-- the files now
abbrev pub files_of : Log → Files
files_of log = replay log.opening log.steps

-- a step of this process
abbrev pub own : Act → Step
own a = record { mine = true; act = a }

abbrev pub own_all : List Act → List Step
own_all [] = []
own_all (a ∷ acts) = own a ∷ own_all acts

-- each step is another's, and allowed at its moment
abbrev pub ByOthers : (Bool → Files → Act → Type 0) → Files → List Step → Type 0
ByOthers allows files [] = Unit {0}
ByOthers allows files (step ∷ steps) = (step.mine ≡ false) × allows false files step.act × ByOthers allows (after files step.act) steps

-- each step is allowed at its moment
abbrev pub AreAllowed : (Bool → Files → Act → Type 0) → Files → List Step → Type 0
AreAllowed allows files [] = Unit {0}
AreAllowed allows files (step ∷ steps) = allows step.mine files step.act × AreAllowed allows (after files step.act) steps

-- an act that changes no file
abbrev pub IsQuiet : Act → Type 0
IsQuiet (act.Read path) = Unit {0}
IsQuiet (act.List dir given) = Unit {0}
IsQuiet (act.Put path bytes) = ⊥
IsQuiet (act.Move from to) = ⊥
IsQuiet (act.Remove path) = ⊥

-- others only read and list
abbrev pub OthersOnlyRead : (Bool → Files → Act → Type 0) → Type 0
OthersOnlyRead allows = (files : Files) (a : Act) → allows false files a → IsQuiet a
