-- Files that lie directly in a directory.
use Rattle.std.specs.Prelude.{◌≡◌, ◌⊎◌, ℕ, true, List, [], ◌∷◌, is_some}
use Rattle.std.specs.FinMap as map
use Rattle.ig_space.specs.Path.{is_path, is_segment, joined}
use Rattle.ig_defs.specs.declared.step.Step.{Step}
use Rattle.ig_defs.specs.Files.{Files}
use Rattle.ig_defs.specs.Log.{after}

-- the name is one segment, and makes a path in the directory
pub record IsNameIn (dir name : List ℕ) : Type 0 where
  pub segment : is_segment name ≡ true
  pub path : is_path (joined dir name) ≡ true

-- a file of this name lies directly in the directory
pub record Stands (files : Files) (dir name : List ℕ) : Type 0 where
  pub named : IsNameIn dir name
  pub there : is_some (map.get files (joined dir name)) ≡ true

-- it lies there before, between and after the steps
abbrev pub StandsThroughout : Files → List Step → List ℕ → List ℕ → Type 0
StandsThroughout files [] dir name = Stands files dir name
StandsThroughout files (step ∷ steps) dir name = Stands files dir name × StandsThroughout (after files step.act) steps dir name

-- it lies there at some moment from before the steps to after them
abbrev pub StandsOnce : Files → List Step → List ℕ → List ℕ → Type 0
StandsOnce files [] dir name = Stands files dir name
StandsOnce files (step ∷ steps) dir name = Stands files dir name ⊎ StandsOnce (after files step.act) steps dir name
