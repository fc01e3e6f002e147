-- Where paths lie: this project's own.
use Rattle.std.specs.Prelude.{◌≡◌, ◌≢◌, ℕ, List}
use Rattle.ig_space.specs.Path.{joined}
use Rattle.ig_defs.specs.Names.{IsNameIn}

-- The path lies directly in the directory: it is the directory, `/` and one segment.
pub record LiesIn (dir path : List ℕ) : Type 0 where
  pub name : List ℕ
  pub is_name : IsNameIn dir name
  pub is : path ≡ joined dir name

-- The path is not the directory, and does not lie in it at any depth.
pub record IsOutside (dir path : List ℕ) : Type 0 where
  pub other : path ≢ dir
  pub not_within : (rest : List ℕ) → path ≢ joined dir rest
