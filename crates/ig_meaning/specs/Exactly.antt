-- What the output directories of a stage hold: this project's own.
use Rattle.std.specs.Prelude.{◌≡◌, ℕ, List, IsSome}
use Rattle.ig_defs.specs.Files.{Files, file_at}
use Rattle.ig_rule.specs.Facts.{Facts, IsPath, LiesInOne}

-- Each path directly in an output directory of the stage has exactly its wanted text or none, and each path of a task has a wanted text.
pub record HoldsExactly (s : Facts) (files : Files) : Type 0 where
  pub exact : (path : List ℕ) → LiesInOne s.outputs path → file_at files path ≡ s.wanted (file_at files) path
  pub wanted : (path : List ℕ) → IsPath s path → IsSome (s.wanted (file_at files) path)
