-- Names of files in a directory.
use Rattle.std.specs.Prelude.{ℕ, ◌==◌, if◌then◌else◌, List, [], ◌∷◌, Option, None, Some}
use Rattle.ig_space.specs.Path.{is_segment}

-- the last segment of a path that lies directly in the directory
abbrev pub name_in : List ℕ → List ℕ → Option (List ℕ)
name_in [] [] = None
name_in [] (c ∷ name) = if c == 47 then (if is_segment name then Some name else None) else None
name_in (d ∷ dir) [] = None
name_in (d ∷ dir) (c ∷ path) = if d == c then name_in dir path else None
