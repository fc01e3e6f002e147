-- The file of a number, among those of a pass.
use Rattle.std.specs.Prelude.{ℕ, if◌then◌else◌, List, Option, None, Some}
use Rattle.std.specs.Str.{bytes_eq}
use Rattle.ig_space.specs.Path.{joined}
use Rattle.ig_layer.specs.Faults.{first_of}
use Rattle.ig_record.specs.Columns.{numbered}

abbrev pub number_if : List ℕ → List ℕ → List ℕ → ℕ → Option ℕ
number_if dir ending path t = if bytes_eq (numbered dir ending t) path then Some t else None

-- the number below n whose file has this path
abbrev pub number_with : Option (List ℕ) → List ℕ → List ℕ → ℕ → List ℕ → Option ℕ
number_with None name ending n path = None
number_with (Some scratch) name ending n path = first_of (number_if (joined scratch name) ending path) n
