-- Which refusals of a file are right.
use Rattle.std.specs.Prelude.{ℕ, ◌≡◌, Option, Some}
use Rattle.ig_faces.specs.declared.error.FileError.{FileError}
use Rattle.ig_faces.specs.declared.error.FileError.TheVariants.{Bad, Memory}

-- it names the place where the file is wrong; want of memory may always come
abbrev pub Explains : Option ℕ → FileError → Type 0
Explains wrong (Bad file) = wrong ≡ Some file.at
Explains wrong Memory = Unit {0}
