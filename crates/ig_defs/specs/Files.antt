-- Files: a finite map from a path's bytes to the bytes of the file.
use Rattle.std.specs.Prelude.{ℕ, List, Option}
use Rattle.std.specs.Ordering.{nat_cmp}
use Rattle.std.specs.Cmp.Lexicographic.{slice_cmp}
use Rattle.std.specs.FinMap as map
use Rattle.std.specs.Coded.{Coded, coded_ℕ, coded_list}

abbrev pub Files : Type 0
Files = map.FinMap (slice_cmp nat_cmp) (List ℕ)

-- as a list of pairs
abbrev pub files_code : Coded Files
files_code = map.code (coded_list coded_ℕ) (coded_list coded_ℕ)

-- the bytes of the file at this path, if it is there
abbrev pub file_at : Files → List ℕ → Option (List ℕ)
file_at files path = map.get files path
