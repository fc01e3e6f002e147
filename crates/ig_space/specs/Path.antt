-- Paths of files: this project's own.
use Rattle.std.specs.Prelude.{ℕ, ◌&&◌, ◌||◌, ◌==◌, Bool, false, not, List, [], ◌∷◌, ◌++◌, length, nat_le, if◌then◌else◌}
use Rattle.std.specs.List.{list_all}

abbrev pub within : ℕ → ℕ → ℕ → Bool
within low high n = nat_le low n && nat_le n high

-- an ASCII letter, a digit, `_`, `-` or `.`
abbrev pub is_segment_byte : ℕ → Bool
is_segment_byte c = within 97 122 c || within 65 90 c || within 48 57 c || c == 95 || c == 45 || c == 46

-- not empty, of those bytes, and the first is neither `.` nor `-`
abbrev pub is_segment : List ℕ → Bool
is_segment [] = false
is_segment (c ∷ cs) = not (c == 46 || c == 45) && list_all is_segment_byte (c ∷ cs)

abbrev pub with_first : ℕ → List (List ℕ) → List (List ℕ)
with_first c [] = (c ∷ []) ∷ []
with_first c (s ∷ ss) = (c ∷ s) ∷ ss

-- the parts of a text between its `/`
abbrev pub segments : List ℕ → List (List ℕ)
segments [] = [] ∷ []
segments (c ∷ cs) = if c == 47 then [] ∷ segments cs else with_first c (segments cs)

-- a path: at most 400 bytes, each segment is one
unfoldable pub is_path : List ℕ → Bool
is_path text = nat_le (length text) 400 && list_all is_segment (segments text)

-- a name in a directory
abbrev pub joined : List ℕ → List ℕ → List ℕ
joined dir name = dir ++ 47 ∷ name
