-- The names of chunks (Neuroglancer precomputed volume format, "Unsharded chunk storage").
use Rattle.std.specs.Prelude.{ℕ, Bool, false, not, ◌==◌, ◌&&◌, List, [], ◌∷◌, ◌++◌}
use Rattle.std.specs.List.{list_all}
use Rattle.std.specs.Fmt.{decimal}
use Rattle.ig_space.specs.declared.point.Box3.{Box3}
use Rattle.ig_space.specs.Path.{joined, within}

-- two numbers with `-` between them
abbrev pub span_text : ℕ → ℕ → List ℕ
span_text lo hi = decimal lo ++ 45 ∷ decimal hi

-- the name of the chunk with this box: <x0>-<x1>_<y0>-<y1>_<z0>-<z1>
abbrev pub chunk_name : Box3 → List ℕ
chunk_name b = span_text b.lo.x b.hi.x ++ 95 ∷ (span_text b.lo.y b.hi.y ++ 95 ∷ span_text b.lo.z b.hi.z)

-- its file in the directory of the scale
abbrev pub chunk_path : List ℕ → Box3 → List ℕ
chunk_path dir b = joined dir (chunk_name b)

-- the first byte is an ASCII digit
abbrev pub begins_with_digit : List ℕ → Bool
begins_with_digit [] = false
begins_with_digit (c ∷ cs) = within 48 57 c

-- the byte is not in the text
abbrev pub lacks : ℕ → List ℕ → Bool
lacks c text = list_all (λ x. not (x == c)) text

-- the text begins with neither `+` nor a `0` before other bytes
abbrev pub is_plain : List ℕ → Bool
is_plain [] = false
is_plain (c ∷ []) = not (c == 43)
is_plain (c ∷ d ∷ cs) = not (c == 43) && not (c == 48)
