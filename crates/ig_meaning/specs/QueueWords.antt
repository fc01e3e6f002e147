-- The queue that the words of a command name: this project's own.
use Rattle.std.specs.Prelude.{ℕ, ◌+◌, ◌&&◌, Bool, not, if◌then◌else◌, List, [], ◌∷◌, ◌++◌, length, take, drop, Option, None, Some, option_map, option_and_then, codes}
use Rattle.std.specs.Str.{bytes_eq}
use Rattle.ig_meaning.specs.Options.{is_short_path, value_or}

-- what follows `fq://` at the front of a text
abbrev pub after_scheme : List ℕ → Option (List ℕ)
after_scheme text = if bytes_eq (take 5 text) (codes "fq://") then Some (drop 5 text) else None

-- the text, where it is a path of at most 100 bytes
abbrev pub short_path : List ℕ → Option (List ℕ)
short_path text = if is_short_path text then Some text else None

-- the directory of a queue: `fq://` and a path of at most 100 bytes
abbrev pub queue_in : List ℕ → Option (List ℕ)
queue_in text = option_and_then short_path (after_scheme text)

-- the queue that an option gives, where it is given
abbrev pub queue_given : List (List ℕ) → Option (Option (List ℕ))
queue_given values = value_or None (λ text. option_map Some (queue_in text)) values

-- the path lies in the directory, at some depth
abbrev pub holds : List ℕ → List ℕ → Bool
holds dir path = bytes_eq (take (length dir + 1) path) (dir ++ 47 ∷ [])

-- a layer may not be the queue's directory, lie inside it or hold it
abbrev pub is_apart : List ℕ → List ℕ → Bool
is_apart q layer = not (bytes_eq layer q) && (not (holds q layer) && not (holds layer q))
