-- The parts of words, as they are read.
use Rattle.std.specs.Prelude.{ℕ, List, [], ◌∷◌, ◌++◌, map, Option, None, Some, option_map}
use Rattle.std.specs.Borrow.{Bor}
use Rattle.ig_meaning.specs.Options.{Parts, parts_after}
use Rattle.ig_cli.specs.declared.options.Next.{Next}
use Rattle.ig_cli.specs.declared.options.Next.TheVariants.{Any, Value, Rest}
use Rattle.ig_cli.specs.declared.options.Parts as lending
use Rattle.ig_cli.specs.Options.{both}

-- the parts that are lent
abbrev pub shown : lending.Parts → Parts
shown parts = record { options = map both parts.options.items; rest = map (λ (word : Bor (List ℕ)). word.now) parts.rest.items }

-- one more option, after the others
abbrev pub with_last_option : Parts → List ℕ → List ℕ → Parts
with_last_option parts name value = record { options = parts.options ++ (name, value) ∷ []; rest = parts.rest }

-- one more remaining word, after the others
abbrev pub with_last_rest : Parts → List ℕ → Parts
with_last_rest parts word = record { options = parts.options; rest = parts.rest ++ word ∷ [] }

-- the parts of some words, and then those of the words after them
abbrev pub followed_by : Parts → Parts → Parts
followed_by parts more = record { options = parts.options ++ more.options; rest = parts.rest ++ more.rest }

-- the parts of all words, where these are those of the first, and these words come after them
abbrev pub read_on : Parts → Next → List (List ℕ) → Option Parts
read_on parts Any words = option_map (followed_by parts) (parts_after None words)
read_on parts (Value name) words = option_map (followed_by parts) (parts_after (Some name.now) words)
read_on parts Rest words = Some (followed_by parts (record { options = []; rest = words }))
