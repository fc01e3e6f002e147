-- Options among the words of a command, and the values of options: this project's own.
use Rattle.std.specs.Prelude.{ℕ, ◌==◌, ◌&&◌, Bool, false, if◌then◌else◌, List, [], ◌∷◌, length, nat_le, Option, None, Some, option_map, option_and_then, is_none, codes}
use Rattle.std.specs.Str.{all_ascii_digits, bytes_eq}
use Rattle.std.specs.Str.Parse.{digits_value}
use Rattle.ig_space.specs.declared.point.Point.{Point}
use Rattle.ig_space.specs.Path.{is_path, within}

-- a text in two, before and after the first such byte
abbrev pub cut_at : ℕ → List ℕ → Option (List ℕ × List ℕ)
cut_at c [] = None
cut_at c (x ∷ xs) = if x == c then Some ([], xs) else option_map (λ p. (x ∷ p.0, p.1)) (cut_at c xs)

abbrev pub begins_with : ℕ → List ℕ → Bool
begins_with c [] = false
begins_with c (x ∷ xs) = x == c

-- ---- which words are options, and which remain
-- the options with their values, and the remaining words, each in order
pub record Parts : Type 0 where
  pub options : List (List ℕ × List ℕ)
  pub rest : List (List ℕ)

abbrev pub with_option : List ℕ → List ℕ → Parts → Parts
with_option name value parts = record { options = (name, value) ∷ parts.options; rest = parts.rest }

abbrev pub with_rest : List ℕ → Parts → Parts
with_rest word parts = record { options = parts.options; rest = word ∷ parts.rest }

-- `--name=VALUE` is an option by itself; another word that begins with `-` takes the next word as its value
abbrev pub is_open : List ℕ → Bool
is_open word = begins_with 45 word && is_none (cut_at 61 word)

abbrev pub add_word : List ℕ → Option (List ℕ × List ℕ) → Parts → Parts
add_word word (Some named) parts = if begins_with 45 word then with_option named.0 named.1 parts else with_rest word parts
add_word word None parts = with_rest word parts

-- the parts of these words, the first of which is the value of this option, where there is one; after `--` every word remains
abbrev pub parts_after : Option (List ℕ) → List (List ℕ) → Option Parts
parts_after None [] = Some (record { options = []; rest = [] })
parts_after (Some name) [] = None
parts_after (Some name) (word ∷ words) = option_map (with_option name word) (parts_after None words)
parts_after None (word ∷ words) =
    if bytes_eq word (codes "--") then Some (record { options = []; rest = words })
    else if is_open word then parts_after (Some word) words
    else option_map (add_word word (cut_at 61 word)) (parts_after None words)

-- the parts of the words, where each option has a value
abbrev pub parts_of : List (List ℕ) → Option Parts
parts_of words = parts_after None words

-- ---- values
-- a number of one to ten digits
abbrev pub number_of : List ℕ → Option ℕ
number_of text = if all_ascii_digits text && within 1 10 (length text) then Some (digits_value 10 text) else None

abbrev pub limited : ℕ → ℕ → ℕ → Option ℕ
limited low high n = if within low high n then Some n else None

-- a number within these limits
abbrev pub number_in : ℕ → ℕ → List ℕ → Option ℕ
number_in low high text = option_and_then (limited low high) (number_of text)

-- no side is longer
abbrev pub largest_value : ℕ
largest_value = 16777216

abbrev pub side_of : List ℕ → Option ℕ
side_of text = number_in 1 largest_value text

-- a path of at most 100 bytes
abbrev pub is_short_path : List ℕ → Bool
is_short_path word = is_path word && nat_le (length word) 100

-- three sides: X,Y,Z
unfoldable pub sides_of : List ℕ → Option Point
sides_of text =
    option_and_then (λ xs. option_and_then (λ ys. option_and_then (λ x. option_and_then (λ y. option_map (λ z. record { x = x; y = y; z = z })
    (side_of ys.1)) (side_of ys.0)) (side_of xs.0)) (cut_at 44 xs.1)) (cut_at 44 text)

-- the values of the option with this name
abbrev pub values_of : List ℕ → List (List ℕ × List ℕ) → List (List ℕ)
values_of name [] = []
values_of name (option ∷ options) = if bytes_eq option.0 name then option.1 ∷ values_of name options else values_of name options

-- the value of an option that stands at most once, as this reads it; without it the default
abbrev pub value_or : {A : Type 0} → A → (List ℕ → Option A) → List (List ℕ) → Option A
value_or default reads [] = Some default
value_or default reads (text ∷ []) = reads text
value_or default reads (text ∷ again ∷ more) = None
