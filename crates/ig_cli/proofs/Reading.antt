-- The parts of words, word by word.
use Rattle.std.proofs.Common.{◌≡◌, ℕ, Bool, false, ◌&&◌, List, [], ◌∷◌, ◌++◌, Option, None, Some, option_map, is_none, codes, cond, refl, ap, sym, ◌∙◌, append_assoc}
use Rattle.std.specs.Str.{bytes_eq}
use Rattle.ig_meaning.specs.Options.{Parts, add_word, begins_with, cut_at, parts_after, with_option, with_rest}
use Rattle.ig_cli.specs.declared.options.Next.TheVariants.{Any}
use Rattle.ig_cli.specs.Parts.{followed_by, read_on, with_last_rest}

moved : (parts : Parts) (word : List ℕ) (more : Parts) → followed_by parts (with_rest word more) ≡ followed_by (with_last_rest parts word) more
moved parts word more =
    let same = append_assoc parts.rest (word ∷ []) more.rest in
    λ i. record { options = parts.options ++ more.options; rest = sym same i }

over : (parts : Parts) (word : List ℕ) (o : Option Parts) → option_map (followed_by parts) (option_map (with_rest word) o) ≡ option_map (followed_by (with_last_rest parts word)) o
over parts word None = refl
over parts word (Some more) = ap Some (moved parts word more)

remains : (word : List ℕ) (o : Option (List ℕ × List ℕ)) → begins_with 45 word ≡ false → (p : Parts) → add_word word o p ≡ with_rest word p
remains word None unmarked p = refl
remains word (Some named) unmarked p = ap (λ b. cond b (with_option named.0 named.1 p) (with_rest word p)) unmarked

-- the parts after a word, by what is told of it
abbrev chosen : Bool → Bool → Bool → Option Parts → Option Parts → Option Parts → Option Parts
chosen dashes marked whole all waiting more = cond dashes all (cond (marked && whole) waiting more)

after : (word : List ℕ) (ws : List (List ℕ)) → bytes_eq word (codes "--") ≡ false → begins_with 45 word ≡ false → parts_after None (word ∷ ws) ≡ option_map (with_rest word) (parts_after None ws)
after word ws dashes unmarked =
    let whole = is_none (cut_at 61 word) in
    let all : Option Parts = Some (record { options = []; rest = ws }) in
    let waiting = parts_after (Some word) ws in
    let more = option_map (add_word word (cut_at 61 word)) (parts_after None ws) in
    ap (λ b. chosen b (begins_with 45 word) whole all waiting more) dashes
    ∙ (ap (λ m. chosen false m whole all waiting more) unmarked
    ∙ ap (λ (f : Parts → Parts). option_map f (parts_after None ws)) (λ i p. remains word (cut_at 61 word) unmarked p i))

-- a word that remains
pub read-rest : (parts new : Parts) (word : List ℕ) → bytes_eq word (codes "--") ≡ false → begins_with 45 word ≡ false → new ≡ with_last_rest parts word → (ws : List (List ℕ)) → read_on parts Any (word ∷ ws) ≡ read_on new Any ws
read-rest parts new word dashes unmarked grown ws =
    ap (option_map (followed_by parts)) (after word ws dashes unmarked)
    ∙ (over parts word (parts_after None ws) ∙ ap (λ n. option_map (followed_by n) (parts_after None ws)) (sym grown))

from_none : (parts : Parts) (o : Option Parts) → parts.options ≡ [] → parts.rest ≡ [] → o ≡ option_map (followed_by parts) o
from_none parts None options rest = refl
from_none parts (Some more) options rest = λ i. Some (record { options = sym options i ++ more.options; rest = sym rest i ++ more.rest })

-- before the first word
pub read-first : (parts : Parts) (ws : List (List ℕ)) → parts.options ≡ [] → parts.rest ≡ [] → parts_after None ws ≡ read_on parts Any ws
read-first parts ws options rest = from_none parts (parts_after None ws) options rest
