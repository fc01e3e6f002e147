-- The names of temporary files.
use Rattle.std.proofs.Common.{◌≡◌, ◌<◌, ℕ, false, List, ◌∷◌, Some, All, length, drop, refl, sym, ap, ◌∙◌, inl}
use Rattle.std.proofs.lemmas.Bool.{and_right}
use Rattle.uuid.specs.Text.{parsed_hyphenated, hyphenated_text, lower}
use Rattle.uuid.proofs.RoundTrips.{parses_hyphenated_text}
use Rattle.ig_space.specs.Path.{is_path}
use Rattle.igneous.specs.Temp.{temp_text}

some_same : (a b : List ℕ) → Some a ≡ Some b → a ≡ b
some_same a b e = cc

-- different ids, different names
pub temp_text-same : (a b : List ℕ) → length a ≡ 16 → length b ≡ 16 → All (λ n. n < 256) a → All (λ n. n < 256) b
    → temp_text a ≡ temp_text b → a ≡ b
temp_text-same a b la lb sa sb same =
    let rest : hyphenated_text lower a ≡ hyphenated_text lower b = ap (drop 8) same in
    some_same a b (parses_hyphenated_text lower a (inl refl) la sa ∙ ap parsed_hyphenated rest ∙ sym (parses_hyphenated_text lower b (inl refl) lb sb))

-- a text that begins with `.` and has a `/` later is no path
dot_first : (rest : List ℕ) → is_path (46 ∷ 105 ∷ 103 ∷ 45 ∷ 116 ∷ 109 ∷ 112 ∷ 47 ∷ rest) ≡ false
unfolding is_path
dot_first rest = and_right _ _ refl

pub temp_text-is_path : (name id : List ℕ) → name ≡ temp_text id → is_path name ≡ false
temp_text-is_path name id e = rw e (dot_first (hyphenated_text lower id))
