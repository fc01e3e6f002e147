-- Texts that the reading of words lends.
use Rattle.std.specs.Prelude.{ℕ, List, [], ◌∷◌, Option, None, Some}
use Rattle.std.specs.Borrow.{Bor}

-- a lent text
abbrev pub text_of : Bor (List ℕ) → List ℕ
text_of text = text.now

-- two lent texts
abbrev pub both : Bor (List ℕ) × Bor (List ℕ) → List ℕ × List ℕ
both pair = (pair.0.now, pair.1.now)

-- the text that is lent, where there is one
abbrev pub lent : Option (Bor (List ℕ)) → List (List ℕ)
lent None = []
lent (Some text) = text.now ∷ []
