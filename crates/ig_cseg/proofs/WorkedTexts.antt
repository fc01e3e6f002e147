-- The worked texts: small volumes, and the words that are written of them.
use Rattle.std.specs.Prelude.{◌≡◌, ℕ, [], ◌∷◌, refl}
use Rattle.ig_space.specs.declared.point.Point.{Point}
use Rattle.ig_cseg.specs.CsegText.{cseg_words}

abbrev point : ℕ → ℕ → ℕ → Point
point x y z = record { x = x; y = y; z = z }

one_label : cseg_words (point 2 1 1) (point 8 8 8) 1 (5 ∷ 5 ∷ []) ≡ 1 ∷ 2 ∷ 2 ∷ 5 ∷ []
unfolding cseg_words
one_label = refl

clipped_block : cseg_words (point 1 2 1) (point 2 2 1) 1 (5 ∷ 9 ∷ []) ≡ 1 ∷ 16777219 ∷ 2 ∷ 4 ∷ 5 ∷ 9 ∷ []
unfolding cseg_words
clipped_block = refl

two_labels : cseg_words (point 2 1 1) (point 2 1 1) 1 (5 ∷ 9 ∷ []) ≡ 1 ∷ 16777219 ∷ 2 ∷ 2 ∷ 5 ∷ 9 ∷ []
unfolding cseg_words
two_labels = refl

two_blocks : cseg_words (point 4 1 1) (point 2 1 1) 1 (5 ∷ 9 ∷ 9 ∷ 5 ∷ []) ≡ 1 ∷ 16777221 ∷ 4 ∷ 16777224 ∷ 7 ∷ 2 ∷ 5 ∷ 9 ∷ 1 ∷ 5 ∷ 9 ∷ []
unfolding cseg_words
two_blocks = refl
