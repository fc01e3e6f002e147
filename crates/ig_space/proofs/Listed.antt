-- Values that are listed one after the other.
use Rattle.std.proofs.Common.{arith, ◌≡◌, ℕ, suc, List, [], ◌∷◌, ◌++◌, length, length-append, ap, sym, ◌∙◌}
use Rattle.ig_space.specs.Chunks.{listed}

pub listed-more : {A : Type 0} (f : ℕ → A) (xs new : List A) (y : A) → xs ≡ listed f (length xs) → y ≡ f (length xs) → new ≡ xs ++ y ∷ [] → new ≡ listed f (length new)
listed-more f xs new y first item grown =
    let long : length new ≡ suc (length xs) = ap length grown ∙ length-append xs (y ∷ []) ∙ omega arith in
    grown ∙ ap (λ ys. ys ++ y ∷ []) first ∙ ap (λ z. listed f (length xs) ++ z ∷ []) item ∙ ap (listed f) (sym long)
