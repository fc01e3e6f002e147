-- The distinct labels of a list, ascending.
use Rattle.std.proofs.Common.{arith, ◌≡◌, ◌≤◌, ◌<◌, ℕ, Bool, true, false, List, [], ◌∷◌, nat_lt, ◌==◌, if◌then◌else◌, refl, sym, subst, inl, inr, ◌⊎◌}
use Rattle.std.proofs.lemmas.Bool.{eqb-false, eqb-true, ltb-false, ltb-true}
use Rattle.ig_cseg.specs.CsegText.{distinct, with_label}

-- x is one of the numbers
abbrev pub IsOf : ℕ → List ℕ → Type 0
IsOf x [] = ⊥
IsOf x (y ∷ ys) = (x ≡ y) ⊎ IsOf x ys

-- x is below all numbers
abbrev pub IsBelow : ℕ → List ℕ → Type 0
IsBelow x ys = (y : ℕ) → IsOf y ys → x < y

-- each number is below all later ones
abbrev pub Rises : List ℕ → Type 0
Rises [] = Unit {0}
Rises (x ∷ xs) = IsBelow x xs × Rises xs

-- ---- one label more
abbrev chosen : Bool → Bool → ℕ → ℕ → List ℕ → List ℕ → List ℕ
chosen a b label l ls rest = if a then label ∷ l ∷ ls else if b then l ∷ ls else l ∷ rest

either : (x label l : ℕ) (ls : List ℕ) → (x ≡ label) ⊎ IsOf x ls → (x ≡ label) ⊎ IsOf x (l ∷ ls)
either x label l ls (inl e) = inl e
either x label l ls (inr h) = inr (inr h)

of_chosen : (a b : Bool) (x label l : ℕ) (ls rest : List ℕ) → (IsOf x rest → (x ≡ label) ⊎ IsOf x ls) → IsOf x (chosen a b label l ls rest) → (x ≡ label) ⊎ IsOf x (l ∷ ls)
of_chosen true b x label l ls rest deeper h = h
of_chosen false true x label l ls rest deeper h = inr h
of_chosen false false x label l ls rest deeper (inl e) = inr (inl e)
of_chosen false false x label l ls rest deeper (inr h) = either x label l ls (deeper h)

of_with : (x label : ℕ) (ls : List ℕ) → IsOf x (with_label label ls) → (x ≡ label) ⊎ IsOf x ls
of_with x label [] h = h
of_with x label (l ∷ ls) h = of_chosen (nat_lt label l) (label == l) x label l ls (with_label label ls) (of_with x label ls) h

has_chosen : (a b : Bool) (label l : ℕ) (ls rest : List ℕ) → (b ≡ true → label ≡ l) → IsOf label rest → IsOf label (chosen a b label l ls rest)
has_chosen true b label l ls rest same deeper = inl refl
has_chosen false true label l ls rest same deeper = inl (same refl)
has_chosen false false label l ls rest same deeper = inr deeper

has_label : (label : ℕ) (ls : List ℕ) → IsOf label (with_label label ls)
has_label label [] = inl refl
has_label label (l ∷ ls) = has_chosen (nat_lt label l) (label == l) label l ls (with_label label ls) (eqb-true label l) (has_label label ls)

keeps_chosen : (a b : Bool) (x label l : ℕ) (ls rest : List ℕ) → (IsOf x ls → IsOf x rest) → IsOf x (l ∷ ls) → IsOf x (chosen a b label l ls rest)
keeps_chosen true b x label l ls rest deeper h = inr h
keeps_chosen false true x label l ls rest deeper h = h
keeps_chosen false false x label l ls rest deeper (inl e) = inl e
keeps_chosen false false x label l ls rest deeper (inr h) = inr (deeper h)

keeps_label : (x label : ℕ) (ls : List ℕ) → IsOf x ls → IsOf x (with_label label ls)
keeps_label x label [] h = absurd h
keeps_label x label (l ∷ ls) h = keeps_chosen (nat_lt label l) (label == l) x label l ls (with_label label ls) (keeps_label x label ls) h

below_more : (x l : ℕ) (ls : List ℕ) → x < l → IsBelow l ls → IsBelow x (l ∷ ls)
below_more x l ls h below y (inl e) = omega (arith, h, e)
below_more x l ls h below y (inr o) = omega (arith, h, below y o)

below_with : (x label : ℕ) (ls : List ℕ) → x < label → IsBelow x ls → (y : ℕ) → (y ≡ label) ⊎ IsOf y ls → x < y
below_with x label ls h below y (inl e) = omega (arith, h, e)
below_with x label ls h below y (inr o) = below y o

rises_chosen : (a b : Bool) (label l : ℕ) (ls rest : List ℕ) → (a ≡ true → label < l) → (a ≡ false → l ≤ label) → (b ≡ false → label ≡ l → ⊥)
    → ((y : ℕ) → IsOf y rest → (y ≡ label) ⊎ IsOf y ls) → Rises rest → Rises (l ∷ ls) → Rises (chosen a b label l ls rest)
rises_chosen true b label l ls rest lt le ne of deeper h = (below_more label l ls (lt refl) h.0, h)
rises_chosen false true label l ls rest lt le ne of deeper h = h
rises_chosen false false label l ls rest lt le ne of deeper h =
    let from : l ≤ label = le refl in
    let apart : label ≡ l → ⊥ = ne refl in
    (λ y o. below_with l label ls (omega arith) h.0 y (of y o), deeper)

rises_with : (label : ℕ) (ls : List ℕ) → Rises ls → Rises (with_label label ls)
rises_with label [] h = (λ y o. absurd o, tt)
rises_with label (l ∷ ls) h =
    rises_chosen (nat_lt label l) (label == l) label l ls (with_label label ls) (ltb-true label l) (ltb-false label l) (eqb-false label l)
    (λ y. of_with y label ls) (rises_with label ls h.1) h

-- ---- all labels
pub distinct-rises : (ls : List ℕ) → Rises (distinct ls)
distinct-rises [] = tt
distinct-rises (l ∷ ls) = rises_with l (distinct ls) (distinct-rises ls)

of_both : (x l : ℕ) (ls : List ℕ) → (IsOf x (distinct ls) → IsOf x ls) → (x ≡ l) ⊎ IsOf x (distinct ls) → IsOf x (l ∷ ls)
of_both x l ls deeper (inl e) = inl e
of_both x l ls deeper (inr h) = inr (deeper h)

pub distinct-of : (x : ℕ) (ls : List ℕ) → IsOf x (distinct ls) → IsOf x ls
distinct-of x [] h = h
distinct-of x (l ∷ ls) h = of_both x l ls (distinct-of x ls) (of_with x l (distinct ls) h)

pub of-distinct : (x : ℕ) (ls : List ℕ) → IsOf x ls → IsOf x (distinct ls)
of-distinct x [] h = h
of-distinct x (l ∷ ls) (inl e) = subst (λ y. IsOf y (with_label l (distinct ls))) (sym e) (has_label l (distinct ls))
of-distinct x (l ∷ ls) (inr h) = keeps_label x l (distinct ls) (of-distinct x ls h)
