-- The distinct labels of a list have each of its labels.
use Rattle.std.proofs.Common.{arith, ◌≡◌, ◌<◌, ℕ, zero, suc, List, [], ◌∷◌, ◌++◌, length, slice_index, Bool, true, false, ◌||◌, if◌then◌else◌, nat_lt, ◌==◌, refl, ap, sym, ◌∙◌, inl, inr, ◌⊎◌}
use Rattle.std.proofs.Math.Nat.{eq-or-lt_of_le}
use Rattle.std.proofs.lemmas.Bool.{eq-eqb, eqb-true, or_cases, or_left, or_right}
use Rattle.ig_space.specs.Chunks.{listed}
use Rattle.ig_cseg.specs.CsegText.{distinct, index_in, with_label}

-- the label is one of the list
abbrev pub has : ℕ → List ℕ → Bool
has label [] = false
has label (l ∷ ls) = (label == l) || has label ls

-- ---- among the labels that ascend
first-or-other : (x l : ℕ) (ls ws : List ℕ) → (x == l) ≡ true ⊎ has x ls ≡ true → (has x ls ≡ true → has x ws ≡ true) → has x (l ∷ ws) ≡ true
first-or-other x l ls ws (inl e) rest = or_left (x == l) (has x ws) e
first-or-other x l ls ws (inr e) rest = or_right (x == l) (has x ws) (rest e)

own_placed : (label l : ℕ) (ls ws : List ℕ) (below same : Bool) → (label == l) ≡ same → has label ws ≡ true → has label (if below then label ∷ l ∷ ls else if same then l ∷ ls else l ∷ ws) ≡ true
own_placed label l ls ws true same e rest = or_left (label == label) (has label (l ∷ ls)) (eq-eqb label label refl)
own_placed label l ls ws false true e rest = or_left (label == l) (has label ls) e
own_placed label l ls ws false false e rest = or_right (label == l) (has label ws) rest

own-kept : (label : ℕ) (ls : List ℕ) → has label (with_label label ls) ≡ true
own-kept label [] = or_left (label == label) false (eq-eqb label label refl)
own-kept label (l ∷ ls) = own_placed label l ls (with_label label ls) (nat_lt label l) (label == l) refl (own-kept label ls)

other_placed : (x label l : ℕ) (ls ws : List ℕ) (below same : Bool) → has x (l ∷ ls) ≡ true → (has x ls ≡ true → has x ws ≡ true) → has x (if below then label ∷ l ∷ ls else if same then l ∷ ls else l ∷ ws) ≡ true
other_placed x label l ls ws true same e rest = or_right (x == label) (has x (l ∷ ls)) e
other_placed x label l ls ws false true e rest = e
other_placed x label l ls ws false false e rest = first-or-other x l ls ws (or_cases (x == l) (has x ls) e) rest

other-kept : (x label : ℕ) (ls : List ℕ) → has x ls ≡ true → has x (with_label label ls) ≡ true
other-kept x label [] e = or_right (x == label) false e
other-kept x label (l ∷ ls) e = other_placed x label l ls (with_label label ls) (nat_lt label l) (label == l) e (other-kept x label ls)

kept_by : (x l : ℕ) (ls ws : List ℕ) → (x == l) ≡ true ⊎ has x ls ≡ true → (has x ls ≡ true → has x ws ≡ true) → has x (with_label l ws) ≡ true
kept_by x l ls ws (inl e) rest = ap (λ m. has x (with_label m ws)) (sym (eqb-true x l e)) ∙ own-kept x ws
kept_by x l ls ws (inr e) rest = other-kept x l ws (rest e)

-- no label is lost
pub distinct-has : (x : ℕ) (ls : List ℕ) → has x ls ≡ true → has x (distinct ls) ≡ true
distinct-has x [] e = e
distinct-has x (l ∷ ls) e = kept_by x l ls (distinct ls) (or_cases (x == l) (has x ls) e) (distinct-has x ls)

-- ---- where a label stands
pub record IsFound (ls : List ℕ) (label index : ℕ) : Type 0 where
  pub below : index < length ls
  pub same : slice_index ls index ≡ label

found_by : (label l : ℕ) (ls : List ℕ) (first : Bool) → (label == l) ≡ first → (has label ls ≡ true → IsFound ls label (index_in ls label)) → (first || has label ls) ≡ true
    → IsFound (l ∷ ls) label (if first then 0 else suc (index_in ls label))
found_by label l ls true e rest h = record { below = omega arith; same = sym (eqb-true label l e) }
found_by label l ls false e rest h = record { below = omega (arith, (rest h).below); same = (rest h).same }

-- a label of a list is found at its index
pub index_in-found : (label : ℕ) (ls : List ℕ) → has label ls ≡ true → IsFound ls label (index_in ls label)
index_in-found label [] h = absurd (cc)
index_in-found label (l ∷ ls) h = found_by label l ls (label == l) refl (index_in-found label ls) h

-- ---- values that are listed
has-left : (x : ℕ) (xs ys : List ℕ) → has x xs ≡ true → has x (xs ++ ys) ≡ true
has-left x [] ys e = absurd (cc)
has-left x (l ∷ ls) ys e = first-or-other x l ls (ls ++ ys) (or_cases (x == l) (has x ls) e) (has-left x ls ys)

has-last : (x : ℕ) (xs : List ℕ) → has x (xs ++ x ∷ []) ≡ true
has-last x [] = or_left (x == x) false (eq-eqb x x refl)
has-last x (l ∷ ls) = or_right (x == l) (has x (ls ++ x ∷ [])) (has-last x ls)

listed_by : (f : ℕ → ℕ) (n k : ℕ) → (k < n → has (f k) (listed f n) ≡ true) → (k ≡ n) ⊎ (k < n) → has (f k) (listed f (suc n)) ≡ true
listed_by f n k before (inl same) = ap (λ m. has (f m) (listed f n ++ f n ∷ [])) same ∙ has-last (f n) (listed f n)
listed_by f n k before (inr l) = has-left (f k) (listed f n) (f n ∷ []) (before l)

-- each of them is one of the list
pub listed-has : (f : ℕ → ℕ) (n k : ℕ) → k < n → has (f k) (listed f n) ≡ true
listed-has f zero k l = absurd (omega arith)
listed-has f (suc n) k l = listed_by f n k (listed-has f n k) (eq-or-lt_of_le (omega (arith, l)))
