-- The scales of a list by their numbers, and the chunks of theirs that meet boxes.
use Rattle.std.specs.Prelude.{◌≡◌, ◌⊎◌, ◌<◌, ◌≤◌, ◌+◌, ℕ, zero, suc, true, not, List, [], ◌∷◌, length, Contains, refl}
use Rattle.std.specs.Str.{bytes_eq}
use Rattle.std.specs.List.{AllByRecursion}
use Rattle.std.proofs.Common.{arith, ap, sym, subst, ◌∙◌, inl, inr, true≢false}
use Rattle.std.proofs.lemmas.Bool.{and_parts, or_left, or_right}
use Rattle.std.proofs.lemmas.List.Elements.{Contains-append_cases, Contains-append_left, Contains-append_right}
use Rattle.std.proofs.lemmas.Slice.Eq.{bytes_eq-Decides}
use Rattle.ig_space.specs.declared.point.Box3.{Box3}
use Rattle.ig_space.specs.declared.place.Place.{Place}
use Rattle.ig_space.specs.Chunks.{chunks_in}
use Rattle.ig_record.specs.Columns.{chunks_of_all, dirs_of_all, is_among}
use Rattle.ig_record.specs.Sound.{are_apart}
use Rattle.ig_record.specs.SoundFacts.{IsScale}
use Rattle.ig_meaning.specs.Agreeing.{further, here}

-- the place is the scale of number n in a list whose first has number m
abbrev pub HasScale : ℕ → List Place → ℕ → Place → Type 0
HasScale m [] n place = ⊥
HasScale m (first ∷ rest) n place = ((m ≡ n) × (first ≡ place)) ⊎ HasScale (suc m) rest n place

pub scale-few : (m : ℕ) (places : List Place) (n : ℕ) (place : Place) → HasScale m places n place → (m ≤ n) × (n < m + length places)
scale-few m [] n place none = absurd none
scale-few m (first ∷ rest) n place (inl is) = let same = is.0 in (omega (arith, same), omega (arith, same))
scale-few m (first ∷ rest) n place (inr later) = let few = scale-few (suc m) rest n place later in (omega (arith, few.0), omega (arith, few.1))

pub scale-is : (m : ℕ) (places : List Place) (n : ℕ) (place : Place) → AllByRecursion IsScale places → HasScale m places n place → IsScale place
scale-is m [] n place all none = absurd none
scale-is m (first ∷ rest) n place all (inl is) = subst IsScale is.1 all.0
scale-is m (first ∷ rest) n place all (inr later) = scale-is (suc m) rest n place all.1 later

pub scale-among : (m : ℕ) (places : List Place) (n : ℕ) (place : Place) → HasScale m places n place → Contains places place
scale-among m [] n place none = absurd none
scale-among m (first ∷ rest) n place (inl is) = subst (λ (p : Place). Contains (first ∷ rest) p) is.1 (here first rest)
scale-among m (first ∷ rest) n place (inr later) = further first place rest (scale-among (suc m) rest n place later)

-- ---- their chunks
-- the path is that of a chunk that meets its scale's box
pub record IsOfScale (boxes : ℕ → Box3) (m : ℕ) (places : List Place) (path : List ℕ) : Type 0 where
  pub number : ℕ
  pub place : Place
  pub has : HasScale m places number place
  pub among : Contains (chunks_in place (boxes number)) path

scale_by : (boxes : ℕ → Box3) (m : ℕ) (first : Place) (rest : List Place) (path : List ℕ) → (Contains (chunks_of_all boxes (suc m) rest) path → IsOfScale boxes (suc m) rest path)
    → Contains (chunks_in first (boxes m)) path ⊎ Contains (chunks_of_all boxes (suc m) rest) path → IsOfScale boxes m (first ∷ rest) path
scale_by boxes m first rest path later (inl among) = record { number = m; place = first; has = inl (refl, refl); among = among }
scale_by boxes m first rest path later (inr among) = let v = later among in record { number = v.number; place = v.place; has = inr v.has; among = v.among }

pub scale-from : (boxes : ℕ → Box3) (m : ℕ) (places : List Place) (path : List ℕ) → Contains (chunks_of_all boxes m places) path → IsOfScale boxes m places path
scale-from boxes m [] path h = absurd (omega (arith, h.1))
scale-from boxes m (first ∷ rest) path h =
    scale_by boxes m first rest path (scale-from boxes (suc m) rest path) (Contains-append_cases (chunks_in first (boxes m)) (chunks_of_all boxes (suc m) rest) path h)

pub scale-has : (boxes : ℕ → Box3) (m : ℕ) (places : List Place) (n : ℕ) (place : Place) (path : List ℕ) → HasScale m places n place → Contains (chunks_in place (boxes n)) path
    → Contains (chunks_of_all boxes m places) path
scale-has boxes m [] n place path none among = absurd none
scale-has boxes m (first ∷ rest) n place path (inl is) among =
    Contains-append_left (chunks_in first (boxes m)) (chunks_of_all boxes (suc m) rest) path
    (subst (λ (p : Place). Contains (chunks_in p (boxes m)) path) (sym is.1) (subst (λ (k : ℕ). Contains (chunks_in place (boxes k)) path) (sym is.0) among))
scale-has boxes m (first ∷ rest) n place path (inr later) among =
    Contains-append_right (chunks_in first (boxes m)) (chunks_of_all boxes (suc m) rest) path (scale-has boxes (suc m) rest n place path later among)

-- ---- their directories
pub scale-dir : (m : ℕ) (places : List Place) (n : ℕ) (place : Place) → HasScale m places n place → Contains (dirs_of_all places) place.dir
scale-dir m [] n place none = absurd none
scale-dir m (first ∷ rest) n place (inl is) = subst (λ (p : Place). Contains (first.dir ∷ dirs_of_all rest) p.dir) is.1 (here first.dir (dirs_of_all rest))
scale-dir m (first ∷ rest) n place (inr later) = further first.dir place.dir (dirs_of_all rest) (scale-dir (suc m) rest n place later)

among-is : (dir : List ℕ) (dirs : List (List ℕ)) → Contains dirs dir → is_among dir dirs ≡ true
among-is dir [] h = absurd (omega (arith, h.1))
among-is dir (other ∷ dirs) (zero, few, is) = or_left (bytes_eq dir other) (is_among dir dirs) ((bytes_eq-Decides dir other).1 (sym is))
among-is dir (other ∷ dirs) (suc k, few, is) = or_right (bytes_eq dir other) (is_among dir dirs) (among-is dir dirs (k, omega (arith, few), is))

-- the first differs from each that follows
first_apart : (dir : List ℕ) (dirs : List (List ℕ)) → are_apart (dir ∷ dirs) ≡ true → Contains dirs dir → ⊥
first_apart dir dirs apart h =
    let differs = and_parts (not (is_among dir dirs)) (are_apart dirs) apart in
    true≢false (sym differs.0 ∙ ap not (among-is dir dirs h))

pub rest_apart : (dir : List ℕ) (dirs : List (List ℕ)) → are_apart (dir ∷ dirs) ≡ true → are_apart dirs ≡ true
rest_apart dir dirs apart = (and_parts (not (is_among dir dirs)) (are_apart dirs) apart).1

-- so a scale has not the directory of the first before it
pub later_apart : (m : ℕ) (first : Place) (rest : List Place) (n : ℕ) (place : Place) → are_apart (dirs_of_all (first ∷ rest)) ≡ true → HasScale m rest n place → first.dir ≡ place.dir → ⊥
later_apart m first rest n place apart has same =
    first_apart first.dir (dirs_of_all rest) apart (subst (λ (dir : List ℕ). Contains (dirs_of_all rest) dir) (sym same) (scale-dir m rest n place has))

-- and two with the same directory are the same
pub scales-one : (m : ℕ) (places : List Place) → are_apart (dirs_of_all places) ≡ true → (n k : ℕ) (p q : Place) → HasScale m places n p → HasScale m places k q → p.dir ≡ q.dir → (n ≡ k) × (p ≡ q)
scales-one m [] apart n k p q none other same = absurd none
scales-one m (first ∷ rest) apart n k p q (inl a) (inl b) same = (sym a.0 ∙ b.0, sym a.1 ∙ b.1)
scales-one m (first ∷ rest) apart n k p q (inl a) (inr b) same = absurd (later_apart (suc m) first rest k q apart b (ap (λ (place : Place). place.dir) a.1 ∙ same))
scales-one m (first ∷ rest) apart n k p q (inr a) (inl b) same = absurd (later_apart (suc m) first rest n p apart a (ap (λ (place : Place). place.dir) b.1 ∙ sym same))
scales-one m (first ∷ rest) apart n k p q (inr a) (inr b) same = scales-one (suc m) rest (rest_apart first.dir (dirs_of_all rest) apart) n k p q a b same
