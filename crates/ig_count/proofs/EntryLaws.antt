-- The entries of a map from labels to numbers of voxels, as a table.
use Rattle.std.proofs.Common.{arith, ◌≡◌, ◌+◌, ◌<◌, ◌≤◌, ◌==◌, ℕ, suc, true, false, List, [], ◌∷◌, map, length, slice_index, get_or, if◌then◌else◌, cond, nat_eq, unwrap_or, Some, refl, ap, sym, ◌∙◌, subst, inl, inr, ◌⊎◌}
use Rattle.std.proofs.lemmas.Bool.{cases_eq, eq-eqb, ne_eqb, eqb-false}
use Rattle.std.proofs.lemmas.List.Sums.{sum_by-cons}
use Rattle.std.proofs.lemmas.Map.Keys.{IsDistinct-head, IsDistinct-IsPermutation, IsDistinct-tail, IsStrictlyIncreasing-from_distinct}
use Rattle.std.proofs.lemmas.List.{get_or-map, length-map}
use Rattle.std.proofs.lemmas.List.Sorted.{All-permutation, IsPermutation-map, sum_by-IsPermutation}
use Rattle.std.specs.List.{All, AllByRecursion, IsDistinct}
use Rattle.std.specs.List.Sorted.{IsNonDecreasing, IsNonDecreasingBy, IsPermutation, IsStrictlyIncreasing}
use Rattle.std.specs.Map.{keys_of, lookup}
use Rattle.ig_count.specs.declared.counts.LabelCount.{LabelCount}
use Rattle.ig_count.specs.Tables.{IsFrom, IsTable, as_count, label_of, tally, voxels_at}

-- a label that is no key has no voxels
tally_none : (label : ℕ) (es : List (ℕ × ℕ)) → AllByRecursion (λ y. nat_eq label y ≡ false) (keys_of es) → tally (map as_count es) label ≡ 0
tally_none label [] none = refl
tally_none label (e ∷ es) none =
    let apart : (e.0 == label) ≡ false = ne_eqb e.0 label (λ same. eqb-false label e.0 none.0 (sym same)) in
    let own : voxels_at label (as_count e) ≡ 0 = ap (λ b. if b then e.1 else 0) apart in
    let rest = tally_none label es none.1 in
    sum_by-cons (voxels_at label) (as_count e) (map as_count es) ∙ omega (arith, own, rest)

entry_more : (label : ℕ) (e : ℕ × ℕ) (es : List (ℕ × ℕ)) → AllByRecursion (λ y. nat_eq e.0 y ≡ false) (keys_of es)
    → tally (map as_count es) label ≡ unwrap_or (lookup (nat_eq label) es) 0 → (label ≡ e.0) ⊎ (label ≡ e.0 → ⊥)
    → tally (map as_count (e ∷ es)) label ≡ unwrap_or (lookup (nat_eq label) (e ∷ es)) 0
entry_more label e es apart rest (inl same) =
    let here : nat_eq label e.0 ≡ true = eq-eqb label e.0 same in
    let own : voxels_at label (as_count e) ≡ e.1 = ap (λ b. if b then e.1 else 0) (eq-eqb e.0 label (sym same)) in
    let none : tally (map as_count es) label ≡ 0 = subst (λ l. tally (map as_count es) l ≡ 0) (sym same) (tally_none e.0 es apart) in
    sum_by-cons (voxels_at label) (as_count e) (map as_count es) ∙ omega (arith, own, none)
    ∙ sym (ap (λ b. unwrap_or (cond b (Some e.1) (lookup (nat_eq label) es)) 0) here)
entry_more label e es apart rest (inr other) =
    let off : nat_eq label e.0 ≡ false = ne_eqb label e.0 other in
    let own : voxels_at label (as_count e) ≡ 0 = ap (λ b. if b then e.1 else 0) (ne_eqb e.0 label (λ same. other (sym same))) in
    sum_by-cons (voxels_at label) (as_count e) (map as_count es) ∙ omega (arith, own, rest)
    ∙ sym (ap (λ b. unwrap_or (cond b (Some e.1) (lookup (nat_eq label) es)) 0) off)

-- the voxels of a label are those of its entry
pub tally-entries : (label : ℕ) (es : List (ℕ × ℕ)) → IsDistinct nat_eq (keys_of es) → tally (map as_count es) label ≡ unwrap_or (lookup (nat_eq label) es) 0
tally-entries label [] distinct = refl
tally-entries label (e ∷ es) distinct =
    entry_more label e es (IsDistinct-head nat_eq e.0 (keys_of es) distinct) (tally-entries label es (IsDistinct-tail nat_eq e.0 (keys_of es) distinct)) (cases_eq label e.0)

-- the labels of the entries are the keys
pub labels-entries : (es : List (ℕ × ℕ)) → map label_of (map as_count es) ≡ keys_of es
labels-entries [] = refl
labels-entries (e ∷ es) = let rest = labels-entries es in ap (λ l. e.0 ∷ l) rest

-- each item has a voxel
abbrev pub HaveVoxels : List LabelCount → Type 0
HaveVoxels cs = AllByRecursion (λ c. 1 ≤ c.voxels) cs

-- a list whose labels rise is a table
pub table-rising : (low : ℕ) (cs : List LabelCount) → ((k : ℕ) → 0 < length cs → low ≤ slice_index (map label_of cs) 0) → IsStrictlyIncreasing (map label_of cs)
    → HaveVoxels cs → IsFrom low cs
table-rising low [] above rises some = tt
table-rising low (c ∷ []) above rises some = (above 0 (omega arith), some.0, tt)
table-rising low (c ∷ d ∷ cs) above rises some =
    let rest : IsStrictlyIncreasing (map label_of (d ∷ cs)) = λ k l.
    let same : suc k + 1 ≡ suc (k + 1) = omega arith in
    subst (λ n. slice_index (map label_of (d ∷ cs)) k < slice_index (map label_of (c ∷ d ∷ cs)) n) same (rises (suc k) (omega (arith, l))) in
    let next : c.label < d.label = rises 0 (omega arith) in
    (above 0 (omega arith), some.0, table-rising (suc c.label) (d ∷ cs) (λ k h. next) rest some.1)

have_from_all : (cs : List LabelCount) → All (λ c. 1 ≤ c.voxels) cs → HaveVoxels cs
have_from_all [] h = tt
have_from_all (c ∷ cs) h = (h 0 c (omega arith), have_from_all cs (λ k d l. h (suc k) d (omega arith)))

either_way : (a b : ℕ) → (a ≡ b) ⊎ (a ≡ b → ⊥) → nat_eq a b ≡ nat_eq b a
either_way a b (inl same) = eq-eqb a b same ∙ sym (eq-eqb b a (sym same))
either_way a b (inr other) = ne_eqb a b other ∙ sym (ne_eqb b a (λ same. other (sym same)))

flips : (a b : ℕ) → nat_eq a b ≡ nat_eq b a
flips a b = either_way a b (cases_eq a b)

nothing : LabelCount
nothing = record { label = 0; voxels = 0 }

all_have : (es : List (ℕ × ℕ)) → All (λ e. lookup (nat_eq e.0) es ≡ Some e.1) es → ((label voxels : ℕ) → lookup (nat_eq label) es ≡ Some voxels → 1 ≤ voxels)
    → All (λ c. 1 ≤ c.voxels) (map as_count es)
all_have es found some k d l =
    let within : k < length es = subst (λ n. k < n) (length-map es as_count) l in
    let e = get_or es k (0, 0) in
    let here : get_or (map as_count es) k d ≡ as_count e = get_or-map as_count es k (0, 0) d within in
    subst (λ (c : LabelCount). 1 ≤ c.voxels) (sym here) (some e.0 e.1 (found k (0, 0) within))

not_falling : (cs : List LabelCount) → IsNonDecreasingBy label_of cs → IsNonDecreasing (map label_of cs)
not_falling cs order i j d le l =
    let within : j < length cs = subst (λ n. j < n) (length-map cs label_of) l in
    let one = get_or-map label_of cs i nothing d (omega arith) in
    let other = get_or-map label_of cs j nothing d within in
    let h = order i j nothing le within in
    omega (arith, one, other, h)

-- the entries, in order, are a table
pub table-sorted : (es : List (ℕ × ℕ)) (items new : List LabelCount) → items ≡ map as_count es → IsPermutation items new → IsNonDecreasingBy label_of new
    → IsDistinct nat_eq (keys_of es) → All (λ e. lookup (nat_eq e.0) es ≡ Some e.1) es → ((label voxels : ℕ) → lookup (nat_eq label) es ≡ Some voxels → 1 ≤ voxels)
    → IsTable new
table-sorted es items new is perm order distinct found some =
    let old = subst (λ l. IsPermutation l new) is perm in
    let apart : IsDistinct nat_eq (map label_of (map as_count es)) = subst (IsDistinct nat_eq) (sym (labels-entries es)) distinct in
    let keys : IsDistinct nat_eq (map label_of new) =
    IsDistinct-IsPermutation nat_eq flips (map label_of (map as_count es)) (map label_of new) (IsPermutation-map label_of (map as_count es) new old) apart in
    let rises = IsStrictlyIncreasing-from_distinct (map label_of new) (not_falling new order) keys in
    let have = All-permutation (λ c. 1 ≤ c.voxels) (map as_count es) new old (all_have es found some) in
    table-rising 0 new (λ k h. omega arith) rises (have_from_all new have)

-- and its voxels are those of the entries
pub tally-sorted : (es : List (ℕ × ℕ)) (items new : List LabelCount) (label : ℕ) → items ≡ map as_count es → IsPermutation items new → IsDistinct nat_eq (keys_of es)
    → tally new label ≡ unwrap_or (lookup (nat_eq label) es) 0
tally-sorted es items new label is perm distinct =
    sum_by-IsPermutation (voxels_at label) items new perm ∙ ap (λ l. tally l label) is ∙ tally-entries label es distinct
