-- The names of records, and how many stages they tell.
use Rattle.std.proofs.Common.{arith, inl, inr, ◌⊎◌, ◌≡◌, ◌<◌, ◌+◌, ◌^◌, ◌∙◌, ℕ, zero, suc, max, Bool, true, false, if◌then◌else◌, List, Option, None, Some, IfSome, IsNone, length, drop, get_or, refl, ap, sym}
use Rattle.std.proofs.Math.Seq.{drop-cons, drop-length}
use Rattle.std.proofs.lemmas.Bool.{cases_Bool, lt-ltb, ltb-true}
use Rattle.std.proofs.lemmas.Bool.Decides.{nat_tests}
use Rattle.std.proofs.lemmas.Slice.Eq.{bytes_eq-Decides}
use Rattle.std.specs.Str.{bytes_eq}
use Rattle.ig_defs.specs.QueueNames.{stage_file, stage_fits}
use Rattle.ig_defs.specs.QueueNameLaws.{stage_file-same}
use Rattle.ig_layer.specs.Faults.{first_of, or_else}
use Rattle.ig_meaning.specs.QueueMaking.{beyond, record_count, stage_named}
use Rattle.ig_meaning.specs.Lists.{first_of-from}

-- ---- one name

abbrev named_if : List ℕ → ℕ → Option ℕ
named_if name n = if bytes_eq (stage_file n) name then Some n else None

is_named : (name : List ℕ) (n : ℕ) → stage_file n ≡ name → named_if name n ≡ Some n
is_named name n is = ap (λ b. if b then Some n else None) ((bytes_eq-Decides (stage_file n) name).1 is)

not_equal : (xs ys : List ℕ) → (xs ≡ ys → ⊥) → (bytes_eq xs ys ≡ true) ⊎ (bytes_eq xs ys ≡ false) → bytes_eq xs ys ≡ false
not_equal xs ys differ (inl e) = absurd (differ ((bytes_eq-Decides xs ys).0 e))
not_equal xs ys differ (inr e) = e

not_named : (name : List ℕ) (n : ℕ) → (stage_file n ≡ name → ⊥) → named_if name n ≡ None
not_named name n differ = ap (λ b. if b then Some n else None) (not_equal (stage_file n) name differ (cases_Bool (bytes_eq (stage_file n) name)))

none_named : (name : List ℕ) (n : ℕ) → ((k : ℕ) → k < n → stage_file k ≡ name → ⊥) → first_of (named_if name) n ≡ None
none_named name zero differ = refl
none_named name (suc n) differ =
    ap (λ o. or_else o (named_if name n)) (none_named name n (λ k below. differ k (omega (arith, below)))) ∙ not_named name n (differ n (omega arith))

last_or_before : (k n : ℕ) → k < suc n → (k < n) ⊎ (k ≡ n)
last_or_before k n below = grind (arith, below)

no_other : (name : List ℕ) (j k : ℕ) → k < 10 ^ 4 → stage_file k ≡ name → j < k → stage_file j ≡ name → ⊥
no_other name j k few is less e =
    let same : j ≡ k = stage_file-same j k (lt-ltb j (10 ^ 4) (omega (arith, less, few))) (lt-ltb k (10 ^ 4) few) (e ∙ sym is) in
    absurd (omega (arith, same, less))

named_next : (name : List ℕ) (n k : ℕ) → k < 10 ^ 4 → stage_file k ≡ name → (k < n → first_of (named_if name) n ≡ Some k) → (k < n) ⊎ (k ≡ n)
    → first_of (named_if name) (suc n) ≡ Some k
named_next name n k few is before (inl less) = ap (λ o. or_else o (named_if name n)) (before less)
named_next name n k few is before (inr last) =
    ap (λ o. or_else o (named_if name n)) (none_named name n (λ j less. no_other name j k few is (omega (arith, less, last))))
    ∙ is_named name n (ap stage_file (sym last) ∙ is) ∙ ap Some (sym last)

first_named : (name : List ℕ) (n k : ℕ) → k < 10 ^ 4 → stage_file k ≡ name → k < n → first_of (named_if name) n ≡ Some k
first_named name zero k few is below = absurd (omega (arith, below))
first_named name (suc n) k few is below = named_next name n k few is (λ less. first_named name n k few is less) (last_or_before k n below)

-- the stage whose record has this name
pub named_is : (name : List ℕ) (n : ℕ) → stage_fits n ≡ true → name ≡ stage_file n → stage_named name ≡ Some n
unfolding stage_named
named_is name n fits is = first_named name (10 ^ 4) n (ltb-true n (10 ^ 4) fits) (sym is) (ltb-true n (10 ^ 4) fits)

-- no stage's record has it
pub named_none : (name : List ℕ) → ((n : ℕ) → stage_fits n ≡ true → name ≡ stage_file n → ⊥) → stage_named name ≡ None
unfolding stage_named
named_none name none = none_named name (10 ^ 4) (λ k below is. none k (lt-ltb k (10 ^ 4) below) (sym is))

named_by : (name : List ℕ) (k n : ℕ) (b : Bool) → bytes_eq (stage_file k) name ≡ b → k < 10 ^ 4 → (if b then Some k else None) ≡ Some n → (stage_fits n ≡ true) × (stage_file n ≡ name)
named_by name k n true same few is =
    let number : k ≡ n = cc in
    (lt-ltb n (10 ^ 4) (omega (arith, number, few)), ap stage_file (sym number) ∙ (bytes_eq-Decides (stage_file k) name).0 same)
named_by name k n false same few is = let no_way : ⊥ = cc in absurd no_way

-- the name is that of the record of the stage which it has
pub named_back : (name : List ℕ) (n : ℕ) → stage_named name ≡ Some n → (stage_fits n ≡ true) × (stage_file n ≡ name)
unfolding stage_named
named_back name n is =
    let v = first_of-from (named_if name) (10 ^ 4) n is in
    named_by name v.number n (bytes_eq (stage_file v.number) name) refl v.below v.is

pub named_found : (name : List ℕ) (result : Option ℕ) → IfSome result (λ n. (stage_fits n ≡ true) × (name ≡ stage_file n))
    → (IsNone result → (n : ℕ) → stage_fits n ≡ true → name ≡ stage_file n → ⊥) → result ≡ stage_named name
named_found name (Some n) some none = sym (named_is name n some.0 some.1)
named_found name None some none = sym (named_none name (none refl))

-- ---- how many they tell

max_beyond : (count rest : ℕ) (named : Option ℕ) → max count (beyond named rest) ≡ max (beyond named count) rest
max_beyond count rest None = refl
max_beyond count rest (Some n) = grind (arith, nat_tests)

-- one name more
pub count_more : (names : List (List ℕ)) (k : ℕ) (name : List ℕ) (count all : ℕ) → k < length names → name ≡ get_or names k name → max count (record_count (drop k names)) ≡ all
    → max (beyond (stage_named name) count) (record_count (drop (k + 1) names)) ≡ all
count_more names k name count all below is so =
    let next : k + 1 ≡ suc k = omega arith in
    ap (λ m. max (beyond (stage_named name) count) (record_count (drop m names))) next
    ∙ sym (max_beyond count (record_count (drop (suc k) names)) (stage_named name))
    ∙ ap (λ first. max count (beyond (stage_named first) (record_count (drop (suc k) names)))) is
    ∙ ap (λ rest. max count (record_count rest)) (sym (drop-cons names k name below)) ∙ so

max_zero : (n : ℕ) → max n 0 ≡ n
max_zero n = grind (arith, nat_tests)

-- no name more
pub count_all : (names : List (List ℕ)) (k count all : ℕ) → k ≡ length names → max count (record_count (drop k names)) ≡ all → count ≡ all
count_all names k count all end so =
    sym (max_zero count) ∙ ap (λ rest. max count (record_count rest)) (sym (ap (λ m. drop m names) end ∙ drop-length names)) ∙ so

pub max_first : (n : ℕ) → max 0 n ≡ n
max_first n = grind (arith, nat_tests)
