-- The texts of numbers in decimal, read back.
use Rattle.std.proofs.Common.{arith, ◌≡◌, ◌<◌, ◌+◌, ◌/◌, ◌%◌, ◌^◌, ℕ, zero, suc, Bool, true, false, not, ◌==◌, ◌&&◌, ◌||◌, List, [], ◌∷◌, ◌++◌, length, slice_index, Result, Ok, Err, IfSome, IsNone, subst, refl, ap, sym, ◌∙◌, true≢false}
use Rattle.std.proofs.lemmas.Bool.{and_parts}
use Rattle.std.proofs.lemmas.Bool.Decides.{nat_tests}
use Rattle.std.proofs.lemmas.Fmt.{decimal_by_steps, decimal-digits_value, parse-decimal}
use Rattle.std.proofs.lemmas.Str.Parse.{IsNumeralModel, numerals_by_value, tells_digits, without_leading_plus_none}
use Rattle.std.specs.Str.Parse.{AllDigits, IsNumeral, ParsesUnsigned, digits_value}
use Rattle.std.specs.Result.{result_ok}
use Rattle.std.specs.Fmt.{decimal}
use Rattle.ig_space.specs.Chunk.{is_plain}

-- a text of the number n opens with a digit, and with no zero but for the number zero
abbrev opens : ℕ → List ℕ → Bool
opens n [] = false
opens n (c ∷ cs) = not (c == 43) && (not (c == 48) || n == 0)

opens-one : (n : ℕ) → n < 10 → opens n ((48 + n) ∷ []) ≡ true
opens-one n h = grind (arith, nat_tests)

opens-up : (c n m : ℕ) → 0 < m → (not (c == 43) && (not (c == 48) || m == 0)) ≡ true → (not (c == 43) && (not (c == 48) || n == 0)) ≡ true
opens-up c n m some h = grind (arith, nat_tests)

opens-more : (n m d : ℕ) (ds : List ℕ) → 0 < m → opens m ds ≡ true → opens n (ds ++ d ∷ []) ≡ true
opens-more n m d [] some h = absurd (true≢false (sym h))
opens-more n m d (c ∷ cs) some h = opens-up c n m some h

opens-decimal : (n : ℕ) → n < 2 ^ 64 → opens n (decimal n) ≡ true
opens-decimal = decimal_by_steps (λ n ds. opens n ds ≡ true) opens-one
    (λ n ds big h. opens-more n (n / 10) (48 + n % 10) ds (omega arith) h)

two : (c n : ℕ) → (not (c == 43) && (not (c == 48) || n == 0)) ≡ true → 0 < n → (not (c == 43) && not (c == 48)) ≡ true
two c n h some = grind (arith, nat_tests)

single-zero : (n : ℕ) → n < 2 ^ 64 → n ≡ 0 → length (decimal n) ≡ 1
single-zero = decimal_by_steps (λ n ds. n ≡ 0 → length ds ≡ 1) (λ n h e. refl) (λ n ds big h e. absurd (omega (arith, e, big)))

plain-more : (n : ℕ) (ds : List ℕ) → opens n ds ≡ true → 0 < n → is_plain ds ≡ true
plain-more n [] h some = h
plain-more n (c ∷ []) h some = (and_parts (not (c == 43)) _ h).0
plain-more n (c ∷ d ∷ ds) h some = two c n h some

plain-zero : (n : ℕ) (ds : List ℕ) → opens n ds ≡ true → length ds ≡ 1 → is_plain ds ≡ true
plain-zero n [] h one = h
plain-zero n (c ∷ []) h one = (and_parts (not (c == 43)) _ h).0
plain-zero n (c ∷ d ∷ ds) h one = absurd (omega (arith, one))

plain-by : (n : ℕ) (ds : List ℕ) → opens n ds ≡ true → (n ≡ 0 → length ds ≡ 1) → is_plain ds ≡ true
plain-by zero ds h one = plain-zero zero ds h (one refl)
plain-by (suc n) ds h one = plain-more (suc n) ds h (omega arith)

pub is_plain-decimal : (n : ℕ) → n < 2 ^ 64 → is_plain (decimal n) ≡ true
is_plain-decimal n h = plain-by n (decimal n) (opens-decimal n h) (single-zero n h)

own : IsNumeralModel (AllDigits 10) (digits_value 10)
own = numerals_by_value (AllDigits 10) tells_digits

no_plus : (bs : List ℕ) → is_plain bs ≡ true → slice_index bs 0 ≡ 43 → ⊥
no_plus [] plain e = true≢false (sym plain)
no_plus (c ∷ []) plain e = absurd (grind (arith, nat_tests))
no_plus (c ∷ d ∷ cs) plain e = absurd (grind (arith, nat_tests))

one_zero : (bs : List ℕ) → is_plain bs ≡ true → slice_index bs 0 ≡ 48 → length bs ≡ 1
one_zero [] plain e = absurd (true≢false (sym plain))
one_zero (c ∷ []) plain e = refl
one_zero (c ∷ d ∷ cs) plain e = absurd (grind (arith, nat_tests))

-- what was read of a plain text is the number that it writes
pub read-some : {E : Type 0} (bs : List ℕ) (r : Result ℕ E) → is_plain bs ≡ true → ParsesUnsigned 64 10 bs r → IfSome (result_ok r) (λ n. bs ≡ decimal n)
read-some bs (Err e) plain h = tt
read-some bs (Ok n) plain h =
    let P : List ℕ → Type 0 = λ ds. (IsNumeral 10 ds × (digits_value 10 ds < 2 ^ 64)) × (n ≡ digits_value 10 ds) in
    let p = subst P (without_leading_plus_none bs (no_plus bs plain)) h in
    sym (ap decimal p.1 ∙ decimal-digits_value own bs p.0.0.1 p.0.0.0 (one_zero bs plain) p.0.1)

-- where nothing was read the text is no number's
pub read-none : {E : Type 0} (bs : List ℕ) (r : Result ℕ E) → ParsesUnsigned 64 10 bs r → IsNone (result_ok r) → (n : ℕ) → n < 2 ^ 64 → bs ≡ decimal n → ⊥
read-none bs (Ok m) h none n small e = true≢false none
read-none bs (Err x) h none n small e = let same = parse-decimal 64 n bs (Err x) small small e h in absurd (cc)
