-- A number of one to ten digits, as it is read.
use Rattle.std.proofs.Common.{◌≡◌, ◌<◌, ◌≤◌, ◌^◌, ℕ, Bool, true, ◌&&◌, List, [], ◌∷◌, length, cond, Some, None, Result, Ok, refl, ap, sym, ◌∙◌, arith}
use Rattle.std.specs.Result.{result_ok}
use Rattle.std.specs.List.{list_all}
use Rattle.std.specs.Char.{is_ascii_digit}
use Rattle.std.specs.Str.{all_ascii_digits}
use Rattle.std.specs.Str.Parse.{ParsesUnsigned, digits_value}
use Rattle.std.proofs.lemmas.Bool.{and_parts}
use Rattle.std.proofs.lemmas.Bool.Decides.{nat_tests}
use Rattle.std.proofs.lemmas.Str.Parse.{IsNumeralModel, numerals_by_value, tells_all_ascii_digits, parse_gives, digits_value_short}
use Rattle.ig_space.specs.Path.{within}
use Rattle.ig_meaning.specs.Options.{number_of}

pub digits-list_all : (xs : List ℕ) → all_ascii_digits xs ≡ list_all is_ascii_digit xs
digits-list_all [] = refl
digits-list_all (x ∷ xs) = ap (λ b. is_ascii_digit x && b) (digits-list_all xs)

-- one to ten digits
abbrev pub is_number : List ℕ → Bool
is_number text = all_ascii_digits text && within 1 10 (length text)

own : IsNumeralModel (λ ds. all_ascii_digits ds ≡ true) (digits_value 10)
own = numerals_by_value (λ ds. all_ascii_digits ds ≡ true) tells_all_ascii_digits

short : (n : ℕ) → within 1 10 n ≡ true → (1 ≤ n) × (n ≤ 10)
short n h = (grind (arith, nat_tests), grind (arith, nat_tests))

-- such a number is read
number-read : {E : Type 0} (text : List ℕ) (r : Result ℕ E) → is_number text ≡ true → ParsesUnsigned 64 10 text r → r ≡ Ok (digits_value 10 text)
number-read text r h read =
    let parts = and_parts (all_ascii_digits text) (within 1 10 (length text)) h in
    let lengths = short (length text) parts.1 in
    let below : digits_value 10 text < 10 ^ 10 = digits_value_short own text 10 parts.0 lengths.1 in
    parse_gives own 64 text r read parts.0 (omega (arith, lengths.0)) (omega (arith, below))

chosen : (b : Bool) (x : ℕ) → b ≡ true → Some x ≡ cond b (Some x) None
chosen b x h = ap (λ t. cond t (Some x) None) (sym h)

-- and is the one meant
pub number-is : {E : Type 0} (text : List ℕ) (r : Result ℕ E) → is_number text ≡ true → ParsesUnsigned 64 10 text r → result_ok r ≡ number_of text
number-is text r h read = ap result_ok (number-read text r h read) ∙ chosen (is_number text) (digits_value 10 text) h
