-- Digits that are read from the front.
use Rattle.std.proofs.Common.{◌≡◌, ◌≢◌, ◌<◌, ◌≤◌, ℕ, zero, suc, ◌+◌, ◌-◌, ◌*◌, ◌/◌, ◌%◌, ◌^◌, add-one, arith, List, [], ◌∷◌, ◌++◌, All, length, take, get_or, sym, ap, subst, ◌∙◌}
use Rattle.std.proofs.Math.Nat.{pow-le-pow_right}
use Rattle.std.proofs.lemmas.List.{take_more, take-append-drop, length-append}
use Rattle.std.proofs.lemmas.List.Elements.{All-nil, All-push}
use Rattle.std.specs.List.{IsSplitAt}
use Rattle.ig_defs.specs.QueueNames.{digits}
use Rattle.ig_defs.specs.QueueNameLaws.{length-digits, same_parts}

-- one digit more
digits-next : (n v d : ℕ) → d < 10 → digits (suc n) (v * 10 + d) ≡ digits n v ++ (48 + d) ∷ []
digits-next n v d small =
    let high : (v * 10 + d) / 10 ≡ v = omega (arith, small) in
    let low : (v * 10 + d) % 10 ≡ d = omega (arith, small) in
    λ i. digits n (high i) ++ (48 + low i) ∷ []

-- the number so far stays small, and is that of the bytes so far
abbrev pub ReadSoFar : List ℕ → ℕ → ℕ → Type 0
ReadSoFar text i v = (v < 10 ^ i) × (take i text ≡ digits i v)

pub read_one : (text : List ℕ) (i v d : ℕ) → i < length text → d ≡ get_or text i 0 - 48 → 48 ≤ get_or text i 0 → get_or text i 0 ≤ 57
    → ReadSoFar text i v → ReadSoFar text (i + 1) (v * 10 + d)
read_one text i v d within is low high so_far =
    let small : d < 10 = omega (arith, is, low, high) in
    let byte : get_or text i 0 ≡ 48 + d = omega (arith, is, low) in
    let bound : v * 10 + d < 10 ^ suc i = omega (arith, small, so_far.0) in
    let same : take (i + 1) text ≡ digits (suc i) (v * 10 + d) =
    take_more text i 0 within ∙ (λ k. so_far.1 k ++ byte k ∷ []) ∙ sym (digits-next i v d small) in
    (subst (λ n. v * 10 + d < 10 ^ n) (sym (add-one i)) bound, same ∙ ap (λ n. digits n (v * 10 + d)) (sym (add-one i)))

-- at most nineteen digits
pub fits_so_far : (v i len : ℕ) → v < 10 ^ i → i < len → len ≤ 19 → v < 10 ^ 18
fits_so_far v i len small within most =
    let few : i ≤ 18 = omega (arith, within, most) in
    let up : 10 ^ i ≤ 10 ^ 18 = pow-le-pow_right {n = 10} (omega arith) few in
    omega (arith, small, up)

abbrev pub IsDigit : ℕ → Type 0
IsDigit c = (48 ≤ c) × (c ≤ 57)

are_digits : (n v : ℕ) → All IsDigit (digits n v)
are_digits zero v = All-nil IsDigit
are_digits (suc n) v = All-push IsDigit (digits n (v / 10)) (48 + v % 10) (are_digits n (v / 10)) (omega arith, omega arith)

-- each byte of digits is one
pub digit_at : (text : List ℕ) (i n v : ℕ) → i < length text → text ≡ digits n v → IsDigit (get_or text i 0)
digit_at text i n v within e =
    let all : All IsDigit text = subst (All IsDigit) (sym e) (are_digits n v) in
    all i 0 within

-- ---- a text that does not begin with digits and a mark
pub too_short : (text rest : List ℕ) (len v : ℕ) → length text < len → text ≡ digits len v ++ rest → ⊥
too_short text rest len v short e = absurd (omega (arith, short, ap length e, length-append (digits len v) rest, length-digits len v))

parted : (text front back rest : List ℕ) (len v : ℕ) → IsSplitAt text len front back → text ≡ digits len v ++ rest → (front ≡ digits len v) × (back ≡ rest)
parted text front back rest len v split e =
    let whole : front ++ back ≡ text = (λ i. split.1 i ++ split.2 i) ∙ take-append-drop len text in
    same_parts front (digits len v) back rest (split.3 ∙ sym (length-digits len v)) (whole ∙ e)

pub no_number : (text front back rest : List ℕ) (len v : ℕ) → IsSplitAt text len front back → ((w : ℕ) → front ≢ digits (length front) w)
    → text ≡ digits len v ++ rest → ⊥
no_number text front back rest len v split none e =
    none v ((parted text front back rest len v split e).0 ∙ ap (λ n. digits n v) (sym split.3))

pub no_mark : (text front back mark rest : List ℕ) (len v : ℕ) → IsSplitAt text len front back → ((later : List ℕ) → back ≢ mark ++ later)
    → text ≡ digits len v ++ (mark ++ rest) → ⊥
no_mark text front back mark rest len v split none e = none rest (parted text front back (mark ++ rest) len v split e).1
