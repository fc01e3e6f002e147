-- Numbers that are written with zeros in front.
use Rattle.std.proofs.Common.{◌≡◌, ◌<◌, ◌≤◌, ℕ, zero, suc, ◌+◌, ◌-◌, ◌/◌, ◌%◌, ◌^◌, arith, false, List, [], ◌∷◌, ◌++◌, length, replicate, refl, sym, ap, ◌∙◌}
use Rattle.std.proofs.lemmas.Fmt.{decimal_by_steps}
use Rattle.std.proofs.lemmas.List.{append_assoc, append-nil, length-append, replicate_more}
use Rattle.std.specs.Fmt.{char_count, decimal, format_spec, padded_integral}
use Rattle.ig_defs.specs.QueueNames.{digits}

digits-zero : (n : ℕ) → digits n 0 ≡ replicate n 48
digits-zero zero = refl
digits-zero (suc n) =
    let count : n + 1 ≡ suc n = omega arith in
    ap (λ t. t ++ 48 ∷ []) (digits-zero n) ∙ replicate_more n 48 ∙ ap (λ k. replicate k 48) count

abbrev Filled : ℕ → List ℕ → Type 0
Filled n ds = (k : ℕ) → n < 10 ^ suc k → digits (suc k) n ≡ replicate (suc k - length ds) 48 ++ ds

filled-one : (n : ℕ) → n < 10 → Filled n ((48 + n) ∷ [])
filled-one n one k small =
    let high : n / 10 ≡ 0 = omega (arith, one) in
    let low : n % 10 ≡ n = omega (arith, one) in
    let count : suc k - 1 ≡ k = omega arith in
    (λ i. digits k (high i) ++ (48 + low i) ∷ []) ∙ ap (λ t. t ++ (48 + n) ∷ []) (digits-zero k ∙ ap (λ j. replicate j 48) (sym count))

filled-more : (n : ℕ) (ds : List ℕ) → 10 ≤ n → Filled (n / 10) ds → Filled n (ds ++ (48 + n % 10) ∷ [])
filled-more n ds more before zero small = absurd (omega (arith, more, small))
filled-more n ds more before (suc j) small =
    let digit : List ℕ = (48 + n % 10) ∷ [] in
    let tenth : n / 10 < 10 ^ suc j = omega (arith, small) in
    let count : suc j - length ds ≡ suc (suc j) - length (ds ++ digit) = omega (arith, length-append ds digit) in
    ap (λ t. t ++ digit) (before j tenth) ∙ append_assoc (replicate (suc j - length ds) 48) ds digit ∙ ap (λ c. replicate c 48 ++ (ds ++ digit)) count

digits-filled : (k n : ℕ) → n < 10 ^ suc k → n < 2 ^ 64 → digits (suc k) n ≡ replicate (suc k - length (decimal n)) 48 ++ decimal n
digits-filled k n small fits = decimal_by_steps Filled filled-one filled-more n fits k small

filled : (width : ℕ) (numeral : List ℕ) → padded_integral (format_spec 32 0 4 width (2 ^ 64 - 1)) false [] numeral ≡ replicate (width - length numeral) 48 ++ numeral
unfolding padded_integral char_count
filled width numeral =
    let count : width - length numeral - 0 - 0 ≡ width - length numeral = omega arith in
    λ i. replicate (count i) 48 ++ append-nil numeral i

-- what a hole with this width and zeros in front writes
pub written : (k n : ℕ) → n < 10 ^ suc k → n < 2 ^ 64 → padded_integral (format_spec 32 0 4 (suc k) (2 ^ 64 - 1)) false [] (decimal n) ≡ digits (suc k) n
written k n small fits = filled (suc k) (decimal n) ∙ sym (digits-filled k n small fits)
