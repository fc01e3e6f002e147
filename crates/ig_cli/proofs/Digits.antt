-- The last digits of a number.
use Rattle.std.proofs.Common.{◌≡◌, ℕ, ◌+◌, ◌/◌, ◌%◌, [], ◌∷◌, arith}
use Rattle.ig_defs.specs.QueueNames.{digits}

-- those of what is left by the division by 10000
pub last_four : (n : ℕ) → digits 4 (n % 10000) ≡ digits 4 n
last_four n =
    let thousands : (n % 10000) / 10 / 10 / 10 % 10 ≡ n / 10 / 10 / 10 % 10 = omega arith in
    let hundreds : (n % 10000) / 10 / 10 % 10 ≡ n / 10 / 10 % 10 = omega arith in
    let tens : (n % 10000) / 10 % 10 ≡ n / 10 % 10 = omega arith in
    let ones : (n % 10000) % 10 ≡ n % 10 = omega arith in
    λ i. (48 + thousands i) ∷ (48 + hundreds i) ∷ (48 + tens i) ∷ (48 + ones i) ∷ []

-- those of what is left by the division by 1000000
pub last_six : (n : ℕ) → digits 6 (n % 1000000) ≡ digits 6 n
last_six n =
    let sixth : (n % 1000000) / 10 / 10 / 10 / 10 / 10 % 10 ≡ n / 10 / 10 / 10 / 10 / 10 % 10 = omega arith in
    let fifth : (n % 1000000) / 10 / 10 / 10 / 10 % 10 ≡ n / 10 / 10 / 10 / 10 % 10 = omega arith in
    let fourth : (n % 1000000) / 10 / 10 / 10 % 10 ≡ n / 10 / 10 / 10 % 10 = omega arith in
    let third : (n % 1000000) / 10 / 10 % 10 ≡ n / 10 / 10 % 10 = omega arith in
    let second : (n % 1000000) / 10 % 10 ≡ n / 10 % 10 = omega arith in
    let first : (n % 1000000) % 10 ≡ n % 10 = omega arith in
    λ i. (48 + sixth i) ∷ (48 + fifth i) ∷ (48 + fourth i) ∷ (48 + third i) ∷ (48 + second i) ∷ (48 + first i) ∷ []
