-- Words and numbers of words.
use Rattle.std.proofs.Common.{arith, ◌≡◌, ◌<◌, ◌+◌, ◌*◌, ◌%◌, ◌^◌, ℕ, List, bit_or, refl, ap, sym, ◌∙◌}
use Rattle.std.proofs.lemmas.Grind.{or_before_shift}
use Rattle.ig_cseg.specs.Cseg.{word, number}

-- the number in two words
number-two : (bytes : List ℕ) (i : ℕ) → number 2 bytes i ≡ word bytes i + word bytes (i + 1) * 2 ^ 32
number-two bytes i = omega arith

-- as it is put together of its halves
pub number-halves : (n i low high joined : ℕ) (bytes : List ℕ) → n ≡ 2 → low ≡ word bytes i → high ≡ word bytes (i + 1) → low < 2 ^ 32 → high < 2 ^ 32
    → joined ≡ bit_or low (high * 2 ^ 32 % 2 ^ 64) → joined ≡ number n bytes i
number-halves n i low high joined bytes two l h low_fits high_fits e =
    let halves = or_before_shift low high (2 ^ 32) (2 ^ 64) refl low_fits (omega arith) in
    let whole : bit_or low (high * 2 ^ 32 % 2 ^ 64) ≡ number 2 bytes i = omega (arith, number-two bytes i) in
    e ∙ whole ∙ ap (λ m. number m bytes i) (sym two)
