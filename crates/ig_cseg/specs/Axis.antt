-- Blocks along one axis.
use Rattle.std.proofs.Common.{arith, ◌≡◌, ◌≤◌, ◌<◌, ◌+◌, ◌-◌, ◌*◌, ◌/◌, ℕ, ap, sym, ◌∙◌, inl, inr, ◌⊎◌}
use Rattle.std.proofs.Math.Nat.{add-div_right, le-div_iff_mul-le, div-eq_of_lt}
use Rattle.std.proofs.lemmas.Bool.{cases_lt}
use Rattle.ig_cseg.specs.Cseg.{blocks_along}

-- rounded up
pub blocks_along-up : (side block : ℕ) → 1 ≤ block → 1 ≤ side → (side - 1) / block + 1 ≡ blocks_along side block
blocks_along-up side block some more =
    let same : side - 1 + block ≡ side + (block - 1) = omega arith in
    sym (add-div_right (side - 1) some) ∙ ap (λ n. n / block) same

pub blocks_along-none : (side block : ℕ) → 1 ≤ block → side ≡ 0 → 0 ≡ blocks_along side block
blocks_along-none side block some none =
    let small : side + (block - 1) < block = omega arith in
    sym (div-eq_of_lt small)

some_or_none : (side block : ℕ) → 1 ≤ block → 1 ≤ blocks_along side block → (side < 1) ⊎ (1 ≤ side) → 1 ≤ side
some_or_none side block some more (inr h) = h
some_or_none side block some more (inl h) =
    let none = blocks_along-none side block some (omega arith) in
    absurd (omega arith)

-- a side with a block has a voxel
pub blocks_along-some : (side block : ℕ) → 1 ≤ block → 1 ≤ blocks_along side block → 1 ≤ side
blocks_along-some side block some more = some_or_none side block some more (cases_lt side 1)

-- a block begins within the side
pub block-begins : (side block i : ℕ) → 1 ≤ block → i < blocks_along side block → i * block < side
block-begins side block i some below =
    let whole : (i + 1) * block ≤ side + (block - 1) = (le-div_iff_mul-le some).0 (omega arith) in
    grind arith

-- a side that has a block is as long as a block, once padded
pub padded-most : (side block : ℕ) → 1 ≤ blocks_along side block → block ≤ blocks_along side block * block
padded-most side block some = grind arith
