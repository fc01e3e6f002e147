-- What a sink takes.
use Rattle.std.specs.Prelude.{◌≡◌, ℕ, List, ◌++◌, take}

-- some first part of the bytes was taken
abbrev pub TakesPrefix : List ℕ → List ℕ → List ℕ → Type 0
TakesPrefix old bytes new = (n : ℕ) × (new ≡ old ++ take n bytes)

-- what contracts see of a sink in memory
pub record Sunk : Type 0 where
  pub bytes : List ℕ
  pub limit : ℕ
  pub faults : ℕ
