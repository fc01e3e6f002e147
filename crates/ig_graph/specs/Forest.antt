-- Sets as a forest: each number has a parent in its set, and the least member of the set is its own parent.
use Rattle.std.specs.Prelude.{ℕ, zero, suc, ◌≤◌, ◌<◌, ◌^◌, List, length, slice_index, map}
use Rattle.std.specs.List.{range_with_len}

-- the number k parents above i
abbrev pub above : List ℕ → ℕ → ℕ → ℕ
above parents zero i = i
above parents (suc k) i = above parents k (slice_index parents i)

-- the highest number above i
abbrev pub top : List ℕ → ℕ → ℕ
top parents i = above parents i i

-- the least member of each number's set
abbrev pub tops : List ℕ → List ℕ
tops parents = map (top parents) (range_with_len 0 (length parents))

-- no parent is above its number, and numbers have 32 bits
pub record AreParents (parents : List ℕ) : Type 0 where
  pub low : (i : ℕ) → i < length parents → slice_index parents i ≤ i
  pub bound : length parents < 2 ^ 32
