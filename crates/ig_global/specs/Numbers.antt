-- The numbers of classes, as a list.
use Rattle.std.specs.Prelude.{ℕ, suc, ◌≡◌, ◌<◌, ◌-◌, ◌^◌, ◌==◌, ◌&&◌, nat_lt, List, length, slice_index, count_by}
use Rattle.ig_graph.specs.Counts.{how_many}
use Rattle.ig_graph.specs.Numbers.{lowest, number_of}

-- each class is a number of a node
abbrev pub AreBelow : List ℕ → Type 0
AreBelow classes = (a : ℕ) → a < length classes → slice_index classes a < length classes

-- Each node has the number of its class, in the order of the least first values of classes.
pub record AreNumbers (classes firsts numbers : List ℕ) : Type 0 where
  pub size : length numbers ≡ length classes
  pub each : (a : ℕ) → a < length classes
      → slice_index numbers a ≡ number_of (slice_index classes) (slice_index firsts) (length classes) a

-- ---- for private clauses
-- each number has the least first value of those of the first n nodes that have it as their class
pub record HaveLeast (classes firsts : List ℕ) (n : ℕ) (least : List ℕ) : Type 0 where
  pub size : length least ≡ length classes
  pub each : (c : ℕ) → c < length classes → slice_index least c ≡ lowest (λ b. slice_index classes b == c) (slice_index firsts) n (2 ^ 64 - 1)

-- for each bound, as many of the list are below it as of the first n nodes stand for their class and have a value below it
abbrev pub HaveTallies : List ℕ → List ℕ → ℕ → List ℕ → Type 0
HaveTallies classes least n ascending =
    (bound : ℕ) → count_by (λ x. nat_lt x bound) ascending ≡ how_many (λ a. (slice_index classes a == a) && nat_lt (slice_index least a) bound) n

-- the number of a node's class, where `least` has the least first values of classes
abbrev pub number_by : List ℕ → List ℕ → ℕ → ℕ
number_by classes least a =
    suc (how_many (λ b. (slice_index classes b == b) && nat_lt (slice_index least b) (slice_index least (slice_index classes a))) (length classes))

-- the first nodes, so many, have their numbers
abbrev pub AreDone : List ℕ → List ℕ → ℕ → List ℕ → Type 0
AreDone classes least n numbers = (a : ℕ) → a < n → slice_index numbers a ≡ number_by classes least a
