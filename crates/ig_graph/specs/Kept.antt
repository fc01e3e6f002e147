-- What a search for the least member of a set leaves as it was.
use Rattle.std.specs.Prelude.{ℕ, ◌≡◌, ◌<◌, List, length}
use Rattle.ig_graph.specs.Forest.{AreParents, top}

-- Each number has the same highest one.
pub record IsSameForest (old new : List ℕ) : Type 0 where
  pub size : length new ≡ length old
  pub parents : AreParents new
  pub same : (i : ℕ) → i < length old → top new i ≡ top old i
