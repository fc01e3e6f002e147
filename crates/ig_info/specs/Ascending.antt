-- The members of JSON data in the order of their names: this project's own.
use Rattle.std.specs.Prelude.{ℕ, ◌&&◌, Bool, true, false, List}
use Rattle.std.specs.Ordering.{nat_cmp, match_ordering}
use Rattle.std.specs.Cmp.Lexicographic.{slice_cmp}
use Rattle.serde_json.specs.Data.{Data, null, boolean, number, string, array, object, Items, no_items, item, Members, no_members, member}

-- the name comes before the other
abbrev pub comes_before : List ℕ → List ℕ → Bool
comes_before k l = match_ordering (slice_cmp nat_cmp k l) true false false

-- the name comes before the first of these members
abbrev pub comes_first : List ℕ → Members → Bool
comes_first k no_members = true
comes_first k (member l d ms) = comes_before k l

-- in each object, at every depth, each member's name comes before the next one's
abbrev mutual
  pub ascends : Data → Bool
  ascends null = true
  ascends (boolean b) = true
  ascends (number n) = true
  ascends (string s) = true
  ascends (array ds) = items_ascend ds
  ascends (object ms) = members_ascend ms

  pub items_ascend : Items → Bool
  items_ascend no_items = true
  items_ascend (item d ds) = ascends d && items_ascend ds

  pub members_ascend : Members → Bool
  members_ascend no_members = true
  members_ascend (member k d ms) = ascends d && (comes_first k ms && members_ascend ms)
