-- The parts of a scale: numbers, points and words.
use Rattle.std.specs.Prelude.{◌≤◌, ℕ, ◌&&◌, Bool, true, false, not, Option, Some, None, is_some, is_none, option_map, option_and_then, unwrap_or, if◌then◌else◌}
use Rattle.serde_json.specs.Data.{Data, Items, no_items, item}
use Rattle.serde_json.specs.Find.{at, as_number, as_u64, is_float}
use Rattle.ig_space.specs.declared.point.Point.{Point}
use Rattle.ig_space.specs.Path.{within}

-- the number, within these limits
abbrev pub limited : ℕ → ℕ → ℕ → Option ℕ
limited low high n = if within low high n then Some n else None

-- the number at this place of a list, within these limits
unfoldable pub side : ℕ → ℕ → ℕ → Data → Option ℕ
side i low high d = option_and_then (limited low high) (option_and_then as_u64 (option_and_then as_number (at i d)))

-- a list of three numbers within these limits
unfoldable pub triple : ℕ → ℕ → Data → Option Point
triple low high d =
    option_and_then (λ x. option_and_then (λ y. option_and_then (λ z.
    if is_none (at 3 d) then Some (record { x = x; y = y; z = z }) else None)
    (side 2 low high d)) (side 1 low high d)) (side 0 low high d)

pub record IsWithin (low high : ℕ) (p : Point) : Type 0 where
  pub x_low : low ≤ p.x
  pub x_high : p.x ≤ high
  pub y_low : low ≤ p.y
  pub y_high : p.y ≤ high
  pub z_low : low ≤ p.z
  pub z_high : p.z ≤ high

-- a number that is no float
abbrev pub is_whole : Data → Bool
is_whole d = is_some (as_number d) && not (unwrap_or (option_map is_float (as_number d)) false)

abbrev pub whole_at : ℕ → Data → Bool
whole_at i d = unwrap_or (option_map is_whole (at i d)) false

-- a list of three whole numbers
unfoldable pub is_whole_triple : Data → Bool
is_whole_triple d = whole_at 0 d && whole_at 1 d && whole_at 2 d && is_none (at 3 d)

-- only lists of three numbers within these limits
abbrev pub all_triples : ℕ → ℕ → Items → Bool
all_triples low high no_items = true
all_triples low high (item d ds) = is_some (triple low high d) && all_triples low high ds
