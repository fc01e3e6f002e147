-- The mode of a block of four labels, and the row of modes of two rows (igneous's mode downsampling).
use Rattle.std.specs.Prelude.{ℕ, ◌+◌, ◌-◌, ◌*◌, ◌/◌, ◌==◌, ◌||◌, min, List, slice_index, if◌then◌else◌}

-- a at (0, 0), b at (1, 0), c at (0, 1), d at (1, 1): a where it is there twice, else b where it is, else d
abbrev pub mode_of : ℕ → ℕ → ℕ → ℕ → ℕ
mode_of a b c d = if a == b || a == c then a else if b == c then b else d

-- half of it, up
abbrev pub half_up : ℕ → ℕ
half_up n = (n + 1) / 2

-- the place in a side of this length, or its last one
abbrev pub edge : ℕ → ℕ → ℕ
edge side x = min x (side - 1)

-- the mode of block k of two rows of this length, the last column repeated
abbrev pub block_mode : ℕ → List ℕ → List ℕ → ℕ → ℕ
block_mode side upper lower k =
    mode_of (slice_index upper (2 * k)) (slice_index upper (edge side (2 * k + 1))) (slice_index lower (2 * k)) (slice_index lower (edge side (2 * k + 1)))

-- the same of two rows that begin at these places of a list
abbrev pub row_mode : ℕ → List ℕ → ℕ → ℕ → ℕ → ℕ
row_mode side labels upper lower k =
    mode_of (slice_index labels (upper + 2 * k)) (slice_index labels (upper + edge side (2 * k + 1))) (slice_index labels (lower + 2 * k)) (slice_index labels (lower + edge side (2 * k + 1)))

-- the mode of block (x, y) of a plane with rows of length `wide`, `tall` of them: the last column and the last row repeated
abbrev pub plane_mode : ℕ → ℕ → List ℕ → ℕ → ℕ → ℕ
plane_mode wide tall plane x y = row_mode wide plane (wide * (2 * y)) (wide * edge tall (2 * y + 1)) x
