-- The sides of a chunk are short, since it has few voxels.
use Rattle.std.proofs.Common.{arith, ◌≡◌, ◌≤◌, ◌*◌, ◌^◌, ℕ, true}
use Rattle.std.proofs.lemmas.Bool.{and_parts, leb-true}
use Rattle.ig_space.specs.declared.point.Point.{Point}
use Rattle.ig_space.specs.Geometry.{chunk_fits, count, largest_chunk}

first_side : (x y z m : ℕ) → 1 ≤ y → 1 ≤ z → x * (y * z) ≤ m → x ≤ m
first_side x y z m j k h = grind arith

pub short_side : (chunk : Point) → chunk_fits chunk ≡ true → chunk.x ≤ 2 ^ 21
short_side chunk h =
    let p = and_parts _ _ h in
    let q = and_parts _ _ p.0 in
    let r = and_parts _ _ q.0 in
    let y : 1 ≤ chunk.y = leb-true 1 chunk.y r.1 in
    let z : 1 ≤ chunk.z = leb-true 1 chunk.z q.1 in
    let few : chunk.x * (chunk.y * chunk.z) ≤ 2 ^ 21 = leb-true (count chunk) largest_chunk p.1 in
    first_side chunk.x chunk.y chunk.z (2 ^ 21) y z few
