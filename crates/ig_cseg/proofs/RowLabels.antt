-- Which labels a row of a block has.
use Rattle.std.proofs.Common.{arith, ◌≡◌, ◌<◌, ◌+◌, ◌*◌, ◌/◌, ◌%◌, ℕ, List, ap, ◌∙◌}
use Rattle.std.proofs.lemmas.Nat.{div-mul-add, mod-mul-add}
use Rattle.ig_space.specs.declared.point.Point.{Point}
use Rattle.ig_space.specs.Grid.{point_at}
use Rattle.ig_space.specs.Volume.{place_of}
use Rattle.ig_space.specs.Points.{place_of-point_at}
use Rattle.ig_cseg.specs.Cseg.{block_grid, block_of, entry, position}
use Rattle.ig_cseg.specs.Blocks.{IsClip, corner, row_count, row_place, row_position}
use Rattle.ig_cseg.specs.Labels.{label_of}
use Rattle.ig_cseg.proofs.Positions.{point_at-place_of}
use Rattle.ig_cseg.proofs.Spans.{row_in}

block_along : (lo i block x : ℕ) → lo ≡ i * block → x < block → (lo + x) / block ≡ i
block_along lo i block x e l = ap (λ n. (n + x) / block) e ∙ div-mul-add i block x l

offset_along : (lo i block x : ℕ) → lo ≡ i * block → x < block → (lo + x) % block ≡ x
offset_along lo i block x e l = ap (λ n. (n + x) % block) e ∙ mod-mul-add i block x l

-- the label of a voxel, by its coordinates
label_by : (n : ℕ) (block size : Point) (bytes : List ℕ) (k : ℕ) (p : Point) (b q : ℕ) → point_at size k ≡ p → block_of size block p.x p.y p.z ≡ b → position block p.x p.y p.z ≡ q
    → label_of n block size bytes k ≡ entry n bytes b q
unfolding label_of
label_by n block size bytes k p b q e f g =
    ap (λ (p : Point). entry n bytes (block_of size block p.x p.y p.z) (position block p.x p.y p.z)) e
    ∙ ap (λ b. entry n bytes b (position block p.x p.y p.z)) f ∙ ap (entry n bytes b) g

-- the label of voxel x of a row of block b
pub row_label : (n : ℕ) (size block lo clip : Point) (bytes : List ℕ) (b row x : ℕ) → IsClip size block lo clip → lo ≡ corner size block b → row < row_count clip → x < clip.x
    → label_of n block size bytes (row_place size lo clip row + x) ≡ entry n bytes b (row_position block clip row + x)
row_label n size block lo clip bytes b row x h e below l =
    let i = point_at (block_grid size block) b in
    let r = row_in clip row h.y_some below in
    let y = row % clip.y in
    let z = row / clip.y in
    let lx : lo.x ≡ i.x * block.x = ap (λ (p : Point). p.x) e in
    let ly : lo.y ≡ i.y * block.y = ap (λ (p : Point). p.y) e in
    let lz : lo.z ≡ i.z * block.z = ap (λ (p : Point). p.z) e in
    let x_in : x < block.x = omega (arith, l, h.x_most) in
    let y_in : y < block.y = omega (arith, r.y, h.y_most) in
    let z_in : z < block.z = omega (arith, r.z, h.z_most) in
    let place : row_place size lo clip row + x ≡ place_of size (lo.x + x) (lo.y + y) (lo.z + z) = omega arith in
    let at : point_at size (row_place size lo clip row + x) ≡ record { x = lo.x + x; y = lo.y + y; z = lo.z + z } =
    ap (point_at size) place ∙ point_at-place_of size (lo.x + x) (lo.y + y) (lo.z + z) (omega (arith, l, h.x_in)) (omega (arith, r.y, h.y_in)) in
    let bx = block_along lo.x i.x block.x x lx x_in in
    let by = block_along lo.y i.y block.y y ly y_in in
    let bz = block_along lo.z i.z block.z z lz z_in in
    let ox = offset_along lo.x i.x block.x x lx x_in in
    let oy = offset_along lo.y i.y block.y y ly y_in in
    let oz = offset_along lo.z i.z block.z z lz z_in in
    let own : block_of size block (lo.x + x) (lo.y + y) (lo.z + z) ≡ place_of (block_grid size block) i.x i.y i.z = cc (bx, by, bz) in
    let offset : position block (lo.x + x) (lo.y + y) (lo.z + z) ≡ place_of block x y z = cc (ox, oy, oz) in
    let turned : place_of block x y z ≡ row_position block clip row + x = omega arith in
    label_by n block size bytes (row_place size lo clip row + x) (record { x = lo.x + x; y = lo.y + y; z = lo.z + z }) b (row_position block clip row + x)
    at (own ∙ place_of-point_at (block_grid size block) b) (offset ∙ turned)
