-- The words of the indices of a block.
use Rattle.std.proofs.Common.{arith, ◌≡◌, ◌<◌, ◌/◌, ◌^◌, ℕ, Bool, true, false, if◌then◌else◌, List, length, slice_index, take, drop, ◌++◌, refl, ap, ◌∙◌}
use Rattle.std.proofs.lemmas.List.{take_at}
use Rattle.std.proofs.lemmas.Nat.{pow_pos}
use Rattle.ig_space.specs.declared.point.Point.{Point}
use Rattle.ig_space.specs.Geometry.{count}
use Rattle.ig_space.specs.Grid.{point_at}
use Rattle.ig_space.specs.Volume.{place_of}
use Rattle.ig_cseg.specs.Blocks.{IsClip}
use Rattle.ig_cseg.specs.BlockText.{index_at_position, index_words, packed_words}
use Rattle.ig_cseg.specs.CsegText.{distinct, fewest_bits, index_in, is_inside, value_len}
use Rattle.ig_cseg.specs.Packing.{fewest_bits-room}
use Rattle.ig_cseg.specs.TextFits.{inside-from}
use Rattle.ig_cseg.proofs.DistinctOrder.{distinct-rises, of-distinct}
use Rattle.ig_cseg.proofs.IndexRows.{table-few}
use Rattle.ig_cseg.proofs.Rising.{index-below, of-place}
use Rattle.ig_cseg.proofs.Spans.{place-below}

chosen_small : (b : Bool) (index most : ℕ) → 0 < most → (b ≡ true → index < most) → (if b then index else 0) < most
chosen_small true index most some h = h refl
chosen_small false index most some h = some

-- the index of a position has the bits of the table
pub index-small : (size block lo clip : Point) (voxels table : List ℕ) (bits p : ℕ) → IsClip size block lo clip → length voxels ≡ count clip → table ≡ distinct voxels
    → bits ≡ fewest_bits (length table) → index_at_position block clip voxels table p < 2 ^ bits
index-small size block lo clip voxels table bits p h whole is fewest =
    let q = point_at block p in
    let place = place_of clip q.x q.y q.z in
    let few = table-few size block lo clip voxels h whole in
    let same : length table ≡ length (distinct voxels) = ap length is in
    let power : 2 ^ bits ≡ 2 ^ fewest_bits (length table) = ap (λ n. 2 ^ n) fewest in
    let room = fewest_bits-room (length table) (omega (arith, few, same)) in
    chosen_small (is_inside clip q) (index_in table (slice_index voxels place)) (2 ^ bits) (pow_pos bits)
    (λ e. let i = inside-from clip q e in
    let below : place < length voxels = omega (arith, place-below clip q.x q.y q.z i.x_below i.y_below i.z_below, whole) in
    let own = index-below (distinct voxels) (slice_index voxels place) (distinct-rises voxels) (of-distinct (slice_index voxels place) voxels (of-place voxels place below)) in
    let turned : index_in table (slice_index voxels place) ≡ index_in (distinct voxels) (slice_index voxels place) = ap (λ t. index_in t (slice_index voxels place)) is in
    omega (arith, own, turned, same, room, power))

-- what a list holds that was lent, once it is handed back
pub handed_back : (n : ℕ) (new old : List ℕ) → length new ≡ n → take n (new ++ drop (length new) old) ≡ new
handed_back n new old long = take_at new (drop (length new) old) n long

pub index_words-from : (block clip : Point) (voxels table indices : List ℕ) (bits words : ℕ) → ((p : ℕ) → slice_index indices p ≡ index_at_position block clip voxels table p)
    → words ≡ value_len bits (count block) → packed_words bits (32 / bits) (slice_index indices) words ≡ index_words block clip voxels table bits
index_words-from block clip voxels table indices bits words each many =
    let same : slice_index indices ≡ index_at_position block clip voxels table = λ i p. each p i in
    ap (λ f. packed_words bits (32 / bits) f words) same ∙ ap (packed_words bits (32 / bits) (index_at_position block clip voxels table)) many
