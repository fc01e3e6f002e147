-- The members of a new layer are read as its scale.
use Rattle.std.proofs.Common.{◌≡◌, ◌≤◌, ℕ, ◌+◌, ◌-◌, ◌*◌, ◌/◌, ◌^◌, ◌&&◌, nat_le, Bool, true, false, List, [], ◌∷◌, length, Some, Ok, codes, refl, arith, lit≤}
use Rattle.std.proofs.Math.Nat.{mul-le-mul_left, le_trans, le-div_iff_mul-le}
use Rattle.std.proofs.lemmas.Bool.{and_parts, and_from, leb-true, le-leb}
use Rattle.serde_json.specs.Data.{Data, object, item, no_items, Members}
use Rattle.serde_json.specs.Find.{get}
use Rattle.serde_json.specs.Written.{has_float}
use Rattle.ig_space.specs.declared.point.Point.{Point}
use Rattle.ig_space.specs.declared.geometry.Geometry.{Geometry}
use Rattle.ig_space.specs.declared.geometry.Width.{Width}
use Rattle.ig_space.specs.declared.geometry.Width.TheVariants.{W8, W16, W32, W64}
use Rattle.ig_space.specs.declared.geometry.Encoding.{Encoding}
use Rattle.ig_space.specs.declared.geometry.Encoding.TheVariants.{Raw, Cseg}
use Rattle.ig_space.specs.Path.{is_path, within}
use Rattle.ig_space.specs.Geometry.{largest_place, largest_chunk, largest_padded, all_within, blocks_fit, count, encoding_fits, ends_within, geometry_fits, is_wide, padded, padded_to, Fits-from}
use Rattle.ig_info.specs.declared.scale.Scale.{Scale}
use Rattle.ig_info.specs.Parts.{side, triple, is_whole_triple}
use Rattle.ig_info.specs.Scale.{scale_fits}
use Rattle.ig_info.specs.Scales.{largest_side, largest_block, is_absent_or_null, triple_member, has_key, key_of, offset_of, chunk_of, blocks_of, encoding_of, geometry_of, scale_of}
use Rattle.ig_info.specs.Whole.{text_member, segmentation_only, width_of, one_channel, kind_of, head_of, items_of_scales, scales_of}
use Rattle.ig_info.specs.Reading.{info_of}
use Rattle.ig_info.specs.Dest.{point_data, width_word, raw_members, cseg_members, scale_data, dest_members, dest_data}

triple-data : (low high : ℕ) (p : Point) → all_within low high p ≡ true → triple low high (point_data p) ≡ Some p
unfolding triple side
triple-data low high p h =
    let xy = and_parts _ _ h in
    let x = and_parts (within low high p.x) (within low high p.y) xy.0 in
    rw (x.0, x.1, xy.1) refl

head-dest : (w : Width) (d : Data) → has_float d ≡ false → head_of (dest_members (width_word w) d) ≡ Ok w
unfolding head_of kind_of segmentation_only width_of one_channel text_member
head-dest W8 d h = rw h refl
head-dest W16 d h = rw h refl
head-dest W32 d h = rw h refl
head-dest W64 d h = rw h refl

items-dest : (w : List ℕ) (ms : Members) → items_of_scales (dest_members w (object ms)) ≡ Ok (item (object ms) no_items)
unfolding items_of_scales
items-dest w ms = refl

-- the members of a scale whose chunks are written so
abbrev members_of : Encoding → List ℕ → Data → Data → Data → Data → Data
members_of Raw key c r z o = raw_members key c r z o
members_of (Cseg block) key c r z o = cseg_members key (point_data block) c r z o

key-dest : (earlier : List Scale) (e : Encoding) (key : List ℕ) (c r z o : Data) → is_path key ≡ true → nat_le (length key) 100 ≡ true → has_key earlier key ≡ false
    → key_of earlier (members_of e key c r z o) ≡ Ok key
unfolding key_of
key-dest earlier Raw key c r z o p n new = rw (p, n, new) refl
key-dest earlier (Cseg block) key c r z o p n new = rw (p, n, new) refl

size-dest : (n : ℕ) (e : Encoding) (key : List ℕ) (c r o : Data) (size : Point) (high : ℕ) → all_within 1 high size ≡ true → triple_member n (codes "size") 1 high (members_of e key c r (point_data size) o) ≡ Ok size
unfolding triple_member
size-dest n Raw key c r o size high h = rw (triple-data 1 high size h) refl
size-dest n (Cseg block) key c r o size high h = rw (triple-data 1 high size h) refl

resolution-dest : (n : ℕ) (e : Encoding) (key : List ℕ) (c z o : Data) (r : Point) (high : ℕ) → all_within 1 high r ≡ true
    → triple_member n (codes "resolution") 1 high (members_of e key c (point_data r) z o) ≡ Ok r
unfolding triple_member
resolution-dest n Raw key c z o r high h = rw (triple-data 1 high r h) refl
resolution-dest n (Cseg block) key c z o r high h = rw (triple-data 1 high r h) refl

offset-dest : (n : ℕ) (e : Encoding) (key : List ℕ) (c r z : Data) (size o : Point) → all_within 0 largest_place o ≡ true → ends_within o size ≡ true
    → offset_of n size (members_of e key c r z (point_data o)) ≡ Ok o
unfolding offset_of is_whole_triple
offset-dest n Raw key c r z size o h e = rw (triple-data 0 largest_place o h, e) refl
offset-dest n (Cseg block) key c r z size o h e = rw (triple-data 0 largest_place o h, e) refl

chunk-dest : (n : ℕ) (e : Encoding) (key : List ℕ) (c : Point) (r z o : Data) → all_within 1 largest_side c ≡ true → chunk_of n (members_of e key (point_data c) r z o) ≡ Ok c
unfolding chunk_of
chunk-dest n Raw key c r z o h = rw (triple-data 1 largest_side c h) refl
chunk-dest n (Cseg block) key c r z o h = rw (triple-data 1 largest_side c h) refl

-- what the reader asks of compressed labels
abbrev is_read : Width → Encoding → Bool
is_read w Raw = true
is_read w (Cseg block) = is_wide w && all_within 1 largest_block block

encoding-dest : (n : ℕ) (e : Encoding) (w : Width) (key : List ℕ) (c r z o : Data) → is_read w e ≡ true → encoding_of n w (members_of e key c r z o) ≡ Ok e
unfolding encoding_of blocks_of triple_member
encoding-dest n Raw w key c r z o h = refl
encoding-dest n (Cseg block) w key c r z o h =
    let p = and_parts (is_wide w) (all_within 1 largest_block block) h in
    rw (p.0, triple-data 1 largest_block block p.1) refl

-- ---- numbers

le_times : (x n : ℕ) → 1 ≤ n → x ≤ x * n
le_times x n h = let m = mul-le-mul_left x h in omega (arith, m)

times_le : (x n : ℕ) → 1 ≤ x → n ≤ x * n
times_le x n h = let m = le_times n x h in omega (arith, m)

inside : (low high n : ℕ) → low ≤ n → n ≤ high → within low high n ≡ true
inside low high n a b = and_from _ _ (le-leb low n a) (le-leb n high b)

all_inside : (low high : ℕ) (p : Point) → within low high p.x ≡ true → within low high p.y ≡ true → within low high p.z ≡ true → all_within low high p ≡ true
all_inside low high p x y z = and_from _ _ (and_from _ _ x y) z

-- no side is longer than the count
sides-within : (p : Point) (high : ℕ) → 1 ≤ p.x → 1 ≤ p.y → 1 ≤ p.z → count p ≤ high → all_within 1 high p ≡ true
sides-within p high x y z few =
    let face : p.y ≤ p.y * p.z = le_times p.y p.z z in
    let other : p.z ≤ p.y * p.z = times_le p.y p.z y in
    let some : 1 ≤ p.y * p.z = omega arith in
    let whole : p.x ≤ p.x * (p.y * p.z) = le_times p.x (p.y * p.z) some in
    let rest : p.y * p.z ≤ p.x * (p.y * p.z) = times_le p.x (p.y * p.z) x in
    all_inside 1 high p (inside 1 high p.x x (le_trans whole few)) (inside 1 high p.y y (le_trans face (le_trans rest few))) (inside 1 high p.z z (le_trans other (le_trans rest few)))

wider : (low a b n : ℕ) → a ≤ b → within low a n ≡ true → within low b n ≡ true
wider low a b n h w =
    let p = and_parts (nat_le low n) (nat_le n a) w in
    and_from _ _ p.0 (le-leb n b (le_trans (leb-true n a p.1) h))

all_wider : (low a b : ℕ) (p : Point) → a ≤ b → all_within low a p ≡ true → all_within low b p ≡ true
all_wider low a b p h w =
    let xy = and_parts (within low a p.x && within low a p.y) (within low a p.z) w in
    let x = and_parts (within low a p.x) (within low a p.y) xy.0 in
    all_inside low b p (wider low a b p.x h x.0) (wider low a b p.y h x.1) (wider low a b p.z h xy.1)

-- ---- the geometry and the scale

abbrev made_geometry : Encoding → Point → Point → Point → Width → Geometry
made_geometry e offset size chunk width = record { offset = offset; size = size; chunk = chunk; width = width; encoding = e }

geometry-dest : (n : ℕ) (e : Encoding) (key : List ℕ) (r z : Data) (o size c : Point) (w : Width) → all_within 0 largest_place o ≡ true → ends_within o size ≡ true → all_within 1 largest_side c ≡ true
    → is_read w e ≡ true → geometry_fits (made_geometry e o size c w) ≡ true
    → is_absent_or_null (get (codes "sharding") (members_of e key (point_data c) r z (point_data o))) ≡ true
    → geometry_of n w size (members_of e key (point_data c) r z (point_data o)) ≡ Ok (made_geometry e o size c w)
unfolding geometry_of
geometry-dest n e key r z o size c w h ends k reads fits whole =
    rw (offset-dest n e key (point_data c) r z size o h ends, chunk-dest n e key c r z (point_data o) k, encoding-dest n e w key (point_data c) r z (point_data o) reads, whole, fits) refl

whole-dest : (e : Encoding) (key : List ℕ) (c r z o : Data) → is_absent_or_null (get (codes "sharding") (members_of e key c r z o)) ≡ true
whole-dest Raw key c r z o = refl
whole-dest (Cseg block) key c r z o = refl

abbrev made_scale : Encoding → List ℕ → Point → Point → Point → Point → Width → Scale
made_scale e key resolution offset size chunk width = record { key = key; resolution = resolution; geometry = made_geometry e offset size chunk width }

scale-dest : (earlier : List Scale) (e : Encoding) (key : List ℕ) (r o size c : Point) (w : Width) → is_path key ≡ true → nat_le (length key) 100 ≡ true → all_within 1 (2 ^ 32) r ≡ true → all_within 1 largest_place size ≡ true
    → all_within 0 largest_place o ≡ true → ends_within o size ≡ true → all_within 1 largest_side c ≡ true → is_read w e ≡ true → geometry_fits (made_geometry e o size c w) ≡ true
    → has_key earlier key ≡ false → scale_of w earlier (members_of e key (point_data c) (point_data r) (point_data size) (point_data o)) ≡ Ok (made_scale e key r o size c w)
unfolding scale_of
scale-dest earlier e key r o size c w p n a b h ends k reads fits new =
    rw (
      key-dest earlier e key (point_data c) (point_data r) (point_data size) (point_data o) p n new,
      size-dest (length earlier) e key (point_data c) (point_data r) (point_data o) size largest_place b,
      resolution-dest (length earlier) e key (point_data c) (point_data size) (point_data o) r (2 ^ 32) a,
      geometry-dest (length earlier) e key (point_data r) (point_data size) o size c w h ends k reads fits (whole-dest e key (point_data c) (point_data r) (point_data size) (point_data o)),
    ) refl

-- what a geometry that fits has, as the reader asks it
size-fits : (g : Geometry) → geometry_fits g ≡ true → all_within 1 largest_place g.size ≡ true
size-fits g h =
    let f = Fits-from g h in
    all_inside 1 largest_place g.size (inside 1 largest_place g.size.x f.x_some (omega (arith, f.x_ends))) (inside 1 largest_place g.size.y f.y_some (omega (arith, f.y_ends))) (inside 1 largest_place g.size.z f.z_some (omega (arith, f.z_ends)))

offset-fits : (g : Geometry) → geometry_fits g ≡ true → all_within 0 largest_place g.offset ≡ true
offset-fits g h =
    let f = Fits-from g h in
    all_inside 0 largest_place g.offset (inside 0 largest_place g.offset.x (omega arith) (omega (arith, f.x_ends))) (inside 0 largest_place g.offset.y (omega arith) (omega (arith, f.y_ends))) (inside 0 largest_place g.offset.z (omega arith) (omega (arith, f.z_ends)))

ends-fits : (g : Geometry) → geometry_fits g ≡ true → ends_within g.offset g.size ≡ true
ends-fits g h =
    let f = Fits-from g h in
    and_from _ _ (and_from _ _ (le-leb _ _ f.x_ends) (le-leb _ _ f.y_ends)) (le-leb _ _ f.z_ends)

chunk-fits : (g : Geometry) → geometry_fits g ≡ true → all_within 1 largest_side g.chunk ≡ true
chunk-fits g h =
    let f = Fits-from g h in
    all_wider 1 largest_chunk largest_side g.chunk (lit≤ tt) (sides-within g.chunk largest_chunk f.x_step f.y_step f.z_step f.few)

-- a block is no longer than a side that is made longer to whole blocks
block-below : (side block : ℕ) → 1 ≤ side → 1 ≤ block → block ≤ padded side block
block-below side block some step =
    let one : 1 ≤ (side + (block - 1)) / block = (le-div_iff_mul-le {k = block} {x = 1} {y = side + (block - 1)} step).1 (omega (arith, some, step)) in
    times_le ((side + (block - 1)) / block) block one

narrower : (low n m high : ℕ) → low ≤ n → n ≤ m → within low high m ≡ true → within low high n ≡ true
narrower low n m high some less w =
    let p = and_parts (nat_le low m) (nat_le m high) w in
    and_from _ _ (le-leb low n some) (le-leb n high (le_trans less (leb-true m high p.1)))

block-small : (chunk block : Point) → 1 ≤ chunk.x → 1 ≤ chunk.y → 1 ≤ chunk.z → blocks_fit chunk block ≡ true → all_within 1 largest_block block ≡ true
block-small chunk block x y z h =
    let p = and_parts (nat_le 1 block.x && nat_le 1 block.y && nat_le 1 block.z) _ h in
    let q = and_parts (nat_le 1 block.x && nat_le 1 block.y) (nat_le 1 block.z) p.0 in
    let s = and_parts (nat_le 1 block.x) (nat_le 1 block.y) q.0 in
    let bx = leb-true 1 block.x s.0 in
    let by = leb-true 1 block.y s.1 in
    let bz = leb-true 1 block.z q.1 in
    let lx = block-below chunk.x block.x x bx in
    let ly = block-below chunk.y block.y y by in
    let lz = block-below chunk.z block.z z bz in
    let few = leb-true (count (padded_to chunk block)) largest_padded p.1 in
    let sides = sides-within (padded_to chunk block) largest_padded (le_trans bx lx) (le_trans by ly) (le_trans bz lz) few in
    let xy = and_parts (within 1 largest_padded (padded chunk.x block.x) && within 1 largest_padded (padded chunk.y block.y)) (within 1 largest_padded (padded chunk.z block.z)) sides in
    let xs = and_parts (within 1 largest_padded (padded chunk.x block.x)) (within 1 largest_padded (padded chunk.y block.y)) xy.0 in
    all_inside 1 largest_block block (narrower 1 block.x (padded chunk.x block.x) largest_padded bx lx xs.0) (narrower 1 block.y (padded chunk.y block.y) largest_padded by ly xs.1)
    (narrower 1 block.z (padded chunk.z block.z) largest_padded bz lz xy.1)

encoding-read : (e : Encoding) (w : Width) (c : Point) → 1 ≤ c.x → 1 ≤ c.y → 1 ≤ c.z → encoding_fits c w e ≡ true → is_read w e ≡ true
encoding-read Raw w c x y z h = refl
encoding-read (Cseg block) w c x y z h =
    let p = and_parts (is_wide w) (blocks_fit c block) h in
    and_from _ _ p.0 (block-small c block x y z p.1)

encoding-fits : (g : Geometry) → geometry_fits g ≡ true → is_read g.width g.encoding ≡ true
encoding-fits g h =
    let f = Fits-from g h in
    encoding-read g.encoding g.width g.chunk f.x_step f.y_step f.z_step f.encoding

-- ---- the info

read-dest : (w : Width) (ms : Members) (s : Scale) → has_float (object ms) ≡ false → scale_of w [] (object ms) ≡ Ok s
    → info_of (dest_members (width_word w) (object ms)) ≡ Ok (record { members = dest_members (width_word w) (object ms); scales = s ∷ [] })
unfolding info_of scales_of
read-dest w ms s whole e = rw (head-dest w (object ms) whole, items-dest (width_word w) ms, e) refl

abbrev IsReadBack : Scale → Type 0
IsReadBack s = info_of (dest_data s) ≡ Ok (record { members = dest_data s; scales = s ∷ [] })

scale-read : (earlier : List Scale) (e : Encoding) (key : List ℕ) (r o size c : Point) (w : Width) → scale_fits (made_scale e key r o size c w) ≡ true
    → has_key earlier key ≡ false → scale_of w earlier (members_of e key (point_data c) (point_data r) (point_data size) (point_data o)) ≡ Ok (made_scale e key r o size c w)
scale-read earlier e key r o size c w fits new =
    let a = and_parts (is_path key) _ fits in
    let b = and_parts (nat_le (length key) 100) _ a.1 in
    let d = and_parts (all_within 1 (2 ^ 32) r) (geometry_fits (made_geometry e o size c w)) b.1 in
    let g = made_geometry e o size c w in
    scale-dest earlier e key r o size c w a.0 b.0 d.0 (size-fits g d.1) (offset-fits g d.1) (ends-fits g d.1) (chunk-fits g d.1) (encoding-fits g d.1) d.1 new

made_read_back : (e : Encoding) (key : List ℕ) (r o size c : Point) (w : Width) → scale_fits (made_scale e key r o size c w) ≡ true → IsReadBack (made_scale e key r o size c w)
made_read_back Raw key r o size c w fits = read-dest w _ (made_scale Raw key r o size c w) refl (scale-read [] Raw key r o size c w fits refl)
made_read_back (Cseg block) key r o size c w fits = read-dest w _ (made_scale (Cseg block) key r o size c w) refl (scale-read [] (Cseg block) key r o size c w fits refl)

pub dest_read_back : (s : Scale) → scale_fits s ≡ true → IsReadBack s
dest_read_back s = made_read_back s.geometry.encoding s.key s.resolution s.geometry.offset s.geometry.size s.geometry.chunk s.geometry.width

-- ---- a scale after others

made_later : (earlier : List Scale) (e : Encoding) (key : List ℕ) (r o size c : Point) (w : Width) → scale_fits (made_scale e key r o size c w) ≡ true → has_key earlier key ≡ false
    → scale_of w earlier (scale_data (made_scale e key r o size c w)) ≡ Ok (made_scale e key r o size c w)
made_later earlier Raw key r o size c w fits new = scale-read earlier Raw key r o size c w fits new
made_later earlier (Cseg block) key r o size c w fits new = scale-read earlier (Cseg block) key r o size c w fits new

-- the members of a scale with a new key are read as that scale
pub later_read_back : (earlier : List Scale) (s : Scale) → scale_fits s ≡ true → has_key earlier s.key ≡ false → scale_of s.geometry.width earlier (scale_data s) ≡ Ok s
later_read_back earlier s = made_later earlier s.geometry.encoding s.key s.resolution s.geometry.offset s.geometry.size s.geometry.chunk s.geometry.width
