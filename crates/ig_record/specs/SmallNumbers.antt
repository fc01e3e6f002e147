-- The numbers of a geometry that fits are numbers of 64 bits, and the bytes of a path are ASCII.
use Rattle.std.specs.Prelude.{◌≡◌, ◌≤◌, ◌<◌, ◌+◌, ◌-◌, ◌*◌, ◌/◌, ◌^◌, ◌==◌, ◌&&◌, ◌||◌, ℕ, Bool, true, false, nat_le, List, [], ◌∷◌, IsUtf8, ⊤, if◌then◌else◌}
use Rattle.std.proofs.Common.{arith, refl, inl, inr, lt-ltb, le_trans, mul-le-mul_left, le-div_iff_mul-le, lit≤}
use Rattle.std.proofs.lemmas.Bool.{and_parts, and_from, leb-true, eqb-true, or_cases}
use Rattle.std.specs.List.{list_all}
use Rattle.json.proofs.Printed.Utf8.{are_ascii, IsUtf8-are_ascii}
use Rattle.ig_space.specs.declared.point.Point.{Point}
use Rattle.ig_space.specs.declared.geometry.Width.{Width}
use Rattle.ig_space.specs.declared.geometry.Encoding.{Encoding}
use Rattle.ig_space.specs.declared.geometry.Encoding.TheVariants.{Raw, Cseg}
use Rattle.ig_space.specs.declared.geometry.Geometry.{Geometry}
use Rattle.ig_space.specs.Geometry.{blocks_fit, count, encoding_fits, geometry_fits, is_wide, largest_padded, padded, padded_to, Fits-from}
use Rattle.ig_space.specs.Path.{is_path, is_segment, is_segment_byte, segments, with_first, within}
use Rattle.ig_space.specs.Segments.{is_path-segments}
use Rattle.ig_record.specs.SoundFacts.{IsSmall}

-- ---- numbers

le_times : (x n : ℕ) → 1 ≤ n → x ≤ x * n
le_times x n h = let m = mul-le-mul_left x h in omega (arith, m)

times_le : (x n : ℕ) → 1 ≤ x → n ≤ x * n
times_le x n h = let m = le_times n x h in omega (arith, m)

pub record HasFew (p : Point) (most : ℕ) : Type 0 where
  pub x : p.x ≤ most
  pub y : p.y ≤ most
  pub z : p.z ≤ most

-- no side is longer than the count
sides-few : (p : Point) (most : ℕ) → 1 ≤ p.x → 1 ≤ p.y → 1 ≤ p.z → count p ≤ most → HasFew p most
sides-few p most x y z few =
    let face : p.y ≤ p.y * p.z = le_times p.y p.z z in
    let other : p.z ≤ p.y * p.z = times_le p.y p.z y in
    let some : 1 ≤ p.y * p.z = omega (arith, face, y) in
    let whole : p.x ≤ p.x * (p.y * p.z) = le_times p.x (p.y * p.z) some in
    let rest : p.y * p.z ≤ p.x * (p.y * p.z) = times_le p.x (p.y * p.z) x in
    record { x = le_trans whole few; y = le_trans face (le_trans rest few); z = le_trans other (le_trans rest few) }

small-from : (p : Point) (most : ℕ) → most ≤ 2 ^ 64 - 1 → HasFew p most → IsSmall p
small-from p most h few = record { x = le_trans few.x h; y = le_trans few.y h; z = le_trans few.z h }

-- a side that is made longer to whole blocks has at least one
padded-from : (side block : ℕ) → 1 ≤ side → 1 ≤ block → block ≤ padded side block
padded-from side block some cut =
    let one : 1 * block ≤ side + (block - 1) = omega (arith, some, cut) in
    let whole : 1 ≤ (side + (block - 1)) / block = (le-div_iff_mul-le cut).1 one in
    times_le ((side + (block - 1)) / block) block whole

block-small : (chunk block : Point) → 1 ≤ chunk.x → 1 ≤ chunk.y → 1 ≤ chunk.z → blocks_fit chunk block ≡ true → IsSmall block
block-small chunk block x y z h =
    let a = and_parts (nat_le 1 block.x && nat_le 1 block.y && nat_le 1 block.z) _ h in
    let b = and_parts (nat_le 1 block.x && nat_le 1 block.y) _ a.0 in
    let d = and_parts (nat_le 1 block.x) _ b.0 in
    let bx = leb-true 1 block.x d.0 in
    let by = leb-true 1 block.y d.1 in
    let bz = leb-true 1 block.z b.1 in
    let px = padded-from chunk.x block.x x bx in
    let py = padded-from chunk.y block.y y by in
    let pz = padded-from chunk.z block.z z bz in
    let few = sides-few (padded_to chunk block) largest_padded (le_trans bx px) (le_trans by py) (le_trans bz pz) (leb-true (count (padded_to chunk block)) largest_padded a.1) in
    small-from block largest_padded (lit≤ tt) (record { x = le_trans px few.x; y = le_trans py few.y; z = le_trans pz few.z })

abbrev pub IsSmallEncoding : Encoding → Type 0
IsSmallEncoding Raw = ⊤
IsSmallEncoding (Cseg block) = IsSmall block

-- all numbers of a geometry have 64 bits
pub record IsSmallGeometry (g : Geometry) : Type 0 where
  pub chunk : IsSmall g.chunk
  pub offset : IsSmall g.offset
  pub size : IsSmall g.size
  pub encoding : IsSmallEncoding g.encoding

encoding-small : (chunk : Point) (width : Width) (e : Encoding) → 1 ≤ chunk.x → 1 ≤ chunk.y → 1 ≤ chunk.z → encoding_fits chunk width e ≡ true → IsSmallEncoding e
encoding-small chunk width Raw x y z h = tt
encoding-small chunk width (Cseg block) x y z h = block-small chunk block x y z (and_parts (is_wide width) _ h).1

place-small : (a b : ℕ) → a + b ≤ 2 ^ 40 → (a ≤ 2 ^ 64 - 1) × (b ≤ 2 ^ 64 - 1)
place-small a b h = let wide : 2 ^ 40 ≤ 2 ^ 64 - 1 = lit≤ tt in (le_trans (omega (arith, h)) wide, le_trans (omega (arith, h)) wide)

pub geometry-small : (g : Geometry) → geometry_fits g ≡ true → IsSmallGeometry g
geometry-small g h =
    let f = Fits-from g h in
    let x = place-small g.offset.x g.size.x f.x_ends in
    let y = place-small g.offset.y g.size.y f.y_ends in
    let z = place-small g.offset.z g.size.z f.z_ends in
    record {
      chunk = small-from g.chunk (2 ^ 21) (lit≤ tt) (sides-few g.chunk (2 ^ 21) f.x_step f.y_step f.z_step f.few);
      offset = record { x = x.0; y = y.0; z = z.0 };
      size = record { x = x.1; y = y.1; z = z.1 };
      encoding = encoding-small g.chunk g.width g.encoding f.x_step f.y_step f.z_step f.encoding;
    }

-- ---- paths

below-ascii : (low high c : ℕ) → high ≤ 127 → within low high c ≡ true → c < 128
below-ascii low high c h w = let p = and_parts (nat_le low c) (nat_le c high) w in let top = leb-true c high p.1 in omega (arith, h, top)

equal-ascii : (c n : ℕ) → n ≤ 127 → (c == n) ≡ true → c < 128
equal-ascii c n h e = let same = eqb-true c n e in omega (arith, h, same)

byte-ascii : (c : ℕ) → is_segment_byte c ≡ true → c < 128
byte-ascii c h =
    elim (or_cases (within 97 122 c || within 65 90 c || within 48 57 c || c == 95 || c == 45) (c == 46) h) [
      | inr e ↦ equal-ascii c 46 (lit≤ tt) e
      | inl f ↦
          elim (or_cases (within 97 122 c || within 65 90 c || within 48 57 c || c == 95) (c == 45) f) [
            | inr e ↦ equal-ascii c 45 (lit≤ tt) e
            | inl g ↦
                elim (or_cases (within 97 122 c || within 65 90 c || within 48 57 c) (c == 95) g) [
                  | inr e ↦ equal-ascii c 95 (lit≤ tt) e
                  | inl k ↦
                      elim (or_cases (within 97 122 c || within 65 90 c) (within 48 57 c) k) [
                        | inr e ↦ below-ascii 48 57 c (lit≤ tt) e
                        | inl l ↦
                            elim (or_cases (within 97 122 c) (within 65 90 c) l) [ inr e ↦ below-ascii 65 90 c (lit≤ tt) e | inl e ↦ below-ascii 97 122 c (lit≤ tt) e ]
                      ]
                ]
          ]
    ]

abbrev are_bytes : List (List ℕ) → Bool
are_bytes = list_all (list_all is_segment_byte)

segment-bytes : (s : List ℕ) → is_segment s ≡ true → list_all is_segment_byte s ≡ true
segment-bytes [] h = refl
segment-bytes (c ∷ cs) h = (and_parts _ (list_all is_segment_byte (c ∷ cs)) h).1

segments-bytes : (ss : List (List ℕ)) → list_all is_segment ss ≡ true → are_bytes ss ≡ true
segments-bytes [] h = refl
segments-bytes (s ∷ ss) h =
    let p = and_parts (is_segment s) (list_all is_segment ss) h in
    and_from (list_all is_segment_byte s) (are_bytes ss) (segment-bytes s p.0) (segments-bytes ss p.1)

with_first-bytes : (c : ℕ) (ss : List (List ℕ)) → are_bytes (with_first c ss) ≡ true → (is_segment_byte c ≡ true) × (are_bytes ss ≡ true)
with_first-bytes c [] h = ((and_parts (is_segment_byte c) true (and_parts (is_segment_byte c && true) true h).0).0, refl)
with_first-bytes c (s ∷ ss) h =
    let p = and_parts (is_segment_byte c && list_all is_segment_byte s) (are_bytes ss) h in
    let q = and_parts (is_segment_byte c) (list_all is_segment_byte s) p.0 in
    (q.0, and_from (list_all is_segment_byte s) (are_bytes ss) q.1 p.1)

ascii-more : (c : ℕ) (cs : List ℕ) → c < 128 → are_ascii cs ≡ true → are_ascii (c ∷ cs) ≡ true
ascii-more c cs h e = and_from _ _ (lt-ltb c 128 h) e

ascii-step : (slash : Bool) (c : ℕ) (cs : List ℕ) → (c == 47) ≡ slash → are_bytes (if slash then [] ∷ segments cs else with_first c (segments cs)) ≡ true
    → (are_bytes (segments cs) ≡ true → are_ascii cs ≡ true) → are_ascii (c ∷ cs) ≡ true
ascii-step true c cs is h rest = ascii-more c cs (equal-ascii c 47 (lit≤ tt) is) (rest h)
ascii-step false c cs is h rest = let p = with_first-bytes c (segments cs) h in ascii-more c cs (byte-ascii c p.0) (rest p.1)

bytes-ascii : (text : List ℕ) → are_bytes (segments text) ≡ true → are_ascii text ≡ true
bytes-ascii [] h = refl
bytes-ascii (c ∷ cs) h = ascii-step (c == 47) c cs refl h (bytes-ascii cs)

pub path-utf8 : (path : List ℕ) → is_path path ≡ true → IsUtf8 path
path-utf8 path h = IsUtf8-are_ascii path (bytes-ascii path (segments-bytes (segments path) (is_path-segments path h)))
