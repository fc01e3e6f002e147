-- Rows of labels, read from a raw text and written over others.
use Rattle.std.proofs.Common.{arith, ◌≡◌, ◌≤◌, ◌<◌, ◌+◌, ◌-◌, ◌*◌, ℕ, List, ◌++◌, length, take, drop, slice_index, ap, ◌∙◌, length-take, length-drop, length-append}
use Rattle.std.proofs.Math.Nat.{mul-le-mul_left, mul-le-mul_right}
use Rattle.std.proofs.lemmas.List.{drop-drop, drop-take, get_or-append_right, get_or-drop, get_or-take, get_or_append_left}
use borrow.Rule.Slice.PartMut.{put_mid}
use Rattle.byteorder.specs.Endian.{little_number}
use Rattle.byteorder.specs.Numbers.{little_from-take}
use Rattle.ig_space.specs.declared.point.Point.{Point}
use Rattle.ig_space.specs.declared.geometry.Width.{Width}
use Rattle.ig_space.specs.declared.geometry.Width.TheVariants.{W8, W16, W32, W64}
use Rattle.ig_space.specs.Geometry.{label_len}
use Rattle.ig_cutout.specs.declared.layout.Layout.{Layout}
use Rattle.ig_cutout.specs.Area.{HasRoom, at_plane, one_plane}

-- a number of a row is one of the text that the row is a part of
pub number-row : (each from long k : ℕ) (text : List ℕ) → k < long
    → little_number each (drop (each * k) (take (each * (from + long) - each * from) (drop (each * from) text))) ≡ little_number each (drop (each * (from + k)) text)
number-row each from long k text below =
    let more : each * k + each ≤ each * long = let h = mul-le-mul_left each below in omega arith in
    let size : each * (from + long) - each * from ≡ each * k + (each * long - each * k) = omega arith in
    let place : each * from + each * k ≡ each * (from + k) = omega arith in
    rw size (rw (drop-take (each * k) (each * long - each * k) (drop (each * from) text)) (rw drop-drop (rw place (little_from-take 0 each (each * long - each * k) (drop (each * (from + k)) text) (omega arith)))))

length_taken : (a : ℕ) (xs : List ℕ) → a ≤ length xs → length (take a xs) ≡ a
length_taken a xs within = omega (arith, length-take a xs)

-- an item before, in and after a part that was written
pub mid-below : (a k j : ℕ) (xs ys : List ℕ) → j < a → a ≤ length xs → slice_index (put_mid a k xs ys) j ≡ slice_index xs j
mid-below a k j xs ys below within =
    get_or_append_left (take a xs) _ 0 j (omega (arith, length_taken a xs within)) ∙ get_or-take a xs j 0 below

pub mid-in : (a k j : ℕ) (xs ys : List ℕ) → j < length ys → a ≤ length xs → slice_index (put_mid a k xs ys) (a + j) ≡ slice_index ys j
mid-in a k j xs ys below within =
    let same : a + j - a ≡ j = omega arith in
    get_or-append_right (take a xs) _ a (a + j) 0 (length_taken a xs within) (omega arith)
    ∙ ap (λ i. slice_index (ys ++ drop k (drop a xs)) i) same ∙ get_or_append_left ys _ 0 j below

pub mid-above : (a k j : ℕ) (xs ys : List ℕ) → length ys ≡ k → a + k ≤ j → a ≤ length xs → slice_index (put_mid a k xs ys) j ≡ slice_index xs j
mid-above a k j xs ys long above within =
    let same : a + (k + (j - a - k)) ≡ j = omega arith in
    get_or-append_right (take a xs) _ a j 0 (length_taken a xs within) (omega arith)
    ∙ get_or-append_right ys _ k (j - a) 0 long (omega arith)
    ∙ get_or-drop k (drop a xs) (j - a - k) 0 ∙ get_or-drop a xs (k + (j - a - k)) 0
    ∙ ap (slice_index xs) same

pub length-mid : (a k : ℕ) (xs ys : List ℕ) → length ys ≡ k → a + k ≤ length xs → length (put_mid a k xs ys) ≡ length xs
length-mid a k xs ys long within =
    simp (length-append, length-drop) (omega (arith, length_taken a xs (omega arith)))

-- a row ends within the list
pub row-room : (each : ℕ) (layout : Layout) (size : Point) (n y : ℕ) → HasRoom each layout size n → 1 ≤ size.z → y < size.y
    → each * (layout.start + layout.row * y + size.x) ≤ n
row-room each layout size n y room plane below = let h = room.rows y 0 below plane in omega arith

-- and so does what is no longer
pub less-room : (each a n : ℕ) → 1 ≤ each → each * a ≤ n → a ≤ n
less-room each a n some room = let h = mul-le-mul_right a some in omega arith

pub label_len-some : (width : Width) → 1 ≤ label_len width
label_len-some W8 = omega arith
label_len-some W16 = omega arith
label_len-some W32 = omega arith
label_len-some W64 = omega arith

pub length-part : (to long : ℕ) (xs : List ℕ) → to + long ≤ length xs → length (take (to + long - to) (drop to xs)) ≡ long
length-part to long xs within = omega (arith, length-take (to + long - to) (drop to xs), length-drop to xs)

-- a plane has the room that its part has
pub plane-room : (each : ℕ) (layout : Layout) (size : Point) (n z : ℕ) → HasRoom each layout size n → z < size.z → HasRoom each (at_plane layout z) (one_plane size) n
plane-room each layout size n z room below = record {
  rows = λ y z' y_below first. let h = room.rows y z y_below below in let e : z' ≡ 0 = omega arith in rw e (omega arith);
}

-- a plane begins within the list
pub plane-begins : (each : ℕ) (layout : Layout) (size : Point) (n z : ℕ) → 1 ≤ each → HasRoom each layout size n → 1 ≤ size.y → z < size.z → layout.start + layout.plane * z ≤ n
plane-begins each layout size n z some room rows below =
    let h = room.rows 0 z rows below in
    let k : layout.start + layout.row * 0 + layout.plane * z + size.x ≤ n = less-room each _ n some h in
    omega arith
