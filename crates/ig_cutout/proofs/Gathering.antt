-- Rows and planes of labels, one after the other, and their texts.
use Rattle.std.proofs.Common.{arith, ◌≡◌, ◌≤◌, ◌<◌, ◌+◌, ◌-◌, ◌*◌, ◌⊎◌, inl, inr, ℕ, zero, suc, List, [], ◌∷◌, ◌++◌, length, take, drop, slice_index, refl, ap, sym, ◌∙◌, append_assoc, length-take, length-drop, length-append, add-one}
use Rattle.std.proofs.Math.Nat.{mul-le-mul_left, eq-or-lt_of_le}
use Rattle.std.proofs.Math.Seq.{take-append_seam, drop-append_seam}
use Rattle.std.proofs.lemmas.List.{drop-drop, get_or-append_right, get_or-drop, get_or-take, get_or_append_left}
use Rattle.std.proofs.lemmas.List.Concat.{flat_map-append}
use Rattle.std.specs.Int.{bytes_low_first}
use borrow.Rule.Slice.PartMut.{put_mid}
use Rattle.byteorder.specs.Numbers.{length-bytes_low_first}
use Rattle.ig_space.specs.declared.point.Point.{Point}
use Rattle.ig_space.specs.declared.geometry.Width.{Width}
use Rattle.ig_space.specs.Geometry.{label_len}
use Rattle.ig_space.specs.Raw.{raw_text}
use Rattle.ig_cutout.specs.declared.layout.Layout.{Layout}
use Rattle.ig_cutout.specs.Area.{HasRoom, at_plane, one_plane}
use Rattle.ig_cutout.specs.Gathered.{planes_of, rows_of}
use Rattle.ig_cutout.proofs.Rows.{plane-room}

-- ---- texts
-- the text has the bytes of each label
pub length-raw : (width : Width) (labels : List ℕ) → length (raw_text width labels) ≡ label_len width * length labels
length-raw width [] = omega arith
length-raw width (x ∷ xs) =
    let rest = length-raw width xs in
    let own = length-bytes_low_first 0 (label_len width) x in
    rw (length-append, own, rest) (omega arith)

-- a part is written behind what was written before
pub text-more : (before part old text : List ℕ) (a k : ℕ) → length before ≡ a → text ≡ before ++ drop a old → put_mid a k text part ≡ (before ++ part) ++ drop (a + k) old
text-more before part old text a k long is =
    let front : take a text ≡ before = ap (take a) is ∙ ap (λ n. take n (before ++ drop a old)) (sym long) ∙ take-append_seam before (drop a old) in
    let back : drop a text ≡ drop a old = ap (drop a) is ∙ ap (λ n. drop n (before ++ drop a old)) (sym long) ∙ drop-append_seam before (drop a old) in
    ap (λ xs. xs ++ (part ++ drop k (drop a text))) front ∙ ap (λ xs. before ++ (part ++ drop k xs)) back
    ∙ ap (λ xs. before ++ (part ++ xs)) (drop-drop k a old) ∙ sym (append_assoc before part (drop (a + k) old))

-- ---- lengths
length-row : (labels : List ℕ) (from n : ℕ) → from + n ≤ length labels → length (take n (drop from labels)) ≡ n
length-row labels from n within = omega (arith, length-take n (drop from labels), length-drop from labels)

pub length-rows : (labels : List ℕ) (layout : Layout) (size : Point) (y : ℕ) → HasRoom 1 layout (one_plane size) (length labels) → y ≤ size.y → length (rows_of labels layout size.x y) ≡ size.x * y
length-rows labels layout size zero room few = omega arith
length-rows labels layout size (suc y) room few =
    let h = room.rows y 0 (omega arith) (omega arith) in
    let rest = length-rows labels layout size y room (omega arith) in
    length-append (rows_of labels layout size.x y) (take size.x (drop (layout.start + layout.row * y) labels))
    ∙ (let own = length-row labels (layout.start + layout.row * y) size.x (omega arith) in omega arith)

pub length-planes : (labels : List ℕ) (layout : Layout) (size : Point) (z : ℕ) → HasRoom 1 layout size (length labels) → z ≤ size.z → length (planes_of labels layout size.x size.y z) ≡ size.x * size.y * z
length-planes labels layout size zero room few = omega arith
length-planes labels layout size (suc z) room few =
    let rest = length-planes labels layout size z room (omega arith) in
    let own = length-rows labels (at_plane layout z) size size.y (plane-room 1 layout size (length labels) z room (omega arith)) (omega arith) in
    length-append (planes_of labels layout size.x size.y z) (rows_of labels (at_plane layout z) size.x size.y)
    ∙ omega arith

-- ---- items
row-item : (labels : List ℕ) (layout : Layout) (size : Point) (x y y' : ℕ) → HasRoom 1 layout (one_plane size) (length labels) → y < size.y → x < size.x
    → (y' ≡ y) ⊎ (y' < y) → (y' < y → slice_index (rows_of labels layout size.x y) (x + size.x * y') ≡ slice_index labels (layout.start + x + layout.row * y'))
    → slice_index (rows_of labels layout size.x y ++ take size.x (drop (layout.start + layout.row * y) labels)) (x + size.x * y') ≡ slice_index labels (layout.start + x + layout.row * y')
row-item labels layout size x y y' room y_below x_below (inl last) before =
    let long = length-rows labels layout size y room (omega arith) in
    let place : x + size.x * y' - size.x * y ≡ x = rw last (omega arith) in
    let from : layout.start + layout.row * y + x ≡ layout.start + x + layout.row * y' = rw last (omega arith) in
    get_or-append_right (rows_of labels layout size.x y) _ (size.x * y) (x + size.x * y') 0 long (rw last (omega arith))
    ∙ ap (slice_index (take size.x (drop (layout.start + layout.row * y) labels))) place
    ∙ get_or-take size.x (drop (layout.start + layout.row * y) labels) x 0 x_below
    ∙ get_or-drop (layout.start + layout.row * y) labels x 0 ∙ ap (slice_index labels) from
row-item labels layout size x y y' room y_below x_below (inr less) before =
    let long = length-rows labels layout size y room (omega arith) in
    let more : size.x * y' + size.x ≤ size.x * y = let h = mul-le-mul_left size.x less in omega arith in
    get_or_append_left (rows_of labels layout size.x y) _ 0 (x + size.x * y') (omega arith) ∙ before less

pub rows-item : (labels : List ℕ) (layout : Layout) (size : Point) (x y' y : ℕ) → HasRoom 1 layout (one_plane size) (length labels) → y ≤ size.y → x < size.x → y' < y
    → slice_index (rows_of labels layout size.x y) (x + size.x * y') ≡ slice_index labels (layout.start + x + layout.row * y')
rows-item labels layout size x y' zero room few x_below below = absurd (omega arith)
rows-item labels layout size x y' (suc y) room few x_below below =
    row-item labels layout size x y y' room (omega arith) x_below (eq-or-lt_of_le (omega arith)) (λ less. rows-item labels layout size x y' y room (omega arith) x_below less)

-- ---- a row more, and a plane more
-- parts of one length each end within the text of all
pub part-ends : (e each n y m len : ℕ) → e ≡ each → len ≡ each * n * m → y < m → e * n * y + e * n ≤ len
part-ends e each n y m len same long below =
    let h : each * n * suc y ≤ each * n * m = mul-le-mul_left (each * n) below in
    rw (same, long) (omega arith)

texts-more : (width : Width) (before part : List ℕ) (old text new : List ℕ) (to k e long count : ℕ) → length before ≡ count → e ≡ label_len width → to ≡ e * count → k ≡ e * long
    → text ≡ raw_text width before ++ drop (label_len width * count) old → new ≡ raw_text width part
    → put_mid to k text new ≡ raw_text width (before ++ part) ++ drop (label_len width * (count + long)) old
texts-more width before part old text new to k e long count few same at many is written =
    let bytes = label_len width in
    let there : to ≡ bytes * count = rw (at, same) refl in
    let end : bytes * count + k ≡ bytes * (count + long) = rw (many, same) (omega arith) in
    ap (λ n. put_mid n k text new) there
    ∙ text-more (raw_text width before) new old text (bytes * count) k (length-raw width before ∙ ap (λ n. bytes * n) few) is
    ∙ ap (λ n. (raw_text width before ++ new) ++ drop n old) end
    ∙ ap (λ xs. (raw_text width before ++ xs) ++ drop (bytes * (count + long)) old) written
    ∙ ap (λ xs. xs ++ drop (bytes * (count + long)) old) (sym (flat_map-append (bytes_low_first 0 bytes) before part))

pub rows-more : (width : Width) (labels : List ℕ) (layout : Layout) (size : Point) (y e to k from : ℕ) (old text new : List ℕ)
    → HasRoom 1 layout (one_plane size) (length labels) → y < size.y → e ≡ label_len width → to ≡ e * size.x * y → k ≡ e * size.x → from ≡ layout.start + layout.row * y
    → text ≡ raw_text width (rows_of labels layout size.x y) ++ drop (label_len width * size.x * y) old
    → new ≡ raw_text width (take size.x (drop from labels))
    → put_mid to k text new ≡ raw_text width (rows_of labels layout size.x (y + 1)) ++ drop (label_len width * size.x * (y + 1)) old
rows-more width labels layout size y e to k from old text new room below same at many start is written =
    let bytes = label_len width in
    let count = size.x * y in
    let this : bytes * size.x * y ≡ bytes * count = omega arith in
    let next : bytes * (count + size.x) ≡ bytes * size.x * (y + 1) = omega arith in
    let there : to ≡ e * count = at ∙ omega arith in
    texts-more width (rows_of labels layout size.x y) (take size.x (drop (layout.start + layout.row * y) labels)) old text new to k e size.x count
    (length-rows labels layout size y room (omega arith)) same there many (is ∙ ap (λ n. raw_text width (rows_of labels layout size.x y) ++ drop n old) this)
    (written ∙ ap (λ n. raw_text width (take size.x (drop n labels))) start)
    ∙ ap (λ n. raw_text width (rows_of labels layout size.x (suc y)) ++ drop n old) next
    ∙ ap (λ n. raw_text width (rows_of labels layout size.x n) ++ drop (bytes * size.x * (y + 1)) old) (sym (add-one y))

pub planes-more : (width : Width) (labels : List ℕ) (layout : Layout) (size : Point) (z e to k : ℕ) (old text new : List ℕ)
    → HasRoom 1 layout size (length labels) → z < size.z → e ≡ label_len width → to ≡ e * size.x * size.y * z → k ≡ e * size.x * size.y
    → text ≡ raw_text width (planes_of labels layout size.x size.y z) ++ drop (label_len width * size.x * size.y * z) old
    → new ≡ raw_text width (rows_of labels (at_plane layout z) size.x size.y)
    → put_mid to k text new ≡ raw_text width (planes_of labels layout size.x size.y (z + 1)) ++ drop (label_len width * size.x * size.y * (z + 1)) old
planes-more width labels layout size z e to k old text new room below same at many is written =
    let bytes = label_len width in
    let count = size.x * size.y * z in
    let long = size.x * size.y in
    let this : bytes * size.x * size.y * z ≡ bytes * count = omega arith in
    let next : bytes * (count + long) ≡ bytes * size.x * size.y * (z + 1) = omega arith in
    let there : to ≡ e * count = at ∙ omega arith in
    let size_is : k ≡ e * long = many ∙ omega arith in
    texts-more width (planes_of labels layout size.x size.y z) (rows_of labels (at_plane layout z) size.x size.y) old text new to k e long count
    (length-planes labels layout size z room (omega arith)) same there size_is (is ∙ ap (λ n. raw_text width (planes_of labels layout size.x size.y z) ++ drop n old) this)
    written
    ∙ ap (λ n. raw_text width (planes_of labels layout size.x size.y (suc z)) ++ drop n old) next
    ∙ ap (λ n. raw_text width (planes_of labels layout size.x size.y n) ++ drop (bytes * size.x * size.y * (z + 1)) old) (sym (add-one z))
