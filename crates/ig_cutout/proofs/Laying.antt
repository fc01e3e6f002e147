-- Parts of a box grow by a row, and by a plane.
use Rattle.std.proofs.Common.{arith, ◌≡◌, ◌≤◌, ◌<◌, ◌+◌, ◌-◌, ◌*◌, ◌⊎◌, inl, inr, ℕ, List, length, slice_index, ap, sym, ◌∙◌, subst}
use Rattle.std.proofs.Math.Nat.{mul-le-mul_left, eq-or-lt_of_le}
use Rattle.std.proofs.lemmas.Bool.{cases_lt}
use borrow.Rule.Slice.PartMut.{put_mid}
use Rattle.ig_space.specs.declared.geometry.Width.{Width}
use Rattle.ig_space.specs.Raw.{AllFit, FitsWidth}
use Rattle.ig_space.specs.declared.point.Point.{Point}
use Rattle.ig_space.specs.Volume.{IsInside}
use Rattle.ig_cutout.specs.declared.layout.Layout.{Layout}
use Rattle.ig_cutout.specs.Area.{IsInOrder, at_plane, place_in}
use Rattle.ig_cutout.specs.Laid.{IsLaid}
use Rattle.ig_cutout.proofs.Rows.{mid-below, mid-in, mid-above, length-mid}

abbrev pub sized : ℕ → ℕ → ℕ → Point
sized x y z = record { x = x; y = y; z = z }

-- a row that was written over labels: what it is made of, and where
pub record IsRowOf (number : ℕ → ℕ) (from to n : ℕ) (mid row : List ℕ) : Type 0 where
  pub long : length row ≡ n
  pub within : to + n ≤ length mid
  pub each : (k : ℕ) → k < length row → slice_index row k ≡ number (from + k)

earlier : (row y y' x n : ℕ) → x < n → n ≤ row → y' < y → x + row * y' < row * y
earlier row y y' x n below order less = let h = mul-le-mul_left row less in omega arith

row-done : (number : ℕ → ℕ) (s t : Layout) (n y from to k : ℕ) (old mid row : List ℕ) → n ≤ t.row
    → from ≡ s.start + s.row * y → to ≡ t.start + t.row * y
    → IsLaid number s t (sized n y 1) old mid → IsRowOf number from to n mid row
    → (x y' z : ℕ) → x < n → z < 1 → (y' ≡ y) ⊎ (y' < y)
    → slice_index (put_mid to k mid row) (place_in t x y' z) ≡ number (place_in s x y' z)
row-done number s t n y from to k old mid row order at_from at_to laid is x y' z x_below z_below (inl last) =
    let first : z ≡ 0 = omega arith in
    let there : place_in t x y' z ≡ to + x = rw (first, last, at_to) (omega arith) in
    let here : from + x ≡ place_in s x y' z = rw (first, last, at_from) (omega arith) in
    ap (slice_index (put_mid to k mid row)) there
    ∙ mid-in to k x mid row (omega (arith, is.long)) (omega (arith, is.within))
    ∙ is.each x (omega (arith, is.long)) ∙ ap number here
row-done number s t n y from to k old mid row order at_from at_to laid is x y' z x_below z_below (inr less) =
    let first : t.plane * z ≡ 0 = let e : z ≡ 0 = omega arith in rw e (omega arith) in
    let e = earlier t.row y y' x n x_below order less in
    mid-below to k (place_in t x y' z) mid row (omega arith) (omega (arith, is.within))
    ∙ laid.done x y' z (record { x_below = x_below; y_below = less; z_below = z_below })

row-kept : (number : ℕ → ℕ) (s t : Layout) (n y from to k : ℕ) (old mid row : List ℕ) → k ≡ n → to ≡ t.start + t.row * y
    → IsLaid number s t (sized n y 1) old mid → IsRowOf number from to n mid row
    → (j : ℕ) → ((x y' z : ℕ) → IsInside (sized n (y + 1) 1) x y' z → j ≡ place_in t x y' z → ⊥)
    → (j < to) ⊎ (to ≤ j) → (j < to + n) ⊎ (to + n ≤ j)
    → slice_index (put_mid to k mid row) j ≡ slice_index old j
row-kept number s t n y from to k old mid row same at_to laid is j out (inl before) _ =
    mid-below to k j mid row before (omega (arith, is.within))
    ∙ laid.kept j (λ x y' z inside e. out x y' z (record { x_below = inside.x_below; y_below = omega (arith, inside.y_below); z_below = inside.z_below }) e)
row-kept number s t n y from to k old mid row same at_to laid is j out (inr from_to) (inr after) =
    mid-above to k j mid row (is.long ∙ sym same) (omega (arith, same)) (omega (arith, is.within))
    ∙ laid.kept j (λ x y' z inside e. out x y' z (record { x_below = inside.x_below; y_below = omega (arith, inside.y_below); z_below = inside.z_below }) e)
row-kept number s t n y from to k old mid row same at_to laid is j out (inr from_to) (inl within) =
    absurd (out (j - to) y 0 (record { x_below = omega arith; y_below = omega arith; z_below = omega arith }) (rw at_to (omega arith)))

-- one row more
pub laid-row : (number : ℕ → ℕ) (s t : Layout) (n y from to k : ℕ) (old mid row : List ℕ) → n ≤ t.row → k ≡ n
    → from ≡ s.start + s.row * y → to ≡ t.start + t.row * y
    → IsLaid number s t (sized n y 1) old mid → IsRowOf number from to n mid row
    → IsLaid number s t (sized n (y + 1) 1) old (put_mid to k mid row)
laid-row number s t n y from to k old mid row order same at_from at_to laid is = record {
  long = length-mid to k mid row (is.long ∙ sym same) (omega (arith, is.within, same)) ∙ laid.long;
  done = λ x y' z inside. row-done number s t n y from to k old mid row order at_from at_to laid is x y' z inside.x_below inside.z_below (eq-or-lt_of_le (omega (arith, inside.y_below)));
  kept = λ j out. row-kept number s t n y from to k old mid row same at_to laid is j out (cases_lt j to) (cases_lt j (to + n));
}

fit_at : (width : Width) (to k j : ℕ) (mid row : List ℕ) → length row ≡ k → to + k ≤ length mid → AllFit width mid → AllFit width row → j < length mid
    → (j < to) ⊎ (to ≤ j) → (j < to + k) ⊎ (to + k ≤ j) → FitsWidth width (slice_index (put_mid to k mid row) j)
fit_at width to k j mid row long within old new below (inl before) _ = rw (mid-below to k j mid row before (omega arith)) (old j below)
fit_at width to k j mid row long within old new below (inr from) (inr after) = rw (mid-above to k j mid row long after (omega arith)) (old j below)
fit_at width to k j mid row long within old new below (inr from) (inl inside) =
    let same : to + (j - to) ≡ j = omega arith in
    subst (λ i. FitsWidth width (slice_index (put_mid to k mid row) i)) same
    (rw (mid-in to k (j - to) mid row (omega arith) (omega arith)) (new (j - to) (omega arith)))

-- labels that fit the width do so still
pub fit-mid : (width : Width) (to k : ℕ) (mid row : List ℕ) → length row ≡ k → to + k ≤ length mid → AllFit width mid → AllFit width row → AllFit width (put_mid to k mid row)
fit-mid width to k mid row long within old new =
    λ j below. fit_at width to k j mid row long within old new (omega (arith, below, length-mid to k mid row long within)) (cases_lt j to) (cases_lt j (to + k))

-- and so do those of a row that was copied
pub fit-row : (width : Width) (from : ℕ) (source row : List ℕ) → AllFit width source → from + length row ≤ length source
    → ((k : ℕ) → k < length row → slice_index row k ≡ slice_index source (from + k)) → AllFit width row
fit-row width from source row fit room each =
    λ k below. subst (FitsWidth width) (sym (each k below)) (fit (from + k) (omega (arith, room, below)))

-- labels of no row, and of all
pub laid-all : (number : ℕ → ℕ) (s t : Layout) (n m m' : ℕ) (old new : List ℕ) → m ≡ m' → IsLaid number s t (sized n m 1) old new → IsLaid number s t (sized n m' 1) old new
laid-all number s t n m m' old new same laid = subst (λ (y : ℕ). IsLaid number s t (sized n y 1) old new) same laid

plane-apart : (t : Layout) (n m z x y z' x' y' z'' : ℕ) → n ≤ t.row → t.row * m ≤ t.plane → x < n → y < m → z' < z → z'' < 1
    → place_in t x y z' ≡ place_in (at_plane t z) x' y' z'' → ⊥
plane-apart t n m z x y z' x' y' z'' rows planes x_below y_below less first e =
    let row : t.row * y + t.row ≤ t.row * m = let h = mul-le-mul_left t.row y_below in omega arith in
    let plane : t.plane * z' + t.plane ≤ t.plane * z = let h = mul-le-mul_left t.plane less in omega arith in
    let same : t.start + x + t.row * y + t.plane * z' ≡ t.start + t.plane * z + x' + t.row * y' + t.plane * z'' = e in
    omega arith

plane-done : (number : ℕ → ℕ) (s t : Layout) (n m z : ℕ) (old mid new : List ℕ) → IsInOrder t (sized n m z)
    → IsLaid number s t (sized n m z) old mid → IsLaid number (at_plane s z) (at_plane t z) (sized n m 1) mid new
    → (x y z' : ℕ) → x < n → y < m → (z' ≡ z) ⊎ (z' < z) → slice_index new (place_in t x y z') ≡ number (place_in s x y z')
plane-done number s t n m z old mid new order laid more x y z' x_below y_below (inl last) =
    let there : place_in t x y z' ≡ place_in (at_plane t z) x y 0 = rw last (omega arith) in
    let here : place_in (at_plane s z) x y 0 ≡ place_in s x y z' = rw last (omega arith) in
    ap (slice_index new) there ∙ more.done x y 0 (record { x_below = x_below; y_below = y_below; z_below = omega arith }) ∙ ap number here
plane-done number s t n m z old mid new order laid more x y z' x_below y_below (inr less) =
    more.kept (place_in t x y z') (λ x' y' z'' inside e. plane-apart t n m z x y z' x' y' z'' order.rows order.planes x_below y_below less inside.z_below e)
    ∙ laid.done x y z' (record { x_below = x_below; y_below = y_below; z_below = less })

-- one plane more
pub laid-plane : (number : ℕ → ℕ) (s t : Layout) (n m z : ℕ) (old mid new : List ℕ) → IsInOrder t (sized n m z)
    → IsLaid number s t (sized n m z) old mid → IsLaid number (at_plane s z) (at_plane t z) (sized n m 1) mid new
    → IsLaid number s t (sized n m (z + 1)) old new
laid-plane number s t n m z old mid new order laid more = record {
  long = more.long ∙ laid.long;
  done = λ x y z' inside. plane-done number s t n m z old mid new order laid more x y z' inside.x_below inside.y_below (eq-or-lt_of_le (omega (arith, inside.z_below)));
  kept = λ j out.
      more.kept j (λ x y z' inside e. out x y z (record { x_below = inside.x_below; y_below = inside.y_below; z_below = omega arith })
      (e ∙ (let first : z' ≡ 0 = omega (arith, inside.z_below) in rw first (omega arith))))
      ∙ laid.kept j (λ x y z' inside e. out x y z' (record { x_below = inside.x_below; y_below = inside.y_below; z_below = omega (arith, inside.z_below) }) e);
}
