-- The chunks that a task meets along one axis are longest at one of three tasks.
use Rattle.std.proofs.Common.{◌≡◌, ◌≤◌, ◌<◌, ◌+◌, ◌-◌, ◌*◌, ◌/◌, ◌%◌, ◌⊎◌, inl, inr, ℕ, zero, suc, min, max, arith, ap, refl, sym, ◌∙◌, le_trans}
use Rattle.std.proofs.Math.Nat.{div-mul-le_self, lt-div-mul-add, div-lt_iff_lt-mul, mul-le-mul_right, lt_of_mul-lt-mul_right, mul-div_left}
use Rattle.std.proofs.lemmas.Bool.{cases_lt}
use Rattle.std.proofs.lemmas.Nat.{div-add-mod', le-div, mod_below, mul-le}
use Rattle.ig_space.specs.declared.point.Point.{Point}
use Rattle.ig_space.specs.Cells.{IsPlace, index-below, low-below, number-below as place-below, point_at-is, point_at-place}
use Rattle.ig_space.specs.Geometry.{count}
use Rattle.ig_space.specs.Grid.{cell_count, count_along, counts, high_along, index_along, low_along, point_at}
use Rattle.ig_record.specs.declared.stage.Stage.{Stage}
use Rattle.ig_record.specs.SoundFacts.{HasSides}
use Rattle.ig_record.specs.Stage.{cells, greatest, hull_voxels}
use Rattle.ig_record.specs.HullSides.{hull_along}

-- the last chunk begins here, and the first task that meets it has this number
abbrev pub last_chunk : ℕ → ℕ → ℕ
last_chunk size chunk = (size - 1) / chunk * chunk

abbrev pub last_index : ℕ → ℕ → ℕ → ℕ
last_index size step chunk = last_chunk size chunk / step

more : (a n : ℕ) → (a + 1) * n ≡ a * n + n
more a n = grind arith

-- ---- tasks that meet the last chunk
pub last-most : (size step chunk i : ℕ) → 1 ≤ size → 1 ≤ step → 1 ≤ chunk → last_index size step chunk ≤ i
    → hull_along size step chunk i ≤ hull_along size step chunk (last_index size step chunk)
last-most size step chunk i some cut whole later =
    let j = last_index size step chunk in
    let at = div-mul-le_self (size - 1) chunk in
    let to : size - 1 < last_chunk size chunk + chunk = lt-div-mul-add whole in
    let over : last_chunk size chunk < j * step + step = lt-div-mul-add cut in
    let end = min ((j + 1) * step) size - 1 in
    let reach : last_chunk size chunk ≤ end = omega (arith, more j step, over, at, some) in
    let far : last_chunk size chunk ≤ end / chunk * chunk = mul-le-mul_right chunk (le-div ((size - 1) / chunk) end chunk whole reach) in
    let before : j * step ≤ i * step = mul-le-mul_right step later in
    let begins : j * step / chunk * chunk ≤ i * step / chunk * chunk =
    mul-le-mul_right chunk (le-div (j * step / chunk) (i * step) chunk whole (le_trans (div-mul-le_self (j * step) chunk) before)) in
    omega (arith, to, far, begins)

-- ---- tasks that don't
abbrev pub inner_hull : ℕ → ℕ → ℕ → ℕ
inner_hull step chunk i = ((i + 1) * step - 1) / chunk * chunk + chunk - i * step / chunk * chunk

pub inner-is : (size step chunk i : ℕ) → 1 ≤ size → 1 ≤ step → 1 ≤ chunk → i < last_index size step chunk
    → hull_along size step chunk i ≡ inner_hull step chunk i
inner-is size step chunk i some cut whole earlier =
    let j = last_index size step chunk in
    let at = div-mul-le_self (size - 1) chunk in
    let up = div-mul-le_self (last_chunk size chunk) step in
    let next : (i + 1) * step ≤ j * step = mul-le-mul_right step (omega (arith, earlier)) in
    let short : min ((i + 1) * step) size ≡ (i + 1) * step = omega (arith, at, up, next) in
    let end = (i + 1) * step - 1 in
    let step_some : 1 ≤ (i + 1) * step = omega (arith, more i step, cut) in
    let ends = div-mul-le_self end chunk in
    let below : end / chunk * chunk < (size - 1) / chunk * chunk = omega (arith, ends, up, next, step_some) in
    let within : (end / chunk + 1) * chunk ≤ (size - 1) / chunk * chunk =
    mul-le-mul_right chunk (omega (arith, lt_of_mul-lt-mul_right chunk below)) in
    let clear : min (end / chunk * chunk + chunk) size ≡ end / chunk * chunk + chunk = omega (arith, within, more (end / chunk) chunk, at, some) in
    ap (λ m. min ((m - 1) / chunk * chunk + chunk) size - i * step / chunk * chunk) short ∙ ap (λ m. m - i * step / chunk * chunk) clear

-- ---- of these, the first one is longest, or one that meets one chunk more
first-is : (step chunk : ℕ) → 1 ≤ chunk → inner_hull step chunk 0 ≡ (step - 1) / chunk * chunk + chunk
first-is step chunk whole =
    let row : (0 + 1) * step ≡ step = omega arith in
    let none : 0 * step / chunk * chunk ≤ 0 * step = div-mul-le_self (0 * step) chunk in
    let empty : 0 * step ≡ 0 = omega arith in
    let front = ap (λ m. (m - 1) / chunk * chunk + chunk - 0 * step / chunk * chunk) row in
    omega (arith, front, none, empty)

-- the steps of a task's number, in whole chunks and the shift
steps-split : (q t chunk step i : ℕ) → step ≡ q * chunk + t → i * step ≡ i * q * chunk + i * t
steps-split q t chunk step i split = ap (λ s. i * s) split ∙ grind arith

-- it ends within one chunk more than whole steps take
near-most : (q t v step chunk i : ℕ) → 1 ≤ t → 1 ≤ step → 1 ≤ chunk → step ≡ q * chunk + t → v ≡ i * step / chunk → i * step + t ≤ v * chunk + chunk
    → inner_hull step chunk i ≤ inner_hull step chunk 0
near-most q t v step chunk i shifted cut whole split is near =
    let end = (i + 1) * step - 1 in
    let ends = div-mul-le_self end chunk in
    let three : (v + q + 1) * chunk ≡ v * chunk + q * chunk + chunk = grind arith in
    let below : end / chunk * chunk < (v + q + 1) * chunk = omega (arith, ends, more i step, near, split, three, cut) in
    let at : end / chunk * chunk ≤ (v + q) * chunk = mul-le-mul_right chunk (omega (arith, lt_of_mul-lt-mul_right chunk below)) in
    let two : (v + q) * chunk ≡ v * chunk + q * chunk = grind arith in
    let reach : q * chunk ≤ (step - 1) / chunk * chunk = mul-le-mul_right chunk (le-div q (step - 1) chunk whole (omega (arith, split, shifted))) in
    let begins : i * step / chunk * chunk ≡ v * chunk = ap (λ m. m * chunk) (sym is) in
    omega (arith, at, two, reach, begins, first-is step chunk whole)

-- steps of whole chunks
even-most : (q step chunk i : ℕ) → 1 ≤ step → 1 ≤ chunk → step ≡ q * chunk → inner_hull step chunk i ≤ inner_hull step chunk 0
even-most q step chunk i cut whole split =
    let row : i * step ≡ i * q * chunk = ap (λ s. i * s) split ∙ grind arith in
    let begins : i * step / chunk ≡ i * q = ap (λ m. m / chunk) row ∙ mul-div_left (i * q) whole in
    let begins_at : i * step / chunk * chunk ≡ i * q * chunk = ap (λ m. m * chunk) begins in
    let end = (i + 1) * step - 1 in
    let ends = div-mul-le_self end chunk in
    let two : (i * q + q) * chunk ≡ i * q * chunk + q * chunk = grind arith in
    let below : end / chunk * chunk < (i * q + q) * chunk = omega (arith, ends, more i step, row, split, two, cut) in
    let at : (end / chunk + 1) * chunk ≤ (i * q + q) * chunk = mul-le-mul_right chunk (omega (arith, lt_of_mul-lt-mul_right chunk below)) in
    let reach : step - 1 < (step - 1) / chunk * chunk + chunk = lt-div-mul-add whole in
    omega (arith, at, two, more (end / chunk) chunk, begins_at, reach, split, first-is step chunk whole)

-- it ends one chunk further, so the steps' shift reaches over a chunk's end before that task, or at it
pub record Crosses (step chunk i : ℕ) : Type 0 where
  pub odd : ℕ
  pub shift : ℕ
  pub is : odd ≡ chunk / shift
  pub shift_is : shift ≡ step % chunk
  pub some : 1 ≤ shift
  pub before : odd ≤ i
  pub most : inner_hull step chunk i ≤ inner_hull step chunk odd

-- the number of a task by its shift
far-index : (q t v r z step chunk i : ℕ) → step ≡ q * chunk + t → i * step ≡ v * chunk + r → v ≡ i * q + z → i * t ≡ z * chunk + r
far-index q t v r z step chunk i split at ahead =
    let rows = steps-split q t chunk step i split in
    let lead : v * chunk ≡ i * q * chunk + z * chunk = ap (λ m. m * chunk) ahead ∙ grind arith in
    omega (arith, rows, lead, at)

-- then no chunk's end is a whole number of shifts
far-odd : (t r z chunk i o : ℕ) → 1 ≤ t → r < chunk → chunk < r + t → i * t ≡ z * chunk + r → o * t ≡ chunk → ⊥
far-odd t r z chunk i o some part far at even =
    let up : (i + 1) * t ≡ i * t + t = grind arith in
    let rows : ((z + 1) * o) * t ≡ z * chunk + chunk = (let e : ((z + 1) * o) * t ≡ (z + 1) * (o * t) = grind arith in e ∙ ap (λ m. (z + 1) * m) even ∙ grind arith) in
    let less : ((z + 1) * o) * t < (i + 1) * t = omega (arith, up, rows, at, far) in
    let within : ((z + 1) * o) * t ≤ i * t = mul-le-mul_right t (omega (arith, lt_of_mul-lt-mul_right t less)) in
    omega (arith, within, rows, at, part)

-- how long the first task over an end is
odd-long : (q t step chunk o : ℕ) → 1 ≤ chunk → step ≡ q * chunk + t → o * t < chunk → chunk < o * t + t
    → q * chunk + chunk + chunk ≤ inner_hull step chunk o
odd-long q t step chunk o whole split before after =
    let rows = steps-split q t chunk step o split in
    let one : (o * q + 1) * chunk ≡ o * q * chunk + chunk = grind arith in
    let begins : o * step / chunk * chunk ≤ o * q * chunk =
    mul-le-mul_right chunk (omega (arith, (div-lt_iff_lt-mul {k = chunk} {x = o * step} {y = o * q + 1} whole).1 (omega (arith, rows, before, one)))) in
    let end = (o + 1) * step - 1 in
    let three : (o * q + q + 1) * chunk ≡ o * q * chunk + q * chunk + chunk = grind arith in
    let ends : (o * q + q + 1) * chunk ≤ end / chunk * chunk =
    mul-le-mul_right chunk (le-div (o * q + q + 1) end chunk whole (omega (arith, three, more o step, rows, split, after))) in
    omega (arith, begins, ends, three)

-- and how long the other one is at most
far-short : (q t v r step chunk i : ℕ) → 1 ≤ step → 1 ≤ chunk → t < chunk → r < chunk → step ≡ q * chunk + t → v ≡ i * step / chunk → i * step ≡ v * chunk + r
    → inner_hull step chunk i ≤ q * chunk + chunk + chunk
far-short q t v r step chunk i cut whole shift part split is at =
    let end = (i + 1) * step - 1 in
    let ends = div-mul-le_self end chunk in
    let three : (v + q + 2) * chunk ≡ v * chunk + q * chunk + chunk + chunk = grind arith in
    let below : end / chunk * chunk < (v + q + 2) * chunk = omega (arith, ends, more i step, at, split, three, shift, part, cut) in
    let near : end / chunk * chunk ≤ (v + q + 1) * chunk = mul-le-mul_right chunk (omega (arith, lt_of_mul-lt-mul_right chunk below)) in
    let two : (v + q + 1) * chunk ≡ v * chunk + q * chunk + chunk = grind arith in
    let begins : i * step / chunk * chunk ≡ v * chunk = ap (λ m. m * chunk) (sym is) in
    omega (arith, near, two, begins)

strictly : (a b : ℕ) → a ≤ b → (a ≡ b → ⊥) → (a < b) ⊎ (b ≤ a) → a < b
strictly a b le apart (inl less) = less
strictly a b le apart (inr above) = absurd (apart (omega (arith, le, above)))

-- ---- the first task over a chunk's end by this shift
crosses : (q t v r z step chunk i : ℕ) → 1 ≤ step → 1 ≤ chunk → t ≡ step % chunk → t < chunk → r < chunk → step ≡ q * chunk + t
    → v ≡ i * step / chunk → i * step ≡ v * chunk + r → v ≡ i * q + z → chunk < r + t → Crosses step chunk i
crosses q t v r z step chunk i cut whole shift_is shift part split is at ahead far =
    let some : 1 ≤ t = omega (arith, far, part) in
    let o = chunk / t in
    let turns = far-index q t v r z step chunk i split at ahead in
    let to = div-mul-le_self chunk t in
    let over : chunk < o * t + t = lt-div-mul-add some in
    let up : (i + 1) * t ≡ i * t + t = grind arith in
    let less : o * t < (i + 1) * t = omega (arith, to, up, turns, far) in
    let before : o * t < chunk = strictly (o * t) chunk to (far-odd t r z chunk i o some part far turns) (cases_lt (o * t) chunk) in
    record {
      odd = o;
      shift = t;
      is = refl;
      shift_is = shift_is;
      some = some;
      before = omega (arith, lt_of_mul-lt-mul_right t less);
      most = omega (arith, far-short q t v r step chunk i cut whole shift part split is at, odd-long q t step chunk o whole split before over);
    }

near-or-even : (q t v r step chunk i : ℕ) → 1 ≤ step → 1 ≤ chunk → step ≡ q * chunk + t → v ≡ i * step / chunk → i * step ≡ v * chunk + r → r + t ≤ chunk
    → (t < 1) ⊎ (1 ≤ t) → inner_hull step chunk i ≤ inner_hull step chunk 0
near-or-even q t v r step chunk i cut whole split is at near (inl none) = even-most q step chunk i cut whole (omega (arith, split, none))
near-or-even q t v r step chunk i cut whole split is at near (inr some) = near-most q t v step chunk i some cut whole split is (omega (arith, at, near))

by-end : (q t v r z step chunk i : ℕ) → 1 ≤ step → 1 ≤ chunk → t ≡ step % chunk → t < chunk → r < chunk → step ≡ q * chunk + t
    → v ≡ i * step / chunk → i * step ≡ v * chunk + r → v ≡ i * q + z → (chunk < r + t) ⊎ (r + t ≤ chunk)
    → (inner_hull step chunk i ≤ inner_hull step chunk 0) ⊎ Crosses step chunk i
by-end q t v r z step chunk i cut whole shift_is shift part split is at ahead (inl far) = inr (crosses q t v r z step chunk i cut whole shift_is shift part split is at ahead far)
by-end q t v r z step chunk i cut whole shift_is shift part split is at ahead (inr near) = inl (near-or-even q t v r step chunk i cut whole split is at near (cases_lt t 1))

pub inner-most : (step chunk i : ℕ) → 1 ≤ step → 1 ≤ chunk → (inner_hull step chunk i ≤ inner_hull step chunk 0) ⊎ Crosses step chunk i
inner-most step chunk i cut whole =
    let q = step / chunk in
    let t = step % chunk in
    let v = i * step / chunk in
    let r = i * step % chunk in
    let split : step ≡ q * chunk + t = sym (div-add-mod' step chunk) in
    let at : i * step ≡ v * chunk + r = sym (div-add-mod' (i * step) chunk) in
    let rows = steps-split q t chunk step i split in
    let ahead : i * q ≤ v = le-div (i * q) (i * step) chunk whole (omega (arith, rows)) in
    by-end q t v r (v - i * q) step chunk i cut whole refl (mod_below step chunk whole) (mod_below (i * step) chunk whole) split refl at (omega (arith, ahead))
    (cases_lt chunk (r + t))

-- ---- the greatest of a list of values
greatest-once : (f : ℕ → ℕ) (n k : ℕ) → k < suc n → (k < n → f k ≤ greatest f n) → (k < n) ⊎ (n ≤ k) → f k ≤ greatest f (suc n)
greatest-once f n k below before (inl less) = omega (arith, before less)
greatest-once f n k below before (inr last) = let same : f k ≡ f n = ap f (omega (arith, last, below)) in omega (arith, same)

pub greatest-above : (f : ℕ → ℕ) (n k : ℕ) → k < n → f k ≤ greatest f n
greatest-above f zero k below = absurd (omega (arith, below))
greatest-above f (suc n) k below = greatest-once f n k below (greatest-above f n k) (cases_lt k n)

greatest-within : (f : ℕ → ℕ) (n m : ℕ) → ((k : ℕ) → k < n → f k ≤ m) → greatest f n ≤ m
greatest-within f zero m all = omega arith
greatest-within f (suc n) m all =
    let rest = greatest-within f n m (λ k below. all k (omega (arith, below))) in
    let last = all n (omega arith) in
    omega (arith, rest, last)

pub record HasGreatest (f : ℕ → ℕ) (n : ℕ) (m : ℕ) : Type 0 where
  pub index : ℕ
  pub below : index < n
  pub is : f index ≡ m

pub greatest-is : (f : ℕ → ℕ) (n m : ℕ) → HasGreatest f n m → ((k : ℕ) → k < n → f k ≤ m) → greatest f n ≡ m
greatest-is f n m at all =
    let above = greatest-above f n at.index at.below in
    let is = at.is in
    let within = greatest-within f n m all in
    omega (arith, above, is, within)

max-at : (f : ℕ → ℕ) (n a b : ℕ) → HasGreatest f n a → HasGreatest f n b → (a < b) ⊎ (b ≤ a) → HasGreatest f n (max a b)
max-at f n a b first next (inl less) = record { index = next.index; below = next.below; is = next.is ∙ omega (arith, less) }
max-at f n a b first next (inr above) = record { index = first.index; below = first.below; is = first.is ∙ omega (arith, above) }

pub has-max : (f : ℕ → ℕ) (n a b : ℕ) → HasGreatest f n a → HasGreatest f n b → HasGreatest f n (max a b)
has-max f n a b first next = max-at f n a b first next (cases_lt a b)

has-more : (f : ℕ → ℕ) (n m : ℕ) → HasGreatest f n m → HasGreatest f (suc n) m
has-more f n m at = record { index = at.index; below = omega (arith, at.below); is = at.is }

pub has-greatest : (f : ℕ → ℕ) (n : ℕ) → HasGreatest f (suc n) (greatest f (suc n))
has-greatest f zero = record { index = 0; below = omega arith; is = omega arith }
has-greatest f (suc n) =
    has-max f (suc (suc n)) (greatest f (suc n)) (f (suc n)) (has-more f (suc n) _ (has-greatest f n)) (record { index = suc n; below = omega arith; is = refl })

-- ---- one axis
-- a task that meets one chunk more than the first has a number
abbrev pub odd_index : ℕ → ℕ → ℕ
odd_index step chunk = chunk / (step % chunk)

along-inner : (size step chunk m i : ℕ) → 1 ≤ size → 1 ≤ step → 1 ≤ chunk → i < last_index size step chunk → hull_along size step chunk 0 ≤ m
    → (Crosses step chunk i → hull_along size step chunk (odd_index step chunk) ≤ m)
    → (inner_hull step chunk i ≤ inner_hull step chunk 0) ⊎ Crosses step chunk i → hull_along size step chunk i ≤ m
along-inner size step chunk m i some cut whole earlier first odd (inl less) =
    let here = inner-is size step chunk i some cut whole earlier in
    let there = inner-is size step chunk 0 some cut whole (omega (arith, earlier)) in
    omega (arith, here, there, less, first)
along-inner size step chunk m i some cut whole earlier first odd (inr c) =
    let before = c.before in
    let most = c.most in
    let here = inner-is size step chunk i some cut whole earlier in
    let there = inner-is size step chunk c.odd some cut whole (omega (arith, earlier, before)) in
    let same : hull_along size step chunk c.odd ≡ hull_along size step chunk (odd_index step chunk) = ap (hull_along size step chunk) (c.is ∙ ap (λ t. chunk / t) c.shift_is) in
    let within = odd c in
    omega (arith, here, there, same, most, within)

along-most : (size step chunk m i : ℕ) → 1 ≤ size → 1 ≤ step → 1 ≤ chunk → hull_along size step chunk 0 ≤ m
    → hull_along size step chunk (last_index size step chunk) ≤ m → (Crosses step chunk i → hull_along size step chunk (odd_index step chunk) ≤ m)
    → (i < last_index size step chunk) ⊎ (last_index size step chunk ≤ i) → hull_along size step chunk i ≤ m
along-most size step chunk m i some cut whole first last odd (inl earlier) =
    along-inner size step chunk m i some cut whole earlier first odd (inner-most step chunk i cut whole)
along-most size step chunk m i some cut whole first last odd (inr later) =
    let most = last-most size step chunk i some cut whole later in omega (arith, most, last)

-- the numbers of the tasks
number-below : (size step x : ℕ) → 1 ≤ step → x < size → x / step < count_along 0 size step
number-below size step x cut below =
    let at = index-below 0 size step x cut (omega arith) below in
    let same : (x - 0) / step ≡ x / step = ap (λ y. y / step) (omega arith) in
    omega (arith, at, same)

number-within : (size step i : ℕ) → 1 ≤ size → 1 ≤ step → i < count_along 0 size step → i ≤ (size - 1) / step
number-within size step i some cut below =
    let begins : 0 + i * step < size = low-below 0 size step i cut below in le-div i (size - 1) step cut (omega (arith, begins, some))

has-first : (size step chunk : ℕ) → 1 ≤ size → 1 ≤ step → HasGreatest (hull_along size step chunk) (count_along 0 size step) (hull_along size step chunk 0)
has-first size step chunk some cut =
    let at = number-below size step 0 cut some in record { index = 0; below = omega (arith, at); is = refl }

has-last : (size step chunk : ℕ) → 1 ≤ size → 1 ≤ step → HasGreatest (hull_along size step chunk) (count_along 0 size step) (hull_along size step chunk (last_index size step chunk))
has-last size step chunk some cut =
    let at = div-mul-le_self (size - 1) chunk in
    record { index = last_index size step chunk; below = number-below size step (last_chunk size chunk) cut (omega (arith, at, some)); is = refl }

abbrev pub ends_hull : ℕ → ℕ → ℕ → ℕ
ends_hull size step chunk = max (hull_along size step chunk 0) (hull_along size step chunk (last_index size step chunk))

pub greatest-of_two : (size step chunk : ℕ) → 1 ≤ size → 1 ≤ step → 1 ≤ chunk → (1 ≤ step % chunk → (size - 1) / step < odd_index step chunk)
    → greatest (hull_along size step chunk) (count_along 0 size step) ≡ ends_hull size step chunk
greatest-of_two size step chunk some cut whole beyond =
    greatest-is (hull_along size step chunk) (count_along 0 size step) (ends_hull size step chunk)
    (has-max _ _ _ _ (has-first size step chunk some cut) (has-last size step chunk some cut))
    (λ i below.
    let within = number-within size step i some cut below in
    along-most size step chunk (ends_hull size step chunk) i some cut whole (omega arith) (omega arith)
    (λ c.
    let is : c.odd ≡ odd_index step chunk = c.is ∙ ap (λ t. chunk / t) c.shift_is in
    let far = beyond (let shifted = c.some in let shift = c.shift_is in omega (arith, shifted, shift)) in
    let before = c.before in
    absurd (omega (arith, is, far, before, within)))
    (cases_lt i (last_index size step chunk)))

pub greatest-of_three : (size step chunk : ℕ) → 1 ≤ size → 1 ≤ step → 1 ≤ chunk → odd_index step chunk ≤ (size - 1) / step
    → greatest (hull_along size step chunk) (count_along 0 size step) ≡ max (ends_hull size step chunk) (hull_along size step chunk (odd_index step chunk))
greatest-of_three size step chunk some cut whole within =
    let m = max (ends_hull size step chunk) (hull_along size step chunk (odd_index step chunk)) in
    let last = number-below size step (size - 1) cut (omega (arith, some)) in
    greatest-is (hull_along size step chunk) (count_along 0 size step) m
    (has-max _ _ _ _ (has-max _ _ _ _ (has-first size step chunk some cut) (has-last size step chunk some cut))
    (record { index = odd_index step chunk; below = omega (arith, last, within); is = refl }))
    (λ i below. along-most size step chunk m i some cut whole (omega arith) (omega arith) (λ c. omega arith) (cases_lt i (last_index size step chunk)))

-- ---- the greater of two in code
pub both-max : (a b first next : ℕ) → a ≡ first → b ≡ next → max a b ≡ max first next
both-max a b first next p q = ap (λ x. max x b) p ∙ ap (max first) q

-- ---- three axes
abbrev pub product_at : (ℕ → ℕ) → (ℕ → ℕ) → (ℕ → ℕ) → Point → ℕ
product_at f g h p = f p.x * (g p.y * h p.z)

product-above : (f g h : ℕ → ℕ) (size p : Point) → IsPlace p size
    → product_at f g h p ≤ greatest f size.x * (greatest g size.y * greatest h size.z)
product-above f g h size p place =
    mul-le (f p.x) (g p.y * h p.z) (greatest f size.x) (greatest g size.y * greatest h size.z) (greatest-above f size.x p.x place.x)
    (mul-le (g p.y) (h p.z) (greatest g size.y) (greatest h size.z) (greatest-above g size.y p.y place.y) (greatest-above h size.z p.z place.z))

has-some : (f : ℕ → ℕ) (n : ℕ) → 1 ≤ n → HasGreatest f n (greatest f n)
has-some f zero some = absurd (omega (arith, some))
has-some f (suc n) some = has-greatest f n

pub greatest-product : (f g h all : ℕ → ℕ) (size : Point) → 1 ≤ size.x → 1 ≤ size.y → 1 ≤ size.z
    → ((k : ℕ) → k < count size → all k ≡ product_at f g h (point_at size k))
    → greatest all (count size) ≡ greatest f size.x * (greatest g size.y * greatest h size.z)
greatest-product f g h all size x_some y_some z_some is =
    let x = has-some f size.x x_some in
    let y = has-some g size.y y_some in
    let z = has-some h size.z z_some in
    let p : Point = record { x = x.index; y = y.index; z = z.index } in
    let place : IsPlace p size = record { x = x.below; y = y.below; z = z.below } in
    let k = p.x + size.x * (p.y + size.y * p.z) in
    let below = place-below size p place in
    let at : point_at size k ≡ p = point_at-is size p.x p.y p.z x.below y.below in
    greatest-is all (count size) (greatest f size.x * (greatest g size.y * greatest h size.z))
    (record {
      index = k;
      below = below;
      is = is k below ∙ ap (product_at f g h) at ∙ ap (λ a. a * (g y.index * h z.index)) x.is
          ∙ ap (λ b. greatest f size.x * (b * h z.index)) y.is ∙ ap (λ d. greatest f size.x * (greatest g size.y * d)) z.is;
    })
    (λ i within. let same = is i within in let most = product-above f g h size (point_at size i) (point_at-place size i within) in omega (arith, same, most))

-- ---- the hull of a task by its axes
pub side-is : (lo size step chunk i : ℕ)
    → high_along lo (lo + size) chunk (index_along lo chunk (high_along lo (lo + size) step i - 1)) - low_along lo chunk (index_along lo chunk (low_along lo step i))
    ≡ hull_along size step chunk i
side-is lo size step chunk i =
    let from : lo + i * step - lo ≡ i * step = omega arith in
    let to : min (lo + (i + 1) * step) (lo + size) - 1 - lo ≡ min ((i + 1) * step) size - 1 = omega arith in
    let w = (min ((i + 1) * step) size - 1) / chunk in
    let v = i * step / chunk in
    ap (λ a. min (lo + (a / chunk + 1) * chunk) (lo + size) - (lo + (lo + i * step - lo) / chunk * chunk)) to
    ∙ ap (λ a. min (lo + (w + 1) * chunk) (lo + size) - (lo + a / chunk * chunk)) from
    ∙ omega (arith, more w chunk)

pub count-is : (lo size step : ℕ) → count_along lo (lo + size) step ≡ count_along 0 size step
count-is lo size step = ap (λ long. (long + (step - 1)) / step) (omega arith)

pub hull-product : (s : Stage) (k : ℕ)
    → hull_voxels s k ≡ product_at (hull_along s.source.geometry.size.x s.shape.x s.source.geometry.chunk.x) (hull_along s.source.geometry.size.y s.shape.y s.source.geometry.chunk.y)
    (hull_along s.source.geometry.size.z s.shape.z s.source.geometry.chunk.z) (point_at (counts (cells s)) k)
hull-product s k =
    let g = s.source.geometry in
    let p = point_at (counts (cells s)) k in
    let x = side-is g.offset.x g.size.x s.shape.x g.chunk.x p.x in
    let y = side-is g.offset.y g.size.y s.shape.y g.chunk.y p.y in
    let z = side-is g.offset.z g.size.z s.shape.z g.chunk.z p.z in
    λ i. x i * (y i * z i)

pub hulls-product : (s : Stage) → 1 ≤ s.source.geometry.size.x → 1 ≤ s.source.geometry.size.y → 1 ≤ s.source.geometry.size.z → HasSides s.shape
    → greatest (hull_voxels s) (cell_count (cells s))
    ≡ greatest (hull_along s.source.geometry.size.x s.shape.x s.source.geometry.chunk.x) (count_along 0 s.source.geometry.size.x s.shape.x)
    * (greatest (hull_along s.source.geometry.size.y s.shape.y s.source.geometry.chunk.y) (count_along 0 s.source.geometry.size.y s.shape.y)
    * greatest (hull_along s.source.geometry.size.z s.shape.z s.source.geometry.chunk.z) (count_along 0 s.source.geometry.size.z s.shape.z))
hulls-product s x_some y_some z_some sides =
    let g = s.source.geometry in
    let f = hull_along g.size.x s.shape.x g.chunk.x in
    let j = hull_along g.size.y s.shape.y g.chunk.y in
    let h = hull_along g.size.z s.shape.z g.chunk.z in
    let x = count-is g.offset.x g.size.x s.shape.x in
    let y = count-is g.offset.y g.size.y s.shape.y in
    let z = count-is g.offset.z g.size.z s.shape.z in
    greatest-product f j h (hull_voxels s) (counts (cells s)) (omega (arith, x, number-below g.size.x s.shape.x 0 sides.x x_some))
    (omega (arith, y, number-below g.size.y s.shape.y 0 sides.y y_some)) (omega (arith, z, number-below g.size.z s.shape.z 0 sides.z z_some))
    (λ k below. hull-product s k)
    ∙ λ i. greatest f (x i) * (greatest j (y i) * greatest h (z i))
