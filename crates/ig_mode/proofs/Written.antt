-- Parts of a list, read and written.
use Rattle.std.proofs.Common.{arith, ◌≡◌, ◌≤◌, ◌<◌, ◌+◌, ◌-◌, ◌*◌, ℕ, List, ◌++◌, length, take, drop, slice_index, ap, sym, ◌∙◌, ⊎_elim, ◌⊎◌, inl, inr, length-take, length-drop, length-append}
use Rattle.std.proofs.Math.Nat.{mul-le-mul_left, mul-le-mul_right, eq-or-lt_of_le}
use Rattle.std.proofs.lemmas.List.{get_or-append_right, get_or-drop, get_or-take, get_or_append_left}
use borrow.Rule.Slice.PartMut.{put_mid}

length_taken : (a : ℕ) (xs : List ℕ) → a ≤ length xs → length (take a xs) ≡ a
length_taken a xs within = omega (arith, length-take a xs)

-- an item before and in a part that was written
mid-below : (a k j : ℕ) (xs ys : List ℕ) → j < a → a ≤ length xs → slice_index (put_mid a k xs ys) j ≡ slice_index xs j
mid-below a k j xs ys below within =
    get_or_append_left (take a xs) _ 0 j (omega (arith, length_taken a xs within)) ∙ get_or-take a xs j 0 below

mid-in : (a k j : ℕ) (xs ys : List ℕ) → j < length ys → a ≤ length xs → slice_index (put_mid a k xs ys) (a + j) ≡ slice_index ys j
mid-in a k j xs ys below within =
    let same : a + j - a ≡ j = omega arith in
    get_or-append_right (take a xs) _ a (a + j) 0 (length_taken a xs within) (omega arith)
    ∙ ap (λ i. slice_index (ys ++ drop k (drop a xs)) i) same ∙ get_or_append_left ys _ 0 j below

pub length-part : (from long : ℕ) (xs : List ℕ) → from + long ≤ length xs → length (take (from + long - from) (drop from xs)) ≡ long
length-part from long xs within = omega (arith, length-take (from + long - from) (drop from xs), length-drop from xs)

-- an item of a part is one of the list
pub part-is : (from long j : ℕ) (xs : List ℕ) → j < long → slice_index (take (from + long - from) (drop from xs)) j ≡ slice_index xs (from + j)
part-is from long j xs below = get_or-take (from + long - from) (drop from xs) j 0 (omega arith) ∙ get_or-drop from xs j 0

-- place p of part n lies in the list
pub place-in : (long n done p : ℕ) → p < long → n < done → p + long * n < long * done
place-in long n done p inside below =
    let more : long * (n + 1) ≤ long * done = mul-le-mul_left long (omega arith) in
    omega arith

-- part n lies in a list of this many parts
pub part-in : (long n parts : ℕ) → n < parts → long * n + long ≤ long * parts
part-in long n parts below =
    let more : long * (n + 1) ≤ long * parts = mul-le-mul_left long (omega arith) in
    omega arith

-- One more part of a list of parts is right, where those before it are, and it is.
pub part-more : (long n p done : ℕ) (f : ℕ → ℕ) (xs part : List ℕ) → length part ≡ long → long * done + long ≤ length xs → p < long → n < done + 1
    → (n < done → slice_index xs (p + long * n) ≡ f n) → slice_index part p ≡ f done
    → slice_index (put_mid (long * done) (long * done + long - long * done) xs part) (p + long * n) ≡ f n
part-more long n p done f xs part size within inside below before here = by_part (eq-or-lt_of_le (omega arith))
  where
    by_part : (n ≡ done) ⊎ (n < done) → slice_index (put_mid (long * done) (long * done + long - long * done) xs part) (p + long * n) ≡ f n
    by_part (inr less) =
        mid-below (long * done) (long * done + long - long * done) (p + long * n) xs part (place-in long n done p inside less) (omega arith) ∙ before less
    by_part (inl same) =
        let place : p + long * n ≡ long * done + p = ap (λ m. p + long * m) same ∙ omega arith in
        ap (λ i. slice_index (put_mid (long * done) (long * done + long - long * done) xs part) i) place
        ∙ mid-in (long * done) (long * done + long - long * done) p xs part (omega arith) (omega arith)
        ∙ here ∙ ap f (sym same)
