-- The words of a text are the words that it was made of.
use Rattle.std.proofs.Common.{arith, ◌≡◌, ◌≤◌, ◌<◌, ◌+◌, ◌-◌, ◌*◌, ◌%◌, ◌^◌, ℕ, zero, suc, List, [], ◌∷◌, ◌++◌, length, length-append, slice_index, drop, inl, inr, ◌⊎◌}
use Rattle.std.proofs.Math.Nat.{mul-zero}
use Rattle.std.proofs.Math.Seq.{drop-append-add}
use Rattle.std.proofs.lemmas.Bool.{cases_lt}
use Rattle.std.proofs.lemmas.List.{get_or_append_left, get_or-append_right}
use Rattle.std.specs.Int.{bytes_low_first}
use Rattle.std.specs.List.{flat_map}
use Rattle.byteorder.specs.Endian.{little_number}
use Rattle.byteorder.specs.Numbers.{length-bytes_low_first, little_number-reads_back}
use Rattle.ig_space.specs.declared.geometry.Width.TheVariants.{W32}
use Rattle.ig_space.specs.Chunks.{listed}
use Rattle.ig_space.specs.Raw.{raw_text}
use Rattle.ig_cseg.specs.Cseg.{word, word_count}
use Rattle.ig_cseg.specs.Pieces.{listed-at}
use Rattle.ig_cseg.specs.TextSizes.{length-listed}

-- each word has 32 bits
pub record AreWords (ws : List ℕ) : Type 0 where
  pub fit : (k : ℕ) → k < length ws → slice_index ws k < 2 ^ 32

length-text : (ws : List ℕ) → length (raw_text W32 ws) ≡ 4 * length ws
length-text [] = omega arith
length-text (w ∷ ws) = omega (arith, length-append (bytes_low_first 0 4 w) (flat_map (bytes_low_first 0 4) ws), length-bytes_low_first 0 4 w, length-text ws)

number-at : (ws : List ℕ) (k : ℕ) → k < length ws → slice_index ws k < 2 ^ 32 → little_number 4 (drop (4 * k) (flat_map (bytes_low_first 0 4) ws)) ≡ slice_index ws k
number-at [] k h fits = absurd (omega arith)
number-at (w ∷ ws) zero h fits = rw mul-zero (little_number-reads_back 4 w (flat_map (bytes_low_first 0 4) ws) fits)
number-at (w ∷ ws) (suc k) h fits =
    let same : 4 * suc k ≡ length (bytes_low_first 0 4 w) + 4 * k = omega (arith, length-bytes_low_first 0 4 w) in
    rw (same, drop-append-add) (number-at ws k (omega arith) fits)

pub text-whole : (ws : List ℕ) → length (raw_text W32 ws) % 4 ≡ 0
text-whole ws = omega (arith, length-text ws)

pub text-count : (ws : List ℕ) → word_count (raw_text W32 ws) ≡ length ws
text-count ws = omega (arith, length-text ws)

pub text-word : (ws : List ℕ) (k : ℕ) → AreWords ws → k < length ws → word (raw_text W32 ws) k ≡ slice_index ws k
unfolding word
text-word ws k small h = number-at ws k h (small.fit k h)

-- ---- lists of words
pub words-none : AreWords []
words-none = record { fit = λ k l. absurd (omega arith) }

both_fit : (xs ys : List ℕ) (k : ℕ) → AreWords xs → AreWords ys → k < length (xs ++ ys) → (k < length xs) ⊎ (length xs ≤ k) → slice_index (xs ++ ys) k < 2 ^ 32
both_fit xs ys k p q l (inl first) =
    let own = p.fit k first in
    let same = get_or_append_left xs ys 0 k first in
    omega (arith, own, same)
both_fit xs ys k p q l (inr second) =
    let own = q.fit (k - length xs) (omega (arith, l, length-append xs ys)) in
    let same : slice_index (xs ++ ys) k ≡ slice_index ys (k - length xs) = get_or-append_right xs ys (length xs) k 0 (omega arith) second in
    omega (arith, own, same)

pub words-both : (xs ys : List ℕ) → AreWords xs → AreWords ys → AreWords (xs ++ ys)
words-both xs ys p q = record { fit = λ k l. both_fit xs ys k p q l (cases_lt k (length xs)) }

one_fits : (w : ℕ) (ws : List ℕ) (k : ℕ) → w < 2 ^ 32 → AreWords ws → k < length (w ∷ ws) → slice_index (w ∷ ws) k < 2 ^ 32
one_fits w ws zero first rest l = first
one_fits w ws (suc k) first rest l = rest.fit k (omega (arith, l))

pub words-one : (w : ℕ) (ws : List ℕ) → w < 2 ^ 32 → AreWords ws → AreWords (w ∷ ws)
words-one w ws first rest = record { fit = λ k l. one_fits w ws k first rest l }

pub words-listed : (f : ℕ → ℕ) (n : ℕ) → ((k : ℕ) → k < n → f k < 2 ^ 32) → AreWords (listed f n)
words-listed f n small = record {
  fit = λ k l.
      let below : k < n = omega (arith, l, length-listed f n) in
      omega (arith, listed-at f n k below, small k below);
}

pub words-flat_map : (f : ℕ → List ℕ) (xs : List ℕ) → ((x : ℕ) → AreWords (f x)) → AreWords (flat_map f xs)
words-flat_map f [] each = words-none
words-flat_map f (x ∷ xs) each = words-both (f x) (flat_map f xs) (each x) (words-flat_map f xs each)
