-- The numbers that stand in a text, in n bytes each with the lowest first, make that text again.
use Rattle.std.proofs.Common.{arith, ◌≡◌, ◌≤◌, ◌<◌, ◌+◌, ◌*◌, ◌/◌, ◌%◌, ◌^◌, ℕ, zero, suc, List, [], ◌∷◌, length, take, drop, slice_index, slice_set, refl, ap, sym, ◌∙◌, length-drop, length-append, inl, inr, ◌⊎◌}
use Rattle.std.proofs.Math.Nat.{div-div-eq-div-mul, pow-succ', mul-zero, eq-or-lt_of_le}
use Rattle.std.proofs.lemmas.List.{take-append-drop, get_or-drop, drop-drop, get_or-set_same, get_or-set_other}
use Rattle.std.specs.Int.{bytes_low_first, byte_at}
use Rattle.std.specs.List.{flat_map}
use Rattle.std.proofs.Math.Seq.{drop-append-add}
use Rattle.byteorder.specs.Numbers.{length-bytes_low_first, little_number-reads_back}
use Rattle.byteorder.specs.Endian.{little_from, little_number, IsRead}

-- a number with one byte more at its low end
byte_up : (i b m : ℕ) → b < 256 → byte_at (suc i) (b + 256 * m) ≡ byte_at i m
byte_up zero b m h =
    let d : (b + 256 * m) / 256 ≡ m = omega arith in
    ap (λ n. n % 256) d
byte_up (suc i) b m h =
    let d : (b + 256 * m) / 256 ≡ m = omega arith in
    rw (pow-succ' 256 (suc i), ← div-div-eq-div-mul (b + 256 * m) 256 (256 ^ suc i), d) refl

bytes_up : (i k b m : ℕ) → b < 256 → bytes_low_first (suc i) k (b + 256 * m) ≡ bytes_low_first i k m
bytes_up i zero b m h = refl
bytes_up i (suc k) b m h = let p = byte_up i b m h in let q = bytes_up (suc i) k b m h in cc

from_up : (i n x : ℕ) (xs : List ℕ) → little_from (suc i) n (x ∷ xs) ≡ little_from i n xs
from_up i zero x xs = refl
from_up i (suc n) x xs = let e = from_up (suc i) n x xs in rw e refl

-- the bytes of the number in the first n bytes
pub bytes-number : (n : ℕ) (xs : List ℕ) → n ≤ length xs → ((i : ℕ) → slice_index xs i < 256) → bytes_low_first 0 n (little_number n xs) ≡ take n xs
bytes-number zero xs h small = refl
bytes-number (suc n) [] h small = absurd (omega arith)
bytes-number (suc n) (x ∷ xs) h small =
    let b : x < 256 = small 0 in
    let up = from_up 0 n x xs in
    let low : (x + 256 * little_from 0 n xs) % 256 ≡ x = omega arith in
    let next = bytes_up 0 n x (little_from 0 n xs) b in
    let rest = bytes-number n xs (omega arith) (λ i. small (suc i)) in
    cc

-- the text of the numbers that were read from a text
pub text-numbers : (n : ℕ) (labels bytes : List ℕ) → length bytes ≡ n * length labels → ((i : ℕ) → slice_index bytes i < 256)
    → IsRead little_number n bytes labels → flat_map (bytes_low_first 0 n) labels ≡ bytes
text-numbers n [] [] e small read = refl
text-numbers n [] (c ∷ cs) e small read = absurd (omega arith)
text-numbers n (x ∷ xs) bytes e small read =
    let first : x ≡ little_number n bytes = rw mul-zero at (read 0 (omega arith)) in
    let own = bytes-number n bytes (omega arith) small in
    let next : (k : ℕ) → k < length xs → slice_index xs k ≡ little_number n (drop (n * k) (drop n bytes)) =
    λ k lt. let same : n + n * k ≡ n * suc k = omega arith in rw (drop-drop, same) (read (suc k) (omega arith)) in
    let rest = text-numbers n xs (drop n bytes) (rw length-drop (omega arith)) (λ i. rw get_or-drop (small (n + i))) next in
    rw (first, own, rest) (take-append-drop n bytes)

-- the text has n bytes for each label
pub length-text : (n : ℕ) (labels : List ℕ) → length (flat_map (bytes_low_first 0 n) labels) ≡ n * length labels
length-text n [] = omega arith
length-text n (x ∷ xs) =
    let rest = length-text n xs in
    let own = length-bytes_low_first 0 n x in
    rw (length-append, own, rest) (omega arith)

-- and gives each label back
pub text-number : (n : ℕ) (labels : List ℕ) (k : ℕ) → k < length labels → slice_index labels k < 256 ^ n
    → slice_index labels k ≡ little_number n (drop (n * k) (flat_map (bytes_low_first 0 n) labels))
text-number n [] k h fits = absurd (omega arith)
text-number n (x ∷ xs) zero h fits = rw mul-zero (sym (little_number-reads_back n x (flat_map (bytes_low_first 0 n) xs) fits))
text-number n (x ∷ xs) (suc k) h fits =
    let same : n * suc k ≡ length (bytes_low_first 0 n x) + n * k = omega (arith, length-bytes_low_first 0 n x) in
    rw (same, drop-append-add) (text-number n xs k (omega arith) fits)

one_more : (number : ℕ → ℕ) (labels : List ℕ) (p v k : ℕ) → p < length labels → v ≡ number p → ((k : ℕ) → k < p → slice_index labels k ≡ number k)
    → (k ≡ p) ⊎ (k < p) → slice_index (slice_set labels p v) k ≡ number k
one_more number labels p v k within e read (inl same) = rw same (get_or-set_same labels p v 0 within ∙ e)
one_more number labels p v k within e read (inr before) = get_or-set_other labels p k v 0 (λ same. omega (arith, same)) ∙ read k before

-- of the labels one more was read
pub read-one_more : (number : ℕ → ℕ) (labels : List ℕ) (p v : ℕ) → p < length labels → v ≡ number p → ((k : ℕ) → k < p → slice_index labels k ≡ number k)
    → (k : ℕ) → k < p + 1 → slice_index (slice_set labels p v) k ≡ number k
read-one_more number labels p v within e read k below =
    one_more number labels p v k within e read (eq-or-lt_of_le (omega (arith, below)))
