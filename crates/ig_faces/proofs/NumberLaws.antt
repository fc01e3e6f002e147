-- The bytes of a number give it back, and the number in some bytes gives them back.
use Rattle.std.proofs.Common.{arith, ◌≡◌, ◌≤◌, ◌<◌, ◌+◌, ◌*◌, ◌/◌, ◌%◌, ◌^◌, ℕ, zero, suc, List, [], ◌∷◌, length, take, slice_index, refl, ap}
use Rattle.std.proofs.Math.Nat.{div-div-eq-div-mul, pow-succ'}
use Rattle.std.specs.Int.{bytes_low_first, byte_at}
use Rattle.byteorder.specs.Numbers.{length-bytes_low_first, little_number-reads_back}
use Rattle.byteorder.specs.Endian.{little_bytes, little_from}
use Rattle.ig_faces.specs.Records.{number_in, ReadsBack}

-- the bytes of a number give it back
pub number-back : (n x : ℕ) → x < 256 ^ n → ReadsBack n (number_in n) (little_bytes n) x
unfolding number_in
number-back n x small = record {
  length = length-bytes_low_first 0 n x;
  back = λ rest. little_number-reads_back n x rest small;
}

-- a number with one byte more at its low end
byte_up : (i b m : ℕ) → b < 256 → byte_at (suc i) (b + 256 * m) ≡ byte_at i m
byte_up zero b m h =
    let d : (b + 256 * m) / 256 ≡ m = omega arith in
    ap (λ n. n % 256) d
byte_up (suc i) b m h =
    let d : (b + 256 * m) / 256 ≡ m = omega arith in
    rw (pow-succ' 256 (suc i), ← div-div-eq-div-mul (b + 256 * m) 256 (256 ^ suc i), d) refl

bytes_up : (i k b m : ℕ) → b < 256 → bytes_low_first (suc i) k (b + 256 * m) ≡ bytes_low_first i k m
bytes_up i zero b m h = refl
bytes_up i (suc k) b m h = let p = byte_up i b m h in let q = bytes_up (suc i) k b m h in cc

from_up : (i n x : ℕ) (xs : List ℕ) → little_from (suc i) n (x ∷ xs) ≡ little_from i n xs
from_up i zero x xs = refl
from_up i (suc n) x xs = let e = from_up (suc i) n x xs in rw e refl

-- the number in some bytes gives them back
bytes_back : (n : ℕ) (xs : List ℕ) → n ≤ length xs → ((i : ℕ) → slice_index xs i < 256) → bytes_low_first 0 n (little_from 0 n xs) ≡ take n xs
bytes_back zero xs h small = refl
bytes_back (suc n) [] h small = absurd (omega arith)
bytes_back (suc n) (x ∷ xs) h small =
    let b : x < 256 = small 0 in
    let up = from_up 0 n x xs in
    let low : (x + 256 * little_from 0 n xs) % 256 ≡ x = omega arith in
    let next = bytes_up 0 n x (little_from 0 n xs) b in
    let rest = bytes_back n xs (omega arith) (λ i. small (suc i)) in
    cc

pub bytes-back : (n : ℕ) (xs : List ℕ) → n ≤ length xs → ((i : ℕ) → slice_index xs i < 256) → little_bytes n (number_in n xs) ≡ take n xs
unfolding number_in
bytes-back n xs h small = bytes_back n xs h small
