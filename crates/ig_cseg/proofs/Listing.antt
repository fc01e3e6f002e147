-- Lists of the values at 0, 1, .. below a number.
use Rattle.std.proofs.Common.{arith, ◌≡◌, ◌≤◌, ◌<◌, ◌+◌, ◌-◌, ◌*◌, ◌%◌, ◌^◌, ℕ, zero, suc, add-one, List, [], ◌∷◌, ◌++◌, length, take, drop, slice_index, bit_or, refl, ap, sym, ◌∙◌, append_assoc, length-drop}
use Rattle.std.proofs.Math.Nat.{mul_comm}
use Rattle.std.proofs.lemmas.Nat.{or_comm, or_shifted, shl_whole}
use Rattle.std.proofs.lemmas.List.{append-nil, ext_get_or, get_or-drop, get_or-take, length-take-le}
use Rattle.ig_space.specs.Chunks.{listed}
use Rattle.ig_cseg.specs.CsegText.{packed}
use Rattle.ig_cseg.specs.Packing.{packed-below}
use Rattle.ig_cseg.specs.Pieces.{listed-at}
use Rattle.ig_cseg.specs.TextSizes.{length-listed}

pub listed-same : (f g : ℕ → ℕ) (n : ℕ) → ((k : ℕ) → k < n → f k ≡ g k) → listed f n ≡ listed g n
listed-same f g zero h = refl
listed-same f g (suc n) h =
    let before = listed-same f g n (λ k l. h k (omega (arith, l))) in
    let own = h n (omega arith) in
    cc

pub listed-more : (f : ℕ → ℕ) (n : ℕ) → listed f (n + 1) ≡ listed f n ++ f n ∷ []
listed-more f n = ap (listed f) (add-one n)

pub listed-append : (f : ℕ → ℕ) (n m : ℕ) → listed f (n + m) ≡ listed f n ++ listed (λ k. f (n + k)) m
listed-append f n zero =
    let same : n + 0 ≡ n = omega arith in
    ap (listed f) same ∙ sym (append-nil (listed f n))
listed-append f n (suc m) =
    let next : n + suc m ≡ suc (n + m) = omega arith in
    ap (listed f) next ∙ ap (λ xs. xs ++ f (n + m) ∷ []) (listed-append f n m) ∙ append_assoc (listed f n) (listed (λ k. f (n + k)) m) (f (n + m) ∷ [])

-- m numbers of a list from a on
pub part-listed : (a m : ℕ) (xs : List ℕ) → a + m ≤ length xs → take m (drop a xs) ≡ listed (λ k. slice_index xs (a + k)) m
part-listed a m xs room =
    let f : ℕ → ℕ = λ k. slice_index xs (a + k) in
    let long : length (take m (drop a xs)) ≡ m = length-take-le m (drop a xs) (omega (arith, length-drop a xs)) in
    ext_get_or 0 (take m (drop a xs)) (listed f m) (long ∙ sym (length-listed f m))
    (λ k l. get_or-take m (drop a xs) k 0 (omega (arith, l, long)) ∙ get_or-drop a xs k 0 ∙ sym (listed-at f m k (omega (arith, l, long))))

pub packed-same : (bits : ℕ) (f g : ℕ → ℕ) (n : ℕ) → ((k : ℕ) → k < n → f k ≡ g k) → packed bits f n ≡ packed bits g n
packed-same bits f g zero h = refl
packed-same bits f g (suc n) h =
    let before = packed-same bits f g n (λ k l. h k (omega (arith, l))) in
    let own = h n (omega arith) in
    cc

-- one more index above the others
pub packed-or : (bits : ℕ) (f : ℕ → ℕ) (n i : ℕ) → ((k : ℕ) → k < n → f k < 2 ^ bits) → i < 2 ^ bits → i ≡ f n → bits * (n + 1) ≤ 64
    → bit_or (packed bits f n) (i * 2 ^ (bits * n) % 2 ^ 64) ≡ packed bits f (n + 1)
packed-or bits f n i h small own room =
    let low = packed-below bits f n h in
    let whole = shl_whole i bits (bits * n) 64 small (omega (arith, room)) in
    let joined = ap (bit_or (packed bits f n)) whole ∙ or_comm (packed bits f n) (i * 2 ^ (bits * n)) ∙ or_shifted i (bits * n) (packed bits f n) low in
    let last : i * 2 ^ (bits * n) ≡ 2 ^ (bits * n) * f n = ap (λ m. m * 2 ^ (bits * n)) own ∙ mul_comm (f n) (2 ^ (bits * n)) in
    let sum : i * 2 ^ (bits * n) + packed bits f n ≡ packed bits f n + 2 ^ (bits * n) * f n = omega (arith, last) in
    joined ∙ sum ∙ sym (ap (packed bits f) (add-one n))

-- a part of the indices
pub packed-part : (bits a each : ℕ) (xs : List ℕ) → a + each ≤ length xs
    → packed bits (slice_index (take (a + each - a) (drop a xs))) (length (take (a + each - a) (drop a xs))) ≡ packed bits (λ j. slice_index xs (a + j)) each
packed-part bits a each xs room =
    let long : a + each - a ≡ each = omega arith in
    let part = take each (drop a xs) in
    let own : length part ≡ each = length-take-le each (drop a xs) (omega (arith, length-drop a xs)) in
    ap (λ n. packed bits (slice_index (take n (drop a xs))) (length (take n (drop a xs)))) long ∙ ap (packed bits (slice_index part)) own
    ∙ packed-same bits (slice_index part) (λ j. slice_index xs (a + j)) each (λ j l. get_or-take each (drop a xs) j 0 l ∙ get_or-drop a xs j 0)
