-- Words that are written over a text.
use Rattle.std.proofs.Common.{arith, ◌≡◌, ◌≤◌, ◌<◌, ◌+◌, ◌-◌, ◌*◌, ◌%◌, ◌^◌, ℕ, zero, suc, List, [], ◌∷◌, ◌++◌, length, take, drop, replicate, slice_set, bit_or, refl, ap, sym, ◌∙◌, append_assoc, length-append, length-drop}
use Rattle.std.proofs.lemmas.List.{append-nil, drop-drop, drop_all, drop_at, length-take-le, take_at, take_rest}
use Rattle.std.proofs.lemmas.Nat.{or_shifted}
use Rattle.ig_space.specs.declared.geometry.Width.TheVariants.{W32}
use Rattle.ig_space.specs.Raw.{raw_text}
use borrow.Rule.Slice.PartMut.{put_mid}

-- the word of bits and a place
pub first-word : (bits table : ℕ) → bits ≤ 32 → table < 2 ^ 24 → bit_or (bits * 2 ^ 24 % 2 ^ 64) table ≡ table + 2 ^ 24 * bits
first-word bits table few small =
    let whole : bits * 2 ^ 24 % 2 ^ 64 ≡ bits * 2 ^ 24 = omega arith in
    let sum : bits * 2 ^ 24 + table ≡ table + 2 ^ 24 * bits = omega arith in
    ap (λ n. bit_or n table) whole ∙ or_shifted bits 24 table small ∙ sum

-- four bytes that are written at a place
pub put-four : (a : ℕ) (xs ys bs : List ℕ) → a + 4 ≤ length xs → ys ≡ bs ++ drop 4 (take (length xs - a) (drop a xs)) → put_mid a (length xs - a) xs ys ≡ take a xs ++ (bs ++ drop (a + 4) xs)
put-four a xs ys bs room e =
    let rest : drop 4 (take (length xs - a) (drop a xs)) ≡ drop (a + 4) xs = ap (drop 4) (take_rest xs a) ∙ drop-drop 4 a xs in
    let past : drop (length xs - a) (drop a xs) ≡ [] = drop_all (length xs - a) (drop a xs) (omega (arith, length-drop a xs)) in
    ap (λ t. take a xs ++ (ys ++ t)) past ∙ ap (λ t. take a xs ++ t) (append-nil ys) ∙ ap (λ t. take a xs ++ t) (e ∙ ap (λ t. bs ++ t) rest)

-- and four more after them
pub put-eight : (a b : ℕ) (xs mid ys bs cs : List ℕ) → b ≡ a + 4 → length bs ≡ 4 → a + 8 ≤ length xs → mid ≡ take a xs ++ (bs ++ drop (a + 4) xs)
    → ys ≡ cs ++ drop 4 (take (length mid - b) (drop b mid)) → put_mid b (length mid - b) mid ys ≡ take a xs ++ (bs ++ (cs ++ drop (a + 8) xs))
put-eight a b xs mid ys bs cs at four room e f =
    let first : mid ≡ (take a xs ++ bs) ++ drop (a + 4) xs = e ∙ sym (append_assoc (take a xs) bs (drop (a + 4) xs)) in
    let long : length (take a xs ++ bs) ≡ b = omega (arith, length-append (take a xs) bs, length-take-le a xs (omega (arith, room)), four, at) in
    let before : take b mid ≡ take a xs ++ bs = ap (take b) first ∙ take_at (take a xs ++ bs) (drop (a + 4) xs) b long in
    let after : drop b mid ≡ drop (a + 4) xs = ap (drop b) first ∙ drop_at (take a xs ++ bs) (drop (a + 4) xs) b long in
    let rest : drop (b + 4) mid ≡ drop (a + 8) xs = sym (drop-drop 4 b mid) ∙ ap (drop 4) after ∙ drop-drop 4 (a + 4) xs ∙ ap (λ n. drop n xs) (omega arith) in
    let fits : length mid ≡ length xs = ap length first ∙ length-append (take a xs ++ bs) (drop (a + 4) xs) ∙ omega (arith, long, at, length-drop (a + 4) xs, room) in
    put-four b mid ys cs (omega (arith, fits, at, room)) f ∙ ap (λ t. t ++ (cs ++ drop (b + 4) mid)) before ∙ append_assoc (take a xs) bs (cs ++ drop (b + 4) mid)
    ∙ ap (λ t. take a xs ++ (bs ++ (cs ++ t))) rest

-- ---- zeros
pub text-zeros : (n : ℕ) → raw_text W32 (replicate n 0) ≡ replicate (4 * n) 0
text-zeros zero = refl
text-zeros (suc n) =
    let rest = text-zeros n in
    let next : 4 * suc n ≡ suc (suc (suc (suc (4 * n)))) = omega arith in
    ap (λ t. 0 ∷ 0 ∷ 0 ∷ 0 ∷ t) rest ∙ sym (ap (λ m. replicate m 0) next)

pub text-begun : (n m : ℕ) (xs : List ℕ) → xs ≡ replicate m 0 → m ≡ 4 + 8 * n → slice_set xs 0 1 ≡ raw_text W32 (1 ∷ replicate (2 * n) 0)
text-begun n m xs e many =
    let next : m ≡ suc (suc (suc (suc (4 * (2 * n))))) = omega arith in
    ap (λ t. slice_set t 0 1) (e ∙ ap (λ k. replicate k 0) next) ∙ ap (λ t. 1 ∷ 0 ∷ 0 ∷ 0 ∷ t) (sym (text-zeros (2 * n)))
