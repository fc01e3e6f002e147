-- Words in bytes.
use Rattle.std.proofs.Common.{arith, ◌≡◌, ◌<◌, ◌*◌, ◌/◌, ◌%◌, ◌^◌, ℕ, List, [], ◌∷◌, ◌++◌, length, bit_and, refl, ap, sym, ◌∙◌, length-append, append_assoc}
use Rattle.std.proofs.lemmas.List.{append-nil}
use Rattle.std.proofs.lemmas.List.Concat.{flat_map-append}
use Rattle.std.proofs.lemmas.Nat.{and_mask}
use Rattle.std.specs.Int.{bytes_low_first}
use Rattle.byteorder.specs.Endian.{little_bytes}
use Rattle.byteorder.specs.Numbers.{length-bytes_low_first}
use Rattle.ig_space.specs.declared.geometry.Width.TheVariants.{W32}
use Rattle.ig_space.specs.Raw.{raw_text}
use Rattle.ig_cseg.specs.CsegText.{label_words}

pub text-append : (xs ys : List ℕ) → raw_text W32 (xs ++ ys) ≡ raw_text W32 xs ++ raw_text W32 ys
text-append xs ys = flat_map-append (bytes_low_first 0 4) xs ys

pub text-one : (w : ℕ) → raw_text W32 (w ∷ []) ≡ little_bytes 4 w
text-one w = append-nil (bytes_low_first 0 4 w)

pub length-text : (ws : List ℕ) → length (raw_text W32 ws) ≡ 4 * length ws
length-text [] = refl
length-text (w ∷ ws) =
    let rest = length-text ws in
    let own = length-bytes_low_first 0 4 w in
    rw (length-append, own, rest) (omega arith)

-- what stands before the text of words, and one word more
pub text-more : (before ws text : List ℕ) (w : ℕ) → text ≡ before ++ raw_text W32 ws → text ++ little_bytes 4 w ≡ before ++ raw_text W32 (ws ++ w ∷ [])
text-more before ws text w e =
    ap (λ t. t ++ little_bytes 4 w) e ∙ append_assoc before (raw_text W32 ws) (little_bytes 4 w)
    ∙ ap (λ t. before ++ (raw_text W32 ws ++ t)) (sym (text-one w)) ∙ ap (λ t. before ++ t) (sym (text-append ws (w ∷ [])))

-- words after words
pub text-after : (before xs ys text : List ℕ) → text ≡ before ++ raw_text W32 xs → text ++ raw_text W32 ys ≡ before ++ raw_text W32 (xs ++ ys)
text-after before xs ys text e =
    ap (λ t. t ++ raw_text W32 ys) e ∙ append_assoc before (raw_text W32 xs) (raw_text W32 ys) ∙ ap (λ t. before ++ t) (sym (text-append xs ys))

-- ---- a label in its words
pub label-one : (n label low : ℕ) (old new : List ℕ) → n ≡ 1 → low ≡ bit_and label 4294967295 → new ≡ old ++ little_bytes 4 low → new ≡ old ++ raw_text W32 (label_words n label)
label-one n label low old new one l e =
    let part : low ≡ label % 2 ^ 32 = l ∙ and_mask label 32 in
    e ∙ ap (λ w. old ++ little_bytes 4 w) part ∙ ap (λ t. old ++ t) (sym (text-one (label % 2 ^ 32))) ∙ ap (λ m. old ++ raw_text W32 (label_words m label)) (sym one)

pub label-two : (n label low high : ℕ) (old mid new : List ℕ) → n ≡ 2 → label < 2 ^ 64 → low ≡ bit_and label 4294967295 → high ≡ label / 2 ^ 32
    → mid ≡ old ++ little_bytes 4 low → new ≡ mid ++ little_bytes 4 high → new ≡ old ++ raw_text W32 (label_words n label)
label-two n label low high old mid new two fits l h e f =
    let part : high ≡ label / 2 ^ 32 % 2 ^ 32 = omega (arith, h) in
    let first = label-one 1 label low old mid refl l e in
    f ∙ text-more old ((label % 2 ^ 32) ∷ []) mid high first ∙ ap (λ w. old ++ raw_text W32 ((label % 2 ^ 32) ∷ w ∷ [])) part
    ∙ ap (λ m. old ++ raw_text W32 (label_words m label)) (sym two)
