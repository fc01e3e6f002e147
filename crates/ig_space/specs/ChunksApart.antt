-- Chunks with different boxes have different names.
use Rattle.std.proofs.Common.{arith, ◌≡◌, ◌<◌, ◌+◌, ◌^◌, ◌%◌, ℕ, true, false, not, ◌==◌, List, [], ◌∷◌, ◌++◌, refl, ◌∙◌}
use Rattle.std.proofs.lemmas.Bool.{and_parts, and_from}
use Rattle.std.proofs.lemmas.Bool.Decides.{nat_tests}
use Rattle.std.proofs.lemmas.Fmt.{decimal_by_steps, decimal_injective}
use Rattle.std.proofs.lemmas.List.Folds.{list_all-append}
use Rattle.std.specs.Fmt.{decimal}
use Rattle.ig_space.specs.Chunk.{lacks, span_text, chunk_name}
use Rattle.ig_space.specs.declared.point.Box3.{Box3}
use Rattle.ig_space.specs.Grid.{IsBox}

not_self : (x c : ℕ) → x ≡ c → not (x == c) ≡ false
not_self x c e = grind (arith, nat_tests)

-- two texts, each cut at its first c
pub cut_once : (c : ℕ) (us vs xs ys : List ℕ) → lacks c us ≡ true → lacks c vs ≡ true → us ++ c ∷ xs ≡ vs ++ c ∷ ys → (us ≡ vs) × (xs ≡ ys)
cut_once c [] [] xs ys h k e = let t : xs ≡ ys = cc in (refl, t)
cut_once c [] (v ∷ vs) xs ys h k e =
    let same : v ≡ c = cc in
    let none = not_self v c same in
    let some = (and_parts (not (v == c)) (lacks c vs) k).0 in
    absurd (cc)
cut_once c (u ∷ us) [] xs ys h k e =
    let same : u ≡ c = cc in
    let none = not_self u c same in
    let some = (and_parts (not (u == c)) (lacks c us) h).0 in
    absurd (cc)
cut_once c (u ∷ us) (v ∷ vs) xs ys h k e =
    let first : u ≡ v = cc in
    let tail : us ++ c ∷ xs ≡ vs ++ c ∷ ys = cc in
    let rest = cut_once c us vs xs ys ((and_parts (not (u == c)) (lacks c us) h).1) ((and_parts (not (v == c)) (lacks c vs) k).1) tail in
    let front : us ≡ vs = rest.0 in
    let all : u ∷ us ≡ v ∷ vs = cc in
    (all, rest.1)

lacks-more : (c : ℕ) (xs ys : List ℕ) → lacks c xs ≡ true → lacks c ys ≡ true → lacks c (xs ++ ys) ≡ true
lacks-more c xs ys h k = list_all-append (λ x. not (x == c)) xs ys ∙ and_from _ _ h k

-- a byte that is no digit is in no numeral
pub lacks-decimal : (c n : ℕ) → ((d : ℕ) → d < 10 → not (48 + d == c) ≡ true) → n < 2 ^ 64 → lacks c (decimal n) ≡ true
lacks-decimal c n no_digit =
    decimal_by_steps (λ _ ds. lacks c ds ≡ true) (λ m h. and_from _ _ (no_digit m h) refl)
    (λ m ds big h. lacks-more c ds ((48 + m % 10) ∷ []) h (and_from _ _ (no_digit (m % 10) (omega arith)) refl)) n

pub not_dash : (d : ℕ) → d < 10 → not (48 + d == 45) ≡ true
not_dash d h = grind (arith, nat_tests)

not_line : (d : ℕ) → d < 10 → not (48 + d == 95) ≡ true
not_line d h = grind (arith, nat_tests)

pub lacks-span : (lo hi : ℕ) → lo < 2 ^ 64 → hi < 2 ^ 64 → lacks 95 (span_text lo hi) ≡ true
lacks-span lo hi h k = lacks-more 95 (decimal lo) (45 ∷ decimal hi) (lacks-decimal 95 lo not_line h) (and_from _ _ refl (lacks-decimal 95 hi not_line k))

span-injective : (a b c d : ℕ) → a < 2 ^ 64 → b < 2 ^ 64 → c < 2 ^ 64 → d < 2 ^ 64 → span_text a b ≡ span_text c d → (a ≡ c) × (b ≡ d)
span-injective a b c d ha hb hc hd e =
    let cut = cut_once 45 (decimal a) (decimal c) (decimal b) (decimal d) (lacks-decimal 45 a not_dash ha) (lacks-decimal 45 c not_dash hc) e in
    (decimal_injective a c ha hc cut.0, decimal_injective b d hb hd cut.1)

box : ℕ → ℕ → ℕ → ℕ → ℕ → ℕ → Box3
box lx hx ly hy lz hz = record { lo = record { x = lx; y = ly; z = lz }; hi = record { x = hx; y = hy; z = hz } }

same_boxes : (a b c d e f g h i j k l : ℕ) → a ≡ b → c ≡ d → e ≡ f → g ≡ h → i ≡ j → k ≡ l → box a c e g i k ≡ box b d f h j l
same_boxes a b c d e f g h i j k l p q r s t u = cc

same_box : (a b : Box3) → a.lo.x ≡ b.lo.x → a.hi.x ≡ b.hi.x → a.lo.y ≡ b.lo.y → a.hi.y ≡ b.hi.y → a.lo.z ≡ b.lo.z → a.hi.z ≡ b.hi.z → a ≡ b
unfolding box
same_box a b lx hx ly hy lz hz = same_boxes a.lo.x b.lo.x a.hi.x b.hi.x a.lo.y b.lo.y a.hi.y b.hi.y a.lo.z b.lo.z a.hi.z b.hi.z lx hx ly hy lz hz

-- all coordinates are small numbers
pub record IsSmall (b : Box3) : Type 0 where
  pub lx : b.lo.x < 2 ^ 64
  pub hx : b.hi.x < 2 ^ 64
  pub ly : b.lo.y < 2 ^ 64
  pub hy : b.hi.y < 2 ^ 64
  pub lz : b.lo.z < 2 ^ 64
  pub hz : b.hi.z < 2 ^ 64

pub small : (b : Box3) → IsBox b → IsSmall b
small b h = record { lx = omega arith; hx = omega arith; ly = omega arith; hy = omega arith; lz = omega arith; hz = omega arith }

-- also of boxes that hold nothing
pub chunk_name-apart : (a b : Box3) → IsSmall a → IsSmall b → chunk_name a ≡ chunk_name b → a ≡ b
chunk_name-apart a b s t e =
    let span = span_text in
    let p = cut_once 95 (span a.lo.x a.hi.x) (span b.lo.x b.hi.x) (span a.lo.y a.hi.y ++ 95 ∷ span a.lo.z a.hi.z) (span b.lo.y b.hi.y ++ 95 ∷ span b.lo.z b.hi.z)
    (lacks-span a.lo.x a.hi.x s.lx s.hx) (lacks-span b.lo.x b.hi.x t.lx t.hx) e in
    let q = cut_once 95 (span a.lo.y a.hi.y) (span b.lo.y b.hi.y) (span a.lo.z a.hi.z) (span b.lo.z b.hi.z)
    (lacks-span a.lo.y a.hi.y s.ly s.hy) (lacks-span b.lo.y b.hi.y t.ly t.hy) p.1 in
    let x = span-injective a.lo.x a.hi.x b.lo.x b.hi.x s.lx s.hx t.lx t.hx p.0 in
    let y = span-injective a.lo.y a.hi.y b.lo.y b.hi.y s.ly s.hy t.ly t.hy q.0 in
    let z = span-injective a.lo.z a.hi.z b.lo.z b.hi.z s.lz s.hz t.lz t.hz q.1 in
    same_box a b x.0 x.1 y.0 y.1 z.0 z.1

pub chunk_name-injective : (a b : Box3) → IsBox a → IsBox b → chunk_name a ≡ chunk_name b → a ≡ b
chunk_name-injective a b ha hb = chunk_name-apart a b (small a ha) (small b hb)
