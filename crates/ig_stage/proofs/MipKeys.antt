-- The keys of mips are paths, and short.
use Rattle.std.proofs.Common.{◌≡◌, ◌≤◌, ◌<◌, ◌*◌, ◌^◌, ◌-◌, ◌&&◌, ℕ, zero, suc, true, List, [], ◌∷◌, ◌++◌, length, decimal, nat_le, sym, subst, ◌∙◌, arith, lit<, lit≤, length-append}
use Rattle.std.proofs.Math.Nat.{le_trans, mul-le-mul, pow-succ'}
use Rattle.std.proofs.lemmas.Bool.{and_from, and_parts, leb-true}
use Rattle.std.proofs.lemmas.Fmt.{length-decimal-le}
use Rattle.std.proofs.lemmas.List.Folds.{list_all-append}
use Rattle.std.specs.List.{list_all}
use Rattle.ig_space.specs.declared.point.Point.{Point}
use Rattle.ig_space.specs.ChunkNames.{IsName, IsName-decimal, is_name_byte, is_path-segment, is_segment-name}
use Rattle.ig_space.specs.Geometry.{all_within}
use Rattle.ig_space.specs.Path.{is_path, within}
use Rattle.ig_record.specs.Sound.{most_mips}
use Rattle.ig_meaning.specs.Plan.{coarser, resolution_key}
use Rattle.ig_stage.specs.Mips.{CanDouble}

-- ---- the key
name-more : (xs ys : List ℕ) → IsName xs → list_all is_name_byte ys ≡ true → IsName (xs ++ ys)
name-more [] ys h k = let e = h.digit in absurd cc
name-more (c ∷ cs) ys h k = record {
  digit = h.digit;
  bytes = list_all-append is_name_byte (c ∷ cs) ys ∙ and_from _ _ h.bytes k;
}

name-joined : (xs ys : List ℕ) → IsName xs → IsName ys → IsName (xs ++ (95 ∷ ys))
name-joined xs ys h k = name-more xs (95 ∷ ys) h k.bytes

small-side : (n : ℕ) → n ≤ 2 ^ 40 → n < 2 ^ 64
small-side n h = omega (arith, h)

few-digits : (n : ℕ) → n ≤ 2 ^ 40 → length (decimal n) ≤ 13
few-digits n h = length-decimal-le 13 n (lit< tt) (omega arith) (omega arith)

-- three numbers of at most 13 digits
key-path : (x y z : ℕ) → x ≤ 2 ^ 40 → y ≤ 2 ^ 40 → z ≤ 2 ^ 40 → is_path (decimal x ++ (95 ∷ (decimal y ++ (95 ∷ decimal z)))) ≡ true
key-path x y z hx hy hz =
    let a = IsName-decimal x (small-side x hx) in
    let b = IsName-decimal y (small-side y hy) in
    let c = IsName-decimal z (small-side z hz) in
    let name = name-joined (decimal x) (decimal y ++ (95 ∷ decimal z)) a (name-joined (decimal y) (decimal z) b c) in
    let long = length-append (decimal x) (95 ∷ (decimal y ++ (95 ∷ decimal z))) in
    let longer = length-append (decimal y) (95 ∷ decimal z) in
    is_path-segment (decimal x ++ (95 ∷ (decimal y ++ (95 ∷ decimal z)))) (omega (arith, long, longer, few-digits x hx, few-digits y hy, few-digits z hz)) (is_segment-name _ name)

pub path_of_key : (p : Point) → CanDouble 0 p → is_path (resolution_key p) ≡ true
path_of_key p h = key-path p.x p.y p.z (omega (arith, h.x)) (omega (arith, h.y)) h.z

-- ---- doubling
power-some : (n : ℕ) → 1 ≤ 2 ^ n
power-some zero = lit≤ tt
power-some (suc n) = let two = pow-succ' 2 n in let some = power-some n in omega (arith, two, some)

twice-over : (a b x : ℕ) → a ≡ 2 * b → b * (2 * x) ≡ a * x
twice-over a b x e =
    let same : b * (2 * x) ≡ 2 * b * x = grind arith in
    subst (λ m. b * (2 * x) ≡ m * x) (sym e) same

double-side : (n x : ℕ) → 2 ^ suc n * x ≤ 2 ^ 40 → 2 ^ n * (2 * x) ≤ 2 ^ 40
double-side n x h = subst (λ m. m ≤ 2 ^ 40) (sym (twice-over (2 ^ suc n) (2 ^ n) x (pow-succ' 2 n))) h

many-more : (n x : ℕ) → 1 ≤ n → x ≤ n * x
many-more n x h = grind arith

once-side : (n x : ℕ) → 2 ^ suc n * x ≤ 2 ^ 40 → 2 * x ≤ 2 ^ 40
once-side n x h = le_trans (many-more (2 ^ n) (2 * x) (power-some n)) (double-side n x h)

pub can-double-once : (n : ℕ) (p : Point) → 0 < n → CanDouble n p → CanDouble 1 p
can-double-once zero p some h = absurd (omega (arith, some))
can-double-once (suc n) p some h = record { x = once-side n p.x h.x; y = once-side n p.y h.y; z = h.z }

pub can-double-less : (n : ℕ) (p : Point) → 0 < n → CanDouble n p → CanDouble (n - 1) (coarser p)
can-double-less zero p some h = absurd (omega (arith, some))
can-double-less (suc n) p some h =
    let less : suc n - 1 ≡ n = omega arith in
    subst (λ m. CanDouble m (coarser p)) (sym less) (record { x = double-side n p.x h.x; y = double-side n p.y h.y; z = h.z })

pub can-write : (p : Point) → CanDouble 1 p → CanDouble 0 (coarser p)
can-write p h = record { x = omega (arith, h.x); y = omega (arith, h.y); z = h.z }

few-times : (n : ℕ) → n ≤ most_mips → 2 ^ n ≤ 2 ^ 5
few-times zero few = lit≤ tt
few-times (suc zero) few = lit≤ tt
few-times (suc (suc zero)) few = lit≤ tt
few-times (suc (suc (suc zero))) few = lit≤ tt
few-times (suc (suc (suc (suc zero)))) few = lit≤ tt
few-times (suc (suc (suc (suc (suc zero))))) few = lit≤ tt
few-times (suc (suc (suc (suc (suc (suc n)))))) few = absurd (omega (arith, few))

often-side : (n x : ℕ) → n ≤ most_mips → x ≤ 2 ^ 32 → 2 ^ n * x ≤ 2 ^ 40
often-side n x few small =
    let room = few-times n few in
    let product : 2 ^ n * x ≤ 2 ^ 5 * 2 ^ 32 = mul-le-mul room small in
    le_trans product (lit≤ tt)

-- a resolution of an info can be doubled once for each mip
pub can-double-often : (n : ℕ) (p : Point) → n ≤ most_mips → all_within 1 (2 ^ 32) p ≡ true → CanDouble n p
can-double-often n p few h =
    let all = and_parts (within 1 (2 ^ 32) p.x && within 1 (2 ^ 32) p.y) (within 1 (2 ^ 32) p.z) h in
    let face = and_parts (within 1 (2 ^ 32) p.x) (within 1 (2 ^ 32) p.y) all.0 in
    let high = λ (n : ℕ) (w : within 1 (2 ^ 32) n ≡ true). leb-true n (2 ^ 32) (and_parts (nat_le 1 n) (nat_le n (2 ^ 32)) w).1 in
    record {
      x = often-side n p.x few (high p.x face.0);
      y = often-side n p.y few (high p.y face.1);
      z = le_trans (high p.z all.1) (lit≤ tt);
    }
