-- Steps of the loops over mips: what is done so far, and what is left.
use Rattle.std.proofs.Common.{◌≡◌, ◌<◌, ◌-◌, ◌+◌, ℕ, zero, suc, List, [], ◌∷◌, ◌++◌, length, drop, get_or, Result, Ok, ap, sym, subst, ◌∙◌, arith, append_assoc, append-nil}
use Rattle.std.proofs.Math.Seq.{drop-cons}
use Rattle.ig_info.specs.declared.error.InfoError.{InfoError}
use Rattle.ig_info.specs.declared.scale.Scale.{Scale}
use Rattle.ig_info.specs.Added.{HasWidth, added}
use Rattle.ig_info.specs.Answer.{◌>>=◌}
use Rattle.ig_info.specs.Info.{InfoData}
use Rattle.ig_meaning.specs.Plan.{all_added, mip_of, mips_of}
use Rattle.ig_stage.specs.Mips.{AreAsWide}

-- ---- so many mips
pub mips-begin : (n : ℕ) (s last : Scale) (mips : List Scale) → mips ≡ [] → last ≡ s → mips_of n s ≡ mips ++ mips_of n last
mips-begin n s last mips none same = ap (mips_of n) (sym same) ∙ ap (λ xs. xs ++ mips_of n last) (sym none)

one-less : (k : ℕ) (last : Scale) (mips : List Scale) → 0 < k → mips ++ mips_of k last ≡ (mips ++ mip_of last ∷ []) ++ mips_of (k - 1) (mip_of last)
one-less zero last mips some = absurd (omega (arith, some))
one-less (suc k) last mips some =
    let less : suc k - 1 ≡ k = omega arith in
    subst (λ m. mips ++ mips_of (suc k) last ≡ (mips ++ mip_of last ∷ []) ++ mips_of m (mip_of last)) (sym less) (sym (append_assoc mips (mip_of last ∷ []) (mips_of k (mip_of last))))

pub mips-go_on : (n k : ℕ) (s last next copy : Scale) (mips more : List Scale) → 0 < k → next ≡ mip_of last → copy ≡ next → more ≡ mips ++ copy ∷ []
    → mips_of n s ≡ mips ++ mips_of k last → mips_of n s ≡ more ++ mips_of (k - 1) next
mips-go_on n k s last next copy mips more some is same grown so_far =
    so_far ∙ one-less k last mips some ∙ ap (λ (m : Scale). (mips ++ m ∷ []) ++ mips_of (k - 1) m) (sym is)
    ∙ ap (λ (m : Scale). (mips ++ m ∷ []) ++ mips_of (k - 1) next) (sym same) ∙ ap (λ xs. xs ++ mips_of (k - 1) next) (sym grown)

pub mips-end : (n k : ℕ) (s last : Scale) (mips : List Scale) → k ≡ 0 → mips_of n s ≡ mips ++ mips_of k last → mips ≡ mips_of n s
mips-end n k s last mips none so_far = sym (so_far ∙ ap (λ m. mips ++ mips_of m last) none ∙ append-nil mips)

-- their labels are as wide as the scale's
wide-at : (n k : ℕ) (s d : Scale) (old : List Scale) → HasWidth old s.geometry.width → k < length (mips_of n s) → HasWidth old (get_or (mips_of n s) k d).geometry.width
wide-at zero k s d old h few = absurd (omega (arith, few))
wide-at (suc n) zero s d old h few = h
wide-at (suc n) (suc k) s d old h few = wide-at n k (mip_of s) d old h (omega (arith, few))

pub wide-mips : (n : ℕ) (s : Scale) (old : List Scale) → HasWidth old s.geometry.width → AreAsWide old (mips_of n s)
wide-mips n s old h = λ k d few. wide-at n k s d old h few

-- ---- a list of scales, one after the other
-- what is left begins with this one
left : (scales items : List Scale) (n : ℕ) (s : Scale) → items ≡ scales → n < length items → s ≡ get_or items n s → drop n scales ≡ s ∷ drop (n + 1) scales
left scales items n s same few is =
    let below : n < length scales = subst (λ (xs : List Scale). n < length xs) same few in
    let here : s ≡ get_or scales n s = is ∙ ap (λ (xs : List Scale). get_or xs n s) same in
    let next : suc n ≡ n + 1 = omega arith in
    drop-cons scales n s below ∙ ap (λ (x : Scale). x ∷ drop (suc n) scales) (sym here) ∙ ap (λ m. s ∷ drop m scales) next

-- ---- scales that are added
pub adds-one : (more new : InfoData) (scales items : List Scale) (n : ℕ) (s : Scale) → items ≡ scales → n < length items → s ≡ get_or items n s → added more s ≡ Ok new
    → all_added more (drop n scales) ≡ all_added new (drop (n + 1) scales)
adds-one more new scales items n s same few is e =
    ap (all_added more) (left scales items n s same few is) ∙ ap (λ (r : Result InfoData InfoError). r >>= λ m. all_added m (drop (n + 1) scales)) e
