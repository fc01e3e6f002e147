-- The first fault.
use Rattle.std.proofs.Common.{arith, ◌≡◌, ◌≤◌, ◌<◌, ◌+◌, ◌*◌, ◌%◌, ℕ, zero, suc, List, length, true, false, not, ◌==◌, nat_lt, if◌then◌else◌, Option, Some, None, add-one, refl, ap, sym, ◌∙◌, inl, inr, ◌⊎◌}
use Rattle.std.proofs.Math.Nat.{eq-or-lt_of_le}
use Rattle.std.proofs.lemmas.Bool.{eq-eqb, le-ltb, ne_eqb}
use Rattle.std.specs.Option.{is_some, option_or}
use Rattle.ig_space.specs.declared.point.Point.{Point}
use Rattle.ig_space.specs.declared.geometry.Width.{Width}
use Rattle.ig_space.specs.declared.geometry.Width.TheVariants.{W8, W16, W32}
use Rattle.ig_cseg.specs.declared.fault.CsegFault.{CsegFault}
use Rattle.ig_cseg.specs.declared.fault.CsegFault.TheVariants.{NotWords, NoChannel, HeaderShort}
use Rattle.ig_cseg.specs.Cseg.{block_count, block_fault, channel, clipped, entry_len, fault_of, first_fault, word_count}

some_stays : (o p : Option CsegFault) → is_some o ≡ true → option_or o p ≡ o
some_stays None p e = absurd (cc)
some_stays (Some x) p e = refl

pub none_from : (o : Option CsegFault) → is_some o ≡ false → o ≡ None
none_from None e = refl
none_from (Some x) e = absurd (cc)

-- no fault so far, and none in one more
pub first-more : (f : ℕ → Option CsegFault) (n : ℕ) → first_fault f n ≡ None → f n ≡ None → first_fault f (n + 1) ≡ None
first-more f n before own = ap (first_fault f) (add-one n) ∙ ap (λ o. option_or o (f n)) before ∙ own

found_here : (f : ℕ → Option CsegFault) (k n : ℕ) → first_fault f k ≡ None → is_some (f k) ≡ true → (k < n → first_fault f n ≡ f k) → (k ≡ n) ⊎ (k < n) → first_fault f (suc n) ≡ f k
found_here f k n before own next (inl same) =
    ap (λ o. option_or o (f n)) (ap (first_fault f) (sym same) ∙ before) ∙ ap f (sym same)
found_here f k n before own next (inr l) = ap (λ o. option_or o (f n)) (next l) ∙ some_stays (f k) (f n) own

-- the first one found is that of all
pub first-found : (f : ℕ → Option CsegFault) (k n : ℕ) → first_fault f k ≡ None → is_some (f k) ≡ true → k < n → first_fault f n ≡ f k
first-found f k zero before own l = absurd (omega arith)
first-found f k (suc n) before own l = found_here f k n before own (first-found f k n before own) (eq-or-lt_of_le (omega (arith, l)))

-- of the widths that have one word, and of others
pub one_word : (width : Width) → (width ≡ W8) ⊎ ((width ≡ W16) ⊎ (width ≡ W32)) → 1 ≡ entry_len width
one_word width (inl e) = ap entry_len (sym e)
one_word width (inr (inl e)) = ap entry_len (sym e)
one_word width (inr (inr e)) = ap entry_len (sym e)

-- what is wrong with a file that has its headers
pub fault-of_blocks : (block : Point) (width : Width) (size : Point) (bytes : List ℕ) (n : ℕ) (fault : Option CsegFault) → length bytes % 4 ≡ 0 → (word_count bytes ≡ 0 → ⊥)
    → channel bytes + 2 * block_count size block ≤ word_count bytes → n ≡ entry_len width
    → fault ≡ first_fault (λ b. block_fault block (clipped size block b) n bytes b) (block_count size block) → fault ≡ fault_of block width size bytes
unfolding fault_of
fault-of_blocks block width size bytes n fault words some headers same e =
    let p : (length bytes % 4 == 0) ≡ true = eq-eqb (length bytes % 4) 0 words in
    let q : (word_count bytes == 0) ≡ false = ne_eqb (word_count bytes) 0 some in
    let r : nat_lt (word_count bytes) (channel bytes + 2 * block_count size block) ≡ false = le-ltb _ _ headers in
    let last = e ∙ ap (λ m. first_fault (λ b. block_fault block (clipped size block b) m bytes b) (block_count size block)) same in
    let D = first_fault (λ b. block_fault block (clipped size block b) (entry_len width) bytes b) (block_count size block) in
    last ∙ sym (
    ap (λ t. if not t then Some NotWords else if word_count bytes == 0 then Some NoChannel else if nat_lt (word_count bytes) (channel bytes + 2 * block_count size block) then Some HeaderShort else D) p
    ∙ ap (λ t. if t then Some NoChannel else if nat_lt (word_count bytes) (channel bytes + 2 * block_count size block) then Some HeaderShort else D) q
    ∙ ap (λ t. if t then Some HeaderShort else D) r
    )
