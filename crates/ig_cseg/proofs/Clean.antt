-- What a file without faults has.
use Rattle.std.proofs.Common.{arith, ◌≡◌, ◌≤◌, ◌<◌, ◌+◌, ◌*◌, ◌%◌, ℕ, zero, suc, List, length, Bool, true, false, not, ◌==◌, nat_lt, if◌then◌else◌, Option, Some, None, refl, ap, ◌∙◌, inl, inr, ◌⊎◌}
use Rattle.std.proofs.Math.Nat.{eq-or-lt_of_le}
use Rattle.std.proofs.lemmas.Bool.{eqb-false, ltb-false}
use Rattle.std.proofs.lemmas.Bool.Decides.{nat_tests}
use Rattle.std.specs.Option.{option_or}
use Rattle.ig_space.specs.declared.point.Point.{Point}
use Rattle.ig_space.specs.declared.geometry.Width.{Width}
use Rattle.ig_space.specs.Geometry.{count}
use Rattle.ig_cseg.specs.declared.fault.CsegFault.{CsegFault}
use Rattle.ig_cseg.specs.declared.fault.CsegFault.TheVariants.{NotWords, NoChannel, HeaderShort, BadBits, ValuesOutside, TableOutside}
use Rattle.ig_cseg.specs.Blocks.{HasEntries, IsReadable, row_count, row_position}
use Rattle.ig_cseg.specs.Cseg.{block_count, block_fault, channel, clipped, entry_len, entry_place, fault_of, first_fault, index_bits, is_lawful, is_outside, position_in, table_outside, values_outside, word_count}
use Rattle.ig_cseg.proofs.Rows.{row_voxel}
use Rattle.ig_cseg.proofs.Searches.{below-none}
use Rattle.ig_cseg.proofs.Tables.{row-values}

both_none : (o p : Option CsegFault) → option_or o p ≡ None → (o ≡ None) × (p ≡ None)
both_none None p e = (refl, e)
both_none (Some x) p e = absurd (cc)

last_or_before : (f : ℕ → Option CsegFault) (n k : ℕ) → f n ≡ None → (k < n → f k ≡ None) → (k ≡ n) ⊎ (k < n) → f k ≡ None
last_or_before f n k own before (inl same) = ap f same ∙ own
last_or_before f n k own before (inr l) = before l

-- no block has a fault
pub no-fault : (f : ℕ → Option CsegFault) (n : ℕ) → first_fault f n ≡ None → (k : ℕ) → k < n → f k ≡ None
no-fault f zero e k l = absurd (omega arith)
no-fault f (suc n) e k l =
    let both = both_none (first_fault f n) (f n) e in
    last_or_before f n k both.1 (no-fault f n both.0 k) (eq-or-lt_of_le (omega (arith, l)))

block_parts : (a b c : Bool) (n : ℕ) → (if not a then Some (BadBits n) else if b then Some (ValuesOutside n) else if c then Some (TableOutside n) else None) ≡ None
    → (a ≡ true) × (b ≡ false) × (c ≡ false)
block_parts true false false n e = (refl, refl, refl)
block_parts true false true n e = absurd (cc)
block_parts true true c n e = absurd (cc)
block_parts false b c n e = absurd (cc)

lawful-few : (bits : ℕ) → is_lawful bits ≡ true → bits ≤ 32
lawful-few bits e = grind (arith, nat_tests)

row-entries : (n : ℕ) (block clip : Point) (bytes : List ℕ) (b : ℕ) → table_outside block clip n bytes b ≡ false → (r : ℕ) → r < row_count clip
    → HasEntries n bytes b (row_position block clip r) clip.x
row-entries n block clip bytes b e r below x l =
    let v = row_voxel block clip r x below l in
    let own = below-none (λ k. is_outside bytes n (entry_place n bytes b (position_in block clip k))) (count clip) e (x + clip.x * r) v.below in
    let within = ltb-false _ _ own in
    let same = ap (entry_place n bytes b) v.position in
    omega (arith, within, same)

readable : (n : ℕ) (block clip : Point) (bytes : List ℕ) (b : ℕ) → block_fault block clip n bytes b ≡ None → IsReadable n block clip bytes b
readable n block clip bytes b e =
    let parts = block_parts (is_lawful (index_bits bytes b)) (values_outside block clip bytes b) (table_outside block clip n bytes b) b e in
    record {
      few = lawful-few (index_bits bytes b) parts.0;
      values = λ some. row-values bytes b (index_bits bytes b) block clip refl some parts.1;
      entries = row-entries n block clip bytes b parts.2;
    }

-- a file without faults has words, the headers of all blocks, and readable blocks
pub record IsClean (n : ℕ) (block size : Point) (bytes : List ℕ) : Type 0 where
  pub some : 1 ≤ word_count bytes
  pub headers : channel bytes + 2 * block_count size block ≤ word_count bytes
  pub blocks : (b : ℕ) → b < block_count size block → IsReadable n block (clipped size block b) bytes b

file_parts : (a b c : Bool) (d : Option CsegFault) → (if not a then Some NotWords else if b then Some NoChannel else if c then Some HeaderShort else d) ≡ None
    → (b ≡ false) × (c ≡ false) × (d ≡ None)
file_parts true false false d e = (refl, refl, e)
file_parts true false true d e = absurd (cc)
file_parts true true c d e = absurd (cc)
file_parts false b c d e = absurd (cc)

pub clean : (block : Point) (width : Width) (size : Point) (bytes : List ℕ) → fault_of block width size bytes ≡ None → IsClean (entry_len width) block size bytes
unfolding fault_of
clean block width size bytes e =
    let f = λ (b : ℕ). block_fault block (clipped size block b) (entry_len width) bytes b in
    let parts = file_parts (length bytes % 4 == 0) (word_count bytes == 0) (nat_lt (word_count bytes) (channel bytes + 2 * block_count size block)) (first_fault f (block_count size block)) e in
    let some : word_count bytes ≡ 0 → ⊥ = eqb-false (word_count bytes) 0 parts.0 in
    record {
      some = omega arith;
      headers = ltb-false _ _ parts.1;
      blocks = λ b l. readable (entry_len width) block (clipped size block b) bytes b (no-fault f (block_count size block) parts.2 b l);
    }
