use Rattle.std.proofs.Common.{arith, ◌≤◌, ◌+◌, ◌*◌, ◌++◌, ◌∷◌, [], slice_index, ap, sym, ◌∙◌}
use Rattle.std.proofs.Math.Nat.{mul-le-mul_right}
use Rattle.ig_space.specs.declared.geometry.Width.TheVariants.{W32}
use Rattle.ig_space.specs.Raw.{raw_text}
use Rattle.ig_cseg.specs.BlockText.{packed_words}
use Rattle.ig_cseg.specs.CsegText.{packed}
use Rattle.ig_cseg.proofs.Listing.{listed-more, packed-part}
use Rattle.ig_cseg.proofs.Texts.{text-more}
use Rattle.ig_cseg.proofs.pack.append_words.Goals as goal

pub loop-word-preserved : goal.loop-word-preserved
loop-word-preserved c =
    let bits = c.args.bits in
    let each = c.args.each in
    let indices = c.args.indices.now in
    let word = c.loop-word.word in
    let old = c.args.text.now.items in
    let done = packed_words bits each (slice_index indices) word in
    let whole : (word + 1) * each ≤ c.args.words * each = mul-le-mul_right each (omega (arith, c.loop-word-test.true)) in
    let own = c.pack.ensures ∙ packed-part bits (word * each) each indices (omega (arith, whole, c.requires.whole)) in
    c.in_ok-push_word.ensures ∙ text-more old done c.loop-word.text.items c.pack.result c.loop-word.invariant ∙ ap (λ w. old ++ raw_text W32 (done ++ w ∷ [])) own
    ∙ ap (λ ws. old ++ raw_text W32 ws) (sym (listed-more (λ w. packed bits (λ j. slice_index indices (w * each + j)) each) word))
