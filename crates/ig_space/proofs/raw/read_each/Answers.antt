use Rattle.std.proofs.Common.{arith, ◌*◌, drop, length-set, ◌∙◌, ap, sym}
use Rattle.std.proofs.lemmas.List.{take_rest}
use Rattle.byteorder.specs.Endian.{little_number}
use Rattle.ig_space.proofs.RawText.{read-one_more, text-numbers}
use Rattle.ig_space.proofs.raw.read_each.Goals as goal

pub loop-place-preserved : goal.loop-place-preserved
loop-place-preserved g c =
    let kept = c.loop-place.invariant in (
      length-set c.loop-place.labels c.loop-place.place c.read_uint.result ∙ kept.0,
      read-one_more (λ k. little_number g.row.N (drop (g.row.N * k) c.args.text.now)) c.loop-place.labels c.loop-place.place c.read_uint.result
          (omega (arith, c.loop-place-test.true, kept.0))
          (c.read_uint.ensures ∙ ap (little_number g.row.N) (take_rest c.args.text.now (g.row.N * c.loop-place.place))) kept.1,
    )

pub returns-clause-text : goal.returns-clause-text
returns-clause-text g c =
    let kept = c.loop-place.invariant in
    text-numbers g.row.N c.loop-place.labels c.args.text.now (c.requires.room ∙ ap (λ n. g.row.N * n) (sym kept.0))
    (λ i. let h = c.type_inv.text i in omega arith) (λ k h. kept.1 k (omega (arith, c.loop-place-test.false, kept.0)))
