use Rattle.std.proofs.Common.{arith, ◌∙◌, ap, length}
use Rattle.ig_space.specs.declared.point.Point.{Point}
use Rattle.ig_space.specs.Geometry.{count}
use Rattle.ig_cseg.proofs.Volumes.{labels_fit, labels_right}
use Rattle.ig_cseg.proofs.decoder.decode.Goals as goal

pub returns-clause-labels : goal.returns-clause-labels
returns-clause-labels c =
    labels_right c.args.block c.args.width c.size-size.result c.args.bytes.now c.args.out.now c.unpack.new.labels c.size-size.ensures.size
    (c.unpack.auto.labels ∙ ap length c.labels_mut.ensures.value) c.unpack.ensures

pub returns-clause-fit : goal.returns-clause-fit
returns-clause-fit c =
    let long = c.unpack.auto.labels ∙ ap length c.labels_mut.ensures.value in
    let e = ap (λ (s : Point). count s) c.size-size.ensures.size in
    labels_fit c.args.block c.args.width c.size-size.result c.args.bytes.now c.args.out.now c.unpack.new.labels c.requires.wide (λ k. let h = c.type_inv.bytes k in omega arith)
    long (omega (arith, long, c.size-size.ensures.length, e)) c.unpack.ensures
