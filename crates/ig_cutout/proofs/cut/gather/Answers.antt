use Rattle.std.proofs.Common.{arith, ◌≡◌, ◌++◌, take, drop, length, ap, sym, ◌∙◌}
use Rattle.std.proofs.Math.Seq.{take-append_seam}
use Rattle.ig_space.specs.Geometry.{count}
use Rattle.ig_cutout.proofs.Parts.{part-copied, part-meets}
use Rattle.ig_cutout.proofs.cut.gather.Goals as goal

pub copy_common-requires-clause-meets : goal.copy_common-requires-clause-meets
copy_common-requires-clause-meets c = part-meets c.args.area c.args.chunk c.requires.within

pub returns : goal.returns
returns c =
    let own = c.in_ok-own.own.items in
    let new = c.copy_common.new.labels in
    let long : length new ≡ c.in_ok-own.own.len = let h = c.copy_common.auto.labels in let k = c.deref_mut.ensures.len in omega (arith, h, k) in
    let few : length c.deref_mut.result.now ≡ c.count.result = let h = c.copy_common.ensures.copied.long in let k = c.in_ok-own.ensures.len in omega (arith, h, k, long) in
    ap (λ n. take n (new ++ drop (length new) own)) (sym long) ∙ take-append_seam new (drop (length new) own)
    ∙ part-copied c.args.area c.args.chunk c.args.labels.now c.deref_mut.result.now new (record { within = c.requires.within; long = c.requires.length }) (few ∙ c.count.ensures ∙ ap count c.size_of.ensures) c.copy_common.ensures.copied
