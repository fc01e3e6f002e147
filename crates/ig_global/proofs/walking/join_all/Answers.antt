use Rattle.std.proofs.Common.{length, take, ap, ◌∙◌, arith}
use Rattle.ig_global.proofs.UnionLaws.{length-all_united}
use Rattle.ig_global.proofs.walking.join_all.Goals as goal

pub join-requires-clause-a_below : goal.join-requires-clause-a_below
join-requires-clause-a_below c =
    let long = ap length c.loop-edge.invariant ∙ length-all_united (take c.loop-edge.edge-index c.args.edges.now) c.args.sets.now in
    omega (arith, long, (c.requires c.loop-edge.edge-index c.loop-edge-test.true).0)

pub join-requires-clause-b_below : goal.join-requires-clause-b_below
join-requires-clause-b_below c =
    let long = ap length c.loop-edge.invariant ∙ length-all_united (take c.loop-edge.edge-index c.args.edges.now) c.args.sets.now in
    omega (arith, long, (c.requires c.loop-edge.edge-index c.loop-edge-test.true).1)
