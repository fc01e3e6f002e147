use Rattle.std.proofs.Common.{arith}
use Rattle.ig_graph.proofs.ForestLaws.{both-found, united-less, united-more, AreFound}
use Rattle.ig_graph.proofs.sets.join.Goals as goal
use Rattle.ig_graph.proofs.sets.join.Goals.{After-find-b}

found : (c : After-find-b) → AreFound c.args.parents.now c.find-b.new.parents c.args.a c.args.b c.find-a.result c.find-b.result
found c =
    both-found c.args.parents.now c.find-a.new.parents c.find-b.new.parents c.args.a c.args.b c.find-a.result c.find-b.result
    c.requires.parents c.find-a.ensures.same c.find-b.ensures.same c.requires.a_below c.requires.b_below c.find-a.ensures.top c.find-b.ensures.top

pub bounds-parents-b : goal.bounds-parents-b
bounds-parents-b c = let f = found (goal.at.bounds-parents-b c).After-find-b in omega (arith, f.y_below, f.same.size)

pub bounds-parents-a : goal.bounds-parents-a
bounds-parents-a c = let f = found (goal.at.bounds-parents-a c).After-find-b in omega (arith, f.x_below, f.same.size)

pub returns-then-a-b-clause-united : goal.returns-then-a-b-clause-united
returns-then-a-b-clause-united c =
    united-less c.args.parents.now c.find-b.new.parents c.args.a c.args.b c.find-a.result c.find-b.result (found (goal.at.returns-then-a-b-clause-united c).After-find-b) c.if-a-b.true

pub returns-else-a-b-clause-united : goal.returns-else-a-b-clause-united
returns-else-a-b-clause-united c =
    united-more c.args.parents.now c.find-b.new.parents c.args.a c.args.b c.find-a.result c.find-b.result (found (goal.at.returns-else-a-b-clause-united c).After-find-b) c.if-a-b.false
