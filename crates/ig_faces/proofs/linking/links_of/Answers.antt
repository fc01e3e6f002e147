use Rattle.ig_faces.specs.Linking.{IsLinked}
use Rattle.ig_faces.proofs.Linked.{linked-all}
use Rattle.ig_faces.proofs.linking.links_of.Goals as goal

pub returns-clause-each : goal.returns-clause-each
returns-clause-each c =
    linked-all (IsLinked c.args.axis c.args.high.now c.args.low.now c.args.own.now c.args.other.now) c.from_vec.result c.in_ok-links.links.items c.arrange.new.links.items
    c.from_vec.ensures c.arrange.ensures.same c.in_ok-links.ensures
