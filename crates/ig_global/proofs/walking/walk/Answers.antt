use Rattle.std.proofs.Common.{ℕ, List, length, sym, subst, ap, ◌∙◌}
use Rattle.ig_graph.specs.Sets.{each_alone, AreClasses}
use Rattle.ig_graph.specs.SetLaws.{alone-joined}
use Rattle.ig_global.specs.EdgeGraph.{AreWithin, edge_graph}
use Rattle.ig_global.specs.Unions.{all_united}
use Rattle.ig_global.proofs.UnionLaws.{walked-classes, classes-below}
use Rattle.ig_global.proofs.walking.walk.Goals as goal
use Rattle.ig_global.proofs.walking.walk.Goals.{After-from_vec}

classes : (c : After-from_vec) → AreClasses (edge_graph c.args.nodes c.args.edges.now) c.from_vec.result
classes c =
    let is = c.from_vec.ensures ∙ c.into_classes.ensures ∙ c.join_all.ensures ∙ ap (λ (sets : List ℕ). all_united sets c.as_slice.result.now) c.in_ok-sets.ensures
    ∙ ap (all_united (each_alone c.args.nodes)) c.as_slice.ensures in
    subst (AreClasses (edge_graph c.args.nodes c.args.edges.now)) (sym is) (walked-classes c.args.nodes c.args.edges.now c.requires.within)

pub join_all-requires : goal.join_all-requires
join_all-requires c =
    let long = ap length c.in_ok-sets.ensures ∙ (alone-joined (edge_graph c.args.nodes c.args.edges.now)).length in
    subst (λ (n : ℕ). AreWithin n c.as_slice.result.now) (sym long) (subst (AreWithin c.args.nodes) (sym c.as_slice.ensures) c.requires.within)

pub returns-clause-classes : goal.returns-clause-classes
returns-clause-classes c = classes (goal.at.returns-clause-classes c).After-from_vec

pub returns-clause-below : goal.returns-clause-below
returns-clause-below c =
    classes-below (edge_graph c.args.nodes c.args.edges.now) c.from_vec.result (classes (goal.at.returns-clause-below c).After-from_vec)
