use Rattle.std.proofs.Common.{◌≡◌, ◌<◌, ℕ, List, length, sym, subst, ap, ◌∙◌}
use Rattle.ig_graph.specs.Forest.{tops}
use Rattle.ig_graph.proofs.ForestLaws.{length-tops}
use Rattle.ig_graph.proofs.sets.DisjointSets.join.Goals as goal

below : (sets parents slice : List ℕ) (i : ℕ) → tops parents ≡ sets → slice ≡ parents → i < length sets → i < length slice
below sets parents slice i view same l =
    subst (λ n. i < n) (ap length (sym view) ∙ length-tops parents ∙ ap length (sym same)) l

pub join-requires-clause-a_below : goal.join-requires-clause-a_below
join-requires-clause-a_below c = below c.args.self.now c.self.inside.parents.items _ c.args.a c.self.view_is c.as_mut_slice.ensures.value c.requires.a_below

pub join-requires-clause-b_below : goal.join-requires-clause-b_below
join-requires-clause-b_below c = below c.args.self.now c.self.inside.parents.items _ c.args.b c.self.view_is c.as_mut_slice.ensures.value c.requires.b_below
