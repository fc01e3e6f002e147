-- A step up halves the way.
use Rattle.std.proofs.Common.{ℕ, ◌<◌, ◌≡◌, List, length, get_or, set, refl, sym, ap, ◌∙◌, subst, arith}
use Rattle.ig_graph.specs.Forest.{top}
use Rattle.ig_graph.specs.Kept.{IsSameForest}
use Rattle.ig_graph.proofs.ForestLaws.{parent-low, top-parent, root-top, halved, same-then}
use Rattle.ig_graph.proofs.sets.find.Goals as goal

halving : (old ps : List ℕ) (at parent : ℕ) → IsSameForest old ps → at < length ps → parent ≡ get_or ps at 0 → IsSameForest old (set ps at (get_or ps parent 0))
halving old ps at parent same below e =
    subst (λ p. IsSameForest old (set ps at (get_or ps p 0))) (sym e) (same-then old ps (set ps at (get_or ps (get_or ps at 0) 0)) same (halved ps at same.parents below))

next-below : (old ps : List ℕ) (at parent : ℕ) → IsSameForest old ps → at < length ps → parent ≡ get_or ps at 0 → get_or ps parent 0 < length ps
next-below old ps at parent same below e = omega (arith, parent-low ps same.parents parent, parent-low ps same.parents at)

next-found : (old ps : List ℕ) (number at parent : ℕ) → IsSameForest old ps → at < length ps → parent ≡ get_or ps at 0 → top old at ≡ top old number → top old (get_or ps parent 0) ≡ top old number
next-found old ps number at parent same below e found =
    let here : at < length old = subst (λ n. at < n) same.size below in
    let there : get_or ps parent 0 < length old = subst (λ n. get_or ps parent 0 < n) same.size (next-below old ps at parent same below e) in
    sym (same.same (get_or ps parent 0) there) ∙ top-parent ps same.parents parent ∙ ap (top ps) e ∙ top-parent ps same.parents at ∙ same.same at here ∙ found

pub loop-parent-preserved : goal.loop-parent-preserved
loop-parent-preserved c =
    let l = c.loop-parent in
    let kept = l.invariant in
    let same = halving c.args.parents.now l.parents l.at l.parent kept.same kept.below kept.parent in
    record {
      same = same;
      below = omega (arith, next-below c.args.parents.now l.parents l.at l.parent kept.same kept.below kept.parent, same.size, kept.same.size);
      parent = refl;
      found = next-found c.args.parents.now l.parents c.args.number l.at l.parent kept.same kept.below kept.parent kept.found;
    }

pub returns-clause-top : goal.returns-clause-top
returns-clause-top c =
    let l = c.loop-parent in
    let kept = l.invariant in
    let here : l.at < length c.args.parents.now = subst (λ n. l.at < n) kept.same.size kept.below in
    let fixed : get_or l.parents l.at 0 ≡ l.at = sym kept.parent ∙ c.loop-parent-test.false in
    sym (root-top l.parents l.at fixed) ∙ kept.same.same l.at here ∙ kept.found
