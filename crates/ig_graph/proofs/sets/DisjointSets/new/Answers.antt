use Rattle.std.proofs.Common.{◌≡◌, sym, subst, ap, ◌∙◌, arith, [], ◌∷◌, ◌++◌}
use Rattle.ig_graph.specs.Sets.{each_alone}
use Rattle.ig_graph.specs.Forest.{AreParents, tops}
use Rattle.ig_graph.proofs.ForestLaws.{alone-more, alone-parents, tops-alone}
use Rattle.ig_graph.proofs.sets.DisjointSets.new.Goals as goal

pub loop-number-preserved : goal.loop-number-preserved
loop-number-preserved c =
    c.in_ok-push.ensures.items ∙ ap (λ xs. xs ++ c.loop-number.number ∷ []) c.loop-number.invariant ∙ sym (alone-more c.loop-number.number)

pub invariant_of-result : goal.invariant_of-result
invariant_of-result c =
    let all : c.loop-number.number ≡ c.args.count = omega (arith, c.loop-number-test.false, c.loop-number.auto.number-end) in
    let small = c.ranges.count.fits in
    subst AreParents (sym (c.loop-number.invariant ∙ ap each_alone all)) (alone-parents c.args.count (omega arith))

pub returns : goal.returns
returns c =
    let all : c.loop-number.number ≡ c.args.count = omega (arith, c.loop-number-test.false, c.loop-number.auto.number-end) in
    let is : c.loop-number.parents.items ≡ each_alone c.args.count = c.loop-number.invariant ∙ ap each_alone all in
    ap tops is ∙ tops-alone c.args.count
