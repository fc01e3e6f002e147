use Rattle.std.proofs.Common.{ℕ, ◌≡◌, ◌∙◌, cond, ltb, length, subst, arith}
use Rattle.std.proofs.lemmas.List.Sorted.{IsNonDecreasingBy-from_sort, sum_by-IsPermutation}
use Rattle.ig_global.specs.Numbers.{HaveTallies}
use Rattle.ig_global.proofs.numbering.ascending_firsts.Goals as goal

pub returns-clause-sorted : goal.returns-clause-sorted
returns-clause-sorted c = IsNonDecreasingBy-from_sort (λ x. x) c.sort_unstable.new.self.items c.sort_unstable.ensures.sorted

pub returns-clause-tallies : goal.returns-clause-tallies
returns-clause-tallies c bound =
    let all : c.loop-place.place ≡ length c.args.classes.now = omega arith in
    sum_by-IsPermutation (λ x. cond (ltb x bound) 1 0) c.loop-place.ascending.items c.sort_unstable.new.self.items c.sort_unstable.ensures.permutation
    ∙ subst (λ (n : ℕ). HaveTallies c.args.classes.now c.args.least.now n c.loop-place.ascending.items) all c.loop-place.invariant bound
