-- One more number gets the least member of its set.
use Rattle.std.proofs.Common.{ℕ, ◌+◌, ◌<◌, ◌≤◌, ◌≡◌, List, length, get_or, set, sym, ap, ◌∙◌, ◌⊎◌, inl, inr, arith, below_more, get_or-set_same, get_or-set_other, length-set}
use Rattle.std.proofs.lemmas.Bool.{cases_eq}
use Rattle.std.proofs.lemmas.List.FromFn.{fill_by_all}
use Rattle.ig_graph.specs.Forest.{top, AreParents}
use Rattle.ig_graph.proofs.ForestLaws.{parent-low, top-parent, root-top}
use Rattle.ig_graph.proofs.sets.flatten.Goals as goal

-- the list so far
record IsDone (old ps : List ℕ) (n : ℕ) : Type 0 where
  done : (k : ℕ) → k < n → get_or ps k 0 ≡ top old k
  left : (k : ℕ) → n ≤ k → get_or ps k 0 ≡ get_or old k 0
  size : length ps ≡ length old

module _ (old ps : List ℕ) (n : ℕ) (are : AreParents old) (is : IsDone old ps n) (below : n < length ps) where
  parent : get_or ps n 0 ≡ get_or old n 0
  parent = is.left n (omega arith)

  value : (get_or old n 0 ≡ n) ⊎ (get_or old n 0 ≡ n → ⊥) → get_or ps (get_or ps n 0) 0 ≡ top old n
  value (inl e) = ap (λ i. get_or ps i 0) (parent ∙ e) ∙ parent ∙ e ∙ sym (root-top old n e)
  value (inr h) =
      let low = parent-low old are n in
      ap (λ i. get_or ps i 0) parent ∙ is.done (get_or old n 0) (omega arith) ∙ top-parent old are n

  one_more : IsDone old (set ps n (get_or ps (get_or ps n 0) 0)) (n + 1)
  one_more = record {
    done = below_more _ _
        (λ k h. get_or-set_other ps n k (get_or ps (get_or ps n 0) 0) 0 (omega arith) ∙ is.done k h)
        (get_or-set_same ps n (get_or ps (get_or ps n 0) 0) 0 below ∙ value (cases_eq (get_or old n 0) n));
    left = λ k h. get_or-set_other ps n k (get_or ps (get_or ps n 0) 0) 0 (omega arith) ∙ is.left k (omega arith);
    size = length-set ps n (get_or ps (get_or ps n 0) 0) ∙ is.size;
  }

pub loop-number-preserved : goal.loop-number-preserved
loop-number-preserved c =
    let l = c.loop-number in
    let kept = l.invariant in
    let more = one_more c.args.parents.now l.parents l.number c.requires.parents (record { done = kept.done; left = kept.left; size = kept.size }) (omega (arith, kept.size, c.loop-number-test.true, l.auto.parents)) in
    record { done = more.done; left = more.left; size = more.size }

pub returns : goal.returns
returns c =
    let l = c.loop-number in
    let kept = l.invariant in
    fill_by_all (top c.args.parents.now) l.parents (length c.args.parents.now) 0 kept.size
    (λ k h. kept.done k (omega (arith, c.loop-number-test.false, l.auto.number-end, kept.size)))
