use Rattle.std.proofs.Common.{◌≡◌, subst, sym, ◌∙◌}
use Rattle.std.proofs.lemmas.List.{take_all}
use Rattle.ig_queue.specs.Candidates.{AreCandidates}
use Rattle.ig_queue.proofs.Ranks.{are_candidates}
use Rattle.ig_queue.proofs.due.candidates.Goals as goal

pub returns : goal.returns
returns c =
    let is : c.loop-name.list ≡ c.arrange.new.names.items =
    c.loop-name.invariant ∙ take_all c.loop-name.name-index c.deref-name-items.result.now c.loop-name-test.false ∙ c.deref-name-items.ensures.value in
    subst (AreCandidates c.args.names.now c.args.now) (sym is)
    (are_candidates _ _ c.in_ok-due.due.items c.arrange.new.names.items c.in_ok-due.ensures.only c.in_ok-due.ensures.each c.arrange.ensures.sorted c.arrange.ensures.same)
