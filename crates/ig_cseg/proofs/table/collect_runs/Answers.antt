use Rattle.std.proofs.Common.{◌+◌, ℕ, Vec, Global, take, ap, sym, subst, ◌∙◌}
use Rattle.ig_cseg.proofs.Runs.{IsSame, same-all, same-kept, same-pushed}
use Rattle.ig_cseg.proofs.table.collect_runs.Goals as goal
use Rattle.ig_cseg.proofs.table.collect_runs.Goals.{then-k-eq0+in_ok-push, else-k-eq0+else-labels-k}

pub loop-k-preserved : goal.loop-k-preserved
loop-k-preserved c =
    let labels = c.args.labels.now in
    let k = c.loop-k.k in
    elim c.if-k-eq0.branch [
      | then-k-eq0+in_ok-push w ↦ subst (λ runs. IsSame runs (take (k + 1) labels)) (sym (ap (λ (v : Vec ℕ Global). v.items) w.runs-is ∙ w.in_ok-push.ensures.items))
          (same-pushed c.loop-k.runs.items labels k c.loop-k-test.true c.loop-k.invariant)
      | else-k-eq0+else-labels-k w ↦ subst (λ runs. IsSame runs (take (k + 1) labels)) (sym (ap (λ (v : Vec ℕ Global). v.items) w.runs-is))
          (same-kept c.loop-k.runs.items labels k c.loop-k-test.true w.if-k-eq0.false w.if-labels-k.false c.loop-k.invariant)
    ]

pub returns : goal.returns
returns c = same-all c.loop-k.runs.items c.args.labels.now c.loop-k.k c.loop-k-test.false c.loop-k.invariant
