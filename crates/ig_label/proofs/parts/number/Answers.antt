use Rattle.std.proofs.Common.{◌+◌, ◌<◌, length, subst, sym, ap, ◌∙◌, arith}
use Rattle.ig_label.specs.Runs.{run_at}
use Rattle.ig_label.proofs.NumberingLaws.{AreNumbered, number-first, number-same, firsts-few}
use Rattle.ig_label.proofs.parts.number.Goals as goal
use Rattle.ig_label.proofs.parts.number.Goals.{then-class-place+in_ok-push+in_ok-push-2, else-class-place}

pub overflow_cast-classes : goal.overflow_cast-classes
overflow_cast-classes c =
    let l = c.loop-place in
    let below : l.place < length c.args.classes.now = omega (arith, c.loop-place-test.true, c.requires.length) in
    let few = firsts-few c.args.runs.now c.args.classes.now l.classes l.firsts l.values l.place c.requires.least below l.invariant c.push.new.self (run_at c.args.runs.now l.place).first c.in_ok-push.ensures.ok in
    omega (arith, c.len.ensures, few, c.requires.few, c.loop-place-test.true)

pub loop-place-preserved : goal.loop-place-preserved
loop-place-preserved c =
    let l = c.loop-place in
    let v = c.if-class-place in
    let below : l.place < length c.args.classes.now = omega (arith, c.loop-place-test.true, c.requires.length) in
    elim v.branch [
      | then-class-place+in_ok-push+in_ok-push-2 w ↦
          subst (λ classes. AreNumbered c.args.runs.now c.args.classes.now classes v.firsts v.values (l.place + 1)) (sym w.classes-is)
          (number-first c.args.runs.now c.args.classes.now l.classes l.firsts l.values l.place c.requires.least below l.invariant v.firsts v.values w.len.result
          w.if-class-place.true (w.firsts-is ∙ w.in_ok-push.ensures.ok) (w.values-is ∙ w.in_ok-push-2.ensures.ok) (w.len.ensures ∙ ap length (sym w.firsts-is)))
      | else-class-place w ↦
          number-same c.args.runs.now c.args.classes.now l.classes l.firsts l.values l.place c.requires.least below l.invariant v.classes v.firsts v.values
          w.if-class-place.false w.classes-is w.firsts-is w.values-is
    ]
