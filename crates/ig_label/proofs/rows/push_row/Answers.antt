use Rattle.std.proofs.Common.{◌+◌, Result, Ok, Err, OnOk, refl, ◌∙◌, arith}
use Rattle.std.specs.declared.alloc.AllocError.{AllocError}
use Rattle.ig_label.proofs.RunLaws.{within-same, within-new, within-end}
use Rattle.ig_label.proofs.rows.push_row.Goals as goal
use Rattle.ig_label.proofs.rows.push_row.Goals.{then-next-label+in_ok-push_run, else-next-label}

on_ok : {P Q : Type 0} (result : Result (Unit {0}) AllocError) → (P → Q) → OnOk result P → OnOk result Q
on_ok (Ok u) f h = f h
on_ok (Err e) f h = h

pub loop-place-preserved : goal.loop-place-preserved
loop-place-preserved c =
    let l = c.loop-place in
    let v = c.if-next-label in
    elim v.branch [
      | then-next-label+in_ok-push_run w ↦
          within-new c.args.width c.args.labels.now c.args.first l.from l.place l.label l.runs c.requires.row l.invariant v.from v.label v.runs
          c.loop-place-test.true w.if-next-label.true (w.runs-is ∙ w.in_ok-push_run.ensures) w.from-is w.label-is
      | else-next-label w ↦
          within-same c.args.width c.args.labels.now c.args.first l.from l.place l.label l.runs c.requires.row l.invariant v.from v.label v.runs
          w.if-next-label.false w.runs-is w.from-is w.label-is
    ]

pub returns : goal.returns
returns c =
    let l = c.loop-place in
    on_ok c.push_run-2.result
    (λ e. within-end c.args.width c.args.labels.now c.args.first l.from l.place l.label l.runs c.requires.row l.invariant (c.args.first + c.args.width) c.push_run-2.new.runs
    (omega (arith, c.loop-place-test.false, l.auto.place-end, c.requires.some)) refl e) c.push_run-2.ensures
