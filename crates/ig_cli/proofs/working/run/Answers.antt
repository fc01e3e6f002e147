use Rattle.std.proofs.Common.{◌≡◌, ap, arith, refl, ◌∙◌}
use Rattle.std.proofs.lemmas.Result.{err_from_is_err_and}
use Rattle.ig_worker.specs.Left.{is_over}
use Rattle.ig_cli.specs.declared.working.Stop.TheVariants as stop
use Rattle.ig_cli.proofs.WorkerLegal.{keeps_on, legal_at_first}
use Rattle.ig_cli.proofs.WorkerLoops.{failed_as, ran_end, ran_on, ran_stop}
use Rattle.ig_cli.proofs.WorkerRuns.{begins, not_begun}
use Rattle.ig_cli.proofs.working.run.Goals as goal

pub returns-in_err-worker-clause-ran : goal.returns-in_err-worker-clause-ran
returns-in_err-worker-clause-ran g c = λ tells.
    let p = err_from_is_err_and c.from_residual.result c.from_residual.ensures.1 in
    failed_as _ _ _ _ _ _ _ _ _ c.from_residual.result stop.Memory _ p.1 p.2 (not_begun _ _ _ _ _ _)

pub loop-worker-init : goal.loop-worker-init
loop-worker-init g c =
    let fresh = c.in_ok-worker.ensures in
    let first : c.in_ok-worker.worker.notes.at ≡ 0 = ap (λ w. w.notes.at) fresh in (
      refl,
      omega arith,
      omega arith,
      omega arith,
      omega (arith, first),
      ap (λ w. is_over w.phase) fresh,
      ap (λ w. w.notes.plan) fresh,
      λ tells. begins _ _ _ _ _ _ _ fresh,
      λ tells legal. legal_at_first _ _ _ fresh legal,
    )

pub returns-in_err-end-clause-ran : goal.returns-in_err-end-clause-ran
returns-in_err-end-clause-ran g c = λ tells.
    let i = c.loop-worker.invariant in
    let t = c.in_err-end.ensures in
    let p = err_from_is_err_and c.from_residual-in_err-end.result c.from_residual-in_err-end.ensures.1 in
    ran_stop (g.S.Store.rule c.args.store.now) (g.S.Store.rule c.loop-worker.store) i.0 _ _ _ _ t.time _ _ _ _ _ _ _ _ _ (i.7 tells) i.5 c.from_residual-in_err-end.result c.in_err-end.field-0.0 _ p.1 p.2
    (t.turned tells)

pub returns-in-Some-clause-ran : goal.returns-in-Some-clause-ran
returns-in-Some-clause-ran g c = λ tells.
    let i = c.loop-worker.invariant in
    let t = c.in_ok-end.ensures in
    ran_end (g.S.Store.rule c.args.store.now) (g.S.Store.rule c.loop-worker.store) i.0 _ _ _ _ t.time _ _ _ _ _ _ _ _ _ (i.7 tells) i.5 _ _ c.in-Some.is (t.turned tells)

pub loop-worker-preserved : goal.loop-worker-preserved
loop-worker-preserved g c =
    let i = c.loop-worker.invariant in
    let t = c.in_ok-end.ensures in (
      t.rule ∙ i.0,
      omega (arith, i.1, t.later),
      omega (arith, i.2, t.out_later),
      omega (arith, i.3, t.time),
      t.at,
      t.going c.in-None.is,
      t.plan ∙ i.6,
      λ tells. ran_on (g.S.Store.rule c.args.store.now) (g.S.Store.rule c.loop-worker.store) i.0 _ _ _ _ t.time _ _ _ _ _ _ _ _ _ (i.7 tells) i.5 _ c.in-None.is (t.turned tells),
      λ tells legal. keeps_on _ _ _ _ _ (ap (λ r. r.queue) i.0 ∙ c.requires.rule) i.6 (i.8 tells legal) _ (t.legal tells) (t.known tells),
    )
