use Rattle.std.proofs.Common.{arith, ◌≡◌, ◌-◌, suc, length}
use Rattle.std.proofs.lemmas.Result.{err_from_is_err_and}
use Rattle.ig_stage.proofs.Lookings.{looks_forgotten, looks_stopped}
use Rattle.ig_stage.proofs.SealLooks.{no_stage, seal_known, seal_seen, seal_unsought, unfinished}
use Rattle.ig_stage.proofs.seal.last_is_sealed.Goals as goal

pub returns-then-count-eq0-clause-looks : goal.returns-then-count-eq0-clause-looks
returns-then-count-eq0-clause-looks g c = λ tells next.
    seal_unsought _ _ next c.args.stages.now _ (no_stage c.args.stages.now (omega (arith, c.len-count.ensures, c.if-count-eq0.true)))

pub returns-in_err-path-clause-looks : goal.returns-in_err-path-clause-looks
returns-in_err-path-clause-looks g c = λ tells next.
    let p = err_from_is_err_and c.from_residual.result c.from_residual.ensures.1 in
    looks_forgotten _ _ _ _ _ _ p.1 p.2

pub returns-in_err-sealed-clause-looks : goal.returns-in_err-sealed-clause-looks
returns-in_err-sealed-clause-looks g c = λ tells next.
    let p = err_from_is_err_and c.from_residual-in_err-sealed.result c.from_residual-in_err-sealed.ensures.1 in
    let last : suc (c.len-count.result - 1) ≡ length c.args.stages.now = omega (arith, c.len-count.ensures, c.if-count-eq0.false) in
    looks_stopped _ _ _ _ _ c.in_err-sealed.field-0.0 _ _ p.1 p.2 (unfinished _ next c.args.stages.now (c.len-count.result - 1) last) (c.in_err-sealed.ensures.went tells)

pub returns-clause-looks : goal.returns-clause-looks
returns-clause-looks g c = λ tells next.
    let w = c.in_ok-sealed.ensures.went tells in
    let last : suc (c.len-count.result - 1) ≡ length c.args.stages.now = omega (arith, c.len-count.ensures, c.if-count-eq0.false) in
    seal_seen _ _ next c.args.stages.now (c.len-count.result - 1) _ _ _ c.in_ok-sealed.sealed last c.in_ok-path.ensures w.0 w.1

pub returns-clause-known : goal.returns-clause-known
returns-clause-known g c = λ tells maker kinds knows.
    let w = c.in_ok-sealed.ensures.went tells in
    let last : suc (c.len-count.result - 1) ≡ length c.args.stages.now = omega (arith, c.len-count.ensures, c.if-count-eq0.false) in
    seal_known _ _ c.args.stages.now (c.len-count.result - 1) _ _ _ c.in_ok-sealed.sealed maker kinds knows last (omega (arith, last, c.requires.few)) c.in_ok-path.ensures w.0 w.1
