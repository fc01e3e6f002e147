use Rattle.std.proofs.Common.{IfOk, map, refl, subst, sym}
use Rattle.ig_meaning.specs.QueueActs.{put_of}
use Rattle.ig_meaning.specs.Jobs.{info_files}
use Rattle.ig_task.specs.Pipeline.{is_allowed}
use Rattle.ig_stage.specs.Open.{Does, HasInfo}
use Rattle.ig_stage.proofs.OpenKept.{info_keeps, info_put}
use Rattle.ig_stage.proofs.OpenLogs.{put_as, put_does, put_leaves, put_stays_open}
use Rattle.ig_stage.proofs.SomeSteps.{put_some, some_nothing}
use Rattle.ig_stage.proofs.puts.put_info.Goals as goal

pub returns-in-Some-clause-acts : goal.returns-in-Some-clause-acts
returns-in-Some-clause-acts g c = λ tells.
    let old = g.S.Store.log c.args.store.now in
    let new = g.S.Store.log c.put.new.store in
    subst (λ info. IfOk c.put.result (λ done. Does (is_allowed (g.S.Store.rule c.args.store.now)) old new (map put_of (info_files info)))) (sym c.in-Some.is)
    (put_does _ _ _ c.in-Some.info.path c.in-Some.info.text c.put.result
    (put_as _ _ _ _ _ c.in-Some.info.path c.in-Some.info.text c.put.result refl c.as_bytes.ensures (c.put.ensures.went tells)))

pub returns-in-Some-clause-stays : goal.returns-in-Some-clause-stays
returns-in-Some-clause-stays g c = λ tells q n m.
    put_stays_open q n c.args.stage.now _ _ _ c.in-Some.info.path c.in-Some.info.text c.put.result (info_keeps q n c.args.stage.now c.in-Some.info c.in-Some.is)
    (put_as _ _ _ _ _ c.in-Some.info.path c.in-Some.info.text c.put.result refl c.as_bytes.ensures (c.put.ensures.went tells)) m

pub returns-in-Some-clause-stands : goal.returns-in-Some-clause-stands
returns-in-Some-clause-stands g c = λ tells.
    put_leaves _ (HasInfo c.args.stage.now) _ _ c.in-Some.info.path c.in-Some.info.text c.put.result (λ files. info_put c.args.stage.now c.in-Some.info files c.in-Some.is)
    (put_as _ _ _ _ _ c.in-Some.info.path c.in-Some.info.text c.put.result refl c.as_bytes.ensures (c.put.ensures.went tells))

pub returns-in-Some-clause-some : goal.returns-in-Some-clause-some
returns-in-Some-clause-some g c = λ tells. put_some _ _ _ _ _ c.put.result (c.put.ensures.went tells)

pub returns-in-None-clause-some : goal.returns-in-None-clause-some
returns-in-None-clause-some g c = λ tells. some_nothing _ _
