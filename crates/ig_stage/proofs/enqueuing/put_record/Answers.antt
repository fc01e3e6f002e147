use Rattle.std.proofs.Common.{◌∙◌}
use Rattle.ig_meaning.specs.QueueActs.{record_file}
use Rattle.ig_stage.proofs.OpenLogs.{put_as, put_does}
use Rattle.ig_stage.proofs.RecordPuts.{put_opens_it, put_stays_legal}
use Rattle.ig_stage.proofs.SomeSteps.{put_some, some_nothing}
use Rattle.ig_stage.proofs.enqueuing.put_record.Goals as goal

pub returns-in_err-path-clause-some : goal.returns-in_err-path-clause-some
returns-in_err-path-clause-some g c = λ tells. some_nothing _ _

pub returns-in_err-path-clause-legal : goal.returns-in_err-path-clause-legal
returns-in_err-path-clause-legal g c = λ tells stages may. may.legal

pub returns-in_err-text-clause-some : goal.returns-in_err-text-clause-some
returns-in_err-text-clause-some g c = λ tells. some_nothing _ _

pub returns-in_err-text-clause-legal : goal.returns-in_err-text-clause-legal
returns-in_err-text-clause-legal g c = λ tells stages may. may.legal

pub returns-clause-acts : goal.returns-clause-acts
returns-clause-acts g c = λ tells.
    let file = record_file c.args.queue.now c.args.number c.args.stage.now in
    put_does _ _ _ file.path file.bytes c.put.result
    (put_as _ _ _ _ _ file.path file.bytes c.put.result c.in_ok-path.ensures (c.as_bytes.ensures ∙ c.in_ok-text.ensures) (c.put.ensures.went tells))

pub returns-clause-some : goal.returns-clause-some
returns-clause-some g c = λ tells. put_some _ _ _ _ _ c.put.result (c.put.ensures.went tells)

pub returns-clause-legal : goal.returns-clause-legal
returns-clause-legal g c = λ tells stages may.
    put_stays_legal _ c.args.queue.now c.args.number stages c.args.stage.now _ _ _ _ c.put.result may c.in_ok-path.ensures (c.as_bytes.ensures ∙ c.in_ok-text.ensures) (c.put.ensures.went tells)

pub returns-clause-opens : goal.returns-clause-opens
returns-clause-opens g c = λ tells stages may.
    put_opens_it _ c.args.queue.now c.args.number stages c.args.stage.now _ _ _ _ c.put.result may c.in_ok-path.ensures (c.as_bytes.ensures ∙ c.in_ok-text.ensures) (c.put.ensures.went tells)
