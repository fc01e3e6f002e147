use Rattle.std.proofs.Common.{refl}
use Rattle.ig_rule.specs.QueueFiles.{Seal, path_of, queue_of}
use Rattle.ig_rule.specs.Rule.{seal_text}
use Rattle.ig_rule.specs.Stages.{Sealed}
use Rattle.ig_queue.specs.FilesAt.{stage_fit}
use Rattle.ig_stage.proofs.OpenKept.{put_there}
use Rattle.ig_stage.proofs.OpenLogs.{put_as, put_does, put_leaves, seal_stays_legal}
use Rattle.ig_stage.proofs.SomeSteps.{put_some, some_nothing}
use Rattle.ig_stage.proofs.puts.put_seal.Goals as goal

pub returns-clause-acts : goal.returns-clause-acts
returns-clause-acts g c = λ tells.
    put_does _ _ _ (path_of c.args.queue.now (Seal c.args.number)) seal_text c.put.result
    (put_as _ _ _ _ _ (path_of c.args.queue.now (Seal c.args.number)) seal_text c.put.result c.in_ok-path.ensures refl (c.put.ensures.went tells))

pub returns-clause-legal : goal.returns-clause-legal
returns-clause-legal g c = λ tells s m has named.
    seal_stays_legal c.args.queue.now c.args.number s _ _ _ c.put.result
    (put_as _ _ _ _ _ (path_of c.args.queue.now (Seal c.args.number)) seal_text c.put.result c.in_ok-path.ensures refl (c.put.ensures.went tells)) m has named

pub returns-clause-sealed : goal.returns-clause-sealed
returns-clause-sealed g c = λ tells.
    put_leaves _ (λ files. Sealed (queue_of c.args.queue.now files) c.args.number) _ _ (path_of c.args.queue.now (Seal c.args.number)) seal_text c.put.result
    (λ files. put_there c.args.queue.now (Seal c.args.number) seal_text files (stage_fit c.args.number c.requires.few))
    (put_as _ _ _ _ _ (path_of c.args.queue.now (Seal c.args.number)) seal_text c.put.result c.in_ok-path.ensures refl (c.put.ensures.went tells))

pub returns-in_err-path-clause-some : goal.returns-in_err-path-clause-some
returns-in_err-path-clause-some g c = λ tells. some_nothing _ _

pub returns-clause-some : goal.returns-clause-some
returns-clause-some g c = λ tells. put_some _ _ _ _ _ c.put.result (c.put.ensures.went tells)
