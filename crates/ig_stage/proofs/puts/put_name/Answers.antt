use Rattle.std.proofs.Common.{◌∙◌}
use Rattle.ig_rule.specs.QueueFiles.{queue_of}
use Rattle.ig_rule.specs.Stages.{Named, task_id}
use Rattle.ig_meaning.specs.QueueActs.{name_file}
use Rattle.ig_queue.specs.FilesAt.{fresh_fit}
use Rattle.ig_stage.proofs.OpenKept.{name_keeps, name_there}
use Rattle.ig_stage.proofs.OpenLogs.{makes_stays, put_as, put_does, put_leaves, put_stays_open}
use Rattle.ig_stage.proofs.SomeSteps.{put_some, some_nothing}
use Rattle.ig_stage.proofs.puts.put_name.Goals as goal

pub returns-in_err-path-clause-stays : goal.returns-in_err-path-clause-stays
returns-in_err-path-clause-stays g c = λ tells m. makes_stays c.args.queue.now c.args.number c.args.stage.now _ _ m

pub returns-in_err-text-clause-stays : goal.returns-in_err-text-clause-stays
returns-in_err-text-clause-stays g c = λ tells m. makes_stays c.args.queue.now c.args.number c.args.stage.now _ _ m

pub returns-clause-acts : goal.returns-clause-acts
returns-clause-acts g c = λ tells.
    let file = name_file c.args.queue.now c.args.number c.args.stage.now c.args.task in
    put_does _ _ _ file.path file.bytes c.put.result
    (put_as _ _ _ _ _ file.path file.bytes c.put.result c.in_ok-path.ensures (c.as_bytes.ensures ∙ c.in_ok-text.ensures) (c.put.ensures.went tells))

pub returns-clause-stays : goal.returns-clause-stays
returns-clause-stays g c = λ tells m.
    let file = name_file c.args.queue.now c.args.number c.args.stage.now c.args.task in
    put_stays_open c.args.queue.now c.args.number c.args.stage.now _ _ _ file.path file.bytes c.put.result
    (name_keeps c.args.queue.now c.args.number c.args.stage.now c.args.task c.requires.below)
    (put_as _ _ _ _ _ file.path file.bytes c.put.result c.in_ok-path.ensures (c.as_bytes.ensures ∙ c.in_ok-text.ensures) (c.put.ensures.went tells)) m

pub returns-clause-named : goal.returns-clause-named
returns-clause-named g c = λ tells.
    let file = name_file c.args.queue.now c.args.number c.args.stage.now c.args.task in
    put_leaves _ (λ files. Named (queue_of c.args.queue.now files) (task_id c.args.number c.args.task)) _ _ file.path file.bytes c.put.result
    (λ files. name_there c.args.queue.now c.args.number c.args.task file.bytes files (fresh_fit c.args.number c.args.task c.requires.few c.requires.small))
    (put_as _ _ _ _ _ file.path file.bytes c.put.result c.in_ok-path.ensures (c.as_bytes.ensures ∙ c.in_ok-text.ensures) (c.put.ensures.went tells))

pub returns-in_err-path-clause-some : goal.returns-in_err-path-clause-some
returns-in_err-path-clause-some g c = λ tells. some_nothing _ _

pub returns-in_err-text-clause-some : goal.returns-in_err-text-clause-some
returns-in_err-text-clause-some g c = λ tells. some_nothing _ _

pub returns-clause-some : goal.returns-clause-some
returns-clause-some g c = λ tells. put_some _ _ _ _ _ c.put.result (c.put.ensures.went tells)
