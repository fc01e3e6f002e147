use Rattle.std.proofs.Common.{◌≡◌, ◌<◌}
use Rattle.ig_record.specs.Reading.{task_in, IsTask}
use Rattle.ig_record.specs.Record.{task_text}
use Rattle.ig_record.specs.Stage.{task_count}
use Rattle.ig_record.specs.TaskLaws.{task_in-IsTask, IsTask-task_in}
use Rattle.ig_record.proofs.Verdicts.{gives-ok, gives-back, gives-refused}
use Rattle.ig_record.proofs.filed.read_task.Goals as goal

pub returns-clause-ok : goal.returns-clause-ok
returns-clause-ok c =
    let s = c.args.stage.now in
    let bytes = c.args.bytes.now in
    gives-ok c.read_text.result (task_in s bytes) (λ id. (id.task < task_count s) × (bytes ≡ task_text id s))
    (λ id e. let is = task_in-IsTask s id bytes e in (is.below, is.text)) c.read_text.ensures

pub returns-clause-back : goal.returns-clause-back
returns-clause-back c =
    λ id is.
    gives-back c.read_text.result (task_in c.args.stage.now c.args.bytes.now) id (IsTask-task_in c.args.stage.now id c.args.bytes.now c.requires is) c.read_text.ensures

pub returns-clause-refused : goal.returns-clause-refused
returns-clause-refused c =
    gives-refused c.read_text.result (task_in c.args.stage.now c.args.bytes.now) (λ id. IsTask id c.args.stage.now c.args.bytes.now)
    (λ id. IsTask-task_in c.args.stage.now id c.args.bytes.now c.requires) c.read_text.ensures
