use Rattle.std.proofs.Common.{[], ◌∷◌}
use Rattle.ig_record.specs.Stage.{task_count}
use Rattle.ig_meaning.specs.QueueActs.{put_of, seal_file}
use Rattle.ig_stage.specs.Shown.{name_puts, unset}
use Rattle.ig_stage.proofs.NamesPut.{all_named, does_then_done, done_as, puts_and_seal}
use Rattle.ig_stage.proofs.OpenLogs.{makes_on}
use Rattle.ig_stage.proofs.SomeSteps.{some_then}
use Rattle.ig_stage.proofs.puts.fill.Goals as goal

pub returns-clause-acts : goal.returns-clause-acts
returns-clause-acts g c = λ tells.
    let q = c.args.queue.now in
    let n = c.args.number in
    let s = c.args.stage.now in
    let left = unset c.args.shown.now (task_count s) in
    does_then_done _ _ _ _ (name_puts q n s left) (put_of (seal_file q n) ∷ []) _ c.put_seal.result (puts_and_seal q n s left)
    (c.in_ok-put_names.ensures.acts tells) (done_as _ _ _ _ _ c.put_seal.result c.put_names.ensures.rule (c.put_seal.ensures.acts tells))

pub returns-clause-legal : goal.returns-clause-legal
returns-clause-legal g c = λ tells m has shown.
    let q = c.args.queue.now in
    let n = c.args.number in
    let s = c.args.stage.now in
    let stays = c.in_ok-put_names.ensures.stays tells m in
    c.put_seal.ensures.legal tells s (makes_on q n s _ _ _ _ c.put_names.ensures.rule m stays) (stays.info has)
    (all_named q n s c.args.shown.now _ _ c.requires.flags stays shown (c.in_ok-put_names.ensures.named tells m))

pub returns-clause-some : goal.returns-clause-some
returns-clause-some g c = λ tells. some_then _ _ _ _ _ c.put_names.ensures.rule (c.in_ok-put_names.ensures.some tells) (c.put_seal.ensures.some tells)
