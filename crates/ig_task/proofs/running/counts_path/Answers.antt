use Rattle.std.proofs.Common.{arith, ap, length, ◌∙◌}
use Rattle.ig_record.specs.Columns.{numbered, paths_of}
use Rattle.ig_task.proofs.TaskRuns.{count-file, only-path}
use Rattle.ig_task.proofs.running.counts_path.Goals as goal

pub bounds-as_slice-0 : goal.bounds-as_slice-0
bounds-as_slice-0 c =
    let file = (count-file c.args.stage.now c.requires.sound c.requires.counts).file c.args.task in
    let long = ap length c.as_slice.ensures ∙ ap length c.in_ok-own.ensures ∙ ap length file in
    omega (arith, long)

pub returns : goal.returns
returns c =
    let s = c.args.stage.now in
    let n = count-file s c.requires.sound c.requires.counts in
    only-path (paths_of s c.args.task) c.as_slice.result.now (numbered n.dir n.ending c.args.task) c.index-as_slice-0.result c.copy.result (n.file c.args.task)
    (c.as_slice.ensures ∙ c.in_ok-own.ensures) c.index-as_slice-0.is c.copy.ensures
