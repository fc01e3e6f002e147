use Rattle.std.proofs.Common.{ap, sym, ◌∙◌}
use Rattle.ig_record.specs.Columns.{is_among, output_dirs}
use Rattle.ig_worker.proofs.Removals.{among-none, among-other, among-same}
use Rattle.ig_worker.proofs.records.removes_one.Goals as goal

pub returns-then-other-number : goal.returns-then-other-number
returns-then-other-number c =
    let dirs = output_dirs c.args.writer.now in
    c.writes_in.ensures ∙ ap (λ dir. is_among dir dirs) c.as_bytes.ensures.value
    ∙ among-other c.args.number c.args.other c.args.stage.now dirs c.in-Some.dir.now c.if-other-number.true c.in-Some.ensures

pub returns-else-other-number : goal.returns-else-other-number
returns-else-other-number c = among-same c.args.number c.args.other c.args.stage.now (output_dirs c.args.writer.now) c.in-Some.dir.now c.if-other-number.false c.in-Some.ensures

pub returns-in-None : goal.returns-in-None
returns-in-None c = among-none c.args.number c.args.other c.args.stage.now (output_dirs c.args.writer.now) (sym c.in-None.ensures)
