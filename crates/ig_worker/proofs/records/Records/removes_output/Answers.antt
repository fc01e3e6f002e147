use Rattle.std.proofs.Common.{◌∙◌}
use Rattle.ig_record.specs.Columns.{output_dirs}
use Rattle.ig_worker.proofs.Removals.{removed-among}
use Rattle.ig_worker.proofs.records.Records.removes_output.Goals as goal

pub returns : goal.returns
returns c = c.removes_among.ensures ∙ removed-among c.args.self.now c.args.number (output_dirs c.args.writer.now)
