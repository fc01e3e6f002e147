use Rattle.ig_count.proofs.FileLaws.{ok-right}
use Rattle.ig_count.proofs.file.write_counts.Goals as goal

pub returns-clause-right : goal.returns-clause-right
returns-clause-right c =
    ok-right c.args.counts.now c.as_slice-items.result.now c.write_file.result c.write_file.ensures.length c.write_file.ensures.head c.write_file.ensures.back
    c.as_slice-items.ensures.items c.as_slice-items.ensures.table
