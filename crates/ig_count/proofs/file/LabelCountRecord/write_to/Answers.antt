use Rattle.ig_count.proofs.FileLaws.{item-back}
use Rattle.ig_count.proofs.file.LabelCountRecord.write_to.Goals as goal

pub returns-clause-back : goal.returns-clause-back
returns-clause-back c = item-back c.args.self c.write_to.ensures.back c.write_to-2.ensures.back
