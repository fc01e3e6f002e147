use Rattle.ig_faces.proofs.TableLaws.{table-right}
use Rattle.ig_faces.proofs.table.write_table.Goals as goal

pub returns-clause-right : goal.returns-clause-right
returns-clause-right c = table-right c.args.numbers.now c.write_counted.result c.write_counted.ensures.many c.write_counted.ensures.right
