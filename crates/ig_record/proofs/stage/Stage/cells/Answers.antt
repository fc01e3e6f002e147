use Rattle.std.proofs.Common.{arith}
use Rattle.ig_record.proofs.TaskCounts.{sound-fits, sound-sides}
use Rattle.ig_record.specs.SoundStages.{IsSound-from}
use Rattle.ig_record.proofs.stage.Stage.cells.Goals as goal

pub cell_count-requires-clause-fits : goal.cell_count-requires-clause-fits
cell_count-requires-clause-fits c = sound-fits c.args.self.now c.requires

pub cell_count-requires-clause-sides : goal.cell_count-requires-clause-sides
cell_count-requires-clause-sides c = sound-sides c.args.self.now c.requires

pub overflow_cast-result : goal.overflow_cast-result
overflow_cast-result c = let few = (IsSound-from c.args.self.now c.requires).few_cells in let is = c.cell_count.ensures in omega (arith, few, is)

pub returns-clause-few : goal.returns-clause-few
returns-clause-few c = let few = (IsSound-from c.args.self.now c.requires).few_cells in let is = c.cell_count.ensures in omega (arith, few, is)
