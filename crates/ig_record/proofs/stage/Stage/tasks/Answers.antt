use Rattle.std.proofs.Common.{arith, ap, ◌∙◌}
use Rattle.ig_space.specs.Grid.{cell_count}
use Rattle.ig_record.proofs.TaskCounts.{sound-fits, sound-sides, tasks-few, tasks-some}
use Rattle.ig_record.proofs.stage.Stage.tasks.Goals as goal

pub grid-requires-clause-fits : goal.grid-requires-clause-fits
grid-requires-clause-fits c = sound-fits c.args.self.now c.requires

pub grid-requires-clause-sides : goal.grid-requires-clause-sides
grid-requires-clause-sides c = sound-sides c.args.self.now c.requires

pub overflow_cast-result : goal.overflow_cast-result
overflow_cast-result c = let few = tasks-few c.args.self.now c.requires in let is = c.count.ensures ∙ ap cell_count c.grid.ensures.value in omega (arith, few, is)

pub returns-clause-some : goal.returns-clause-some
returns-clause-some c = let some = tasks-some c.args.self.now c.requires in let is = c.count.ensures ∙ ap cell_count c.grid.ensures.value in omega (arith, some, is)

pub returns-clause-few : goal.returns-clause-few
returns-clause-few c = let few = tasks-few c.args.self.now c.requires in let is = c.count.ensures ∙ ap cell_count c.grid.ensures.value in omega (arith, few, is)
