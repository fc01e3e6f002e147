use Rattle.ig_grid.specs.WeightLaws.{labels-add, passing-add, weights-add}
use Rattle.ig_grid.proofs.laws.cells_add_up.Goals as goal

pub returns-clause-weights : goal.returns-clause-weights
returns-clause-weights c = weights-add

pub returns-clause-passing : goal.returns-clause-passing
returns-clause-passing c = passing-add

pub returns-clause-labels : goal.returns-clause-labels
returns-clause-labels c = labels-add
