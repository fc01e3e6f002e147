use Rattle.ig_grid.specs.ListLaws.{parts-counted}
use Rattle.ig_grid.specs.TilingLaws.{numbers_of, parts_of}
use Rattle.ig_grid.proofs.laws.parts_are_numbered.Goals as goal

pub returns-clause-numbers : goal.returns-clause-numbers
returns-clause-numbers c = numbers_of

pub returns-clause-parts : goal.returns-clause-parts
returns-clause-parts c = parts_of

pub returns-clause-counted : goal.returns-clause-counted
returns-clause-counted c = parts-counted
