use Rattle.ig_graph.specs.QuotientLaws.{firsts_by, part_by}
use Rattle.ig_graph.specs.NumberLaws.{class_first, number_part}
use Rattle.ig_graph.proofs.laws.parts_by_quotient.Goals as goal

pub returns-clause-first : goal.returns-clause-first
returns-clause-first c = class_first

pub returns-clause-number : goal.returns-clause-number
returns-clause-number c = number_part

pub returns-clause-part : goal.returns-clause-part
returns-clause-part c = part_by

pub returns-clause-firsts : goal.returns-clause-firsts
returns-clause-firsts c = firsts_by
