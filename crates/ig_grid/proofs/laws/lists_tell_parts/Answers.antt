use Rattle.ig_space.specs.Grid.{cell}
use Rattle.ig_grid.specs.ListLaws.{first-in_whole, first-part_least, firsts-count, local-part, plane-links, value-label}
use Rattle.ig_grid.proofs.laws.lists_tell_parts.Goals as goal

pub returns-clause-parts : goal.returns-clause-parts
returns-clause-parts c = local-part

pub returns-clause-labels : goal.returns-clause-labels
returns-clause-labels c = value-label

pub returns-clause-firsts : goal.returns-clause-firsts
returns-clause-firsts c = first-part_least

pub returns-clause-links : goal.returns-clause-links
returns-clause-links c = plane-links

pub returns-clause-counts : goal.returns-clause-counts
returns-clause-counts c volume g k local firsts values have = firsts-count volume (cell g k) local firsts values have

pub returns-clause-nodes : goal.returns-clause-nodes
returns-clause-nodes c = first-in_whole
