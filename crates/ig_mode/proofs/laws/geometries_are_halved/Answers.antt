use Rattle.ig_mode.specs.CellLaws.{geometry-after, geometry-fits, space-halved}
use Rattle.ig_mode.proofs.laws.geometries_are_halved.Goals as goal

pub returns-clause-space : goal.returns-clause-space
returns-clause-space c = space-halved

pub returns-clause-next : goal.returns-clause-next
returns-clause-next c = geometry-after

pub returns-clause-fits : goal.returns-clause-fits
returns-clause-fits c = geometry-fits
