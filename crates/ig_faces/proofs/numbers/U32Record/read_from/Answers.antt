use Rattle.ig_faces.specs.Records.{number_in}
use Rattle.ig_faces.proofs.numbers.U32Record.read_from.Goals as goal

pub returns-clause-value : goal.returns-clause-value
unfolding number_in
returns-clause-value c = c.read_u32.ensures
