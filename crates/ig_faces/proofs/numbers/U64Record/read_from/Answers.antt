use Rattle.ig_faces.specs.Records.{number_in}
use Rattle.ig_faces.proofs.numbers.U64Record.read_from.Goals as goal

pub returns-clause-value : goal.returns-clause-value
unfolding number_in
returns-clause-value c = c.read_u64.ensures
