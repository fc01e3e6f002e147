use Rattle.ig_faces.proofs.PartLaws.{part-back}
use Rattle.ig_faces.proofs.parts.PartRecord.write_to.Goals as goal

pub returns-clause-back : goal.returns-clause-back
returns-clause-back c = part-back c.args.self c.write_to.ensures.back c.write_to-2.ensures.back
