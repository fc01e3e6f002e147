use Rattle.ig_faces.proofs.LinkLaws.{link-back}
use Rattle.ig_faces.proofs.links.LinkRecord.write_to.Goals as goal

pub returns-clause-back : goal.returns-clause-back
returns-clause-back c = link-back c.args.self c.write_to.ensures.back c.write_to-2.ensures.back c.write_to-3.ensures.back
