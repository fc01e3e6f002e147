use Rattle.ig_mode.specs.KnownLaws.{mips-last, own-known}
use Rattle.ig_mode.proofs.laws.known_boxes_have_known_mips.Goals as goal

pub returns-clause-known : goal.returns-clause-known
returns-clause-known c = own-known

pub returns-clause-lasts : goal.returns-clause-lasts
returns-clause-lasts c = mips-last
