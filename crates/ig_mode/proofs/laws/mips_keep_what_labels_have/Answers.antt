use Rattle.ig_mode.specs.KnownLaws.{all-fit, all-pass, mips-pass}
use Rattle.ig_mode.proofs.laws.mips_keep_what_labels_have.Goals as goal

pub returns-clause-known : goal.returns-clause-known
returns-clause-known c = mips-pass

pub returns-clause-all : goal.returns-clause-all
returns-clause-all c = all-pass

pub returns-clause-fit : goal.returns-clause-fit
returns-clause-fit c = all-fit
