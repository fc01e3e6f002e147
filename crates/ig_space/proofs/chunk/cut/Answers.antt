use Rattle.ig_space.proofs.Parts.{first_lacks, none_lacks}
use Rattle.ig_space.proofs.chunk.cut.Goals as goal

pub returns-clause-first : goal.returns-clause-first
returns-clause-first c = first_lacks c.args.mark c.args.text.now c.split_once.result c.split_once.ensures.cases c.requires

pub returns-clause-none : goal.returns-clause-none
returns-clause-none c = none_lacks c.args.mark c.args.text.now c.split_once.result c.split_once.ensures.cases c.requires
