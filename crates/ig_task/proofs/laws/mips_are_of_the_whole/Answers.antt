use Rattle.ig_task.specs.MipTexts.{mips-of_the_whole}
use Rattle.ig_task.proofs.laws.mips_are_of_the_whole.Goals as goal

pub returns : goal.returns
returns c = mips-of_the_whole
