use Rattle.std.proofs.lemmas.Bool.Decides.{Decides-eqb}
use Rattle.std.proofs.lemmas.Slice.Eq.{strip_prefix_is}
use Rattle.ig_queue.proofs.Marks.{after-some, after-none}
use Rattle.ig_queue.proofs.digits.after_mark.Goals as goal

pub returns-clause-some : goal.returns-clause-some
returns-clause-some c = after-some _ _ _ (strip_prefix_is Decides-eqb c.args.text.now c.args.mark.now c.strip_prefix.result c.strip_prefix.ensures.cases)

pub returns-clause-none : goal.returns-clause-none
returns-clause-none c = after-none _ _ _ (strip_prefix_is Decides-eqb c.args.text.now c.args.mark.now c.strip_prefix.result c.strip_prefix.ensures.cases)
