use Rattle.ig_global.proofs.ShownLaws.{numbers-show}
use Rattle.ig_global.proofs.whole.number_parts.Goals as goal

pub returns-clause-parts : goal.returns-clause-parts
returns-clause-parts c =
    numbers-show c.args.firsts.now c.args.edges.now c.in_ok-classes.classes c.in_ok-numbers.numbers c.in_ok-classes.ensures.classes c.in_ok-numbers.ensures
