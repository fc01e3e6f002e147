use Rattle.ig_rule.specs.Untouched.{untouched}
use Rattle.ig_rule.proofs.laws.rest_is_untouched.Goals as goal

pub returns : goal.returns
returns c = untouched
