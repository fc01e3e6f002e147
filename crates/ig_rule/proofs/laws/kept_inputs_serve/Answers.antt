use Rattle.ig_rule.specs.KeptInputs.{over_wanted, over_scratch, over_found, kept_stands}
use Rattle.ig_rule.proofs.laws.kept_inputs_serve.Goals as goal

pub returns-clause-wanted : goal.returns-clause-wanted
returns-clause-wanted c = over_wanted

pub returns-clause-scratch : goal.returns-clause-scratch
returns-clause-scratch c = over_scratch

pub returns-clause-found : goal.returns-clause-found
returns-clause-found c = over_found

pub returns-clause-kept : goal.returns-clause-kept
returns-clause-kept c = kept_stands
