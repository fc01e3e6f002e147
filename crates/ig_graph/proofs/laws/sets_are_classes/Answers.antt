use Rattle.ig_graph.specs.SetLaws.{alone-joined, united-joined, united-same, united-kept, joined-classes}
use Rattle.ig_graph.proofs.laws.sets_are_classes.Goals as goal

pub returns-clause-alone : goal.returns-clause-alone
returns-clause-alone c = alone-joined

pub returns-clause-united : goal.returns-clause-united
returns-clause-united c = united-joined

pub returns-clause-same : goal.returns-clause-same
returns-clause-same c = united-same

pub returns-clause-kept : goal.returns-clause-kept
returns-clause-kept c = united-kept

pub returns-clause-all : goal.returns-clause-all
returns-clause-all c = joined-classes
