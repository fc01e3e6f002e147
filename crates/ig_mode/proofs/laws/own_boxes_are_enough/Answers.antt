use Rattle.ig_mode.specs.PartLaws.{own-part, own-size}
use Rattle.ig_mode.specs.KnownLaws.{own-agree}
use Rattle.ig_mode.proofs.laws.own_boxes_are_enough.Goals as goal

pub returns-clause-size : goal.returns-clause-size
returns-clause-size c = own-size

pub returns-clause-numbers : goal.returns-clause-numbers
returns-clause-numbers c = own-part

pub returns-clause-labels : goal.returns-clause-labels
returns-clause-labels c = own-part

pub returns-clause-agree : goal.returns-clause-agree
returns-clause-agree c = own-agree
