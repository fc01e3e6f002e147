use Rattle.ig_count.proofs.TableLaws.{lists-labels}
use Rattle.ig_count.proofs.laws.lists_labels.Goals as goal

pub returns : goal.returns
returns c = lists-labels
