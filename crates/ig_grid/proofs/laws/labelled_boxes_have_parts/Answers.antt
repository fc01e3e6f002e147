use Rattle.ig_grid.specs.LabelLaws.{labelled-parts}
use Rattle.ig_grid.proofs.laws.labelled_boxes_have_parts.Goals as goal

pub returns : goal.returns
returns c = labelled-parts
