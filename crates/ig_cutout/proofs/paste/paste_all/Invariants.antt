-- So far the labels are those of the first inputs, which have no fault.
use Rattle.ig_cutout.specs.Pasted.{IsAssembled}
use Rattle.ig_cutout.proofs.paste.paste_all.Given as goal

abbrev pub invariant-loop-number : goal.invariant-loop-number
invariant-loop-number l = IsAssembled l.place l.area l.inputs l.number l.labels
