use Rattle.ig_label.proofs.RunLaws.{IsWithin}
use Rattle.ig_label.proofs.rows.push_row.Given as goal

abbrev pub invariant-loop-place : goal.invariant-loop-place
invariant-loop-place l = IsWithin l.width l.labels l.first l.from l.place l.label l.runs
