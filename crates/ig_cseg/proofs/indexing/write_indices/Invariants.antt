-- So far the first rows have their indices.
use Rattle.ig_cseg.proofs.IndexRows.{RowsIndexed}
use Rattle.ig_cseg.proofs.indexing.write_indices.Given as goal

abbrev pub invariant-loop-row : goal.invariant-loop-row
invariant-loop-row l = RowsIndexed l.clip.block l.clip.size l.labels l.table l.fn.indices l.indices l.row
