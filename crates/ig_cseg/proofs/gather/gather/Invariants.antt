-- So far the first rows are gathered.
use Rattle.std.proofs.Common.{◌≡◌, ◌*◌}
use Rattle.ig_cseg.proofs.Gathers.{first_labels}
use Rattle.ig_cseg.proofs.gather.gather.Given as goal

abbrev pub invariant-loop-row : goal.invariant-loop-row
invariant-loop-row l = l.voxels.items ≡ first_labels l.clip.volume l.clip.lo l.clip.size l.labels (l.clip.size.x * l.row)
