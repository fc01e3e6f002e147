-- So far the first voxels of the row are added.
use Rattle.std.proofs.Common.{◌≡◌, ◌+◌, ◌*◌, ◌++◌, slice_index}
use Rattle.ig_space.specs.Chunks.{listed}
use Rattle.ig_faces.proofs.faces.push_row.Given as goal

abbrev pub invariant-loop-k : goal.invariant-loop-k
invariant-loop-k l = l.parts.items ≡ l.fn.parts.items ++ listed (λ k. slice_index l.local (l.from + k * l.step)) l.k
