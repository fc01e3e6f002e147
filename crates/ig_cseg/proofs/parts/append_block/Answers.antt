use Rattle.std.proofs.Common.{ap, length, ◌∙◌}
use Rattle.ig_cseg.proofs.Gathers.{length-box_labels}
use Rattle.ig_cseg.proofs.parts.append_block.Goals as goal

pub append_indices-requires-clause-voxels : goal.append_indices-requires-clause-voxels
append_indices-requires-clause-voxels g c =
    let s = c.args.clip.now in
    ap length (c.deref-2.ensures.value ∙ c.in_ok-gather.ensures) ∙ length-box_labels s.volume s.lo s.size c.args.labels.now
