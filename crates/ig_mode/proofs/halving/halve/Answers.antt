use Rattle.std.proofs.Common.{◌∙◌, ap, length}
use Rattle.ig_mode.proofs.MipVolumes.{mip-written_by}
use Rattle.ig_mode.proofs.halving.halve.Goals as goal

pub returns : goal.returns
returns c =
    mip-written_by c.args.from.now c.args.out.now c.size.result c.size-half.result c.labels.result.now c.halve_planes.new.out
    c.size.ensures.size c.size-half.ensures.size c.labels.ensures.labels c.requires
    (c.halve_planes.auto.out ∙ ap length c.labels_mut.ensures.value) c.halve_planes.ensures
