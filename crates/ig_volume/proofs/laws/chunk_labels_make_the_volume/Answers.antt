use Rattle.ig_volume.proofs.Volumes.{chunks-make_volumes}
use Rattle.ig_volume.proofs.laws.chunk_labels_make_the_volume.Goals as goal

pub returns : goal.returns
returns c = chunks-make_volumes
