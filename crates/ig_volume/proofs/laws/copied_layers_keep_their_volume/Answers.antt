use Rattle.ig_volume.proofs.Texts.{copies-keep_volumes}
use Rattle.ig_volume.proofs.laws.copied_layers_keep_their_volume.Goals as goal

pub returns : goal.returns
returns c = copies-keep_volumes
