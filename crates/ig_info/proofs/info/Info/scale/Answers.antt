use Rattle.ig_info.specs.Scale.{scale_fits}
use Rattle.ig_info.proofs.Lists.{copied_passes}
use Rattle.ig_info.proofs.info.Info.scale.Goals as goal

pub returns-clause-fits : goal.returns-clause-fits
returns-clause-fits c = copied_passes scale_fits _ _ c.get.result c.get.ensures c.self.invariant.fit
