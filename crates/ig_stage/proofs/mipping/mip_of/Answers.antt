use Rattle.std.proofs.Common.{subst, sym}
use Rattle.ig_stage.specs.Mips.{CanDouble}
use Rattle.ig_stage.proofs.MipKeys.{can-write}
use Rattle.ig_stage.proofs.mipping.mip_of.Goals as goal

pub key_of-requires : goal.key_of-requires
key_of-requires c = subst (CanDouble 0) (sym c.coarser-resolution.ensures) (can-write c.args.scale.now.resolution c.requires)
