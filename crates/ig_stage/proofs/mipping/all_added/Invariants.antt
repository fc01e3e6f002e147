-- The scales that are left are still to be added, and are as wide as one that is there.
use Rattle.std.proofs.Common.{◌≡◌, drop}
use Rattle.ig_meaning.specs.Plan.{all_added}
use Rattle.ig_stage.specs.Mips.{AreAsWide}
use Rattle.ig_stage.proofs.mipping.all_added.Given as goal

abbrev pub invariant-loop-scale : goal.invariant-loop-scale
invariant-loop-scale l = record { whole : all_added l.info l.scales ≡ all_added l.more (drop l.scale-index l.scales); wide : AreAsWide l.more.scales l.scales }
