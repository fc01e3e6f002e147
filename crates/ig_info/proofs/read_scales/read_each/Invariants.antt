-- What all scales give is what those that are left give after those that were read.
use Rattle.std.proofs.Common.{◌≡◌, [], drop}
use Rattle.serde_json.specs.View.{items_view}
use Rattle.ig_info.specs.Scales.{scales_after}
use Rattle.ig_info.proofs.read_scales.read_each.Given as goal

abbrev pub invariant-loop-value : goal.invariant-loop-value
invariant-loop-value l = scales_after l.width [] (items_view l.values) ≡ scales_after l.width l.scales (items_view (drop l.value-index l.values))
