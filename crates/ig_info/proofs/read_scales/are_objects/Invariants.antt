-- Whether all are objects, as far as those that are left tell.
use Rattle.std.proofs.Common.{◌≡◌, drop}
use Rattle.serde_json.specs.View.{items_view}
use Rattle.ig_info.specs.Whole.{all_objects}
use Rattle.ig_info.proofs.read_scales.are_objects.Given as goal

abbrev pub invariant-loop-value : goal.invariant-loop-value
invariant-loop-value l = all_objects (items_view l.values) ≡ all_objects (items_view (drop l.value-index l.values))
