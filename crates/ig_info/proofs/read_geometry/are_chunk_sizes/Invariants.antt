-- Whether all are chunk sizes, as far as those that are left tell.
use Rattle.std.proofs.Common.{◌≡◌, drop}
use Rattle.serde_json.specs.View.{items_view}
use Rattle.ig_info.specs.Parts.{all_triples}
use Rattle.ig_info.specs.Scales.{largest_side}
use Rattle.ig_info.proofs.read_geometry.are_chunk_sizes.Given as goal

abbrev pub invariant-loop-value : goal.invariant-loop-value
invariant-loop-value l = all_triples 1 largest_side (items_view l.values) ≡ all_triples 1 largest_side (items_view (drop l.value-index l.values))
