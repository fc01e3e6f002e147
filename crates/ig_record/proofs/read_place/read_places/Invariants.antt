-- What all places give is what those that are left give after those that were read.
use Rattle.std.proofs.Common.{◌≡◌, [], drop}
use Rattle.serde_json.specs.View.{items_view}
use Rattle.ig_record.specs.Reading.{places_after}
use Rattle.ig_record.proofs.read_place.read_places.Given as goal

abbrev pub invariant-loop-value : goal.invariant-loop-value
invariant-loop-value l = places_after [] (items_view l.values) ≡ places_after l.places (items_view (drop l.value-index l.values))
