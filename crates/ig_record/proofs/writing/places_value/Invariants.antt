-- So far the values are those of the first places.
use Rattle.std.proofs.Common.{◌≡◌, map, take}
use Rattle.serde_json.specs.View.{view as data_of}
use Rattle.ig_record.specs.Record.{place_data}
use Rattle.ig_record.proofs.writing.places_value.Given as goal

abbrev pub invariant-loop-place : goal.invariant-loop-place
invariant-loop-place l = map data_of l.values.items ≡ map place_data (take l.place-index l.places)
