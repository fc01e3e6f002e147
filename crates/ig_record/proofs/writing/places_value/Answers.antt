use Rattle.ig_record.proofs.Texts.{places-listed}
use Rattle.ig_record.proofs.writing.places_value.Goals as goal

pub returns : goal.returns
returns c = places-listed c.loop-place.values c.args.places.now c.loop-place.place-index c.loop-place-test.false c.loop-place.invariant
