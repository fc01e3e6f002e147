-- The places are those of the scales so far, and those of the others are left.
use Rattle.std.proofs.Common.{◌≡◌, ◌++◌, drop, map}
use Rattle.ig_meaning.specs.Plan.{place_in}
use Rattle.ig_stage.proofs.mipping.places_of.Given as goal

abbrev pub invariant-loop-scale : goal.invariant-loop-scale
invariant-loop-scale l = map (place_in l.layer) l.scales ≡ l.places ++ map (place_in l.layer) (drop l.scale-index l.scales)
