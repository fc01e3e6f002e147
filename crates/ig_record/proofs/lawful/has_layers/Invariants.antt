-- Whether the source is a scale of a layer, as far as the rest of its directory tells.
use Rattle.std.proofs.Common.{◌≡◌, take, drop}
use Rattle.ig_record.specs.Sound.{has_layers, has_split, some_split}
use Rattle.ig_record.proofs.lawful.has_layers.Given as goal

abbrev pub invariant-loop-place : goal.invariant-loop-place
invariant-loop-place l = has_layers l.stage ≡ some_split (has_split l.stage) (take l.place l.dir) (drop l.place l.dir)
