-- So far there are as many mips as levels were counted.
use Rattle.std.proofs.Common.{◌≡◌, length}
use Rattle.ig_mode.specs.HasMips.{HaveMips}
use Rattle.ig_mode.proofs.levels.mips.Given as goal

abbrev pub invariant-loop-level : goal.invariant-loop-level
invariant-loop-level l = record { long : length l.volumes ≡ l._level; each : HaveMips l.from l.volumes }
