-- All are mips where those that are left are mips of the last one.
use Rattle.std.proofs.Common.{◌≡◌, drop}
use Rattle.ig_record.specs.Sound.{are_mips}
use Rattle.ig_record.proofs.lawful.are_mips.Given as goal

abbrev pub invariant-loop-dest : goal.invariant-loop-dest
invariant-loop-dest l = are_mips l.layer l.source l.dests ≡ are_mips l.layer l.before (drop l.dest-index l.dests)
