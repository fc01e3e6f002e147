-- The sets of the ends of the edges so far are put together.
use Rattle.std.proofs.Common.{◌≡◌, take}
use Rattle.ig_global.specs.Unions.{all_united}
use Rattle.ig_global.proofs.walking.join_all.Given as goal

abbrev pub invariant-loop-edge : goal.invariant-loop-edge
invariant-loop-edge l = l.sets ≡ all_united l.fn.sets (take l.edge-index l.edges)
