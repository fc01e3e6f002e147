-- None of the first ones counts.
use Rattle.std.proofs.Common.{◌≡◌, drop}
use Rattle.ig_store.specs.Fails.{fail_of}
use Rattle.ig_store.proofs.fails.find_fail.Given as goal

abbrev pub invariant-loop-fail : goal.invariant-loop-fail
invariant-loop-fail l = fail_of l.fails l.call ≡ fail_of (drop l.fail-index l.fail-items) l.call
