-- The numbers so far, and then those of the names that are left, are all.
use Rattle.std.proofs.Common.{◌≡◌, ◌++◌, drop}
use Rattle.ig_worker.specs.Stages.{unknown_after, unknown_named}
use Rattle.ig_worker.proofs.learning.unknown_named.Given as goal

abbrev pub invariant-loop-name : goal.invariant-loop-name
invariant-loop-name l = unknown_named l.known l.names ≡ l.unread ++ unknown_after l.known l.last (drop l.name-index l.names)
