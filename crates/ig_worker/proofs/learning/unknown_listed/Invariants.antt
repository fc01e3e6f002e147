-- The numbers so far, and then those of the names that are left, are all.
use Rattle.std.proofs.Common.{◌≡◌, ◌<◌, ◌^◌, ◌++◌, All, drop}
use Rattle.ig_worker.specs.Stages.{unknown_listed}
use Rattle.ig_worker.proofs.learning.unknown_listed.Given as goal

abbrev pub invariant-loop-name : goal.invariant-loop-name
invariant-loop-name l =
    (unknown_listed l.known l.names ≡ l.unread ++ unknown_listed l.known (drop l.name-index l.names)) × All (λ number. number < 10 ^ 4) l.unread
