use Rattle.std.proofs.Common.{sym}
use Rattle.ig_space.specs.Segments.{stops}
use Rattle.ig_space.proofs.path.has_segments.Goals as goal

pub returns-then-not-may_come : goal.returns-then-not-may_come
returns-then-not-may_come c = stops _ c.loop-c.begins c.args.text.now c.loop-c.c-index c.loop-c-test.true c.loop-c.invariant (sym c.if-not-may_come.ensures)
