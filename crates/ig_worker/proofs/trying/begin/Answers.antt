use Rattle.std.proofs.Common.{sym}
use Rattle.ig_worker.proofs.Runs.{known-sound}
use Rattle.ig_worker.proofs.trying.begin.Goals as goal

pub inputs-requires-clause-sound : goal.inputs-requires-clause-sound
inputs-requires-clause-sound c = known-sound c.args.known.now c.requires.known c.in-Some.name.stage c.in-Some-find.stage.now (sym c.in-Some-find.ensures)
