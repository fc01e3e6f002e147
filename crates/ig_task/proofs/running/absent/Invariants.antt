-- So far each input was found.
use Rattle.std.proofs.Common.{◌≡◌, drop}
use Rattle.ig_task.specs.Answers.{missing_path}
use Rattle.ig_task.proofs.running.absent.Given as goal

abbrev pub invariant-loop-input : goal.invariant-loop-input
invariant-loop-input l = missing_path l.inputs ≡ missing_path (drop l.input-index l.inputs)
