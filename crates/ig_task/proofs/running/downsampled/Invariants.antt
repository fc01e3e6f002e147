-- So far the chunks of the first scales were made.
use Rattle.ig_task.proofs.MipRuns.{AreSoFar}
use Rattle.ig_task.proofs.running.downsampled.Given as goal

abbrev pub invariant-loop-place : goal.invariant-loop-place
invariant-loop-place l = AreSoFar l.stage l.task l.place l.volume.labels l.outputs
