-- One of all of them is shared exactly if one of those that are left is.
use Rattle.std.proofs.Common.{◌≡◌, drop}
use Rattle.ig_meaning.specs.Taken.{share_one}
use Rattle.ig_record.specs.Columns.{output_dirs}
use Rattle.ig_stage.proofs.taking.share_one.Given as goal

abbrev pub invariant-loop-dir : goal.invariant-loop-dir
invariant-loop-dir l = share_one l.dirs (output_dirs l.stage) ≡ share_one (drop l.dir-index l.dirs) (output_dirs l.stage)
