-- So far the flags were set that the first names show.
use Rattle.std.proofs.Common.{take}
use Rattle.ig_stage.specs.Shown.{Marks, ShowsTask, listed_dir}
use Rattle.ig_stage.proofs.shown.mark_all.Given as goal

abbrev pub invariant-loop-name : goal.invariant-loop-name
invariant-loop-name l = Marks (ShowsTask (listed_dir l.listing) (take l.name-index l.given) l.number) l.fn.shown l.shown
