-- The paths so far, and then those of the scales that are left, are all; and these have their boxes.
use Rattle.std.proofs.Common.{◌≡◌, ◌+◌, ◌++◌, drop}
use Rattle.std.specs.List.{AllByRecursion}
use Rattle.ig_record.specs.Columns.{box_written, chunks_of_all, chunks_written}
use Rattle.ig_record.specs.SoundFacts.{IsScale}
use Rattle.ig_record.specs.SoundRows.{AllWithin}
use Rattle.ig_record.proofs.lists.chunks_written.Given as goal

abbrev pub invariant-loop-dest : goal.invariant-loop-dest
invariant-loop-dest l = record {
  so_far : chunks_written l.stage.kind l.stage l.task ≡ l.paths ++ chunks_of_all (box_written l.stage.kind l.stage l.task) l.number (drop l.dest-index l.stage.dests);
  scales : AllByRecursion IsScale (drop l.dest-index l.stage.dests);
  boxes : AllWithin (box_written l.stage.kind l.stage l.task) l.number (drop l.dest-index l.stage.dests);
  number : l.number ≡ l.dest-index + 1;
}
