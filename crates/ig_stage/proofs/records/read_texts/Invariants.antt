-- So far the first records were read.
use Rattle.std.proofs.Common.{◌≡◌, ◌≤◌, ◌-◌, length}
use Rattle.ig_defs.specs.Log.{files_of}
use Rattle.ig_task.specs.Pipeline.{is_allowed}
use Rattle.ig_stage.specs.Recorded.{FindsRecords, IsMaking, ReadsOn}
use Rattle.ig_stage.proofs.records.read_texts.Given as goal

abbrev pub invariant-loop-number : goal.invariant-loop-number
invariant-loop-number g l =
    (g.S.Store.rule l.store ≡ g.S.Store.rule l.fn.store) × (g.S.Store.faults l.fn.store ≤ g.S.Store.faults l.store)
    × (length l.texts ≡ l.number)
    × (g.S.Store.tells → ReadsOn (is_allowed (g.S.Store.rule l.fn.store)) l.queue l.count (l.count - l.number) l.texts (g.S.Store.log l.fn.store) (g.S.Store.log l.store))
    × (g.S.Store.tells → IsMaking (g.S.Store.rule l.fn.store) l.queue (files_of (g.S.Store.log l.fn.store))
    → FindsRecords l.queue (files_of (g.S.Store.log l.fn.store)) (files_of (g.S.Store.log l.store)) l.texts)
