use Rattle.std.proofs.Common.{◌≡◌, ◌+◌, ◌++◌, suc, length, drop, arith, ap, refl, sym, ◌∙◌}
use Rattle.ig_space.specs.Chunks.{chunks_in}
use Rattle.ig_record.specs.Columns.{box_written, chunks_written}
use Rattle.ig_record.specs.SoundStages.{IsSound-from, task-within}
use Rattle.ig_record.proofs.ChunkLists.{boxes-rest, rest-is, scales-rest, written-more}
use Rattle.ig_record.proofs.lists.chunks_written.Goals as goal

pub loop-dest-init : goal.loop-dest-init
loop-dest-init c =
    let s = c.args.stage.now in
    let row = (IsSound-from s c.requires.sound).layers.row in
    record {
      so_far = ap (λ front. front ++ chunks_written s.kind s c.args.task) (sym c.new-paths.ensures);
      scales = row.scales;
      boxes = row.boxes c.args.task (task-within s c.args.task c.requires.sound c.requires.below);
      number = refl;
    }

pub overflow_add-number : goal.overflow_add-number
overflow_add-number c =
    let few = (IsSound-from c.args.stage.now c.requires.sound).layers.row.few in
    let below = c.loop-dest-test.true in
    omega (arith, few, below, c.loop-dest.invariant.number, ap (λ xs. length xs) c.as_slice-dest-items.ensures)

pub loop-dest-preserved : goal.loop-dest-preserved
loop-dest-preserved c =
    let s = c.args.stage.now in
    let kept = c.loop-dest.invariant in
    let boxes = box_written s.kind s c.args.task in
    let m = c.loop-dest.number in
    let next : suc m ≡ m + 1 = omega arith in
    let dest = c.dest-item.result in
    let rest = drop c.loop-dest.dest-index s.dests in
    let tail = drop (c.loop-dest.dest-index + 1) s.dests in
    let is = rest-is s.dests c.as_slice-dest-items.result.now c.loop-dest.dest-index dest c.as_slice-dest-items.ensures c.loop-dest-test.true c.dest-item.is in
    let more = c.in_ok-add_chunks.ensures ∙ ap (λ b. c.loop-dest.paths ++ chunks_in dest b) c.box_written.ensures in
    record {
      so_far = written-more boxes m (m + 1) rest tail dest _ c.loop-dest.paths _ is next kept.so_far more;
      scales = scales-rest rest tail dest is kept.scales;
      boxes = boxes-rest boxes m (m + 1) rest tail dest is next kept.boxes;
      number = let n = kept.number in omega (arith, n);
    }
