use Rattle.std.proofs.Common.{arith, ◌-◌, ◌∷◌, [], length, length-append, ap, ◌∙◌}
use Rattle.ig_space.specs.declared.geometry.Grid.{Grid}
use Rattle.ig_space.specs.Chunk.{chunk_path}
use Rattle.ig_space.specs.Chunks.{chunk_in}
use Rattle.ig_space.specs.Grid.{cell, hull}
use Rattle.ig_record.proofs.ChunkLists.{added-more}
use Rattle.ig_record.proofs.lists.add_chunks.Goals as goal

pub loop-alloc-preserved : goal.loop-alloc-preserved
loop-alloc-preserved c =
    let kept = c.loop-alloc.invariant in
    let n = length c.loop-alloc.paths - c.len-before.result in
    let grid = c.hull-hull.ensures.value ∙ ap (λ (g : Grid). hull g c.args.area) c.chunks.ensures.value in
    let number = ap (λ l. l - c.len-before.result) c.len-in-loop-alloc.ensures in
    let item = c.in_ok-chunk_path.ensures ∙ ap (chunk_path c.args.place.now.dir) (c.cell-area.ensures.value ∙ ap (cell c.hull-hull.result) number ∙ ap (λ (g : Grid). cell g n) grid) in
    let grown = c.in_ok-push.ensures.ok in
    let long = ap length grown ∙ length-append c.loop-alloc.paths (c.in_ok-chunk_path.field-0 ∷ []) in
    record {
      so_far = added-more (chunk_in c.args.place.now c.args.area) c.args.paths.now c.loop-alloc.paths c.push.new.self c.len-before.result c.in_ok-chunk_path.field-0 kept.so_far kept.more item grown;
      more = omega (arith, long, kept.more);
      within = omega (arith, long, kept.more, c.loop-alloc-test.true, c.count.ensures, c.len.ensures);
    }
