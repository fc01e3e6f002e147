use Rattle.std.proofs.Common.{arith, ◌∷◌, [], length, length-append, ap, ◌∙◌}
use Rattle.ig_space.specs.declared.geometry.Grid.{Grid}
use Rattle.ig_space.specs.Chunk.{chunk_path}
use Rattle.ig_space.specs.Chunks.{chunk_in}
use Rattle.ig_space.specs.Grid.{cell, hull}
use Rattle.ig_space.proofs.Listed.{listed-more}
use Rattle.ig_space.proofs.chunks.chunks_of.Goals as goal

pub loop-alloc-preserved : goal.loop-alloc-preserved
loop-alloc-preserved c =
    let kept = c.loop-alloc.invariant in
    let grid = c.hull-hull.ensures.value ∙ ap (λ (g : Grid). hull g c.args.area) c.chunks.ensures.value in
    let item = c.in_ok-chunk_path.ensures ∙ ap (chunk_path c.args.place.now.dir) (c.cell-area.ensures.value ∙ ap (cell c.hull-hull.result) c.len-in-loop-alloc.ensures ∙ ap (λ (g : Grid). cell g (length c.loop-alloc.paths)) grid) in
    let grown = c.in_ok-push.ensures.ok in (
      listed-more (chunk_in c.args.place.now c.args.area) c.loop-alloc.paths c.push.new.self c.in_ok-chunk_path.field-0 kept.0 item grown,
      omega (arith, ap length grown ∙ length-append c.loop-alloc.paths (c.in_ok-chunk_path.field-0 ∷ []), c.loop-alloc-test.true, c.count.ensures),
    )
