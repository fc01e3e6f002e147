use Rattle.std.proofs.Common.{arith, ◌≡◌, true, ◌∷◌, [], length, length-append, map, Some, ap, sym, ◌∙◌, subst}
use Rattle.std.specs.Option.{option_map}
use Rattle.ig_space.specs.declared.point.Box3.{Box3}
use Rattle.ig_space.specs.declared.geometry.Grid.{Grid}
use Rattle.ig_space.specs.Geometry.{count, encoding_fits}
use Rattle.ig_space.specs.Grid.{cell, cell_count, chunks_of, hull, size_of}
use Rattle.ig_space.specs.Raw.{AllFit}
use Rattle.ig_layer.specs.Texts.{all_listed, chunk_file}
use Rattle.ig_cutout.specs.Outputs.{output_of}
use Rattle.ig_cutout.proofs.Chunks.{chunk-few}
use Rattle.ig_cutout.proofs.Fitting.{chunk-encoding}
use Rattle.ig_cutout.proofs.Cutting.{outputs-more}
use Rattle.ig_cutout.proofs.cut.cut_chunks.Goals as goal

pub cut_chunk-requires-clause-few_in_chunk : goal.cut_chunk-requires-clause-few_in_chunk
cut_chunk-requires-clause-few_in_chunk c =
    let number = c.len-in-loop-labels.result in
    let grid = c.hull-hull.ensures.value ∙ ap (λ (g : Grid). hull g c.args.area) c.chunks.ensures.value in
    let chunk = c.cell-chunk.ensures.value ∙ ap (λ (g : Grid). cell g number) grid in
    let few = chunk-few c.args.place.now c.args.area number c.requires.fits in
    omega (arith, few, ap (λ (b : Box3). count (size_of b)) chunk)

pub cut_chunk-requires-clause-fits : goal.cut_chunk-requires-clause-fits
cut_chunk-requires-clause-fits c =
    let g = c.args.place.now.geometry in
    let number = c.len-in-loop-labels.result in
    let grid = c.hull-hull.ensures.value ∙ ap (λ (g : Grid). hull g c.args.area) c.chunks.ensures.value in
    let chunk = c.cell-chunk.ensures.value ∙ ap (λ (g : Grid). cell g number) grid in
    subst (λ (b : Box3). encoding_fits (size_of b) g.width g.encoding ≡ true) (sym chunk) (chunk-encoding c.args.place.now c.args.area number c.requires.fits)

pub cut_chunk-requires-clause-fit : goal.cut_chunk-requires-clause-fit
cut_chunk-requires-clause-fit c = subst (AllFit c.args.place.now.geometry.width) (sym c.labels-labels.ensures.labels) c.requires.fit

pub loop-labels-preserved : goal.loop-labels-preserved
loop-labels-preserved c =
    let kept = c.loop-labels.invariant in
    let place = c.args.place.now in
    let g = hull (chunks_of place.geometry) c.args.area in
    let grid = c.hull-hull.ensures.value ∙ ap (λ (g : Grid). hull g c.args.area) c.chunks.ensures.value in
    let chunk = c.cell-chunk.ensures.value ∙ ap (cell c.hull-hull.result) c.len-in-loop-labels.ensures ∙ ap (λ (g : Grid). cell g (length c.loop-labels.outputs)) grid in
    let grown = c.in_ok-push.ensures.ok in (
      λ volume all.
          outputs-more (λ k. chunk_file place volume (cell g k)) c.loop-labels.outputs c.push.new.self c.in_ok-cut_chunk.field-0
          (kept.0 volume all)
          (subst (λ (b : Box3). option_map output_of (chunk_file place volume b) ≡ Some c.in_ok-cut_chunk.field-0) chunk (c.in_ok-cut_chunk.ensures volume (all ∙ ap Some (sym c.labels-labels.ensures.labels))))
          grown,
      omega (arith, ap length grown ∙ length-append c.loop-labels.outputs (c.in_ok-cut_chunk.field-0 ∷ []), c.loop-labels-test.true, c.count.ensures),
    )

pub returns : goal.returns
returns c =
    let place = c.args.place.now in
    let g = hull (chunks_of place.geometry) c.args.area in
    let grid = c.hull-hull.ensures.value ∙ ap (λ (g : Grid). hull g c.args.area) c.chunks.ensures.value in
    let last : length c.loop-labels.outputs ≡ cell_count g = omega (arith, c.loop-labels-test.false, c.count.ensures, c.len.ensures, ap cell_count grid, c.loop-labels.invariant.1) in
    λ volume all.
    sym (ap (λ n. option_map (map output_of) (all_listed (λ k. chunk_file place volume (cell g k)) n)) last) ∙ c.loop-labels.invariant.0 volume all
