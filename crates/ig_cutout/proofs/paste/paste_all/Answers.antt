use Rattle.std.proofs.Common.{arith, ◌≡◌, ◌<◌, true, List, length, get_or, None, ap, sym, ◌∙◌, subst}
use Rattle.std.proofs.lemmas.List.{get_or_default}
use Rattle.ig_space.specs.declared.point.Box3.{Box3}
use Rattle.ig_space.specs.declared.geometry.Grid.{Grid}
use Rattle.ig_space.specs.Chunk.{chunk_path}
use Rattle.ig_space.specs.Geometry.{count, encoding_fits}
use Rattle.ig_space.specs.Grid.{IsGrid, Meets, cell, chunks_of, hull, size_of}
use Rattle.ig_layer.specs.Faults.{chunk_at, fault_in}
use Rattle.ig_cutout.specs.declared.types.Input.{Input}
use Rattle.ig_cutout.specs.Inputs.{Says}
use Rattle.ig_cutout.specs.Pasted.{IsAdded, IsAssembled}
use Rattle.ig_cutout.proofs.Assembling.{assembled-more}
use Rattle.ig_cutout.proofs.Chunks.{chunk-few, inputs-count, inputs-path, number-below}
use Rattle.ig_cutout.proofs.Fitting.{chunk-encoding}
use Rattle.ig_cutout.proofs.FirstFault.{no-fault, the-fault}
use Rattle.ig_cutout.proofs.paste.paste_all.Goals as goal

pub cell-chunk-requires-clause-below : goal.cell-chunk-requires-clause-below
cell-chunk-requires-clause-below c =
    number-below c.hull-hull.result (hull (chunks_of c.args.place.now.geometry) c.args.area) c.as_slice-input-items.result.now c.args.inputs.now c.loop-number.number
    (c.hull-hull.ensures.value ∙ ap (λ (g : Grid). hull g c.args.area) c.chunks.ensures.value) c.as_slice-input-items.ensures
    (inputs-count c.args.place.now c.args.area c.args.inputs.now c.requires.paths) c.loop-number-test.true

pub paste-requires-clause-path : goal.paste-requires-clause-path
paste-requires-clause-path c =
    let chunk = c.cell-chunk.ensures.value ∙ ap (λ (g : Grid). cell g c.loop-number.number) (c.hull-hull.ensures.value ∙ ap (λ (g : Grid). hull g c.args.area) c.chunks.ensures.value) in
    let d = c.input-item.result in
    let item : d ≡ get_or c.args.inputs.now c.loop-number.number d = c.input-item.is ∙ ap (λ (xs : List Input). get_or xs c.loop-number.number d) c.as_slice-input-items.ensures in
    ap (λ (i : Input). i.path) item
    ∙ inputs-path c.args.place.now c.args.area c.args.inputs.now c.loop-number.number d c.requires.paths (omega (arith, c.loop-number-test.true, ap length c.as_slice-input-items.ensures))
    ∙ ap (chunk_path c.args.place.now.dir) (sym chunk)

pub paste-requires-clause-meets : goal.paste-requires-clause-meets
paste-requires-clause-meets c =
    let below = number-below c.hull-hull.result (hull (chunks_of c.args.place.now.geometry) c.args.area) c.as_slice-input-items.result.now c.args.inputs.now c.loop-number.number
    (c.hull-hull.ensures.value ∙ ap (λ (g : Grid). hull g c.args.area) c.chunks.ensures.value) c.as_slice-input-items.ensures
    (inputs-count c.args.place.now c.args.area c.args.inputs.now c.requires.paths) c.loop-number-test.true in
    subst (λ (b : Box3). Meets b c.args.area) (sym c.cell-chunk.ensures.value) (c.hull-hull.ensures.meets c.loop-number.number below)

pub paste-requires-clause-few_in_chunk : goal.paste-requires-clause-few_in_chunk
paste-requires-clause-few_in_chunk c =
    let grid = c.hull-hull.ensures.value ∙ ap (λ (g : Grid). hull g c.args.area) c.chunks.ensures.value in
    let chunk = c.cell-chunk.ensures.value ∙ ap (λ (g : Grid). cell g c.loop-number.number) grid in
    let few = chunk-few c.args.place.now c.args.area c.loop-number.number c.requires.fits in
    omega (arith, few, ap (λ (b : Box3). count (size_of b)) chunk)

pub paste-requires-clause-fits : goal.paste-requires-clause-fits
paste-requires-clause-fits c =
    let g = c.args.place.now.geometry in
    let grid = c.hull-hull.ensures.value ∙ ap (λ (g : Grid). hull g c.args.area) c.chunks.ensures.value in
    let chunk = c.cell-chunk.ensures.value ∙ ap (λ (g : Grid). cell g c.loop-number.number) grid in
    subst (λ (b : Box3). encoding_fits (size_of b) g.width g.encoding ≡ true) (sym chunk) (chunk-encoding c.args.place.now c.args.area c.loop-number.number c.requires.fits)

pub returns-in-Err-clause-fault : goal.returns-in-Err-clause-fault
returns-in-Err-clause-fault c =
    let chunk = c.cell-chunk.ensures.value ∙ ap (λ (g : Grid). cell g c.loop-number.number) (c.hull-hull.ensures.value ∙ ap (λ (g : Grid). hull g c.args.area) c.chunks.ensures.value) in
    let d = c.input-item.result in
    let item : d ≡ get_or c.args.inputs.now c.loop-number.number d = c.input-item.is ∙ ap (λ (xs : List Input). get_or xs c.loop-number.number d) c.as_slice-input-items.ensures in
    let says = subst (λ (b : Box3). Says c.in-Err.error (fault_in c.args.place.now b d.found)) chunk c.in-Err.ensures.fault in
    let said = subst (λ (i : Input). Says c.in-Err.error (fault_in c.args.place.now (chunk_at c.args.place.now c.args.area c.loop-number.number) i.found)) item says in
    λ files holds.
    the-fault c.args.place.now c.args.area files c.args.inputs.now c.loop-number.number d c.in-Err.error c.requires.paths holds
    (omega (arith, c.loop-number-test.true, ap length c.as_slice-input-items.ensures)) c.loop-number.invariant.sound said

pub loop-number-preserved : goal.loop-number-preserved
loop-number-preserved c =
    let grid = c.hull-hull.ensures.value ∙ ap (λ (g : Grid). hull g c.args.area) c.chunks.ensures.value in
    let chunk = c.cell-chunk.ensures.value ∙ ap (λ (g : Grid). cell g c.loop-number.number) grid in
    let d = c.input-item.result in
    let within : c.loop-number.number < length c.args.inputs.now = omega (arith, c.loop-number-test.true, ap length c.as_slice-input-items.ensures) in
    let item : d ≡ get_or c.args.inputs.now c.loop-number.number d = c.input-item.is ∙ ap (λ (xs : List Input). get_or xs c.loop-number.number d) c.as_slice-input-items.ensures in
    let added = subst (λ (b : Box3). IsAdded c.args.place.now.geometry c.args.area b d.found c.loop-number.labels c.paste.new.labels) chunk c.in_default.ensures.added in
    let sound = subst (λ (b : Box3). fault_in c.args.place.now b d.found ≡ None) chunk c.in_default.ensures.fault in
    assembled-more c.args.place.now c.args.area c.args.inputs.now c.loop-number.number d.found c.loop-number.labels c.paste.new.labels
    (subst IsGrid c.chunks.ensures.value c.chunks.ensures.grid) c.requires.within (omega (arith, within, inputs-count c.args.place.now c.args.area c.args.inputs.now c.requires.paths))
    c.loop-number.invariant added
    (λ e. ap (λ (i : Input). i.found) (get_or_default c.args.inputs.now c.loop-number.number e d within ∙ sym item)) sound (c.paste.ensures.fit c.loop-number.invariant.fit)

pub returns-clause-assembled : goal.returns-clause-assembled
returns-clause-assembled c =
    let last : c.loop-number.number ≡ length c.args.inputs.now = omega (arith, ap length c.as_slice-input-items.ensures) in
    subst (λ n. IsAssembled c.args.place.now c.args.area c.args.inputs.now n c.loop-number.labels) last c.loop-number.invariant

pub returns-clause-fault : goal.returns-clause-fault
returns-clause-fault c =
    let last : c.loop-number.number ≡ length c.args.inputs.now = omega (arith, ap length c.as_slice-input-items.ensures) in
    λ files holds. no-fault c.args.place.now c.args.area files c.args.inputs.now c.requires.paths holds (λ k d below. c.loop-number.invariant.sound k d (omega (arith, last, below)))
