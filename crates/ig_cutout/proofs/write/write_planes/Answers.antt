use Rattle.std.proofs.Common.{arith, ◌*◌, refl, ap, ◌∙◌}
use Rattle.ig_space.specs.Geometry.{label_len}
use Rattle.ig_space.specs.Raw.{raw_text}
use Rattle.ig_cutout.specs.declared.layout.Layout.{Layout}
use Rattle.ig_cutout.specs.Gathered.{rows_of}
use Rattle.ig_cutout.proofs.Gathering.{part-ends, planes-more}
use Rattle.ig_cutout.proofs.write.write_planes.Goals as goal

pub overflow_add-to : goal.overflow_add-to
overflow_add-to c =
    let h = part-ends (c.bytes_each.result * c.args.size.x) (label_len c.args.width * c.args.size.x) c.args.size.y c.loop-z.z c.args.size.z _ (ap (λ n. n * c.args.size.x) c.bytes_each.ensures.value) c.requires.room c.loop-z-test.true in
    omega arith

pub slice_bounds-write_rows-end : goal.slice_bounds-write_rows-end
slice_bounds-write_rows-end c =
    let h = part-ends (c.bytes_each.result * c.args.size.x) (label_len c.args.width * c.args.size.x) c.args.size.y c.loop-z.z c.args.size.z _ (ap (λ n. n * c.args.size.x) c.bytes_each.ensures.value) c.requires.room c.loop-z-test.true in
    omega arith

pub loop-z-preserved : goal.loop-z-preserved
loop-z-preserved c =
    planes-more c.args.width c.args.labels.now c.args.source c.args.size c.loop-z.z c.bytes_each.result (c.bytes_each.result * c.args.size.x * c.args.size.y * c.loop-z.z) _ c.args.text.now c.loop-z.text c.write_rows.new.text
    c.requires.source c.loop-z-test.true c.bytes_each.ensures.value refl (omega arith) c.loop-z.invariant
    (c.write_rows.ensures ∙ ap (λ (layout : Layout). raw_text c.args.width (rows_of c.args.labels.now layout c.args.size.x c.args.size.y)) c.at_plane.ensures)
