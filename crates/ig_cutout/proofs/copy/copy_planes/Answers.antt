use Rattle.std.proofs.Common.{arith, ◌≡◌, length, slice_index, sym, subst}
use Rattle.ig_cutout.specs.declared.layout.Layout.{Layout}
use Rattle.ig_cutout.specs.Area.{HasRoom, at_plane, one_plane}
use Rattle.ig_cutout.specs.Laid.{IsLaid}
use Rattle.ig_cutout.proofs.Laying.{laid-plane, sized}
use Rattle.ig_cutout.proofs.Rows.{plane-begins, plane-room}
use Rattle.ig_cutout.proofs.copy.copy_planes.Goals as goal

pub at_plane-requires : goal.at_plane-requires
at_plane-requires c =
    let h = plane-begins 1 c.args.from c.args.size _ c.loop-z.z (omega arith) c.requires.source c.requires.some c.loop-z-test.true in
    omega arith

pub at_plane-requires-in-loop-z : goal.at_plane-requires-in-loop-z
at_plane-requires-in-loop-z c =
    let h = plane-begins 1 c.args.to c.args.size _ c.loop-z.z (omega arith) c.requires.target c.requires.some c.loop-z-test.true in
    omega arith

pub copy_rows-requires-clause-source : goal.copy_rows-requires-clause-source
copy_rows-requires-clause-source c =
    subst (λ (layout : Layout). HasRoom 1 layout (one_plane c.args.size) (length c.args.source.now)) (sym c.at_plane.ensures)
    (plane-room 1 c.args.from c.args.size _ c.loop-z.z c.requires.source c.loop-z-test.true)

pub copy_rows-requires-clause-target : goal.copy_rows-requires-clause-target
copy_rows-requires-clause-target c =
    subst (λ (layout : Layout). HasRoom 1 layout (one_plane c.args.size) (length c.loop-z.labels)) (sym c.at_plane-in-loop-z.ensures)
    (rw c.loop-z.auto.labels (plane-room 1 c.args.to c.args.size _ c.loop-z.z c.requires.target c.loop-z-test.true))

pub loop-z-preserved : goal.loop-z-preserved
loop-z-preserved c =
    let kept = c.loop-z.invariant in
    let number = slice_index c.args.source.now in
    let plane = one_plane c.args.size in
    let more = subst (λ (layout : Layout). IsLaid number layout c.at_plane-in-loop-z.result plane c.loop-z.labels c.copy_rows.new.labels) c.at_plane.ensures c.copy_rows.ensures.laid in (
      laid-plane number c.args.from c.args.to c.args.size.x c.args.size.y c.loop-z.z c.args.labels.now c.loop-z.labels c.copy_rows.new.labels
          (record { rows = c.requires.order.rows; planes = c.requires.order.planes }) kept.0
          (subst (λ (layout : Layout). IsLaid number (at_plane c.args.from c.loop-z.z) layout plane c.loop-z.labels c.copy_rows.new.labels) c.at_plane-in-loop-z.ensures more),
      λ width own fit. c.copy_rows.ensures.fit width own (kept.1 width own fit),
    )

pub returns-clause-laid : goal.returns-clause-laid
returns-clause-laid c =
    let same : c.loop-z.z ≡ c.args.size.z = omega arith in
    subst (λ z. IsLaid (slice_index c.args.source.now) c.args.from c.args.to (sized c.args.size.x c.args.size.y z) c.args.labels.now c.loop-z.labels) same c.loop-z.invariant.0
