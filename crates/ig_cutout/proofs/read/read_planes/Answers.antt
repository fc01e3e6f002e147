use Rattle.std.proofs.Common.{arith, ◌≡◌, length, sym, subst}
use Rattle.ig_space.specs.Geometry.{label_len}
use Rattle.ig_cutout.specs.declared.layout.Layout.{Layout}
use Rattle.ig_cutout.specs.Area.{HasRoom, at_plane, one_plane}
use Rattle.ig_cutout.specs.Laid.{IsLaid, number_in}
use Rattle.ig_cutout.proofs.Laying.{laid-plane, sized}
use Rattle.ig_cutout.proofs.Rows.{label_len-some, plane-begins, plane-room}
use Rattle.ig_cutout.proofs.read.read_planes.Goals as goal

pub at_plane-requires : goal.at_plane-requires
at_plane-requires c =
    let h = plane-begins (label_len c.args.width) c.args.source c.args.size _ c.loop-z.z (label_len-some c.args.width) c.requires.source c.requires.some c.loop-z-test.true in
    omega arith

pub at_plane-requires-in-loop-z : goal.at_plane-requires-in-loop-z
at_plane-requires-in-loop-z c =
    let h = plane-begins 1 c.args.target c.args.size _ c.loop-z.z (omega arith) c.requires.target c.requires.some c.loop-z-test.true in
    omega arith

pub read_rows-requires-clause-source : goal.read_rows-requires-clause-source
read_rows-requires-clause-source c =
    subst (λ (layout : Layout). HasRoom (label_len c.args.width) layout (one_plane c.args.size) (length c.args.text.now)) (sym c.at_plane.ensures)
    (plane-room (label_len c.args.width) c.args.source c.args.size _ c.loop-z.z c.requires.source c.loop-z-test.true)

pub read_rows-requires-clause-target : goal.read_rows-requires-clause-target
read_rows-requires-clause-target c =
    subst (λ (layout : Layout). HasRoom 1 layout (one_plane c.args.size) (length c.loop-z.labels)) (sym c.at_plane-in-loop-z.ensures)
    (rw c.loop-z.auto.labels (plane-room 1 c.args.target c.args.size _ c.loop-z.z c.requires.target c.loop-z-test.true))

pub loop-z-preserved : goal.loop-z-preserved
loop-z-preserved c =
    let kept = c.loop-z.invariant in
    let number = number_in c.args.width c.args.text.now in
    let plane = one_plane c.args.size in
    let more = subst (λ (layout : Layout). IsLaid number layout c.at_plane-in-loop-z.result plane c.loop-z.labels c.read_rows.new.labels) c.at_plane.ensures c.read_rows.ensures.laid in (
      laid-plane number c.args.source c.args.target c.args.size.x c.args.size.y c.loop-z.z c.args.labels.now c.loop-z.labels c.read_rows.new.labels
          (record { rows = c.requires.order.rows; planes = c.requires.order.planes }) kept.0
          (subst (λ (layout : Layout). IsLaid number (at_plane c.args.source c.loop-z.z) layout plane c.loop-z.labels c.read_rows.new.labels) c.at_plane-in-loop-z.ensures more),
      λ fit. c.read_rows.ensures.fit (kept.1 fit),
    )

pub returns-clause-laid : goal.returns-clause-laid
returns-clause-laid c =
    let same : c.loop-z.z ≡ c.args.size.z = omega arith in
    subst (λ z. IsLaid (number_in c.args.width c.args.text.now) c.args.source c.args.target (sized c.args.size.x c.args.size.y z) c.args.labels.now c.loop-z.labels) same c.loop-z.invariant.0
