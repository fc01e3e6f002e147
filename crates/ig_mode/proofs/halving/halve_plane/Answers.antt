use Rattle.std.proofs.Common.{◌+◌, ◌*◌, ◌≡◌, ◌≤◌, ◌-◌, ◌/◌, ◌∙◌, ap, arith, length, subst, sym}
use Rattle.ig_mode.specs.Mode.{half_up}
use Rattle.ig_mode.proofs.Planes.{rows-more}
use Rattle.ig_mode.proofs.Written.{length-part, part-in}
use Rattle.ig_mode.proofs.halving.halve_plane.Goals as goal

pub halve_row-requires-clause-upper : goal.halve_row-requires-clause-upper
halve_row-requires-clause-upper c =
    let h = part-in c.args.wide (2 * c.loop-y.y) c.args.tall (omega arith) in
    omega arith

pub halve_row-requires-clause-lower : goal.halve_row-requires-clause-lower
halve_row-requires-clause-lower c =
    let h = part-in c.args.wide c.edge_of-second.result c.args.tall (omega (arith, c.edge_of-second.ensures)) in
    omega arith

pub loop-y-preserved : goal.loop-y-preserved
loop-y-preserved c =
    let wide = c.args.wide in
    let tall = c.args.tall in
    let y = c.loop-y.y in
    let half = wide - wide / 2 in
    let out = c.loop-y.out in
    let same : half ≡ half_up wide = omega arith in
    let part = part-in (half_up wide) y (half_up tall) (omega arith) in
    let room : half_up wide * y + half_up wide ≤ length out = omega (arith, part, c.loop-y.auto.out, c.requires.half) in
    let within = subst (λ h. h * y + h ≤ length out) (sym same) room in
    rows-more wide tall half y c.edge_of-second.result c.args.plane.now out c.halve_row.new.out same c.edge_of-second.ensures
    (c.halve_row.ensures.length ∙ length-part (half * y) half out within) within c.loop-y.invariant c.halve_row.ensures.each
