use Rattle.std.proofs.Common.{◌+◌, ◌*◌, ◌≡◌, ◌≤◌, ◌<◌, ◌^◌, ◌∙◌, ap, arith, length, subst, sym}
use Rattle.ig_space.specs.declared.point.Point.{Point}
use Rattle.ig_space.specs.Geometry.{count}
use Rattle.ig_mode.specs.Mode.{half_up}
use Rattle.ig_mode.proofs.Planes.{Room, halves-few, halves-fewer, planes-more, room-of, short-ends}
use Rattle.ig_mode.proofs.Written.{length-part, part-in}
use Rattle.ig_mode.proofs.halving.halve_planes.Goals as goal

pub overflow_mul-long : goal.overflow_mul-long
overflow_mul-long c = let r = room-of c.args.size (omega arith) c.requires.few in omega (arith, r.plane)

pub overflow_mul-short : goal.overflow_mul-short
overflow_mul-short c =
    let r = room-of c.args.size (omega arith) c.requires.few in
    let same = ap (λ (p : Point). p.x * p.y) c.requires.size in
    omega (arith, r.plane, same, halves-fewer c.args.size)

pub overflow_mul-to : goal.overflow_mul-to
overflow_mul-to c =
    let h = short-ends c.args.size c.args.half c.loop-z.z c.requires.size c.loop-z-test.true in
    let few = ap (λ (p : Point). count p) c.requires.size in
    omega (arith, h, few, halves-few c.args.size, c.requires.half, c.loop-z.auto.out)

pub offset_bounds-out-to : goal.offset_bounds-out-to
offset_bounds-out-to c =
    let h = short-ends c.args.size c.args.half c.loop-z.z c.requires.size c.loop-z-test.true in
    let few = ap (λ (p : Point). count p) c.requires.size in
    omega (arith, h, few, halves-few c.args.size, c.requires.half, c.loop-z.auto.out)

pub slice_bounds-halve_plane-end-in-loop-z : goal.slice_bounds-halve_plane-end-in-loop-z
slice_bounds-halve_plane-end-in-loop-z c =
    let h = short-ends c.args.size c.args.half c.loop-z.z c.requires.size c.loop-z-test.true in
    let few = ap (λ (p : Point). count p) c.requires.size in
    omega (arith, h, few, halves-few c.args.size, c.requires.half, c.loop-z.auto.out)

pub loop-z-preserved : goal.loop-z-preserved
loop-z-preserved c =
    let size = c.args.size in
    let short = c.args.half.x * c.args.half.y in
    let out = c.loop-z.out in
    let same : short ≡ half_up size.x * half_up size.y = ap (λ (p : Point). p.x * p.y) c.requires.size in
    let ends = short-ends size c.args.half c.loop-z.z c.requires.size c.loop-z-test.true in
    let within : short * c.loop-z.z + short ≤ length out = omega (arith, ends, c.requires.half, c.loop-z.auto.out) in
    let long = c.halve_plane.auto.out ∙ length-part (short * c.loop-z.z) short out within in
    planes-more size short c.loop-z.z c.args.labels.now out c.halve_plane.new.out same long within c.loop-z.invariant c.halve_plane.ensures
