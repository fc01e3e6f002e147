use Rattle.std.proofs.Common.{arith, ap, length}
use Rattle.ig_faces.proofs.parts.write_parts.Goals as goal

pub write_counted-requires-clause-fewer : goal.write_counted-requires-clause-fewer
write_counted-requires-clause-fewer c = omega (arith, ap length c.as_slice.ensures.value, c.in_ok-parts.ensures.many, c.requires.fewer)
