use Rattle.std.proofs.Common.{arith}
use Rattle.ig_space.specs.Segments.{is_path-short}
use Rattle.ig_space.proofs.path.Path.len.Goals as goal

pub prove-unreachable-requires : goal.prove-unreachable-requires
prove-unreachable-requires c = absurd (omega (arith, is_path-short _ c.self.invariant, c.len-len.ensures))
