use Rattle.std.proofs.Common.{arith}
use Rattle.ig_space.specs.Segments.{is_path-joined_text}
use Rattle.ig_space.proofs.path.Path.join.Goals as goal

pub invariant_of-result : goal.invariant_of-result
invariant_of-result c =
    is_path-joined_text _ _ _ c.in_ok-text.ensures (rw c.as_str-dir.ensures.value c.self.invariant) (rw c.as_str-name.ensures.value c.name.invariant) (omega arith)
