use Rattle.ig_defs.specs.OneSegment.{is_path-segment}
use Rattle.ig_queue.proofs.naming.path_of.Goals as goal

pub unwrap-requires : goal.unwrap-requires
unwrap-requires c = c.in_ok-new.ensures.some.1 (is_path-segment _ c.requires.segment c.requires.short)
