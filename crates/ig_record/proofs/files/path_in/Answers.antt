use Rattle.std.proofs.Common.{arith}
use Rattle.ig_defs.specs.OneSegment.{is_path-segment}
use Rattle.ig_record.proofs.files.path_in.Goals as goal

pub unwrap-name-requires : goal.unwrap-name-requires
unwrap-name-requires c = c.in_ok-new.ensures.some.1 (is_path-segment _ c.requires.name (let short = c.requires.short in omega (arith, short)))
