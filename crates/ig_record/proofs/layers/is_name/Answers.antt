use Rattle.std.proofs.Common.{refl}
use Rattle.ig_record.proofs.Splits.{name-parts}
use Rattle.ig_record.proofs.layers.is_name.Goals as goal

pub returns-then-first-eq47 : goal.returns-then-first-eq47
returns-then-first-eq47 c = name-parts c.args.name.now c.args.text.now _ c.eq.result c.in-len1-up.len_at_least c.if-first-eq47.true refl c.eq.ensures
