use Rattle.ig_cseg.proofs.Outside.{values_outside-is}
use Rattle.ig_cseg.proofs.check.values_outside.Goals as goal

pub returns-then-header-ne0 : goal.returns-then-header-ne0
returns-then-header-ne0 c =
    let h = c.args.header in
    let s = c.args.clip.now in
    values_outside-is c.args.bytes.now h.block h.table h.bits h.values c.last_position.result s.volume s.block s.lo s.size _ c.requires.header c.requires.clip
    c.last_position.ensures.value c.if-header-ne0.true c.is_outside.ensures
