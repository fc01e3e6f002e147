use Rattle.std.proofs.Common.{arith}
use Rattle.ig_cseg.proofs.Spans.{last_in_block}
use Rattle.ig_cseg.proofs.blocks.Clip.last_position.Goals as goal

pub overflow_mul-result-2 : goal.overflow_mul-result-2
overflow_mul-result-2 c =
    let s = c.args.self.now in
    omega (arith, last_in_block s.volume s.block s.lo s.size c.requires, c.requires.positions)

pub overflow_add-result-2 : goal.overflow_add-result-2
overflow_add-result-2 c =
    let s = c.args.self.now in
    omega (arith, last_in_block s.volume s.block s.lo s.size c.requires, c.requires.positions)

pub returns-clause-within : goal.returns-clause-within
returns-clause-within c =
    let s = c.args.self.now in
    omega (arith, last_in_block s.volume s.block s.lo s.size c.requires, c.requires.positions)
