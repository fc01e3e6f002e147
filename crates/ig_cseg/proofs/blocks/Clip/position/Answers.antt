use Rattle.std.proofs.Common.{arith, ◌≤◌, ◌+◌, ◌*◌, ◌/◌, ◌%◌, ◌^◌}
use Rattle.ig_cseg.proofs.Spans.{factor_small, position_in_block}
use Rattle.ig_cseg.proofs.blocks.Clip.position.Goals as goal

pub overflow_add-result : goal.overflow_add-result
overflow_add-result c =
    let s = c.args.self.now in
    let all = position_in_block s.volume s.block s.lo s.size c.args.row c.requires.clip c.requires.below in
    let rows : c.args.row % s.size.y + s.block.y * (c.args.row / s.size.y) ≤ 2 ^ 22 = factor_small s.block.x _ (2 ^ 22) (omega (arith, c.requires.clip.x_some, c.requires.clip.x_most)) (omega (arith, all, c.requires.clip.positions)) in
    omega (arith, rows)

pub overflow_mul-result-2 : goal.overflow_mul-result-2
overflow_mul-result-2 c =
    let s = c.args.self.now in
    omega (arith, position_in_block s.volume s.block s.lo s.size c.args.row c.requires.clip c.requires.below, c.requires.clip.positions)

pub returns-clause-within : goal.returns-clause-within
returns-clause-within c =
    let s = c.args.self.now in
    omega (arith, position_in_block s.volume s.block s.lo s.size c.args.row c.requires.clip c.requires.below, c.requires.clip.positions)
