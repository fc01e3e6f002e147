use Rattle.std.proofs.Common.{arith, ◌≤◌, ◌+◌, ◌*◌, ◌/◌, ◌%◌, ◌^◌}
use Rattle.ig_cseg.proofs.Spans.{factor_small, place_in}
use Rattle.ig_cseg.proofs.blocks.Clip.place.Goals as goal

pub overflow_mul-rows : goal.overflow_mul-rows
overflow_mul-rows c =
    let s = c.args.self.now in
    let all = place_in s.volume s.block s.lo s.size c.args.row c.requires.clip c.requires.below in
    let rows : s.lo.y + c.args.row % s.size.y + s.volume.y * (s.lo.z + c.args.row / s.size.y) ≤ 2 ^ 21 = factor_small s.volume.x _ (2 ^ 21) (omega (arith, c.requires.clip.x_some, c.requires.clip.x_in)) (omega (arith, all, c.requires.clip.few)) in
    omega (arith, rows)

pub overflow_add-rows-3 : goal.overflow_add-rows-3
overflow_add-rows-3 c =
    let s = c.args.self.now in
    let all = place_in s.volume s.block s.lo s.size c.args.row c.requires.clip c.requires.below in
    let rows : s.lo.y + c.args.row % s.size.y + s.volume.y * (s.lo.z + c.args.row / s.size.y) ≤ 2 ^ 21 = factor_small s.volume.x _ (2 ^ 21) (omega (arith, c.requires.clip.x_some, c.requires.clip.x_in)) (omega (arith, all, c.requires.clip.few)) in
    omega (arith, rows)

pub overflow_mul-result : goal.overflow_mul-result
overflow_mul-result c =
    let s = c.args.self.now in
    omega (arith, place_in s.volume s.block s.lo s.size c.args.row c.requires.clip c.requires.below, c.requires.clip.few)

pub overflow_add-result : goal.overflow_add-result
overflow_add-result c =
    let s = c.args.self.now in
    omega (arith, place_in s.volume s.block s.lo s.size c.args.row c.requires.clip c.requires.below, c.requires.clip.few)

pub returns-clause-within : goal.returns-clause-within
returns-clause-within c =
    let s = c.args.self.now in
    place_in s.volume s.block s.lo s.size c.args.row c.requires.clip c.requires.below
