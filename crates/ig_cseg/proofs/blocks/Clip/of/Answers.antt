use Rattle.std.proofs.Common.{arith, ap, ◌*◌}
use Rattle.ig_space.specs.declared.point.Point.{Point}
use Rattle.ig_space.specs.Grid.{point_at}
use Rattle.ig_cseg.proofs.Cuts.{clip_by, grid-inside}
use Rattle.ig_cseg.proofs.Axis.{block-begins}
use Rattle.ig_cseg.proofs.blocks.Clip.of.Goals as goal

pub overflow_mul-result : goal.overflow_mul-result
overflow_mul-result c =
    let i = grid-inside c.args.size c.args.block c.args.number c.requires.below in
    let own = block-begins c.args.size.x c.args.block.x _ c.requires.cut.x_step i.x_below in
    let e = ap (λ (g : Point). (point_at g c.args.number).x * c.args.block.x) c.block_grid-grid.ensures in
    omega (arith, e, own)

pub overflow_mul-result-2 : goal.overflow_mul-result-2
overflow_mul-result-2 c =
    let i = grid-inside c.args.size c.args.block c.args.number c.requires.below in
    let own = block-begins c.args.size.y c.args.block.y _ c.requires.cut.y_step i.y_below in
    let e = ap (λ (g : Point). (point_at g c.args.number).y * c.args.block.y) c.block_grid-grid.ensures in
    omega (arith, e, own)

pub overflow_mul-result-3 : goal.overflow_mul-result-3
overflow_mul-result-3 c =
    let i = grid-inside c.args.size c.args.block c.args.number c.requires.below in
    let own = block-begins c.args.size.z c.args.block.z _ c.requires.cut.z_step i.z_below in
    let e = ap (λ (g : Point). (point_at g c.args.number).z * c.args.block.z) c.block_grid-grid.ensures in
    omega (arith, e, own)

pub clip_along-requires-2 : goal.clip_along-requires-2
clip_along-requires-2 c =
    let i = grid-inside c.args.size c.args.block c.args.number c.requires.below in
    let own = block-begins c.args.size.y c.args.block.y _ c.requires.cut.y_step i.y_below in
    let e = ap (λ (g : Point). (point_at g c.args.number).y * c.args.block.y) c.block_grid-grid.ensures in
    omega (arith, e, own)

pub clip_along-requires-3 : goal.clip_along-requires-3
clip_along-requires-3 c =
    let i = grid-inside c.args.size c.args.block c.args.number c.requires.below in
    let own = block-begins c.args.size.z c.args.block.z _ c.requires.cut.z_step i.z_below in
    let e = ap (λ (g : Point). (point_at g c.args.number).z * c.args.block.z) c.block_grid-grid.ensures in
    omega (arith, e, own)

pub returns-clause-clip : goal.returns-clause-clip
returns-clause-clip c =
    clip_by c.args.size c.args.block c.block_grid-grid.result c.args.number _ _ _ c.requires.cut c.requires.below
    c.block_grid-grid.ensures c.clip_along.ensures c.clip_along-2.ensures c.clip_along-3.ensures
