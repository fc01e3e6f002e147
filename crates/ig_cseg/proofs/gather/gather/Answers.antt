use Rattle.std.proofs.Common.{arith, ◌∙◌}
use Rattle.ig_cseg.proofs.Gathers.{gathered-all, gathered-more, gathered-none}
use Rattle.ig_cseg.proofs.gather.gather.Goals as goal

pub loop-row-init : goal.loop-row-init
loop-row-init c =
    let s = c.args.clip.now in
    c.clear.ensures.items ∙ gathered-none s.volume s.lo s.size c.args.labels.now

pub loop-row-preserved : goal.loop-row-preserved
loop-row-preserved c =
    let s = c.args.clip.now in
    c.in_ok-extend_from_slice.ensures.items
    ∙ gathered-more s.volume s.lo s.size c.args.labels.now c.loop-row.voxels.items c.loop-row.row c.place-start.result c.loop-row.invariant c.place-start.ensures.value
    (omega (arith, c.place-start.ensures.within, c.requires.room))

pub returns : goal.returns
returns c =
    let s = c.args.clip.now in
    gathered-all s.volume s.lo s.size c.args.labels.now c.loop-row.voxels.items c.loop-row.row c.loop-row.invariant (omega (arith, c.loop-row-test.false, c.loop-row.auto.row-end, c.rows-row-end.ensures))
