use Rattle.std.proofs.Common.{arith, ◌+◌, sym, subst}
use Rattle.ig_record.specs.SoundStages.{IsSound-from}
use Rattle.ig_task.specs.Downsamples.{mips-of}
use Rattle.ig_task.proofs.MipRuns.{AreSoFar, all-made, has-mip, item_at, more-made}
use Rattle.ig_task.proofs.running.downsampled.Goals as goal

pub overflow_cast-levels : goal.overflow_cast-levels
overflow_cast-levels c =
    let few = (IsSound-from c.args.stage.now c.requires.sound).layers.row.few in
    omega (arith, few, c.len-levels.ensures)

pub mips-requires-clause-some : goal.mips-requires-clause-some
mips-requires-clause-some c =
    let some = (mips-of c.args.stage.now c.requires.sound c.requires.mips).mips.some in
    omega (arith, some, c.len-levels.ensures)

pub mips-requires-clause-few : goal.mips-requires-clause-few
mips-requires-clause-few c =
    let few = (IsSound-from c.args.stage.now c.requires.sound).layers.row.few in
    omega (arith, few, c.len-levels.ensures)

pub mip_chunks-requires-clause-mip : goal.mip_chunks-requires-clause-mip
mip_chunks-requires-clause-mip c =
    let volumes = c.in_ok-volumes.volumes in
    let mip = c.index-as_slice-place.result in
    let j = c.loop-place.place in
    let below = c.loop-place-test.true in
    let few = c.in_ok-volumes.ensures.levels in
    has-mip c.args.volume.now volumes j mip c.in_ok-volumes.ensures.each (omega (arith, below, few)) (item_at volumes c.as_slice.result.now j mip c.as_slice.ensures (omega (arith, below, few)) c.index-as_slice-place.is)

pub loop-place-preserved : goal.loop-place-preserved
loop-place-preserved c =
    let s = c.args.stage.now in
    let j = c.loop-place.place in
    let below = c.loop-place-test.true in
    subst (AreSoFar s c.args.task (j + 1) c.args.volume.now.labels) (sym c.in_ok-add_all.ensures)
    (more-made s c.args.task j c.args.volume.now.labels c.loop-place.outputs c.in_ok-chunks.chunks (omega (arith, below, c.len-levels.ensures)) c.loop-place.invariant c.in_ok-chunks.ensures)

pub returns : goal.returns
returns c = all-made c.args.stage.now c.args.task c.loop-place.place c.args.volume.now.labels c.loop-place.outputs (omega (arith, c.loop-place-test.false, c.len-levels.ensures)) c.loop-place.invariant
