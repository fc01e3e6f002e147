use Rattle.ig_faces.proofs.RecordSteps.{write-step, write-end}
use Rattle.ig_faces.proofs.records.write_records.Goals as goal

pub loop-place-preserved : goal.loop-place-preserved
loop-place-preserved g c =
    let kept = c.loop-place.invariant in
    write-step g.R.Record.read g.R.Record.text g.R.Record.EACH c.EACH.result c.loop-place.place c.args.records.now c.index-records-place.result c.args.bytes.now
    c.loop-place.bytes c.write_to.new.bytes c.EACH.ensures c.loop-place-test.true c.index-records-place.is kept.0 kept.1 c.write_to.ensures.text c.write_to.ensures.back

pub returns-clause-back : goal.returns-clause-back
returns-clause-back g c =
    let kept = c.loop-place.invariant in
    write-end g.R.Record.read g.R.Record.text g.R.Record.EACH c.loop-place.place c.args.records.now c.args.bytes.now c.loop-place.bytes c.requires
    c.loop-place-test.false kept.0 kept.1
