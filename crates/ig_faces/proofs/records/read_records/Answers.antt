use Rattle.ig_faces.proofs.RecordSteps.{read-step}
use Rattle.ig_faces.proofs.records.read_records.Goals as goal

pub loop-place-preserved : goal.loop-place-preserved
loop-place-preserved g c =
    let kept = c.loop-place.invariant in
    read-step g.R.Record.read g.R.Record.text g.R.Record.EACH c.EACH.result c.loop-place.place c.args.bytes.now c.loop-place.records.items c.push.new.self.items
    c.read_from.result c.EACH.ensures c.in_ok-push.ensures.items kept.0 kept.1 c.read_from.ensures.value c.read_from.ensures.text
