use Rattle.std.proofs.Common.{ap, ◌∙◌}
use Rattle.ig_record.proofs.Texts.{record-written}
use Rattle.ig_record.proofs.writing.write_stage.Goals as goal

pub returns : goal.returns
returns c =
    let parts = c.in_ok-parts_of.ensures in
    record-written c.args.number c.args.stage.now _ _ _ _ _ _ _ _ parts.dests parts.info parts.scratch parts.shape parts.source c.in_ok-record.ensures c.in_ok-text.ensures.text
    (c.from_vec.ensures ∙ ap (λ v. v.items) c.into_bytes.ensures.value)
