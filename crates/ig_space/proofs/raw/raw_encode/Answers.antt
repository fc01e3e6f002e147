use Rattle.std.proofs.Common.{◌*◌, length, drop, ◌∙◌, ap, refl, sym}
use Rattle.byteorder.specs.Endian.{little_number}
use Rattle.ig_space.specs.Geometry.{label_len}
use Rattle.ig_space.specs.Raw.{raw_text}
use Rattle.ig_space.proofs.RawText.{length-text, text-number}
use Rattle.ig_space.proofs.raw.raw_encode.Goals as goal

pub returns-in-Ok-clause-each : goal.returns-in-Ok-clause-each
returns-in-Ok-clause-each c =
    let n = label_len c.args.width in
    let labels = c.args.volume.now.labels in
    let text = c.from_vec.ensures ∙ c.in-Ok.ensures ∙ ap (raw_text c.args.width) c.labels-2.ensures.labels in
    let fit = rw c.labels.ensures.labels at (c.in_default.ensures.fit refl) in
    λ k h. text-number n labels k h (fit k h) ∙ ap (λ t. little_number n (drop (n * k) t)) (sym text)

pub returns-in-Ok-clause-length : goal.returns-in-Ok-clause-length
returns-in-Ok-clause-length c =
    let n = label_len c.args.width in
    let text = c.from_vec.ensures ∙ c.in-Ok.ensures ∙ ap (raw_text c.args.width) c.labels-2.ensures.labels in
    ap length text ∙ length-text n c.args.volume.now.labels ∙ ap (λ m. n * m) c.labels-2.ensures.length
