use Rattle.std.proofs.Common.{◌∙◌, ap, refl}
use Rattle.ig_space.specs.declared.point.Point.{Point}
use Rattle.ig_cseg.specs.Cseg.{fault_of, label_at}
use Rattle.ig_cseg.specs.CsegText.{cseg_text}
use Rattle.ig_cseg.specs.ReadsBack.{cseg_text-clean, cseg_text-reads_back}
use Rattle.ig_cseg.proofs.encoder.encode.Goals as goal

pub returns-in-Ok-clause-clean : goal.returns-in-Ok-clause-clean
returns-in-Ok-clause-clean c =
    let v = c.args.volume.now in
    let text = c.in-Ok.ensures.text ∙ ap (λ (s : Point). cseg_text c.args.block c.args.width s c.labels-2.result.now) c.size.ensures.size ∙ ap (cseg_text c.args.block c.args.width v.size) c.labels-2.ensures.labels in
    let fit = rw c.labels.ensures.labels at (c.in_default.ensures.fit refl) in
    ap (fault_of c.args.block c.args.width v.size) text
    ∙ cseg_text-clean c.args.block c.args.width v.size v.labels c.requires.wide
    (record { x_step = c.requires.x; y_step = c.requires.y; z_step = c.requires.z; few = c.requires.few; padded = c.requires.padded }) c.labels.ensures.length fit

pub returns-in-Ok-clause-reads_back : goal.returns-in-Ok-clause-reads_back
returns-in-Ok-clause-reads_back c =
    let v = c.args.volume.now in
    let text = c.in-Ok.ensures.text ∙ ap (λ (s : Point). cseg_text c.args.block c.args.width s c.labels-2.result.now) c.size.ensures.size ∙ ap (cseg_text c.args.block c.args.width v.size) c.labels-2.ensures.labels in
    let fit = rw c.labels.ensures.labels at (c.in_default.ensures.fit refl) in
    λ x y z i. ap (λ bytes. label_at c.args.block c.args.width v.size bytes x y z) text
    ∙ cseg_text-reads_back c.args.block c.args.width v.size v.labels c.requires.wide
    (record { x_step = c.requires.x; y_step = c.requires.y; z_step = c.requires.z; few = c.requires.few; padded = c.requires.padded }) c.labels.ensures.length fit x y z i
