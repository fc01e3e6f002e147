use Rattle.std.proofs.Common.{Some, refl, ap, sym, ◌∙◌}
use Rattle.ig_cutout.proofs.Cutting.{chunk_text-part, output-is}
use Rattle.ig_cutout.proofs.cut.cut_chunk.Goals as goal

pub returns : goal.returns
returns c =
    let place = c.args.place.now in
    λ volume all.
    output-is place volume c.args.chunk _ c.in_ok-path.path c.in_ok-text.text refl c.in_ok-path.ensures
    (chunk_text-part place.geometry volume c.args.area c.args.chunk c.args.labels.now (record { within = c.requires.within; long = c.requires.length }) c.requires.fit all
    ∙ ap Some (sym c.in_ok-text.ensures))
