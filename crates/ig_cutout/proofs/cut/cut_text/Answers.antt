use Rattle.std.proofs.Common.{length, ap, sym, ◌∙◌, subst}
use Rattle.ig_space.specs.Geometry.{count}
use Rattle.ig_space.specs.Raw.{AllFit}
use Rattle.ig_cutout.proofs.Parts.{part-fit, part-length}
use Rattle.ig_cutout.proofs.cut.cut_text.Goals as goal

pub encode_fitting-requires-clause-length : goal.encode_fitting-requires-clause-length
encode_fitting-requires-clause-length c =
    ap length (c.as_slice.ensures.value ∙ c.in_ok-own-in-Cseg.ensures)
    ∙ part-length c.args.area c.args.chunk c.args.labels.now (record { within = c.requires.within; long = c.requires.length }) ∙ sym (ap count c.size_of.ensures)

pub encode_fitting-requires-clause-fit : goal.encode_fitting-requires-clause-fit
encode_fitting-requires-clause-fit c =
    let width = c.args.geometry.now.width in
    subst (AllFit width) (sym (c.as_slice.ensures.value ∙ c.in_ok-own-in-Cseg.ensures))
    (part-fit width c.args.area c.args.chunk c.args.labels.now (record { within = c.requires.within; long = c.requires.length }) c.requires.fit)
