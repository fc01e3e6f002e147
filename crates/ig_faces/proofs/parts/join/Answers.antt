use Rattle.std.proofs.Common.{arith, ◌∙◌, ap, sym, length}
use Rattle.std.proofs.lemmas.List.{length-map, take_all}
use Rattle.ig_faces.specs.PartsFile.{first_of}
use Rattle.ig_faces.proofs.PartLaws.{parts_of-is}
use Rattle.ig_faces.proofs.parts.join.Goals as goal

pub returns-clause-parts : goal.returns-clause-parts
returns-clause-parts c =
    let kept = c.loop-place.invariant in
    parts_of-is c.loop-place.parts.items c.args.firsts.now c.args.values.now
    (kept.0 ∙ take_all c.loop-place.place c.args.firsts.now c.loop-place-test.false)
    (kept.1 ∙ take_all c.loop-place.place c.args.values.now (omega (arith, c.requires, c.loop-place-test.false)))

pub returns-clause-many : goal.returns-clause-many
returns-clause-many c =
    let kept = c.loop-place.invariant in
    sym (length-map c.loop-place.parts.items first_of) ∙ ap length (kept.0 ∙ take_all c.loop-place.place c.args.firsts.now c.loop-place-test.false)
