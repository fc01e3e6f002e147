use Rattle.std.proofs.Common.{rules, arith, ◌≡◌, ap, ◌∙◌, length, map}
use Rattle.std.proofs.lemmas.Grind.{common_steps}
use Rattle.ig_faces.specs.Faces.{faces}
use Rattle.ig_faces.proofs.FaceLaws.{faces-sizes}
use Rattle.ig_faces.proofs.faces.faces_of.Goals as goal

pub returns-clause-sizes : goal.returns-clause-sizes
returns-clause-sizes c =
    let is : c.push-6.new.self ≡ faces c.args.size c.args.local.now = first_of (search rules, grind (arith, common_steps)) in
    ap (map length) is ∙ faces-sizes c.args.size c.args.local.now
