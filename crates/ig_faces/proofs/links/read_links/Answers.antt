use Rattle.std.proofs.Common.{◌≡◌, All, List, None, subst, sym}
use Rattle.ig_faces.specs.declared.links.Link.{Link}
use Rattle.ig_faces.specs.LinksFile.{ends_wrong, neighbour}
use Rattle.ig_faces.proofs.TestedLaws.{tested-links}
use Rattle.ig_faces.proofs.links.read_links.Goals as goal

pub returns-clause-each : goal.returns-clause-each
returns-clause-each c =
    let P : List Link → Type 0 = λ links. All (λ link. ends_wrong c.args.own (neighbour c.args.others link.axis) link ≡ None) links in
    subst P (sym c.from_vec.ensures) (tested-links c.args.own c.args.others c.in_ok-read_counted.field-0.items 4 c.in_ok-read_counted.ensures.tested)
