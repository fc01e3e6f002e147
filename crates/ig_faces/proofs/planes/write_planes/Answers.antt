use Rattle.std.proofs.Common.{◌∙◌, ap}
use Rattle.std.specs.List.{concat}
use Rattle.ig_faces.proofs.PlaneLaws.{planes-back, planes-right}
use Rattle.ig_faces.proofs.planes.write_planes.Goals as goal

pub returns-clause-back : goal.returns-clause-back
returns-clause-back c =
    let is = c.as_slice-2.ensures.value ∙ c.in_ok-numbers.ensures ∙ ap concat c.as_slice.ensures in
    planes-back c.args.planes.now c.as_slice-2.result.now c.write_numbers.result is c.write_numbers.ensures.back

pub returns-clause-right : goal.returns-clause-right
returns-clause-right c =
    let is = c.as_slice-2.ensures.value ∙ c.in_ok-numbers.ensures ∙ ap concat c.as_slice.ensures in
    planes-right c.args.planes.now c.as_slice-2.result.now c.write_numbers.result is c.write_numbers.ensures.back c.write_numbers.ensures.length
