use Rattle.std.proofs.Common.{◌*◌, length, sym, ap, subst, ◌∙◌}
use Rattle.std.proofs.lemmas.List.FromFn.{length-range_with_len}
use Rattle.ig_graph.specs.Sets.{AreClasses, each_alone}
use Rattle.ig_label.specs.RunGraph.{run_graph}
use Rattle.ig_label.specs.Joining.{HasJoined}
use Rattle.ig_label.proofs.ClassLaws.{run-classes}
use Rattle.ig_label.proofs.joining.classes_of.Goals as goal

pub join_beside-requires-clause-sets : goal.join_beside-requires-clause-sets
join_beside-requires-clause-sets c = ap length c.in_ok-sets.ensures ∙ length-range_with_len 0 (length c.args.runs.now)

pub returns : goal.returns
returns c =
    let runs = c.args.runs.now in
    let size = c.args.size in
    let end = size.x * (size.y * size.z) in
    let last = c.join_beside.result in
    let faces : HasJoined runs (size.x * size.y) end 0 0 last (each_alone (length runs)) c.join_beside.new.sets =
    subst (λ old. HasJoined runs (size.x * size.y) end 0 0 last old c.join_beside.new.sets) c.in_ok-sets.ensures c.join_beside.ensures.joined in
    subst (AreClasses (run_graph size runs)) (sym c.into_classes.ensures)
    (run-classes size runs end last c.join_beside.new.sets c.join_rows.new.sets c.requires.ascending c.requires.within c.join_beside.ensures.after faces c.join_rows.ensures)
