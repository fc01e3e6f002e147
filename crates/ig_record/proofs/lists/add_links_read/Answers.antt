use Rattle.std.proofs.Common.{◌<◌, ◌^◌, ℕ, List, sym, subst, ◌∙◌}
use Rattle.std.specs.List.{AllByRecursion}
use Rattle.ig_record.proofs.Above.{neighbours-small}
use Rattle.ig_record.proofs.TaskCounts.{task_number}
use Rattle.ig_record.proofs.lists.add_links_read.Goals as goal

pub add_faces-requires-clause-small : goal.add_faces-requires-clause-small
add_faces-requires-clause-small c = task_number c.args.stage.now c.args.task c.requires.sound c.requires.below

pub add_faces_of-requires-clause-small : goal.add_faces_of-requires-clause-small
add_faces_of-requires-clause-small c =
    subst (λ (ks : List ℕ). AllByRecursion (λ k. k < 10 ^ 6) ks) (sym (c.as_slice.ensures ∙ c.in_ok-above.ensures)) (neighbours-small c.args.stage.now c.args.task c.requires.sound c.requires.below)
