use Rattle.std.proofs.Common.{◌≡◌, true, subst, sym, ◌∙◌}
use Rattle.ig_space.specs.Path.{is_segment}
use Rattle.ig_defs.specs.QueueNameLaws.{is_segment-task_file}
use Rattle.ig_queue.proofs.naming.task_name.Goals as goal

pub path_of-requires-clause-segment : goal.path_of-requires-clause-segment
path_of-requires-clause-segment c =
    subst (λ text. is_segment text ≡ true) (sym (c.as_str.ensures.value ∙ c.in_ok-task_text.ensures)) (is_segment-task_file c.args.id)
