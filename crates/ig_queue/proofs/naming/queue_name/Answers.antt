use Rattle.std.proofs.Common.{◌≡◌, true, subst, sym, ◌∙◌}
use Rattle.ig_space.specs.Path.{is_segment}
use Rattle.ig_defs.specs.QueueNameLaws.{is_segment-queue_file}
use Rattle.ig_queue.proofs.naming.queue_name.Goals as goal

pub path_of-requires-clause-segment : goal.path_of-requires-clause-segment
path_of-requires-clause-segment c =
    subst (λ text. is_segment text ≡ true) (sym (c.as_str.ensures.value ∙ c.in_ok-queue_text.ensures)) (is_segment-queue_file c.args.name)
