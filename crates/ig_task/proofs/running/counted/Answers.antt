use Rattle.std.proofs.Common.{Some, [], ◌∷◌, ◌++◌, ap, sym, ◌∙◌}
use Rattle.ig_count.specs.CountsFile.{counts_text}
use Rattle.ig_meaning.specs.Wants.{put_at}
use Rattle.ig_task.proofs.TaskRuns.{count-made}
use Rattle.ig_task.proofs.running.counted.Goals as goal

pub returns : goal.returns
returns c = λ volume are.
    let path = c.in_ok-counts_path.field-0 in
    let text = c.in_ok-write_counts.field-0 in
    count-made c.args.stage.now c.requires.sound c.requires.counts c.args.task c.requires.below path text c.args.volume.now.labels c.in_ok-counts_path.ensures
    (c.in_ok-write_counts.ensures.text ∙ ap counts_text c.in_ok-counts.ensures.table) volume are
    ∙ ap Some (sym (c.in_ok-push.ensures.ok ∙ ap (λ outputs. outputs ++ put_at path text ∷ []) c.new-outputs.ensures))
