use Rattle.std.proofs.Common.{◌≡◌, ℕ, List, IfOk, string_bytes, ap, subst, ◌∙◌}
use Rattle.ig_defs.specs.QueueNames.{digits}
use Rattle.ig_meaning.specs.Lines.{spaced}
use Rattle.ig_worker.specs.Lines.{task_text}
use Rattle.ig_cli.proofs.worker_lines.task_text.Goals as goal

pub returns : goal.returns
returns c =
    let id = c.args.id in
    let stage : c.as_str.result.now ≡ digits 4 id.stage = c.as_str.ensures.value ∙ c.in_ok-stage.ensures in
    let task : c.as_str-2.result.now ≡ digits 6 id.task = c.as_str-2.ensures.value ∙ c.in_ok-task.ensures in
    let numbers : c.as_str-3.result.now ≡ spaced (digits 4 id.stage) (digits 6 id.task) =
    c.as_str-3.ensures.value ∙ c.in_ok-numbers.ensures ∙ (λ i. spaced (stage i) (task i)) in
    let same : spaced c.args.word.now c.as_str-3.result.now ≡ task_text c.args.word.now id = ap (spaced c.args.word.now) numbers in
    subst (λ (told : List ℕ). IfOk c.spaced-2.result (λ text. string_bytes text ≡ told)) same c.spaced-2.ensures
