use Rattle.std.proofs.Common.{Some, ap, ◌∙◌, option_map, sym}
use Rattle.ig_cli.specs.Words.{shown_command, texts_of}
use Rattle.ig_cli.proofs.Completes.{can_as}
use Rattle.ig_cli.proofs.PlanWords.{rule_of_copy, rule_of_enqueue}
use Rattle.ig_cli.proofs.command.perform.Goals as goal

pub copy-requires-clause-rule : goal.copy-requires-clause-rule
copy-requires-clause-rule g c =
    c.requires.rule
    ∙ rule_of_copy (texts_of c.args.words.now.items) _
    (sym c.in_ok-request.ensures.value ∙ ap (option_map shown_command) c.in-Some-Local.is ∙ ap (λ command. Some (shown_command command)) c.in-Some-Local.field-0-is)

pub enqueue-requires-clause-rule : goal.enqueue-requires-clause-rule
enqueue-requires-clause-rule g c =
    c.requires.rule
    ∙ rule_of_enqueue (texts_of c.args.words.now.items) _ _
    (sym c.in_ok-request.ensures.value ∙ ap (option_map shown_command) c.in-Some-Enqueue.is ∙ ap (λ command. Some (shown_command command)) c.in-Some-Enqueue.field-0-is)

pub returns-in-Some-Local-clause-performed : goal.returns-in-Some-Local-clause-performed
returns-in-Some-Local-clause-performed g c = λ tells.
    c.copy.ensures.performed tells (texts_of c.args.words.now.items)
    (sym c.in_ok-request.ensures.value ∙ ap (option_map shown_command) c.in-Some-Local.is ∙ ap (λ command. Some (shown_command command)) c.in-Some-Local.field-0-is)

pub returns-in-Some-Enqueue-clause-performed : goal.returns-in-Some-Enqueue-clause-performed
returns-in-Some-Enqueue-clause-performed g c = λ tells.
    c.enqueue.ensures.performed tells (texts_of c.args.words.now.items)
    (sym c.in_ok-request.ensures.value ∙ ap (option_map shown_command) c.in-Some-Enqueue.is ∙ ap (λ command. Some (shown_command command)) c.in-Some-Enqueue.field-0-is)

pub returns-in-Some-Enqueue-clause-complete : goal.returns-in-Some-Enqueue-clause-complete
returns-in-Some-Enqueue-clause-complete g c = λ tells q request asked can.
    c.enqueue.ensures.complete tells
    (can_as _ q _ request _ (ap (λ command. Some (shown_command command)) (sym c.in-Some-Enqueue.field-0-is) ∙ ap (option_map shown_command) (sym c.in-Some-Enqueue.is) ∙ c.in_ok-request.ensures.value ∙ asked) can)
