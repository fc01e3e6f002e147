use Rattle.std.proofs.Common.{subst}
use Rattle.ig_cli.specs.Report.{IsStatusOf}
use Rattle.ig_cli.proofs.Completes.{complete, complete_made}
use Rattle.ig_cli.proofs.Performs.{fault_at, outcome}
use Rattle.ig_cli.proofs.Promises.{copied, in_order, in_sequence, is_a_status, only_puts, printed, printed_part, refused_judged, to_the_refusal, told_refusal}
use Rattle.ig_cli.proofs.Drains.{holds_exactly}
use Rattle.ig_cli.proofs.Makes.{made, printed_made, printed_made_part}
use Rattle.ig_cli.proofs.command.make_or_copy.Goals as goal

pub returns-clause-statuses : goal.returns-clause-statuses
returns-clause-statuses g c = is_a_status _ _ c.report.ensures.status

pub returns-clause-refused : goal.returns-clause-refused
returns-clause-refused g c = λ tells. refused_judged _ _ _ c.report.ensures.status (fault_at _ _ _ _ (c.perform_if_read-outcome.ensures.performed tells))

pub returns-clause-complete : goal.returns-clause-complete
returns-clause-complete g c = λ tells.
    complete _ _ _ _ _ _ _ _ _ c.report.ensures.status c.perform_if_read-outcome.ensures.words (c.perform_if_read-outcome.ensures.performed tells) c.perform_if_read-outcome.ensures.cause c.report.ensures.nine

pub returns-clause-complete_made : goal.returns-clause-complete_made
returns-clause-complete_made g c = λ tells q request asked legal can own.
    complete_made _ _ _ _ _ _ _ q request c.report.ensures.status c.perform_if_read-outcome.ensures.words c.perform_if_read-outcome.ensures.cause c.report.ensures.nine asked
    (c.perform_if_read-outcome.ensures.complete tells q request asked can own)

pub returns-clause-copied : goal.returns-clause-copied
returns-clause-copied g c = λ tells. copied _ _ _ _ _ c.report.ensures.status (outcome _ _ _ _ (c.perform_if_read-outcome.ensures.performed tells))

pub returns-clause-in_sequence : goal.returns-clause-in_sequence
returns-clause-in_sequence g c = λ tells. in_sequence _ _ _ _ _ c.report.ensures.status (outcome _ _ _ _ (c.perform_if_read-outcome.ensures.performed tells))

pub returns-clause-only_puts : goal.returns-clause-only_puts
returns-clause-only_puts g c = λ tells. only_puts _ _ _ _ (outcome _ _ _ _ (c.perform_if_read-outcome.ensures.performed tells))

pub returns-clause-in_order : goal.returns-clause-in_order
returns-clause-in_order g c = λ tells. in_order _ _ _ _ (outcome _ _ _ _ (c.perform_if_read-outcome.ensures.performed tells))

pub returns-clause-to_the_refusal : goal.returns-clause-to_the_refusal
returns-clause-to_the_refusal g c = λ tells. to_the_refusal _ _ _ _ _ c.report.ensures.status (outcome _ _ _ _ (c.perform_if_read-outcome.ensures.performed tells))

pub returns-clause-printed : goal.returns-clause-printed
returns-clause-printed g c = λ tells out_tells. printed _ _ _ _ _ _ _ (c.perform_if_read-outcome.ensures.performed tells) c.report.ensures.status (c.report.ensures.out out_tells)

pub returns-clause-printed_part : goal.returns-clause-printed_part
returns-clause-printed_part g c = λ tells out_tells. printed_part _ _ _ _ _ _ _ (c.perform_if_read-outcome.ensures.performed tells) c.report.ensures.status (c.report.ensures.out out_tells)

pub returns-clause-told_refusal : goal.returns-clause-told_refusal
returns-clause-told_refusal g c = λ tells err_tells quiet.
    told_refusal _ _ _ _ _ _ c.report.ensures.status (c.report.ensures.err err_tells) quiet _ _ _ (fault_at _ _ _ _ (c.perform_if_read-outcome.ensures.performed tells))

pub returns-clause-made : goal.returns-clause-made
returns-clause-made g c = λ tells zero q some. made _ _ _ _ _ (c.perform_if_read-outcome.ensures.performed tells) c.report.ensures.status q some zero

pub returns-clause-printed_made : goal.returns-clause-printed_made
returns-clause-printed_made g c = λ tells out_tells zero q some.
    printed_made _ _ _ _ _ (c.perform_if_read-outcome.ensures.performed tells) c.report.ensures.status q some _ _ (c.report.ensures.out out_tells) zero

pub returns-clause-printed_made_part : goal.returns-clause-printed_made_part
returns-clause-printed_made_part g c = λ tells out_tells nine q some.
    printed_made_part _ _ _ _ _ (c.perform_if_read-outcome.ensures.performed tells) c.report.ensures.status q some _ _ (c.report.ensures.out out_tells) nine

pub returns-clause-drained : goal.returns-clause-drained
returns-clause-drained g c = λ tells q some legal. holds_exactly q _ (c.perform_if_read-outcome.ensures.legal tells q some legal)

pub returns-clause-unread_status : goal.returns-clause-unread_status
returns-clause-unread_status g c = λ unread. subst (λ ended. IsStatusOf ended c.report.result) (c.perform_if_read-outcome.ensures.unread_memory unread) c.report.ensures.status
