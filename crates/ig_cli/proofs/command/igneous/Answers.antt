use Rattle.std.proofs.Common.{inr, None, Some, IfSome, ap, ◌∙◌, refl, sym, subst}
use Rattle.ig_worker.specs.Plans.{HasLimits}
use Rattle.ig_cli.specs.Words.{texts_of}
use Rattle.ig_cli.proofs.Drains.{holds_exactly}
use Rattle.ig_cli.proofs.TopCall.{not_asked, not_queued, not_ready, of_other, of_worker, queue_given, stays_legal, unread_ends, unread_worked, worker_ends, worker_legal}
use Rattle.ig_cli.proofs.WorkerFinishes.{worker_finishes}
use Rattle.ig_cli.proofs.WorkerLeases.{unread_leases, worker_leases}
use Rattle.ig_cli.proofs.command.igneous.Goals as goal

-- ---- a worker
pub returns-in-Ok-Some-clause-statuses : goal.returns-in-Ok-Some-clause-statuses
returns-in-Ok-Some-clause-statuses g c = of_worker c.work.result c.work.ensures.statuses

pub returns-in-Ok-Some-clause-complete : goal.returns-in-Ok-Some-clause-complete
returns-in-Ok-Some-clause-complete g c = λ tells ready store_quiet out_quiet.
    absurd (not_ready (texts_of c.args.words.now.items) c.in-Ok-Some.plan _ (sym c.in-Ok-Some.field-0-is ∙ c.in-Ok-Some.ensures.value) ready)

pub returns-in-Ok-Some-clause-complete_made : goal.returns-in-Ok-Some-clause-complete_made
returns-in-Ok-Some-clause-complete_made g c = λ tells q request asked legal can own store_quiet out_quiet.
    absurd (not_asked (texts_of c.args.words.now.items) c.in-Ok-Some.plan _ (sym c.in-Ok-Some.field-0-is ∙ c.in-Ok-Some.ensures.value) asked)

pub returns-in-Ok-Some-clause-made : goal.returns-in-Ok-Some-clause-made
returns-in-Ok-Some-clause-made g c = λ tells zero q queued.
    absurd (not_queued (texts_of c.args.words.now.items) c.in-Ok-Some.plan q (sym c.in-Ok-Some.field-0-is ∙ c.in-Ok-Some.ensures.value) queued)

pub returns-in-Ok-Some-clause-printed_made : goal.returns-in-Ok-Some-clause-printed_made
returns-in-Ok-Some-clause-printed_made g c = λ tells out_tells zero q queued.
    absurd (not_queued (texts_of c.args.words.now.items) c.in-Ok-Some.plan q (sym c.in-Ok-Some.field-0-is ∙ c.in-Ok-Some.ensures.value) queued)

pub returns-in-Ok-Some-clause-printed_made_part : goal.returns-in-Ok-Some-clause-printed_made_part
returns-in-Ok-Some-clause-printed_made_part g c = λ tells out_tells nine q queued.
    absurd (not_queued (texts_of c.args.words.now.items) c.in-Ok-Some.plan q (sym c.in-Ok-Some.field-0-is ∙ c.in-Ok-Some.ensures.value) queued)

pub returns-in-Ok-Some-clause-drained : goal.returns-in-Ok-Some-clause-drained
returns-in-Ok-Some-clause-drained g c = λ tells q in_use legal.
    holds_exactly q _
    (worker_legal (texts_of c.args.words.now.items) c.in-Ok-Some.plan q _ _ (sym c.in-Ok-Some.field-0-is ∙ c.in-Ok-Some.ensures.value) in_use (c.work.ensures.legal tells) legal)

pub returns-in-Ok-Some-clause-ended : goal.returns-in-Ok-Some-clause-ended
returns-in-Ok-Some-clause-ended g c = λ tells plan.
    worker_ends (texts_of c.args.words.now.items) _ c.in-Ok-Some.plan plan _ _ _ _ _ _ _ _ _ _ _ _ _
    (sym c.in-Ok-Some.field-0-is ∙ c.in-Ok-Some.ensures.value) c.requires
    (subst (λ o. IfSome o HasLimits) c.in-Ok-Some.field-0-is c.in-Ok-Some.ensures.limits)
    (g.met.C.Clock.bounded c.work.new.clock)
    (c.work.ensures.worked tells)

pub returns-in-Ok-Some-clause-complete_worked : goal.returns-in-Ok-Some-clause-complete_worked
returns-in-Ok-Some-clause-complete_worked g c = λ tells asked asks legal can own quiet out_quiet.
    worker_finishes _ _ _ _ _ _ _ _ _ _ _ _ _ _ (texts_of c.args.words.now.items) _ asked
    (sym c.in-Ok-Some.field-0-is ∙ c.in-Ok-Some.ensures.value) c.requires
    (subst (λ o. IfSome o HasLimits) c.in-Ok-Some.field-0-is c.in-Ok-Some.ensures.limits)
    (g.met.C.Clock.bounded c.work.new.clock)
    (c.work.ensures.worked tells) asks legal can own
    (λ six. quiet (c.work.ensures.store_failed six)) (λ nine. out_quiet (c.work.ensures.out_failed nine))

pub returns-in-Ok-Some-clause-leases : goal.returns-in-Ok-Some-clause-leases
returns-in-Ok-Some-clause-leases g c = λ tells plan.
    worker_leases (texts_of c.args.words.now.items) _ c.in-Ok-Some.plan plan _ _ _ _ _ _ _ _ _ _ _ _ _
    (sym c.in-Ok-Some.field-0-is ∙ c.in-Ok-Some.ensures.value)
    (subst (λ o. IfSome o HasLimits) c.in-Ok-Some.field-0-is c.in-Ok-Some.ensures.limits)
    (g.met.C.Clock.bounded c.work.new.clock)
    (c.work.ensures.worked tells)

-- ---- no worker
pub returns-in-Ok-None-clause-statuses : goal.returns-in-Ok-None-clause-statuses
returns-in-Ok-None-clause-statuses g c = of_other c.make_or_copy.result c.make_or_copy.ensures.statuses

pub returns-in-Ok-None-clause-copied : goal.returns-in-Ok-None-clause-copied
returns-in-Ok-None-clause-copied g c = λ tells zero in_use.
    c.make_or_copy.ensures.copied tells zero (queue_given (texts_of c.args.words.now.items) None (sym c.in-Ok-None.ensures.value ∙ c.in-Ok-None.field-0-is) in_use)

pub returns-in-Ok-None-clause-in_sequence : goal.returns-in-Ok-None-clause-in_sequence
returns-in-Ok-None-clause-in_sequence g c = λ tells zero in_use.
    c.make_or_copy.ensures.in_sequence tells zero (queue_given (texts_of c.args.words.now.items) None (sym c.in-Ok-None.ensures.value ∙ c.in-Ok-None.field-0-is) in_use)

pub returns-in-Ok-None-clause-only_puts : goal.returns-in-Ok-None-clause-only_puts
returns-in-Ok-None-clause-only_puts g c = λ tells in_use.
    c.make_or_copy.ensures.only_puts tells (queue_given (texts_of c.args.words.now.items) None (sym c.in-Ok-None.ensures.value ∙ c.in-Ok-None.field-0-is) in_use)

pub returns-in-Ok-None-clause-printed : goal.returns-in-Ok-None-clause-printed
returns-in-Ok-None-clause-printed g c = λ tells out_tells zero in_use.
    c.make_or_copy.ensures.printed tells out_tells zero (queue_given (texts_of c.args.words.now.items) None (sym c.in-Ok-None.ensures.value ∙ c.in-Ok-None.field-0-is) in_use)

pub returns-in-Ok-None-clause-printed_part : goal.returns-in-Ok-None-clause-printed_part
returns-in-Ok-None-clause-printed_part g c = λ tells out_tells nine in_use.
    c.make_or_copy.ensures.printed_part tells out_tells nine (queue_given (texts_of c.args.words.now.items) None (sym c.in-Ok-None.ensures.value ∙ c.in-Ok-None.field-0-is) in_use)

pub returns-in-Ok-None-clause-legal : goal.returns-in-Ok-None-clause-legal
returns-in-Ok-None-clause-legal g c = λ tells q in_use.
    c.make_or_copy.ensures.legal tells q (queue_given (texts_of c.args.words.now.items) (Some q) (sym c.in-Ok-None.ensures.value ∙ c.in-Ok-None.field-0-is) in_use)

pub returns-in-Ok-None-clause-drained : goal.returns-in-Ok-None-clause-drained
returns-in-Ok-None-clause-drained g c = λ tells q in_use.
    c.make_or_copy.ensures.drained tells q (queue_given (texts_of c.args.words.now.items) (Some q) (sym c.in-Ok-None.ensures.value ∙ c.in-Ok-None.field-0-is) in_use)

-- ---- memory ran out before that was known
pub returns-in-Err-clause-statuses : goal.returns-in-Err-clause-statuses
returns-in-Err-clause-statuses g c = of_other c.make_or_copy-in-Err.result c.make_or_copy-in-Err.ensures.statuses

pub returns-in-Err-clause-drained : goal.returns-in-Err-clause-drained
returns-in-Err-clause-drained g c = λ tells q in_use legal.
    holds_exactly q _ (stays_legal g.S.Store.log _ _ q (c.make_or_copy-in-Err.ensures.unread refl) legal)

pub returns-in-Err-clause-worked : goal.returns-in-Err-clause-worked
returns-in-Err-clause-worked g c = λ tells plan asked.
    unread_worked _ plan _ _ _ _ _ _ _ _ _ _ _ _ (ap g.S.Store.log (c.make_or_copy-in-Err.ensures.unread refl)) (c.make_or_copy-in-Err.ensures.unread_status refl)
    c.make_or_copy-in-Err.ensures.printed_nothing c.make_or_copy-in-Err.ensures.told_memory

pub returns-in-Err-clause-ended : goal.returns-in-Err-clause-ended
returns-in-Err-clause-ended g c = λ tells plan asked legal.
    unread_ends plan _ _ _ _ _ _ _ (ap g.S.Store.log (c.make_or_copy-in-Err.ensures.unread refl)) (c.make_or_copy-in-Err.ensures.unread_status refl) c.make_or_copy-in-Err.ensures.printed_nothing

pub returns-in-Err-clause-leases : goal.returns-in-Err-clause-leases
returns-in-Err-clause-leases g c = λ tells plan asked. unread_leases plan _ _ _ (ap g.S.Store.log (c.make_or_copy-in-Err.ensures.unread refl))

pub returns-in-Err-clause-complete_worked : goal.returns-in-Err-clause-complete_worked
returns-in-Err-clause-complete_worked g c = λ tells asked asks legal can own quiet out_quiet. inr (c.make_or_copy-in-Err.ensures.unread_status refl)
