use Rattle.std.proofs.Common.{◌∙◌}
use Rattle.ig_stage.proofs.Listed.{all_listed_named, listed_all}
use Rattle.ig_stage.proofs.OpenLogs.{makes_on, stays_then}
use Rattle.ig_stage.proofs.SomeSteps.{some_then}
use Rattle.ig_stage.proofs.shown.mark_shown.Goals as goal

pub returns-in_err-mark_listed-2-clause-stays : goal.returns-in_err-mark_listed-2-clause-stays
returns-in_err-mark_listed-2-clause-stays g c = λ tells s m.
    let q = c.args.queue.now in
    let n = c.args.number in
    let first = c.in_ok-mark_listed.ensures.stays tells s m in
    stays_then q n s _ _ _ first (c.in_err-mark_listed-2.ensures.stays tells s (makes_on q n s _ _ _ _ c.mark_listed.ensures.rule m first))

pub returns-clause-acts : goal.returns-clause-acts
returns-clause-acts g c = λ tells.
    listed_all _ _ _ c.args.queue.now c.args.number c.args.shown.now c.mark_listed.new.shown c.mark_listed-2.new.shown c.mark_listed-3.new.shown _ _ _ _ c.mark_listed-3.result
    c.requires.few c.requires.small c.requires.fresh c.mark_listed.ensures.rule c.mark_listed-2.ensures.rule
    (c.in_ok-mark_listed.ensures.acts tells) (c.in_ok-mark_listed-2.ensures.acts tells) (c.mark_listed-3.ensures.acts tells)

pub returns-clause-stays : goal.returns-clause-stays
returns-clause-stays g c = λ tells s m.
    let q = c.args.queue.now in
    let n = c.args.number in
    let first = c.in_ok-mark_listed.ensures.stays tells s m in
    let after_first = makes_on q n s _ _ _ _ c.mark_listed.ensures.rule m first in
    let second = c.in_ok-mark_listed-2.ensures.stays tells s after_first in
    stays_then q n s _ _ _ (stays_then q n s _ _ _ first second) (c.mark_listed-3.ensures.stays tells s (makes_on q n s _ _ _ _ c.mark_listed-2.ensures.rule after_first second))

pub returns-clause-named : goal.returns-clause-named
returns-clause-named g c = λ tells s m.
    let q = c.args.queue.now in
    let n = c.args.number in
    let first = c.in_ok-mark_listed.ensures.stays tells s m in
    let after_first = makes_on q n s _ _ _ _ c.mark_listed.ensures.rule m first in
    let second = c.in_ok-mark_listed-2.ensures.stays tells s after_first in
    let after_second = makes_on q n s _ _ _ _ c.mark_listed-2.ensures.rule after_first second in
    all_listed_named q n s c.args.shown.now c.mark_listed.new.shown c.mark_listed-2.new.shown c.mark_listed-3.new.shown _ _ _ c.mark_listed-3.result
    c.requires.fresh second (c.mark_listed-3.ensures.stays tells s after_second)
    (c.in_ok-mark_listed.ensures.named tells s m) (c.in_ok-mark_listed-2.ensures.named tells s after_first) (c.mark_listed-3.ensures.named tells s after_second)

pub returns-in_err-mark_listed-2-clause-some : goal.returns-in_err-mark_listed-2-clause-some
returns-in_err-mark_listed-2-clause-some g c = λ tells. some_then _ _ _ _ _ c.mark_listed.ensures.rule (c.in_ok-mark_listed.ensures.some tells) (c.in_err-mark_listed-2.ensures.some tells)

pub returns-clause-some : goal.returns-clause-some
returns-clause-some g c = λ tells. some_then _ _ _ _ _ (c.mark_listed-2.ensures.rule ∙ c.mark_listed.ensures.rule) (some_then _ _ _ _ _ c.mark_listed.ensures.rule (c.in_ok-mark_listed.ensures.some tells) (c.in_ok-mark_listed-2.ensures.some tells)) (c.mark_listed-3.ensures.some tells)
