use Rattle.std.proofs.Common.{Ok, Err}
use Rattle.ig_stage.specs.Shown.{listed_dir}
use Rattle.ig_stage.proofs.Listed.{does_list, listed_named}
use Rattle.ig_stage.proofs.OpenLogs.{list_stays_open, makes_stays}
use Rattle.ig_stage.proofs.SomeSteps.{list_some, some_nothing}
use Rattle.ig_stage.proofs.shown.mark_listed.Goals as goal

pub returns-in_err-dir-clause-stays : goal.returns-in_err-dir-clause-stays
returns-in_err-dir-clause-stays g c = λ tells s m. makes_stays c.args.queue.now c.args.number s _ _ m

pub returns-in_err-given-clause-stays : goal.returns-in_err-given-clause-stays
returns-in_err-given-clause-stays g c = λ tells s m.
    list_stays_open c.args.queue.now c.args.number s _ _ _ c.in_ok-dir.dir (Err c.in_err-given.field-0.0) (c.in_err-given.ensures.went tells) m

pub returns-clause-stays : goal.returns-clause-stays
returns-clause-stays g c = λ tells s m.
    list_stays_open c.args.queue.now c.args.number s _ _ _ c.in_ok-dir.dir (Ok c.in_ok-given.given) (c.in_ok-given.ensures.went tells) m

pub returns-clause-acts : goal.returns-clause-acts
returns-clause-acts g c = λ tells.
    does_list _ c.args.queue.now c.args.number (listed_dir c.args.listing) c.in_ok-dir.dir c.in_ok-given.given _ _ _ _ c.in_ok-dir.ensures (c.in_ok-given.ensures.went tells) c.mark_all.ensures

pub returns-clause-named : goal.returns-clause-named
returns-clause-named g c = λ tells s m.
    listed_named _ c.args.queue.now c.args.number s (listed_dir c.args.listing) c.in_ok-dir.dir c.in_ok-given.given _ _ _ _ c.in_ok-dir.ensures (c.in_ok-given.ensures.went tells) c.mark_all.ensures m

pub returns-in_err-dir-clause-some : goal.returns-in_err-dir-clause-some
returns-in_err-dir-clause-some g c = λ tells. some_nothing _ _

pub returns-in_err-given-clause-some : goal.returns-in_err-given-clause-some
returns-in_err-given-clause-some g c = λ tells. list_some _ _ _ c.in_ok-dir.dir (Err c.in_err-given.field-0.0) (c.in_err-given.ensures.went tells)

pub returns-clause-some : goal.returns-clause-some
returns-clause-some g c = λ tells. list_some _ _ _ c.in_ok-dir.dir (Ok c.in_ok-given.given) (c.in_ok-given.ensures.went tells)
