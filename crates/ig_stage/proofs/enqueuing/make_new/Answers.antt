use Rattle.std.proofs.Common.{[], ◌∷◌, ◌++◌, map, refl, ◌∙◌}
use Rattle.std.proofs.lemmas.Result.{err_from_is_err_and}
use Rattle.ig_space.specs.Chunks.{listed}
use Rattle.ig_record.specs.Stage.{task_count}
use Rattle.ig_meaning.specs.Making.{New}
use Rattle.ig_meaning.specs.QueueActs.{name_file, put_of, record_file, seal_file}
use Rattle.ig_meaning.specs.Jobs.{info_files}
use Rattle.ig_stage.proofs.Makers.{new_made, puts_fail}
use Rattle.ig_stage.proofs.NamesPut.{does_as}
use Rattle.ig_stage.proofs.OpenLogs.{does_then}
use Rattle.ig_stage.proofs.SomeSteps.{some_then}
use Rattle.ig_stage.proofs.enqueuing.make_new.Goals as goal

pub returns-in_err-put_record-clause-made : goal.returns-in_err-put_record-clause-made
returns-in_err-put_record-clause-made g c = λ tells.
    let p = err_from_is_err_and c.from_residual.result c.from_residual.ensures.1 in
    puts_fail _ c.args.queue.now (New c.args.number c.args.stage.now) _ _ c.in_err-put_record.field-0.0 _ _ p.1 p.2 (λ ms. refl) (λ ms. tt) (c.in_err-put_record.ensures.some tells)

pub returns-in_err-put_record-clause-legal : goal.returns-in_err-put_record-clause-legal
returns-in_err-put_record-clause-legal g c = λ tells stages may. c.in_err-put_record.ensures.legal tells stages may

pub returns-in_err-fill_new-clause-made : goal.returns-in_err-fill_new-clause-made
returns-in_err-fill_new-clause-made g c = λ tells.
    let p = err_from_is_err_and c.from_residual-in_err-fill_new.result c.from_residual-in_err-fill_new.ensures.1 in
    puts_fail _ c.args.queue.now (New c.args.number c.args.stage.now) _ _ c.in_err-fill_new.field-0.0 _ _ p.1 p.2 (λ ms. refl) (λ ms. tt)
    (some_then _ _ _ _ _ c.put_record.ensures.rule (c.in_ok-put_record.ensures.some tells) (c.in_err-fill_new.ensures.some tells))

pub returns-in_err-fill_new-clause-legal : goal.returns-in_err-fill_new-clause-legal
returns-in_err-fill_new-clause-legal g c = λ tells stages may.
    c.in_err-fill_new.ensures.legal tells (c.put_record.ensures.rule ∙ may.is) (c.in_ok-put_record.ensures.legal tells stages may) (c.in_ok-put_record.ensures.opens tells stages may)

pub returns-clause-made : goal.returns-clause-made
returns-clause-made g c = λ tells.
    let q = c.args.queue.now in
    let n = c.args.number in
    let s = c.args.stage.now in
    new_made _ q _ _ n c.tasks.result s c.tasks.ensures.value
    (does_then _ _ _ _ (put_of (record_file q n s) ∷ []) (map put_of (info_files s.info ++ (listed (name_file q n s) (task_count s) ++ seal_file q n ∷ []))) (c.in_ok-put_record.ensures.acts tells)
    (does_as _ _ _ _ _ c.put_record.ensures.rule (c.in_ok-fill_new.ensures.acts tells)))

pub returns-clause-legal : goal.returns-clause-legal
returns-clause-legal g c = λ tells stages may.
    c.in_ok-fill_new.ensures.legal tells (c.put_record.ensures.rule ∙ may.is) (c.in_ok-put_record.ensures.legal tells stages may) (c.in_ok-put_record.ensures.opens tells stages may)

pub returns-clause-sealed : goal.returns-clause-sealed
returns-clause-sealed g c = λ tells stages may.
    c.in_ok-fill_new.ensures.sealed tells (c.put_record.ensures.rule ∙ may.is) (c.in_ok-put_record.ensures.legal tells stages may) (c.in_ok-put_record.ensures.opens tells stages may)
