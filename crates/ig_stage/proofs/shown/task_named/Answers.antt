use Rattle.std.proofs.Common.{Some, refl, ap, sym, subst, ◌∙◌}
use Rattle.ig_defs.specs.QueueNames.{task_of}
use Rattle.ig_defs.specs.declared.queue_name.QueueName.{QueueName}
use Rattle.ig_stage.specs.Shown.{IsNameOf, listed_dir}
use Rattle.ig_stage.specs.declared.shown.Listing.{Listing}
use Rattle.ig_stage.proofs.NamesShown.{name_of_queued, named_back, named_some, queued_of_name}
use Rattle.ig_stage.proofs.shown.task_named.Goals as goal

pub returns-in_err-name-in-Queue-clause-back : goal.returns-in_err-name-in-Queue-clause-back
returns-in_err-name-in-Queue-clause-back c = λ id h.
    let w = queued_of_name c.args.name.now id (subst (λ (which : Listing). IsNameOf (listed_dir which) c.args.name.now id) c.in-Queue.is h) in
    absurd (c.in_err-name-in-Queue.ensures.none refl w.found w.fit w.is)

pub returns-in_ok-name-in-Queue-clause-some : goal.returns-in_ok-name-in-Queue-clause-some
returns-in_ok-name-in-Queue-clause-some c =
    let found = c.in_ok-name-in-Queue.ensures.some in
    subst (λ (which : Listing). IsNameOf (listed_dir which) c.args.name.now (task_of c.in_ok-name-in-Queue.name)) (sym c.in-Queue.is) (name_of_queued c.args.name.now c.in_ok-name-in-Queue.name found.0 found.1)

pub returns-in_ok-name-in-Queue-clause-back : goal.returns-in_ok-name-in-Queue-clause-back
returns-in_ok-name-in-Queue-clause-back c = λ id h.
    let w = queued_of_name c.args.name.now id (subst (λ (which : Listing). IsNameOf (listed_dir which) c.args.name.now id) c.in-Queue.is h) in
    ap (λ (name : QueueName). Some (task_of name)) (c.in_ok-name-in-Queue.ensures.back w.found w.fit w.is) ∙ ap Some w.of_task

pub returns-in_default : goal.returns-in_default
returns-in_default c = record {
  some = named_some c.args.listing c.args.name.now c.parse_task_name.result c.in_default.not-Queue c.parse_task_name.ensures.some;
  back = named_back c.args.listing c.args.name.now c.parse_task_name.result c.in_default.not-Queue c.parse_task_name.ensures.back c.parse_task_name.ensures.none;
}
