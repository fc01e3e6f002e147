-- A worker by itself has finished where it lists the done tasks: none is missing.
use Rattle.std.specs.Prelude.{◌≡◌, ◌≢◌, ◌⊎◌, ◌≤◌, ◌<◌, ℕ, zero, suc, true, false, List, [], ◌∷◌, length, map, None, Some, IsSome, is_some, Contains, codes, refl}
use Rattle.std.proofs.Common.{arith, inl, inr, ap, sym, subst, true≢false, ◌∙◌}
use Rattle.std.proofs.lemmas.Bool.{cases_Bool, cases_order}
use Rattle.ig_space.specs.Path.{is_path, joined}
use Rattle.ig_space.specs.declared.task_id.TaskId.{TaskId}
use Rattle.ig_defs.specs.declared.queue_name.QueueName.{QueueName}
use Rattle.ig_defs.specs.Calls.{ListsNames}
use Rattle.ig_defs.specs.Files.{Files}
use Rattle.ig_defs.specs.QueueNames.{task_file}
use Rattle.ig_record.specs.declared.stage.Stage.{Stage}
use Rattle.ig_record.specs.Stage.{task_count}
use Rattle.ig_rule.specs.DrainedFinished.{drained_finished}
use Rattle.ig_rule.specs.Facts.{Facts, Uses}
use Rattle.ig_rule.specs.QueueFiles.{Dead, Done, Queued, queue_of}
use Rattle.ig_rule.specs.Sound.{Sound}
use Rattle.ig_rule.specs.Stages.{Clear, Drained, Finished, IsSpared, Records, Sealed, stages_in, task_id}
use Rattle.ig_task.specs.Facts.{facts_of, stage_reader}
use Rattle.ig_worker.specs.declared.notes.Notes.{Notes}
use Rattle.ig_worker.specs.declared.phase.Phase.TheVariants.{ListingDone, Over}
use Rattle.ig_worker.specs.declared.turn.End.TheVariants as end
use Rattle.ig_worker.specs.declared.turn.Line.TheVariants as line
use Rattle.ig_worker.specs.Finishing.Going.{StaysGoing}
use Rattle.ig_worker.specs.Finishing.Listings.{arrives, listed}
use Rattle.ig_worker.specs.Finishing.CanFinish.{IsAhead}
use Rattle.ig_worker.specs.Ending.Names.{among_listed}
use Rattle.ig_worker.specs.Ending.Waiting.{done_stands}
use Rattle.ig_worker.specs.Keeping.Lists.{first_in, later_in, map_in, none_of}
use Rattle.ig_worker.specs.Knows.{kept_of}
use Rattle.ig_worker.specs.Moves.{Move}
use Rattle.ig_worker.specs.Places.{counted, end_by, stands}
use Rattle.ig_worker.specs.Stages.{Known, all_tasks, all_unlisted, is_listed, one_unless, unlisted}

-- ---- stages with no task ahead
module _ (q : List ℕ) (files : Files) (sound : Sound stage_reader q files) (sealed : (n : ℕ) (t : Facts) → stages_in stage_reader q files n ≡ Some t → Sealed (queue_of q files) n)
    (no_letters : (id : TaskId) → queue_of q files (Dead id) ≡ None) (none : (name : QueueName) → IsAhead q files name → ⊥) where
  abbrev records : Records
  records = stages_in stage_reader q files

  -- one that is not under removal is drained
  drained : (n : ℕ) (t : Facts) → records n ≡ Some t → Clear records n t → Drained (queue_of q files) n
  drained n t is clear = record {
    sealed = sealed n t is;
    none_queued = λ name of. none_of (queue_of q files (Queued name)) (λ there.
        none name (record { there = there; stage = t; is = ap records of ∙ is; clear = subst (λ k. Clear records k t) (sym of) clear }));
    none_dead = λ id of. no_letters id;
  }

  -- where a task of the stage is not done, none removes a directory that it uses
  spared : (n k : ℕ) (t : Facts) (dir : List ℕ) → records n ≡ Some t → k < t.tasks → (IsSome (queue_of q files (Done (task_id n k))) → ⊥) → Uses t dir
      → ((r : ℕ) (u : Facts) → r < n → records r ≡ Some u → u.removes ≡ true → u.source ≢ dir) → IsSpared records n dir
  spared n k t dir is below not_done uses earlier r u differ removal removes e = by_order (cases_order n r)
    where
      by_order : (n ≡ r) ⊎ ((n < r) ⊎ (r < n)) → ⊥
      by_order (inl same) = differ (sym same)
      by_order (inr (inl less)) = not_done (sound.names.before_removal n r t u less is removal removes (subst (Uses t) (sym e) uses) k below)
      by_order (inr (inr more)) = earlier r u more removal removes e

  not_removed : (n k : ℕ) (t : Facts) → records n ≡ Some t → k < t.tasks → (IsSome (queue_of q files (Done (task_id n k))) → ⊥) → Clear records n t
  not_removed n k t is below not_done = record {
    source = spared n k t t.source is below not_done (inl refl) (λ r u less removal removes. (sound.stages.after_removal r n u t less removal removes is).source);
    outputs = λ dir one. spared n k t dir is below not_done (inr (inl one)) (λ r u less removal removes. (sound.stages.after_removal r n u t less removal removes is).outputs dir one);
  }

  -- Each stage is finished.
  all_finished : (n : ℕ) (t : Facts) → records n ≡ Some t → Finished (queue_of q files) n t
  all_finished n t is k below = by_test (cases_Bool (is_some (queue_of q files (Done (task_id n k)))))
    where
      by_test : (is_some (queue_of q files (Done (task_id n k))) ≡ true) ⊎ (is_some (queue_of q files (Done (task_id n k))) ≡ false) → IsSome (queue_of q files (Done (task_id n k)))
      by_test (inl there) = there
      by_test (inr gone) =
          let clear = not_removed n k t is below (λ there. true≢false (sym there ∙ gone)) in
          drained_finished stage_reader q files n t sound is (drained n t is clear) k below

-- ---- none is unlisted
stage_listed : (given : List (List ℕ)) (n count : ℕ) → ((k : ℕ) → k < count → is_listed given (task_id n k) ≡ true) → unlisted given n count ≡ 0
stage_listed given n zero each = refl
stage_listed given n (suc count) each =
    let first = stage_listed given n count (λ k below. each k (omega (arith, below))) in
    let last : one_unless (is_listed given (task_id n count)) ≡ 0 = ap one_unless (each count (omega arith)) in
    omega (arith, first, last)

all_listed : (given : List (List ℕ)) (known : Known) → ((r : ℕ × Stage) → Contains known r → (k : ℕ) → k < task_count r.1 → is_listed given (task_id r.0 k) ≡ true) → all_unlisted given known ≡ 0
all_listed given [] each = refl
all_listed given (r ∷ rest) each =
    let first = stage_listed given r.0 (task_count r.1) (each r (first_in r rest)) in
    let more = all_listed given rest (λ x among. each x (later_in r rest x among)) in
    omega (arith, first, more)

-- a done task is listed
done_listed : (q : List ℕ) → is_path q ≡ true → length q ≤ 100 → (files : Files) (given : List (List ℕ)) (id : TaskId) → ListsNames (joined q (codes "done")) given files [] → IsSome (queue_of q files (Done id))
    → is_listed given id ≡ true
done_listed q path short files given id names there = among_listed given (task_file id) (names.each (task_file id) (done_stands q path short files id there))

-- A worker that lists the done tasks has finished.
pub done_goes : (notes : Notes) (letters : List TaskId) → StaysGoing (stands notes (ListingDone letters))
done_goes notes letters at from to first old new m later fit sound knows c goes =
    let q = notes.plan.queue in
    let given = c.leads.0 in
    let known = notes.known in
    let l = listed q from to (stands notes (ListingDone letters)) old new m (joined q (codes "done")) given (stands notes (counted known letters given)) (map line.Letter letters) c c.leads.1 in
    let finished = all_finished q old sound goes.kept.sealed goes.kept.no_letters goes.goes.1.none in
    let none : all_unlisted given known ≡ 0
    = all_listed given known (λ r among k below.
    done_listed q fit.notes.plan.path fit.notes.plan.short old given (task_id r.0 k) l.names
    (finished r.0 (facts_of r.0 r.1) (knows.stages (kept_of r) (map_in kept_of known r among)) k below)) in
    let next = stands notes (Over (end.Finished (all_tasks known))) in
    let there : m.next ≡ next
    = ap (λ (v : Move). v.next) c.leads.1 ∙ ap (λ ids. stands notes (counted known ids given)) goes.goes.0 ∙ ap (λ n. stands notes (Over (end_by n (all_tasks known)))) none in
    arrives at first old new m next there l.same (record { kept = goes.kept; goes = (all_tasks known, refl) })
