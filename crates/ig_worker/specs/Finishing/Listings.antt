-- A worker by itself goes on where it lists the stages or the dead letters, and where it reads a record.
use Rattle.std.specs.Prelude.{◌≡◌, ◌⊎◌, ◌≤◌, ℕ, true, List, [], ◌∷◌, length, Option, None, Some, Contains, codes, option_and_then, refl}
use Rattle.std.proofs.Common.{inl, inr, ap, sym, subst, true≢false, ◌∙◌}
use Rattle.ig_space.specs.Path.{is_path, joined}
use Rattle.ig_space.specs.declared.task_id.TaskId.{TaskId}
use Rattle.ig_defs.specs.declared.queue_name.QueueName.{QueueName}
use Rattle.ig_defs.specs.Calls.{ListsNames}
use Rattle.ig_defs.specs.Files.{Files, file_at}
use Rattle.ig_defs.specs.Log.{after}
use Rattle.ig_defs.specs.QueueNames.{stage_file, task_file}
use Rattle.ig_meaning.specs.QueueMaking.{record_path, stages_dir}
use Rattle.ig_queue.specs.FilesAt.{dead_path_is}
use Rattle.ig_record.specs.declared.stage.Stage.{Stage}
use Rattle.ig_record.specs.Reading.{record_in}
use Rattle.ig_rule.specs.QueueFiles.{Dead, Record, queue_of}
use Rattle.ig_rule.specs.QueueSteps.{holds}
use Rattle.ig_rule.specs.Sound.{Sound}
use Rattle.ig_rule.specs.SoundFiles.{none_there}
use Rattle.ig_rule.specs.SoundNames.{has_record}
use Rattle.ig_rule.specs.declared.role.Role.TheVariants.{Worker}
use Rattle.ig_task.specs.Facts.{stage_reader}
use Rattle.ig_worker.specs.declared.notes.Notes.{Notes}
use Rattle.ig_worker.specs.declared.phase.Phase.TheVariants.{Closing, Learning, ListingDead, ListingDone, Starting}
use Rattle.ig_worker.specs.declared.phase.Then.{Then}
use Rattle.ig_worker.specs.declared.phase.Then.TheVariants.{Ask, Count, Try}
use Rattle.ig_worker.specs.declared.turn.Line.{Line}
use Rattle.ig_worker.specs.Finishing.Going.{AllKnown, AreAhead, CalledAlone, GoesOn, GoesOnAt, IsKept, IsLearning, StaysGoing}
use Rattle.ig_defs.specs.Answers.{Found, Lists, Names, Reads, Takes}
use Rattle.ig_worker.specs.Finishing.CanFinish.{stage_at}
use Rattle.ig_worker.specs.Ending.Closing.{learnt_all_known, learnt_more}
use Rattle.ig_worker.specs.Ending.Listed.{record_tells, was_listed}
use Rattle.ig_worker.specs.Ending.Names.{shown_from}
use Rattle.ig_worker.specs.Ending.Records.{record_of}
use Rattle.ig_worker.specs.Keeping.Listing.{file_there, listed_or_known, record_stands, stage_named-is}
use Rattle.ig_worker.specs.Keeping.Lists.{first_in, is_empty, later_in, with_stage-from}
use Rattle.ig_worker.specs.Moves.{Move, moves}
use Rattle.ig_worker.specs.Places.{State, learning, learnt, learnt_by, noted, stands}
use Rattle.ig_worker.specs.Stages.{Known, tasks_listed, unknown_listed, with_stage}

-- ---- a call that changes no file
-- Where it led there, and the worker goes on from there, it goes on.
pub arrives : (at : ℕ) (first old new : Files) (m : Move) (next : State) → m.next ≡ next → new ≡ old → GoesOn at first next old → GoesOn at first m.next new
arrives at first old new m next there same goes =
    subst (λ (files : Files). GoesOn at first m.next files) (sym same) (subst (λ (s : State). GoesOn at first s old) (sym there) goes)

-- what a listing gave
pub record IsListed (old new : Files) (dir : List ℕ) (given : List (List ℕ)) : Type 0 where
  pub names : ListsNames dir given old []
  pub same : new ≡ old

pub listed : (q : List ℕ) (from to : ℕ) (s : State) (old new : Files) (m : Move) (dir : List ℕ) (given : List (List ℕ)) (next : State) (said : List Line) → CalledAlone q from to s old new m
    → m ≡ moves (Lists dir) (Names given) next said → IsListed old new dir given
listed q from to s old new m dir given next said c e =
    let takes = subst (λ (v : Move). Takes old [] v.call v.answer c.act) e c.takes in
    record { names = takes.1; same = c.files ∙ ap (after old) takes.0 }

-- what a read found
record IsFound (old new : Files) (path : List ℕ) (found : Option (List ℕ)) : Type 0 where
  is : found ≡ file_at old path
  same : new ≡ old

was_found : (q : List ℕ) (from to : ℕ) (s : State) (old new : Files) (m : Move) (path : List ℕ) (found : Option (List ℕ)) (next : State) (said : List Line) → CalledAlone q from to s old new m
    → m ≡ moves (Reads path) (Found found) next said → IsFound old new path found
was_found q from to s old new m path found next said c e =
    let takes = subst (λ (v : Move). Takes old [] v.call v.answer c.act) e c.takes in
    record { is = takes.1; same = c.files ∙ ap (after old) takes.0 }

-- ---- the stages are listed
-- After a listing each stage that is recorded is known, or is to be read, as are no others.
listing_learns : (q : List ℕ) → is_path q ≡ true → length q ≤ 100 → (files : Files) (known : Known) (given : List (List ℕ)) → Sound stage_reader q files → ListsNames (stages_dir q) given files []
    → IsLearning q files known (unknown_listed known given)
listing_learns q path short files known given sound names = record {
  all = λ n t is.
      let h = holds q files (Record n) (has_record stage_reader (queue_of q files) n t is) in
      listed_or_known known given (stage_file n) n (stage_named-is n h.fit) (names.each (stage_file n) (record_stands Worker q path short files n t is));
  only = λ n among. let h = was_listed known given n among in record_tells q files sound n h.fits (names.only (stage_file n) h.among);
}

asks_on : (at : ℕ) (first now : Files) (notes : Notes) (unread : List ℕ) → IsLearning notes.plan.queue now notes.known unread → (names : List QueueName) × AreAhead at first now notes names
    → GoesOnAt at first now notes (learning notes.known unread Ask)
asks_on at first now notes [] learns ahead = (λ n t is. learnt_all_known notes.known n (learns.all n t is), ahead)
asks_on at first now notes (n ∷ unread) learns ahead = (learns, ahead)

-- A worker at its start goes on.
pub starting_goes : (notes : Notes) → StaysGoing (stands notes Starting)
starting_goes notes at from to first old new m later fit sound knows c goes =
    let q = notes.plan.queue in
    let given = c.leads.0 in
    let unread = unknown_listed notes.known given in
    let next = stands notes (learning notes.known unread Ask) in
    let l = listed q from to (stands notes Starting) old new m (stages_dir q) given next [] c c.leads.1 in
    arrives at first old new m next (ap (λ (v : Move). v.next) c.leads.1) l.same
    (record { kept = goes.kept; goes = asks_on at first old notes unread (listing_learns q fit.notes.plan.path fit.notes.plan.short old notes.known given sound l.names) goes.goes })

-- ---- a record is read
-- one stage more is known
learns_one : (q : List ℕ) (now : Files) (known : Known) (n : ℕ) (unread : List ℕ) (s : Stage) → IsLearning q now known (n ∷ unread) → IsLearning q now (with_stage n s known) unread
learns_one q now known n unread s h = record {
  all = λ k t is. learnt_more k n s known unread (h.all k t is);
  only = λ k among. h.only k (later_in n unread k among);
}

kept_one : (q : List ℕ) (first now : Files) (known : Known) (n : ℕ) (s : Stage) → stage_at q now n ≡ Some s → IsKept q first now known → IsKept q first now (with_stage n s known)
kept_one q first now known n s is h = record {
  records = h.records;
  sealed = h.sealed;
  no_letters = h.no_letters;
  known = λ r among. by_place r (with_stage-from n s known r among);
}
  where
    by_place : (r : ℕ × Stage) → Contains known r ⊎ ((n, s) ≡ r) → stage_at q first r.0 ≡ Some r.1
    by_place r (inl old) = h.known r old
    by_place r (inr e) = subst (λ (x : ℕ × Stage). stage_at q first x.0 ≡ Some x.1) e (ap (option_and_then (record_in n)) (sym (h.records n)) ∙ is)

learns_on : (at from to : ℕ) (first old new : Files) (notes : Notes) (n : ℕ) (unread : List ℕ) (m : Move) → CalledAlone notes.plan.queue from to (stands notes (Learning (n ∷ unread) Ask)) old new m
    → GoesOn at first (stands notes (Learning (n ∷ unread) Ask)) old → GoesOn at first m.next new
learns_on at from to first old new notes n unread m c goes =
    let q = notes.plan.queue in
    let found = c.leads.0 in
    let f = was_found q from to (stands notes (Learning (n ∷ unread) Ask)) old new m (record_path q n) found (learnt notes n unread Ask found) [] c c.leads.1 in
    let recorded = goes.goes.0.only n (first_in n unread) in
    let r = record_of q old n recorded.0 recorded.1 in
    let more = noted notes n r.stage in
    let next = stands more (learning more.known unread Ask) in
    let there : m.next ≡ next = ap (λ (v : Move). v.next) c.leads.1 ∙ ap (learnt notes n unread Ask) (f.is ∙ r.stands_there) ∙ ap (learnt_by notes n unread Ask r.text) r.reads in
    let ahead = goes.goes.1 in
    arrives at first old new m next there f.same
    (record {
      kept = kept_one q first old notes.known n r.stage r.at goes.kept;
      goes = asks_on at first old more unread (learns_one q old notes.known n unread r.stage goes.goes.0) (ahead.0, record { only = ahead.1.only; left = ahead.1.left; can = ahead.1.can });
    })

-- A worker that reads records goes on.
pub learning_goes : (notes : Notes) (unread : List ℕ) (later : Then) → StaysGoing (stands notes (Learning unread later))
learning_goes notes [] Ask at from to first old new m later fit sound knows c goes = absurd c.leads
learning_goes notes (n ∷ unread) Ask at from to first old new m later fit sound knows c goes = learns_on at from to first old new notes n unread m c goes
learning_goes notes unread (Try names) at from to first old new m later fit sound knows c goes = absurd goes.goes
learning_goes notes unread Count at from to first old new m later fit sound knows c goes = absurd goes.goes

-- ---- the stages are listed at the close
none_unread : (q : List ℕ) (now : Files) (known : Known) (given : List (List ℕ)) → IsLearning q now known (unknown_listed known given) → AllKnown q now known → unknown_listed known given ≡ []
none_unread q now known given learns all = is_empty (unknown_listed known given) (λ n among.
    let recorded = learns.only n among in
    true≢false (sym (all n recorded.0 recorded.1) ∙ (was_listed known given n among).unknown))

-- A worker at the close goes on.
pub closing_goes : (notes : Notes) → StaysGoing (stands notes Closing)
closing_goes notes at from to first old new m later fit sound knows c goes =
    let q = notes.plan.queue in
    let given = c.leads.0 in
    let l = listed q from to (stands notes Closing) old new m (stages_dir q) given (stands notes (learning notes.known (unknown_listed notes.known given) Count)) [] c c.leads.1 in
    let learns = listing_learns q fit.notes.plan.path fit.notes.plan.short old notes.known given sound l.names in
    let none = none_unread q old notes.known given learns goes.goes.all in
    arrives at first old new m (stands notes ListingDead) (ap (λ (v : Move). v.next) c.leads.1 ∙ ap (λ unread. stands notes (learning notes.known unread Count)) none) l.same
    (record { kept = goes.kept; goes = goes.goes })

-- ---- the dead letters are listed
none_dead : (q : List ℕ) (files : Files) (given : List (List ℕ)) → ListsNames (joined q (codes "dead")) given files [] → ((id : TaskId) → queue_of q files (Dead id) ≡ None) → tasks_listed given ≡ []
none_dead q files given names none = is_empty (tasks_listed given) (λ id among.
    let shown = shown_from given id among in
    none_there (queue_of q files (Dead id))
    (file_there q files (Dead id) (joined q (codes "dead")) (task_file id) (dead_path_is q (task_file id) id refl) shown.fits (names.only (task_file id) shown.given)) (none id))

-- A worker that lists the dead letters goes on: there are none.
pub dead_goes : (notes : Notes) → StaysGoing (stands notes ListingDead)
dead_goes notes at from to first old new m later fit sound knows c goes =
    let q = notes.plan.queue in
    let given = c.leads.0 in
    let next = stands notes (ListingDone (tasks_listed given)) in
    let l = listed q from to (stands notes ListingDead) old new m (joined q (codes "dead")) given next [] c c.leads.1 in
    arrives at first old new m next (ap (λ (v : Move). v.next) c.leads.1) l.same
    (record { kept = goes.kept; goes = (none_dead q old given l.names goes.kept.no_letters, goes.goes) })
