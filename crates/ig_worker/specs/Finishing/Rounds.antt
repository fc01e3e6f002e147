-- A worker by itself goes on where it lists the queue: the names that it tries are those ahead.
use Rattle.std.specs.Prelude.{◌≡◌, ◌⊎◌, ◌≤◌, ◌<◌, ◌||◌, ℕ, true, false, if◌then◌else◌, List, [], ◌∷◌, length, map, Option, None, Some, Contains, IsSome, is_some, codes, refl}
use Rattle.std.proofs.Common.{arith, inl, inr, ap, sym, subst, true≢false, ◌∙◌}
use Rattle.std.proofs.lemmas.Bool.{cases_Bool, ltb-true}
use Rattle.std.proofs.lemmas.List.Elements.{All-contains}
use Rattle.std.proofs.lemmas.List.Kept.{IsStrictlySortedBy-filter}
use Rattle.std.proofs.lemmas.Option.{none-some, same_Some}
use Rattle.ig_space.specs.Path.{joined}
use Rattle.ig_defs.specs.declared.queue_name.QueueName.{QueueName}
use Rattle.ig_defs.specs.Calls.{ListsNames}
use Rattle.ig_defs.specs.Files.{Files}
use Rattle.ig_defs.specs.QueueNames.{queue_file, task_of}
use Rattle.ig_defs.specs.QueueNameLaws.{is_segment-queue_file, length-queue_file}
use Rattle.ig_queue.specs.Candidates.{AreCandidates, IsCandidate}
use Rattle.ig_queue.specs.FilesAt.{queued_path_is}
use Rattle.ig_record.specs.declared.stage.Stage.{Stage}
use Rattle.ig_record.specs.Stage.{task_count}
use Rattle.ig_rule.specs.Facts.{Facts}
use Rattle.ig_rule.specs.Known.{KeptStage}
use Rattle.ig_rule.specs.QueueFiles.{Queued, queue_of}
use Rattle.ig_rule.specs.QueueSteps.{Holds, holds}
use Rattle.ig_rule.specs.Sound.{IsTask, Sound}
use Rattle.ig_rule.specs.Stages.{Clear, Records, stages_in}
use Rattle.ig_task.specs.Facts.{facts_of, stage_reader}
use Rattle.ig_worker.specs.declared.notes.Notes.{Notes}
use Rattle.ig_worker.specs.declared.phase.Phase.TheVariants.{Asking}
use Rattle.ig_worker.specs.declared.phase.Then.TheVariants.{Try}
use Rattle.ig_worker.specs.Finishing.Going.{AllKnown, AreAhead, GoesOnAt, StaysGoing}
use Rattle.ig_worker.specs.Finishing.Listings.{arrives, listed}
use Rattle.ig_worker.specs.Finishing.Order.{passes_from, passes_in, same_names}
use Rattle.ig_worker.specs.Finishing.CanFinish.{IsAhead}
use Rattle.ig_worker.specs.Ending.Finished.{IsNoted}
use Rattle.ig_worker.specs.Ending.Open.{closed_not_clear}
use Rattle.ig_worker.specs.Keeping.Known.{KnowsAll, all_known}
use Rattle.ig_worker.specs.Keeping.Leases.{open_task}
use Rattle.ig_worker.specs.Keeping.Listing.{file_stands, file_there, known_facts}
use Rattle.ig_worker.specs.Keeping.Lists.{first_in, later_in, none_in}
use Rattle.ig_worker.specs.Knows.{Knows, kept_of}
use Rattle.ig_worker.specs.Moves.{Move}
use Rattle.ig_worker.specs.Places.{asked, learning, round_of, stands}
use Rattle.ig_worker.specs.Plans.{HasLimits}
use Rattle.ig_worker.specs.Stages.{Known, is_last, may_run, open_names, open_tasks, stage_in, unknown_after, unknown_named}
use Rattle.ig_worker.specs.Ending.Standing.{IsKnown}

-- ---- stages that are known
noted_by : (records : Records) (known : Known) (stages : (k : KeptStage) → Contains (map kept_of known) k → records k.number ≡ Some k.stage) (n : ℕ) (t : Facts) (o : Option Stage)
    → stage_in known n ≡ o → is_some o ≡ true → records n ≡ Some t → IsNoted known n t
noted_by records known stages n t None e some is = absurd (true≢false (sym some))
noted_by records known stages n t (Some s) e some is = record { stage = s; is = e; facts = same_Some (facts_of n s) t (sym (known_facts records known stages n s e) ∙ is) }

-- Of a stage that is known these are the facts.
pub noted_of : (records : Records) (known : Known) (stages : (k : KeptStage) → Contains (map kept_of known) k → records k.number ≡ Some k.stage) (n : ℕ) (t : Facts) → IsKnown known n → records n ≡ Some t → IsNoted known n t
noted_of records known stages n t some is = noted_by records known stages n t (stage_in known n) refl some is

-- where the stage of each name is known, no record is still to be read
known_after : (known : Known) (last : Option ℕ) (names : List QueueName) → ((name : QueueName) → Contains names name → IsKnown known name.stage) → unknown_after known last names ≡ []
known_after known last [] all = refl
known_after known last (x ∷ names) all =
    ap (λ b. if b || is_last last x.stage then unknown_after known last names else x.stage ∷ unknown_after known (Some x.stage) names) (all x (first_in x names))
    ∙ known_after known last names (λ name among. all name (later_in x names name among))

-- ---- names in the queue
-- A name that stands is that of a task of a recorded stage.
pub record IsQueued (q : List ℕ) (files : Files) (name : QueueName) : Type 0 where
  pub held : Holds q files (Queued name)
  pub task : IsTask (stages_in stage_reader q files) (task_of name) held.bytes

pub queued_task : (q : List ℕ) (files : Files) (name : QueueName) → Sound stage_reader q files → IsSome (queue_of q files (Queued name)) → IsQueued q files name
queued_task q files name sound there = let h = holds q files (Queued name) there in record { held = h; task = sound.names.tasks (Queued name) (task_of name) h.bytes refl h.is }

module _ (notes : Notes) (files : Files) (sound : Sound stage_reader notes.plan.queue files) (knows : Knows (stands notes Asking) files) (all : AllKnown notes.plan.queue files notes.known) where
  abbrev records : Records
  records = stages_in stage_reader notes.plan.queue files

  knows_them : KnowsAll records notes.known
  knows_them = all_known records files notes.known Asking refl refl knows

  queued_known : (name : QueueName) → IsSome (queue_of notes.plan.queue files (Queued name)) → IsKnown notes.known name.stage
  queued_known name there = let h = queued_task notes.plan.queue files name sound there in all name.stage h.task.stage h.task.is

  -- a name that stands and may be run is ahead,
  may_ahead : (name : QueueName) → IsSome (queue_of notes.plan.queue files (Queued name)) → may_run notes.known name ≡ true → IsAhead notes.plan.queue files name
  may_ahead name there may =
      let h = queued_task notes.plan.queue files name sound there in
      let noted = noted_of records notes.known knows.stages name.stage h.task.stage (queued_known name there) h.task.is in
      let below : name.task < open_tasks notes.known name.stage = ltb-true name.task (open_tasks notes.known name.stage) may in
      let clear = open_task records notes.known knows_them name.stage name.task noted.stage noted.is below in
      record { there = there; stage = facts_of name.stage noted.stage; is = clear.is; clear = clear.clear }

  not_closed : (name : QueueName) → IsAhead notes.plan.queue files name → may_run notes.known name ≡ false → ⊥
  not_closed name ahead closed =
      let h = queued_task notes.plan.queue files name sound ahead.there in
      let noted = noted_of records notes.known knows.stages name.stage ahead.stage (queued_known name ahead.there) ahead.is in
      let same : h.task.stage ≡ ahead.stage = same_Some h.task.stage ahead.stage (sym h.task.is ∙ ahead.is) in
      let below : name.task < task_count noted.stage = subst (λ (f : Facts). name.task < f.tasks) (same ∙ sym noted.facts) h.task.below in
      closed_not_clear records notes.known knows.stages name noted.stage noted.is below closed (subst (Clear records name.stage) (sym noted.facts) ahead.clear)

  -- and one that is ahead may be run
  ahead_may : (name : QueueName) → IsAhead notes.plan.queue files name → may_run notes.known name ≡ true
  ahead_may name ahead = by_test (cases_Bool (may_run notes.known name))
    where
      by_test : (may_run notes.known name ≡ true) ⊎ (may_run notes.known name ≡ false) → may_run notes.known name ≡ true
      by_test (inl may) = may
      by_test (inr closed) = absurd (not_closed name ahead closed)

  -- ---- the queue is listed
  module _ (limits : HasLimits notes.plan) (at now : ℕ) (given : List (List ℕ)) (names : List QueueName) (lists : ListsNames (joined notes.plan.queue (codes "queue")) given files []) (are : AreCandidates given now names) where
    listed_there : (name : QueueName) → Contains names name → IsSome (queue_of notes.plan.queue files (Queued name))
    listed_there name among =
        let h = All-contains (IsCandidate given now) names name are.only among in
        file_there notes.plan.queue files (Queued name) (joined notes.plan.queue (codes "queue")) (queue_file name) (queued_path_is notes.plan.queue (queue_file name) name refl) h.fits (lists.only (queue_file name) h.listed)

    none_unknown : unknown_named notes.known names ≡ []
    none_unknown = known_after notes.known None names (λ name among. queued_known name (listed_there name among))

    ahead_named : (ahead : List QueueName) (name : QueueName) → Contains ahead name ⊎ ◌≡◌ {A = Option QueueName} None (Some name) → Contains ahead name
    ahead_named ahead name (inl among) = among
    ahead_named ahead name (inr held) = absurd (none-some name held)

    -- a name ahead is listed
    ahead_listed : (first : Files) (ahead : List QueueName) → at ≤ now → AreAhead at first files notes ahead → (name : QueueName) → Contains ahead name → Contains names name
    ahead_listed first ahead before are_ahead name among =
        let there = (are_ahead.only name among).there in
        let h = holds notes.plan.queue files (Queued name) there in
        let due = All-contains (λ (x : QueueName). x.visible ≤ at) ahead name are_ahead.left.due among in
        let long : length (codes "queue") ≡ 5 = refl in
        let stands = file_stands notes.plan.queue limits.path limits.short files (Queued name) (codes "queue") (queue_file name) (queued_path_is notes.plan.queue (queue_file name) name refl) refl (omega (arith, long))
        (is_segment-queue_file name) (omega (arith, length-queue_file name)) there in
        are.each name (record { fits = h.fit; listed = lists.each (queue_file name) stands; due = omega (arith, due, before) })

    open_is : (first : Files) (ahead : List QueueName) → at ≤ now → AreAhead at first files notes ahead → open_names notes.known names ≡ ahead
    open_is first ahead before are_ahead =
        same_names (open_names notes.known names) ahead (IsStrictlySortedBy-filter _ (may_run notes.known) names are.sorted) are_ahead.left.in_order
        (λ name among. let h = passes_from (may_run notes.known) names name among in ahead_named ahead name (are_ahead.left.each name (may_ahead name (listed_there name h.among) h.passes)))
        (λ name among. passes_in (may_run notes.known) names name (ahead_listed first ahead before are_ahead name among) (ahead_may name (are_ahead.only name among)))

-- ---- after the listing
not_ahead : (name : QueueName) → Contains [] name ⊎ ◌≡◌ {A = Option QueueName} None (Some name) → ⊥
not_ahead name (inl among) = none_in name among
not_ahead name (inr held) = none-some name held

round_on : (at : ℕ) (first files : Files) (notes : Notes) (now : ℕ) (names : List QueueName) → AllKnown notes.plan.queue files notes.known → AreAhead at first files notes names → GoesOnAt at first files (asked notes now) (round_of names)
round_on at first files notes now [] all ahead = record { all = all; none = λ name h. not_ahead name (ahead.left.each name h) }
round_on at first files notes now (name ∷ names) all ahead = (all, record { left = ahead.left; can = ahead.can })

-- A worker that lists the queue goes on.
pub asking_goes : (notes : Notes) → StaysGoing (stands notes Asking)
asking_goes notes at from to first old new m before fit sound knows c goes =
    let q = notes.plan.queue in
    let leads = c.leads in
    let all = goes.goes.0 in
    let ahead = goes.goes.1 in
    let here = asked notes leads.now in
    let l = listed q from to (stands notes Asking) old new m (joined q (codes "queue")) leads.given (stands here (learning notes.known (unknown_named notes.known leads.names) (Try leads.names))) [] c leads.is in
    let later = leads.after in
    let none = none_unknown notes old sound knows all fit.notes.plan at leads.now leads.given leads.names l.names leads.are in
    let is = open_is notes old sound knows all fit.notes.plan at leads.now leads.given leads.names l.names leads.are first ahead.0 (omega (arith, before, later)) ahead.1 in
    let there : m.next ≡ stands here (round_of ahead.0)
    = ap (λ (v : Move). v.next) leads.is ∙ ap (λ unread. stands here (learning notes.known unread (Try leads.names))) none ∙ ap (λ names. stands here (round_of names)) is in
    arrives at first old new m (stands here (round_of ahead.0)) there l.same (record { kept = goes.kept; goes = round_on at first old notes leads.now ahead.0 all ahead.1 })
