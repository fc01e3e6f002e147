-- Each move of a worker is allowed at its moment, and leads to what it knows next.
use Rattle.std.specs.Prelude.{◌≡◌, ◌<◌, ◌^◌, nat_le, ℕ, Bool, true, false, List, [], ◌∷◌, Some, is_some, refl}
use Rattle.std.proofs.Common.{arith, inl, sym, subst}
use Rattle.std.proofs.lemmas.Bool.{leb-false}
use Rattle.std.proofs.lemmas.List.Elements.{All-head}
use Rattle.ig_space.specs.declared.task_id.TaskId.{TaskId}
use Rattle.ig_defs.specs.declared.queue_name.QueueName.{QueueName}
use Rattle.ig_defs.specs.declared.step.Act.{Act}
use Rattle.ig_defs.specs.declared.step.Act.TheVariants as act
use Rattle.ig_defs.specs.declared.step.Step.{Step}
use Rattle.ig_defs.specs.Files.{Files, file_at}
use Rattle.ig_defs.specs.Log.{ByOthers, replay}
use Rattle.ig_defs.specs.QueueNames.{queue_fits, task_of}
use Rattle.ig_cutout.specs.declared.types.Input.{Input}
use Rattle.ig_cutout.specs.declared.types.Output.{Output}
use Rattle.ig_meaning.specs.QueueMaking.{stages_dir}
use Rattle.ig_rule.specs.QueueFiles.{Dead}
use Rattle.ig_rule.specs.Roles.{Allows}
use Rattle.ig_rule.specs.declared.role.Role.{Role}
use Rattle.ig_rule.specs.Sound.{Sound}
use Rattle.ig_rule.specs.Stages.{Records, stages_in}
use Rattle.ig_task.specs.Facts.{stage_reader}
use Rattle.ig_worker.specs.declared.notes.Notes.{Notes}
use Rattle.ig_worker.specs.declared.phase.Phase.{Phase}
use Rattle.ig_worker.specs.declared.phase.Phase.TheVariants.{Starting, Learning, Asking, Trying, Fetching, Running, Finishing, Closing, ListingDead, ListingDone, Telling, Over, Broken}
use Rattle.ig_worker.specs.declared.phase.Then.{Then}
use Rattle.ig_worker.specs.declared.phase.Then.TheVariants.{Ask, Try, Count}
use Rattle.ig_defs.specs.Answers.{Takes, act_if}
use Rattle.ig_worker.specs.Fit.{AreFitNotes, IsFetching, IsFinishing, IsFitPhase, IsOpen, IsRunning}
use Rattle.ig_worker.specs.Keeping.Handing.{done_carries, output_carries}
use Rattle.ig_worker.specs.Keeping.Known.{Carries, KnowsAll, KnowsStages, all_known, known_learning, rested, try_rests}
use Rattle.ig_worker.specs.Keeping.Listing.{listing_tells}
use Rattle.ig_worker.specs.Keeping.Names.{buries_carries, leases_carries, moved_by, task_fits-queue}
use Rattle.ig_worker.specs.Keeping.Records.{learnt_known}
use Rattle.ig_worker.specs.Keeping.Tasks.{HasRun, fetched_known, ran_known}
use Rattle.ig_worker.specs.Knows.{Knows, has_listed, leases_at, unread_at}
use Rattle.ig_worker.specs.Moves.{ActsOn, HandsOver, IsOutcome, Leads, ListsDead, ListsDone, ListsStages, Makes, Move, Outcome, ReadsInput, ReadsRecord, Refuses, RunsTask, TriesBy, TriesName, dead_path, queued_path}
use Rattle.ig_worker.specs.Places.{State, counted, learning, next_try, stands}
use Rattle.ig_worker.specs.Stages.{Known, tasks_listed, unknown_listed, unknown_named}

-- ---- a call, of a move that is this one
module _ (q : List ℕ) (start : Files) (others : List Step) (a : Act) where
  abbrev CarriesOn : Move → Type 0
  CarriesOn m = Takes start others m.call m.answer a → Carries q (replay start others) a m.next

  along : (m made : Move) → m ≡ made → CarriesOn made → CarriesOn m
  along m made e on = subst CarriesOn (sym e) on

  -- an act that only looks
  looked : (next : State) (look : Act) → a ≡ look → Carries q (replay start others) look next → Carries q (replay start others) a next
  looked next look e c = subst (λ v. Carries q (replay start others) v next) (sym e) c

-- what is known of the stages, with any still to be read
all_stages : (records : Records) (known : Known) (unread : List ℕ) → KnowsAll records known → KnowsStages records known unread
all_stages records known unread h = record { stages = h.stages; removals = λ r t is removes. inl (h.removals r t is removes) }

counted_rests : (known others : Known) (letters : List TaskId) (given : List (List ℕ)) → leases_at others (counted known letters given) ≡ []
counted_rests known others [] given = refl
counted_rests known others (id ∷ letters) given = refl

module _ (role : Role) (from to : ℕ) (notes : Notes) (start : Files) (others : List Step) (by : ByOthers (Allows stage_reader role (Some notes.plan.queue)) start others)
    (sound : Sound stage_reader notes.plan.queue start) (now_sound : Sound stage_reader notes.plan.queue (replay start others)) (fit : AreFitNotes notes) (a : Act) (m : Move) where
  abbrev Goes : Type 0
  Goes = Takes start others m.call m.answer a → Carries notes.plan.queue (replay start others) a m.next

  lists_stages : (phase : Phase) (goal : Then) → Knows (stands notes phase) (replay start others) → ListsStages notes goal m → Goes
  lists_stages phase goal known leads =
      let given = leads.0 in
      let unread = unknown_listed notes.known given in
      let next = stands notes (learning notes.known unread goal) in
      along notes.plan.queue start others a m _ leads.1 (λ takes.
      looked notes.plan.queue start others a next (act.List (stages_dir notes.plan.queue) given) takes.0 (record {
        may = tt;
        known = known_learning (stages_in stage_reader notes.plan.queue (replay start others)) (replay start others) notes.known unread goal
            (listing_tells role notes.plan.queue notes.known given start others fit.plan.path fit.plan.short by sound takes.1 known.stages);
      }))

  reads_record : (unread : List ℕ) (goal : Then) → IsFitPhase notes (Learning unread goal) → Knows (stands notes (Learning unread goal)) (replay start others) → ReadsRecord notes unread goal m → Goes
  reads_record [] goal ready known leads = absurd leads
  reads_record (n ∷ unread) goal ready known leads =
      along notes.plan.queue start others a m _ leads.1 (λ takes.
      looked notes.plan.queue start others a _ _ takes.0 (record {
        may = tt;
        known = learnt_known notes n unread goal (replay start others) (All-head (λ k. k < 10 ^ 4) n unread ready.1) known leads.0 takes.1;
      }))

  lists_queue : Knows (stands notes Asking) (replay start others) → Leads from to notes Asking m → Goes
  lists_queue known leads =
      let records = stages_in stage_reader notes.plan.queue (replay start others) in
      let unread = unknown_named notes.known leads.names in
      along notes.plan.queue start others a m _ leads.is (λ takes.
      looked notes.plan.queue start others a _ _ takes.0 (record {
        may = tt;
        known = known_learning records (replay start others) notes.known unread (Try leads.names)
            (all_stages records notes.known unread (all_known records (replay start others) notes.known Asking refl refl known));
      }))

  tries_by : (name : QueueName) (names : List QueueName) → IsOpen notes name → Knows (stands notes (Trying (name ∷ names))) (replay start others) → (b : Bool) → nat_le notes.plan.tries name.attempt ≡ b
      → TriesBy b from to notes name names m → Goes
  tries_by name names open_name known true e leads =
      along notes.plan.queue start others a m _ leads.1 (λ takes. buries_carries notes name names (replay start others) now_sound known open_name leads.0 a takes.0 takes.1)
  tries_by name names open_name known false e leads =
      let few : name.attempt < 100 = let above = leb-false notes.plan.tries name.attempt e in omega (arith, above, fit.plan.tries.1) in
      along notes.plan.queue start others a m _ leads.is (λ takes. leases_carries notes name names (replay start others) now_sound known open_name leads.now leads.there a few takes.0 takes.1)

  tries_name : (names : List QueueName) → IsFitPhase notes (Trying names) → Knows (stands notes (Trying names)) (replay start others) → TriesName from to notes names m → Goes
  tries_name [] ready known leads = absurd leads
  tries_name (name ∷ names) ready known leads =
      tries_by name names (All-head (IsOpen notes) name names ready.1) known (nat_le notes.plan.tries name.attempt) refl leads.1

  hands_over : (name : QueueName) (outputs : List Output) (names : List QueueName) → IsFinishing notes name outputs names → Knows (stands notes (Finishing name outputs names)) (replay start others)
      → HandsOver notes name outputs names m → Goes
  hands_over name [] names ready known leads =
      along notes.plan.queue start others a m _ leads.1 (λ takes. done_carries notes name names (replay start others) now_sound ready known leads.0 a takes.0 takes.1)
  hands_over name (output ∷ outputs) names ready known leads =
      along notes.plan.queue start others a m _ leads.1 (λ takes. output_carries notes name output outputs names (replay start others) now_sound ready known start others refl a leads.0 takes)

  -- the task is buried
  refuses : (name : QueueName) (phase : Phase) (names : List QueueName) → queue_fits name ≡ true → has_listed phase ≡ true → unread_at phase ≡ [] → Knows (stands notes phase) (replay start others)
      → (there : Bool) → (a ≡ act_if there (act.Move (queued_path notes name) (dead_path notes name)) (queued_path notes name)) → there ≡ is_some (file_at (replay start others) (queued_path notes name))
      → Carries notes.plan.queue (replay start others) a (stands notes (next_try names))
  refuses name phase names fits_name listed none known there is_act is =
      looked notes.plan.queue start others a (stands notes (next_try names)) _ is_act
      (moved_by (stands notes phase) (replay start others) now_sound known name (Dead (task_of name)) fits_name (task_fits-queue name fits_name) refl (stands notes (next_try names)) there is
      (λ files h. rested notes phase (next_try names) files listed none (try_rests notes.known names) h))

  acts_on : (name : QueueName) (given : List Input) (names : List QueueName) → IsRunning notes name given names → Knows (stands notes (Running name given names)) (replay start others)
      → (outcome : Outcome) → ((outputs : List Output) → outcome ≡ Makes outputs → HasRun notes name outputs names (replay start others)) → ActsOn notes name outcome names m → Goes
  acts_on name given names ready known (Makes outputs) ran acts = let r = ran outputs refl in hands_over name outputs names r.fit r.known acts
  acts_on name given names ready known (Refuses cause) ran acts =
      along notes.plan.queue start others a m _ acts.1
      (λ takes. refuses name (Running name given names) names ready.leased.fits refl refl known acts.0 takes.0 takes.1)

  runs_task : (name : QueueName) (given : List Input) (names : List QueueName) → IsRunning notes name given names → Knows (stands notes (Running name given names)) (replay start others)
      → RunsTask notes name given names m → Goes
  runs_task name given names ready known leads =
      acts_on name given names ready known leads.outcome
      (λ outputs e. ran_known notes name given names (replay start others) fit ready known leads.stage leads.is outputs (subst (λ o. IsOutcome leads.stage name.task given o) e leads.comes))
      leads.acts

  reads_input : (name : QueueName) (paths : List (List ℕ)) (given : List Input) (names : List QueueName) → IsFetching notes name paths given names
      → Knows (stands notes (Fetching name paths given names)) (replay start others) → ReadsInput notes name paths given names m → Goes
  reads_input name paths given names ready known leads =
      along notes.plan.queue start others a m _ leads.is (λ takes.
      looked notes.plan.queue start others a _ _ takes.0 (record {
        may = tt;
        known = fetched_known notes name paths given names (replay start others) fit ready now_sound known leads.path leads.next leads.found takes.1;
      }))

  lists_dead : Knows (stands notes ListingDead) (replay start others) → ListsDead notes m → Goes
  lists_dead known leads =
      along notes.plan.queue start others a m _ leads.1 (λ takes.
      looked notes.plan.queue start others a _ _ takes.0
      (record { may = tt; known = rested notes ListingDead (ListingDone (tasks_listed leads.0)) (replay start others) refl refl refl known }))

  lists_done : (letters : List TaskId) → Knows (stands notes (ListingDone letters)) (replay start others) → ListsDone notes letters m → Goes
  lists_done letters known leads =
      along notes.plan.queue start others a m _ leads.1 (λ takes.
      looked notes.plan.queue start others a _ _ takes.0 (record {
        may = tt;
        known = rested notes (ListingDone letters) (counted notes.known letters leads.0) (replay start others) refl refl (counted_rests notes.known notes.known letters leads.0) known;
      }))

  -- Each move is allowed, and carries what the worker knows on.
  pub move_carries : (phase : Phase) → IsFitPhase notes phase → Knows (stands notes phase) (replay start others) → Leads from to notes phase m → Takes start others m.call m.answer a
      → Carries notes.plan.queue (replay start others) a m.next
  move_carries Starting ready known leads = lists_stages Starting Ask known leads
  move_carries (Learning unread goal) ready known leads = reads_record unread goal ready known leads
  move_carries Asking ready known leads = lists_queue known leads
  move_carries (Trying names) ready known leads = tries_name names ready known leads
  move_carries (Fetching name paths given names) ready known leads = reads_input name paths given names ready known leads
  move_carries (Running name given names) ready known leads = runs_task name given names ready known leads
  move_carries (Finishing name outputs names) ready known leads = hands_over name outputs names ready known leads
  move_carries Closing ready known leads = lists_stages Closing Count known leads
  move_carries ListingDead ready known leads = lists_dead known leads
  move_carries (ListingDone letters) ready known leads = lists_done letters known leads
  move_carries (Telling letters count) ready known leads = absurd leads
  move_carries (Over end) ready known leads = absurd leads
  move_carries (Broken error) ready known leads = absurd leads
