-- What each move of a worker owes to a lease.
use Rattle.std.specs.Prelude.{◌≡◌, ◌⊎◌, ◌≤◌, ◌<◌, ◌==◌, nat_le, not, ℕ, Bool, true, false, List, [], ◌∷◌, ◌++◌, length, map, Option, None, Some, is_some, Contains, refl}
use Rattle.std.proofs.Common.{arith, inl, inr, ap, sym, subst, true≢false, append_assoc, ◌∙◌}
use Rattle.std.proofs.lemmas.Bool.{leb-false}
use Rattle.std.proofs.lemmas.List.{map-append}
use Rattle.std.proofs.lemmas.List.Elements.{All-head, Contains-push}
use Rattle.std.proofs.lemmas.Option.{same_Some}
use Rattle.ig_defs.specs.declared.queue_name.QueueName.{QueueName}
use Rattle.ig_defs.specs.declared.step.Act.{Act}
use Rattle.ig_defs.specs.declared.step.Act.TheVariants as act
use Rattle.ig_defs.specs.declared.step.Step.{Step}
use Rattle.ig_defs.specs.Answers.{Answer, Found, Names, Put, Takes, WasThere, act_if}
use Rattle.ig_defs.specs.Files.{Files, file_at}
use Rattle.ig_defs.specs.Log.{replay}
use Rattle.ig_defs.specs.Own.{Moment}
use Rattle.ig_defs.specs.QueueNames.{task_of}
use Rattle.ig_cutout.specs.declared.types.Input.{Input}
use Rattle.ig_cutout.specs.declared.types.Output.{Output}
use Rattle.ig_cutout.specs.Inputs.{path_of as input_path, paths_of as input_paths}
use Rattle.ig_record.specs.declared.stage.Stage.{Stage}
use Rattle.ig_record.specs.Reading.{record_in}
use Rattle.ig_record.specs.Columns.{inputs_of}
use Rattle.ig_meaning.specs.QueueMaking.{record_path}
use Rattle.ig_task.specs.Wanted.{HasText, path_of}
use Rattle.ig_worker.specs.declared.notes.Notes.{Notes}
use Rattle.ig_worker.specs.declared.phase.Phase.{Phase}
use Rattle.ig_worker.specs.declared.phase.Phase.TheVariants.{Starting, Learning, Asking, Trying, Fetching, Running, Finishing, Closing, ListingDead, ListingDone, Telling, Over, Broken}
use Rattle.ig_worker.specs.declared.phase.Then.{Then}
use Rattle.ig_worker.specs.declared.phase.Then.TheVariants.{Ask, Try, Count}
use Rattle.ig_worker.specs.declared.plan.Plan.{Plan}
use Rattle.ig_worker.specs.Fit.{AreFitNotes, IsFinishing, IsFitPhase, IsOpen, IsRunning}
use Rattle.ig_worker.specs.Keeping.Handing.{nothing_there}
use Rattle.ig_worker.specs.Keeping.Lists.{stage_in-among, with_stage-from}
use Rattle.ig_worker.specs.Leasing.Leases.{FollowsLease, HasRead, IsWrite, OwnStep, Settles, UnderLease, is_removal}
use Rattle.ig_worker.specs.Leasing.Places.{AreRead, Follows, HandsOn, IsHanding, IsLeasedAt, IsUnder, counted_under, fetching_under, learning_under, more_read, try_under, under_read, under_settled}
use Rattle.ig_worker.specs.Leasing.Tasks.{open_below, ran_finishing, ran_outputs}
use Rattle.ig_worker.specs.Moves.{ActsOn, HandsOver, IsOutcome, Leads, ListsStages, Makes, Move, Outcome, ReadsInput, ReadsRecord, Refuses, TriesBy, call_by, dead_path, done_path, leased, queued_path}
use Rattle.ig_worker.specs.Places.{State, asked, begun_by, fetched, learnt, learnt_by, leased_or_gone, noted, stands, tried_one}
use Rattle.ig_worker.specs.Stages.{stage_in, unknown_listed, unknown_named, with_stage}

-- ---- acts that write nothing
no_write_if : (there : Bool) (from to path : List ℕ) (a : Act) → a ≡ act_if there (act.Move from to) path → IsWrite a → ⊥
no_write_if true from to path a is write = subst IsWrite is write
no_write_if false from to path a is write = subst IsWrite is write

-- ---- one move
-- The worker's step at this moment, by a clock between these: if it is a put or a removal, it follows a lease; and the worker goes on.
pub record GoesOn (from to : ℕ) (plan : Plan) (steps : List OwnStep) (moment : Moment) (next : State) : Type 0 where
  pub step : OwnStep
  pub is : step.moment ≡ moment
  pub after : from ≤ step.clock
  pub before : step.clock ≤ to
  pub writes : IsWrite moment.act → FollowsLease plan steps step
  pub follows : Follows (steps ++ step ∷ []) next

module _ (from to : ℕ) (early : from ≤ to) (notes : Notes) (steps : List OwnStep) (read : AreRead notes.plan.queue steps notes.known) (start : Files) (others : List Step) (a : Act) where
  abbrev now : Files
  now = replay start others

  abbrev moment : Moment
  moment = record { files = now; act = a }

  abbrev at : ℕ → OwnStep
  at clock = record { clock = clock; moment = moment }

  abbrev longer : List OwnStep
  longer = steps ++ at from ∷ []

  abbrev Goes : State → Type 0
  Goes next = GoesOn from to notes.plan steps moment next

  abbrev OnBy : Move → Type 0
  OnBy m = Takes start others m.call m.answer a → Goes m.next

  still_read : (clock : ℕ) → AreRead notes.plan.queue (steps ++ at clock ∷ []) notes.known
  still_read clock r among = more_read notes.plan.queue steps (at clock) r.0 r.1 (read r among)

  -- with the same stages known, a step that writes nothing
  noting : (IsWrite a → ⊥) → (clock second tried : ℕ) → from ≤ clock → clock ≤ to → (phase : Phase)
      → IsLeasedAt (record { plan = notes.plan; known = notes.known; at = second; tried = tried }) (steps ++ at clock ∷ []) phase
      → Goes (stands (record { plan = notes.plan; known = notes.known; at = second; tried = tried }) phase)
  noting quiet clock second tried after before phase place =
      record { step = at clock; is = refl; after = after; before = before; writes = λ write. absurd (quiet write); follows = record { read = still_read clock; place = place } }

  rests : (IsWrite a → ⊥) → (phase : Phase) → IsLeasedAt notes longer phase → Goes (stands notes phase)
  rests quiet phase place = record { step = at from; is = refl; after = omega arith; before = early; writes = λ write. absurd (quiet write); follows = record { read = still_read from; place = place } }

  no_list : (dir : List ℕ) (given : List (List ℕ)) → a ≡ act.List dir given → IsWrite a → ⊥
  no_list dir given is write = subst IsWrite is write

  no_read : (path : List ℕ) → a ≡ act.Read path → IsWrite a → ⊥
  no_read path is write = subst IsWrite is write

  -- ---- listings
  lists_stages : (goal : Then) (m : Move) → ListsStages notes goal m → OnBy m
  lists_stages goal m leads = subst OnBy (sym leads.1) (λ takes. rests (no_list _ leads.0 takes.0) _ (learning_under notes longer notes.known (unknown_listed notes.known leads.0) goal))

  lists_queue : (m : Move) → Leads from to notes Asking m → OnBy m
  lists_queue m leads =
      subst OnBy (sym leads.is) (λ takes. noting (no_list _ leads.given takes.0) leads.now leads.now notes.tried leads.after leads.before _
      (learning_under (asked notes leads.now) (steps ++ at leads.now ∷ []) notes.known (unknown_named notes.known leads.names) (Try leads.names)))

  -- ---- records
  record_read : (n : ℕ) (s : Stage) (text : List ℕ) → a ≡ act.Read (record_path notes.plan.queue n) → Some text ≡ file_at now (record_path notes.plan.queue n) → record_in n text ≡ Some s
      → AreRead notes.plan.queue longer (with_stage n s notes.known)
  record_read n s text is found says r among = by_place (with_stage-from n s notes.known r among)
    where
      by_place : Contains notes.known r ⊎ ((n, s) ≡ r) → HasRead notes.plan.queue longer r.0 r.1
      by_place (inl old) = still_read from r old
      by_place (inr new) =
          subst (λ (x : ℕ × Stage). HasRead notes.plan.queue longer x.0 x.1) new
          (record { step = at from; among = Contains-push steps (at from); reads = is; text = text; found = sym found; says = says })

  learnt_stage : (n : ℕ) (unread : List ℕ) (goal : Then) (text : List ℕ) → a ≡ act.Read (record_path notes.plan.queue n) → Some text ≡ file_at now (record_path notes.plan.queue n) → (o : Option Stage)
      → record_in n text ≡ o → Goes (learnt_by notes n unread goal text o)
  learnt_stage n unread goal text is found None says = rests (no_read _ is) _ tt
  learnt_stage n unread goal text is found (Some s) says = record {
    step = at from;
    is = refl;
    after = omega arith;
    before = early;
    writes = λ write. absurd (no_read _ is write);
    follows = record { read = record_read n s text is found says; place = learning_under (noted notes n s) longer (with_stage n s notes.known) unread goal };
  }

  learnt_on : (n : ℕ) (unread : List ℕ) (goal : Then) (found : Option (List ℕ)) → a ≡ act.Read (record_path notes.plan.queue n) → found ≡ file_at now (record_path notes.plan.queue n) → Goes (learnt notes n unread goal found)
  learnt_on n unread goal None is found = rests (no_read _ is) _ tt
  learnt_on n unread goal (Some text) is found = learnt_stage n unread goal text is found (record_in n text) refl

  reads_record : (unread : List ℕ) (goal : Then) (m : Move) → ReadsRecord notes unread goal m → OnBy m
  reads_record [] goal m leads = absurd leads
  reads_record (n ∷ unread) goal m leads = subst OnBy (sym leads.1) (λ takes. learnt_on n unread goal leads.0 takes.0 takes.1)

  -- ---- a try
  tried_quiet : (later : QueueName → List ℕ) (there : Bool) (name : QueueName) → a ≡ act_if there (act.Move (queued_path notes name) (later name)) (queued_path notes name) → IsWrite a → ⊥
  tried_quiet later there name = no_write_if there (queued_path notes name) (later name) (queued_path notes name) a

  -- a name that stood was leased
  under_new : (second : ℕ) (name : QueueName) (s : Stage) → IsOpen notes name → name.attempt < notes.plan.tries → notes.at ≤ second → stage_in notes.known name.stage ≡ Some s
      → a ≡ act.Move (queued_path notes name) (queued_path notes (leased notes second name)) → true ≡ is_some (file_at now (queued_path notes name))
      → UnderLease notes.plan (steps ++ at second ∷ []) (task_of name) s [] []
  under_new second name s ready few later known is stood =
      let due = ready.due.due in
      record {
        before = steps;
        lease = at second;
        reads = [];
        settles = [];
        together = refl;
        name = name;
        of_task = refl;
        leases = record { fits = ready.due.fits; stands = sym stood; due = omega (arith, due, later); attempts = few; moves = is };
        stage = read (name.stage, s) (stage_in-among notes.known name.stage s known);
        inputs = refl;
        outputs = tt;
      }

  abbrev once_tried : ℕ → Notes
  once_tried second = tried_one (asked notes second)

  begun_under : (second : ℕ) (name : QueueName) (names : List QueueName) → ((s : Stage) → stage_in notes.known name.stage ≡ Some s → UnderLease notes.plan (steps ++ at second ∷ []) (task_of name) s [] []) → (o : Option Stage)
      → IsLeasedAt (once_tried second) (steps ++ at second ∷ []) (begun_by o (leased notes second name) names)
  begun_under second name names under None = try_under (once_tried second) (steps ++ at second ∷ []) names
  begun_under second name names under (Some s) =
      let none : List Input = [] in
      let paths = inputs_of s name.task in
      fetching_under (once_tried second) (steps ++ at second ∷ []) (leased notes second name) paths none names (length none == length paths) under

  leased_on : (second : ℕ) (name : QueueName) (names : List QueueName) → IsOpen notes name → name.attempt < notes.plan.tries → notes.at ≤ second → from ≤ second → second ≤ to → (there : Bool)
      → a ≡ act_if there (act.Move (queued_path notes name) (queued_path notes (leased notes second name))) (queued_path notes name) → there ≡ is_some (file_at now (queued_path notes name))
      → Goes (stands (once_tried second) (leased_or_gone there notes.known (leased notes second name) names))
  leased_on second name names ready few later after before true is stood =
      noting (tried_quiet (λ old. queued_path notes (leased notes second old)) true name is) second second (once_tried second).tried after before _
      (begun_under second name names (λ s known. under_new second name s ready few later known is stood) (stage_in notes.known name.stage))
  leased_on second name names ready few later after before false is stood =
      noting (tried_quiet (λ old. queued_path notes (leased notes second old)) false name is) second second (once_tried second).tried after before _
      (try_under (once_tried second) (steps ++ at second ∷ []) names)

  tries_by : notes.at ≤ from → (name : QueueName) (names : List QueueName) (m : Move) → IsOpen notes name → (often : Bool) → nat_le notes.plan.tries name.attempt ≡ often → TriesBy often from to notes name names m → OnBy m
  tries_by later name names m ready true e leads =
      subst OnBy (sym leads.1) (λ takes. noting (tried_quiet (dead_path notes) leads.0 name takes.0) from notes.at (tried_one notes).tried (omega arith) early _ (try_under (tried_one notes) longer names))
  tries_by later name names m ready false e leads =
      let after = leads.after in
      let few = leb-false notes.plan.tries name.attempt e in
      subst OnBy (sym leads.is) (λ takes. leased_on leads.now name names ready few (omega (arith, later, after)) after leads.before leads.there takes.0 takes.1)

  tries_name : notes.at ≤ from → (names : List QueueName) (m : Move) → IsFitPhase notes (Trying names) → Leads from to notes (Trying names) m → OnBy m
  tries_name later [] m fit leads = absurd leads
  tries_name later (name ∷ names) m fit leads = tries_by later name names m (All-head (IsOpen notes) name names fit.1) (nat_le notes.plan.tries name.attempt) refl leads.1

  -- ---- an input
  input_on : (name : QueueName) (paths : List (List ℕ)) (given : List Input) (names : List QueueName) (path : List ℕ) → IsUnder notes steps name (input_paths given) → a ≡ act.Read path → (found : Option (List ℕ))
      → Goes (stands notes (fetched name paths given names path found))
  input_on name paths given names path under is None = rests (no_read path is) _ (try_under notes longer names)
  input_on name paths given names path under is (Some bytes) =
      let more : List Input = given ++ record { path = path; found = Some bytes } ∷ [] in
      rests (no_read path is) _ (fetching_under notes longer name paths more names (length more == length paths) (λ s known.
      subst (λ paths. UnderLease notes.plan longer (task_of name) s paths []) (sym (map-append input_path given (record { path = path; found = Some bytes } ∷ [])))
      (under_read notes.plan steps (at from) (task_of name) s (input_paths given) path is (under s known))))

  reads_input : (name : QueueName) (paths : List (List ℕ)) (given : List Input) (names : List QueueName) (m : Move) → IsUnder notes steps name (input_paths given) → ReadsInput notes name paths given names m → OnBy m
  reads_input name paths given names m under leads = subst OnBy (sym leads.is) (λ takes. input_on name paths given names leads.path under takes.0 leads.found)

  -- ---- an output
  removed_by : (there : Bool) (path : List ℕ) → a ≡ act_if there (act.Remove path) path → there ≡ is_some (file_at now path) → Settles true path (at from)
  removed_by true path is stood = inl is
  removed_by false path is stood = inr (is, nothing_there (file_at now path) stood)

  settled_by : (path : List ℕ) (text : Option (List ℕ)) (removal : Bool) → is_some text ≡ not removal → (answer : Answer) → Takes start others (call_by path text) answer a → Settles removal path (at from)
  settled_by path (Some bytes) true has answer takes = absurd (true≢false has)
  settled_by path (Some bytes) false has Put takes = (bytes, takes)
  settled_by path (Some bytes) false has (Names given) takes = absurd takes
  settled_by path (Some bytes) false has (Found found) takes = absurd takes
  settled_by path (Some bytes) false has (WasThere there) takes = absurd takes
  settled_by path None true has (WasThere there) takes = removed_by there path takes.0 takes.1
  settled_by path None true has Put takes = absurd takes
  settled_by path None true has (Names given) takes = absurd takes
  settled_by path None true has (Found found) takes = absurd takes
  settled_by path None false has answer takes = absurd (true≢false (sym has))

  output_on : (name : QueueName) (output : Output) (outputs : List Output) (names : List QueueName) → IsFinishing notes name (output ∷ outputs) names → IsHanding notes steps name (output ∷ outputs) → (answer : Answer)
      → Takes start others (call_by output.path output.text) answer a → Goes (stands notes (Finishing name outputs names))
  output_on name output outputs names fit handing answer takes =
      let s = fit.stage in
      let known = fit.leased.stage in
      let h = handing s known in
      let settles = settled_by output.path output.text (is_removal s) (All-head (HasText s) output outputs fit.texts) answer takes in
      record {
        step = at from;
        is = refl;
        after = omega arith;
        before = early;
        writes = λ write. record {
          id = task_of name;
          stage = s;
          below = open_below notes.known name.stage name.task s known fit.leased.below;
          settled = h.settled;
          path = output.path;
          left = map path_of outputs;
          paths = h.paths;
          lease = h.lease;
          settles = settles;
        };
        follows = record { read = still_read from; place = λ t also. one_more t (same_Some s t (sym known ∙ also)) };
      }
    where
      one_more : (t : Stage) → fit.stage ≡ t → HandsOn notes.plan longer (task_of name) t (map path_of outputs)
      one_more t same =
          let h = handing fit.stage fit.leased.stage in
          let settles = settled_by output.path output.text (is_removal fit.stage) (All-head (HasText fit.stage) output outputs fit.texts) answer takes in
          subst (λ u. HandsOn notes.plan longer (task_of name) u (map path_of outputs)) same
          (record {
            settled = h.settled ++ output.path ∷ [];
            paths = h.paths ∙ sym (append_assoc h.settled (output.path ∷ []) (map path_of outputs));
            lease = under_settled notes.plan steps (at from) (task_of name) fit.stage (inputs_of fit.stage name.task) h.settled output.path settles h.lease;
          })

  hands_over : (name : QueueName) (outputs : List Output) (names : List QueueName) (m : Move) → IsFinishing notes name outputs names → IsHanding notes steps name outputs → HandsOver notes name outputs names m → OnBy m
  hands_over name [] names m fit handing leads = subst OnBy (sym leads.1) (λ takes. rests (tried_quiet (done_path notes) leads.0 name takes.0) _ (try_under notes longer names))
  hands_over name (output ∷ outputs) names m fit handing leads = subst OnBy (sym leads.1) (λ takes. output_on name output outputs names fit handing leads.0 takes)

  -- ---- a run
  ran_handing : (name : QueueName) (given : List Input) (names : List QueueName) → AreFitNotes notes → IsRunning notes name given names → IsUnder notes steps name (input_paths given) → (s : Stage)
      → stage_in notes.known name.stage ≡ Some s → (outputs : List Output) → IsOutcome s name.task given (Makes outputs) → IsHanding notes steps name outputs
  ran_handing name given names fit_notes fit under s e outputs comes t also =
      let same : fit.stage ≡ t = same_Some fit.stage t (sym fit.leased.stage ∙ also) in
      let other : s ≡ t = same_Some s t (sym e ∙ also) in
      record {
        settled = [];
        paths = sym (ran_outputs notes name given names fit_notes fit t also outputs (subst (λ u. IsOutcome u name.task given (Makes outputs)) other comes)).paths;
        lease = subst (λ paths. UnderLease notes.plan steps (task_of name) t paths []) (fit.read ∙ ap (λ u. inputs_of u name.task) same) (under t also);
      }

  acts_on : (name : QueueName) (names : List QueueName) (m : Move) (outcome : Outcome) → ((outputs : List Output) → outcome ≡ Makes outputs → IsFinishing notes name outputs names × IsHanding notes steps name outputs)
      → ActsOn notes name outcome names m → OnBy m
  acts_on name names m (Makes outputs) ran acts = let h = ran outputs refl in hands_over name outputs names m h.0 h.1 acts
  acts_on name names m (Refuses cause) ran acts = subst OnBy (sym acts.1) (λ takes. rests (tried_quiet (dead_path notes) acts.0 name takes.0) _ (try_under notes longer names))

  runs_task : (name : QueueName) (given : List Input) (names : List QueueName) (m : Move) → AreFitNotes notes → IsRunning notes name given names → IsUnder notes steps name (input_paths given)
      → Leads from to notes (Running name given names) m → OnBy m
  runs_task name given names m fit_notes fit under leads =
      acts_on name names m leads.outcome (λ outputs e.
      let comes = subst (λ o. IsOutcome leads.stage name.task given o) e leads.comes in
      (ran_finishing notes name given names fit_notes fit leads.stage leads.is outputs comes, ran_handing name given names fit_notes fit under leads.stage leads.is outputs comes))
      leads.acts

  -- ---- all of them
  pub goes_on : (phase : Phase) (m : Move) → AreFitNotes notes → notes.at ≤ from → IsFitPhase notes phase → IsLeasedAt notes steps phase → Leads from to notes phase m → OnBy m
  goes_on Starting m fit later ready place leads = lists_stages Ask m leads
  goes_on (Learning unread goal) m fit later ready place leads = reads_record unread goal m leads
  goes_on Asking m fit later ready place leads = lists_queue m leads
  goes_on (Trying names) m fit later ready place leads = tries_name later names m ready leads
  goes_on (Fetching name paths given names) m fit later ready place leads = reads_input name paths given names m place leads
  goes_on (Running name given names) m fit later ready place leads = runs_task name given names m fit ready place leads
  goes_on (Finishing name outputs names) m fit later ready place leads = hands_over name outputs names m ready place leads
  goes_on Closing m fit later ready place leads = lists_stages Count m leads
  goes_on ListingDead m fit later ready place leads = subst OnBy (sym leads.1) (λ takes. rests (no_list _ leads.0 takes.0) _ tt)
  goes_on (ListingDone letters) m fit later ready place leads = subst OnBy (sym leads.1) (λ takes. rests (no_list _ leads.0 takes.0) _ (counted_under notes longer notes.known letters leads.0))
  goes_on (Telling letters count) m fit later ready place leads = absurd leads
  goes_on (Over end) m fit later ready place leads = absurd leads
  goes_on (Broken error) m fit later ready place leads = absurd leads
