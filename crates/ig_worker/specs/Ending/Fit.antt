-- What a worker keeps fits together after each of its moves.
use Rattle.std.specs.Prelude.{◌≡◌, ◌≤◌, ◌<◌, ◌^◌, ◌==◌, ◌+◌, nat_le, ℕ, suc, Bool, true, false, cond, if◌then◌else◌, List, [], ◌∷◌, ◌++◌, length, take, slice_get, Option, None, Some, refl}
use Rattle.std.specs.List.{All}
use Rattle.std.proofs.Common.{arith, ap, sym, subst, ◌∙◌, length-append}
use Rattle.std.proofs.Math.Seq.{take-length, take-suc}
use Rattle.std.proofs.lemmas.Bool.{eqb-false, eqb-true, leb-false, ltb-true}
use Rattle.std.proofs.lemmas.List.{map-append}
use Rattle.std.proofs.lemmas.List.Elements.{All-cons, All-head, All-nil, All-push, All-tail, All-weaker}
use Rattle.std.proofs.lemmas.Option.{get_or_from_slice_get}
use Rattle.ig_space.specs.declared.task_id.TaskId.{TaskId}
use Rattle.ig_defs.specs.declared.queue_name.QueueName.{QueueName}
use Rattle.ig_cutout.specs.declared.types.Input.{Input}
use Rattle.ig_cutout.specs.declared.types.Output.{Output}
use Rattle.ig_cutout.specs.Inputs.{path_of as input_path, paths_of as input_paths}
use Rattle.ig_record.specs.declared.stage.Stage.{Stage}
use Rattle.ig_record.specs.Reading.{record_in}
use Rattle.ig_record.specs.ReadingLaws.{record_in-IsRecord}
use Rattle.ig_record.specs.Columns.{inputs_of, paths_of}
use Rattle.ig_queue.specs.Candidates.{IsCandidate}
use Rattle.ig_task.specs.Wanted.{HasText}
use Rattle.ig_worker.specs.declared.notes.Notes.{Notes}
use Rattle.ig_worker.specs.declared.phase.Phase.{Phase}
use Rattle.ig_worker.specs.declared.phase.Phase.TheVariants.{Starting, Learning, Asking, Trying, Fetching, Running, Finishing, Closing, ListingDead, ListingDone, Telling, Over, Broken}
use Rattle.ig_worker.specs.declared.phase.Then.{Then}
use Rattle.ig_worker.specs.declared.phase.Then.TheVariants.{Ask, Try, Count}
use Rattle.ig_worker.specs.Ending.Stages.{IsFew, few_listed, few_named, stages_with}
use Rattle.ig_worker.specs.Fit.{AreFitNotes, AreOpen, IsDue, IsFetching, IsFinishing, IsFitPhase, IsFitThen, IsFound, IsLeased, IsOpen}
use Rattle.ig_worker.specs.Keeping.Files.{next_path}
use Rattle.ig_worker.specs.Keeping.Names.{leased_fits}
use Rattle.ig_worker.specs.Moves.{ActsOn, HandsOver, IsOutcome, Leads, ListsStages, Makes, Move, Outcome, ReadsInput, ReadsRecord, Refuses, TriesBy, leased}
use Rattle.ig_worker.specs.Places.{State, asked, begun_by, counted, fetched, learning, learnt, learnt_by, leased_or_gone, next_try, noted, round_of, stands, tried_one}
use Rattle.ig_worker.specs.Stages.{Known, may_run, open_names, open_tasks, stage_in, unknown_listed, unknown_named}
use Rattle.ig_worker.specs.Ending.Standing.{Fits}

-- ---- names
open_by : (notes : Notes) (name : QueueName) (rest : List QueueName) (may : Bool) → may_run notes.known name ≡ may → IsDue notes.at name → AreOpen notes rest → AreOpen notes (cond may (name ∷ rest) rest)
open_by notes name rest true e due all = All-cons (IsOpen notes) name rest (record { due = due; below = ltb-true name.task (open_tasks notes.known name.stage) e }) all
open_by notes name rest false e due all = all

all_open : (notes : Notes) (names : List QueueName) → All (IsDue notes.at) names → AreOpen notes (open_names notes.known names)
all_open notes [] all = All-nil (IsOpen notes)
all_open notes (name ∷ names) all =
    open_by notes name (open_names notes.known names) (may_run notes.known name) refl (All-head (IsDue notes.at) name names all) (all_open notes names (All-tail (IsDue notes.at) name names all))

-- later they are due still
due_later : (at now : ℕ) (name : QueueName) → at ≤ now → IsDue at name → IsDue now name
due_later at now name later h = let due = h.due in record { fits = h.fits; due = omega (arith, due, later) }

open_later : (notes : Notes) (now : ℕ) (names : List QueueName) → notes.at ≤ now → AreOpen notes names → AreOpen (tried_one (asked notes now)) names
open_later notes now names later all =
    All-weaker (IsOpen notes) (IsOpen (tried_one (asked notes now))) (λ name h. record { due = due_later notes.at now name later h.due; below = h.below }) names all

open_tried : (notes : Notes) (names : List QueueName) → AreOpen notes names → AreOpen (tried_one notes) names
open_tried notes names all = All-weaker (IsOpen notes) (IsOpen (tried_one notes)) (λ name h. record { due = h.due; below = h.below }) names all

-- ---- places
round_fits : (notes : Notes) (names : List QueueName) → AreOpen notes names → IsFitPhase notes (round_of names)
round_fits notes [] all = tt
round_fits notes (name ∷ names) all = (omega arith, all)

learning_fits : (notes : Notes) (unread : List ℕ) (goal : Then) → All IsFew unread → IsFitThen notes.at goal → IsFitPhase notes (learning notes.known unread goal)
learning_fits notes [] Ask few fit = tt
learning_fits notes [] (Try names) few fit = round_fits notes (open_names notes.known names) (all_open notes names fit)
learning_fits notes [] Count few fit = tt
learning_fits notes (n ∷ unread) goal few fit = (omega arith, few, fit)

try_fits : (notes : Notes) (names : List QueueName) → AreOpen notes names → IsFitPhase notes (next_try names)
try_fits notes [] all = tt
try_fits notes (name ∷ names) all = (omega arith, all)

fetching_by : (notes : Notes) (name : QueueName) (paths : List (List ℕ)) (given : List Input) (names : List QueueName) (s : Stage) (b : Bool) → (length given == length paths) ≡ b → IsLeased notes name s
    → paths ≡ inputs_of s name.task → input_paths given ≡ take (length given) paths → All IsFound given → length given ≤ length paths → AreOpen notes names
    → IsFitPhase notes (if b then Running name given names else Fetching name paths given names)
fetching_by notes name paths given names s true e leased inputs read found most ahead = record {
  stage = s;
  leased = leased;
  read = read ∙ ap (λ n. take n paths) (eqb-true (length given) (length paths) e) ∙ take-length paths ∙ inputs;
  found = found;
  ahead = ahead;
}
fetching_by notes name paths given names s false e leased inputs read found most ahead = record {
  stage = s;
  leased = leased;
  inputs = inputs;
  read = read;
  found = found;
  more = let differ = eqb-false (length given) (length paths) e in grind arith;
  ahead = ahead;
}

counted_fits : (notes : Notes) (known : Known) (letters : List TaskId) (given : List (List ℕ)) → IsFitPhase notes (counted known letters given)
counted_fits notes known [] given = tt
counted_fits notes known (id ∷ letters) given = tt

-- ---- one move
-- what a run makes is at the paths of its task
abbrev pub HasMade : Notes → Phase → Type 0
HasMade notes (Running name given names) = (stage : Stage) → stage_in notes.known name.stage ≡ Some stage → (outputs : List Output) → IsOutcome stage name.task given (Makes outputs) → IsFinishing notes name outputs names
HasMade notes phase = Unit {0}

module _ (from to : ℕ) (notes : Notes) (fit : AreFitNotes notes) (later : notes.at ≤ from) (before : from ≤ to) (small : to < 10 ^ 10) where
  abbrev Goes : State → Type 0
  Goes next = Fits notes.plan to next

  -- with the same notes
  rests : (phase : Phase) → IsFitPhase notes phase → Goes (stands notes phase)
  rests phase ready = record { of_plan = refl; fit = record { notes = fit; phase = ready }; later = omega (arith, later, before) }

  lists_stages : (goal : Then) (m : Move) → IsFitThen notes.at goal → ListsStages notes goal m → Goes m.next
  lists_stages goal m ready leads =
      subst (λ (v : Move). Goes v.next) (sym leads.1)
      (rests (learning notes.known (unknown_listed notes.known leads.0) goal) (learning_fits notes (unknown_listed notes.known leads.0) goal (few_listed notes.known leads.0) ready))

  learnt_stage : (n : ℕ) (unread : List ℕ) (goal : Then) (text : List ℕ) → n < 10 ^ 4 → All IsFew unread → IsFitThen notes.at goal → (o : Option Stage) → record_in n text ≡ o → Goes (learnt_by notes n unread goal text o)
  learnt_stage n unread goal text few rest ready None reads = rests _ tt
  learnt_stage n unread goal text few rest ready (Some s) reads = record {
    of_plan = refl;
    fit = record {
      notes = record { plan = fit.plan; known = stages_with n s notes.known (record { few = few; sound = (record_in-IsRecord n s text reads).sound }) fit.known; at = fit.at; tried = fit.tried };
      phase = learning_fits (noted notes n s) unread goal rest ready;
    };
    later = omega (arith, later, before);
  }

  learnt_fits : (n : ℕ) (unread : List ℕ) (goal : Then) → n < 10 ^ 4 → All IsFew unread → IsFitThen notes.at goal → (found : Option (List ℕ)) → Goes (learnt notes n unread goal found)
  learnt_fits n unread goal few rest ready None = rests _ tt
  learnt_fits n unread goal few rest ready (Some text) = learnt_stage n unread goal text few rest ready (record_in n text) refl

  reads_record : (unread : List ℕ) (goal : Then) (m : Move) → IsFitPhase notes (Learning unread goal) → ReadsRecord notes unread goal m → Goes m.next
  reads_record [] goal m ready leads = absurd leads
  reads_record (n ∷ unread) goal m ready leads =
      subst (λ (v : Move). Goes v.next) (sym leads.1) (learnt_fits n unread goal (All-head IsFew n unread ready.1) (All-tail IsFew n unread ready.1) ready.2 leads.0)

  lists_queue : (m : Move) → Leads from to notes Asking m → Goes m.next
  lists_queue m leads =
      let now = leads.now in
      let most = leads.before in
      subst (λ (v : Move). Goes v.next) (sym leads.is) (record {
        of_plan = refl;
        fit = record {
          notes = record { plan = fit.plan; known = fit.known; at = omega (arith, most, small); tried = fit.tried };
          phase = learning_fits (asked notes now) (unknown_named notes.known leads.names) (Try leads.names) (few_named leads.given now notes.known None leads.names leads.are.only)
              (All-weaker (IsCandidate leads.given now) (IsDue now) (λ name h. record { fits = h.fits; due = h.due }) leads.names leads.are.only);
        };
        later = most;
      })

  -- ---- a try
  tries : (now : ℕ) → notes.at ≤ now → now ≤ to → notes.tried < notes.plan.turns → (phase : Phase) → IsFitPhase (tried_one (asked notes now)) phase → Goes (stands (tried_one (asked notes now)) phase)
  tries now least most turn phase ready = record {
    of_plan = refl;
    fit = record { notes = record { plan = fit.plan; known = fit.known; at = omega (arith, most, small); tried = omega (arith, turn) }; phase = ready };
    later = most;
  }

  begun_fits : (now : ℕ) (name : QueueName) (names : List QueueName) (second : ℕ) → IsOpen notes name → name.attempt < 100 → AreOpen (tried_one (asked notes now)) names → (o : Option Stage) → stage_in notes.known name.stage ≡ o
      → IsFitPhase (tried_one (asked notes now)) (begun_by o (leased notes second name) names)
  begun_fits now name names second ready few ahead None e = try_fits (tried_one (asked notes now)) names ahead
  begun_fits now name names second ready few ahead (Some s) e =
      let paths = inputs_of s name.task in
      let none : List Input = [] in
      fetching_by (tried_one (asked notes now)) (leased notes second name) paths none names s (length none == length paths) refl
      (record { fits = leased_fits second notes.plan.lease name ready.due.fits few; stage = e; below = ready.below }) refl refl (All-nil IsFound) (omega arith) ahead

  leased_fit : (now : ℕ) (name : QueueName) (names : List QueueName) → IsOpen notes name → name.attempt < 100 → AreOpen (tried_one (asked notes now)) names → (there : Bool)
      → IsFitPhase (tried_one (asked notes now)) (leased_or_gone there notes.known (leased notes now name) names)
  leased_fit now name names ready few ahead true = begun_fits now name names now ready few ahead (stage_in notes.known name.stage) refl
  leased_fit now name names ready few ahead false = try_fits (tried_one (asked notes now)) names ahead

  tries_by : (name : QueueName) (names : List QueueName) (m : Move) → notes.tried < notes.plan.turns → IsOpen notes name → AreOpen notes names → (b : Bool) → nat_le notes.plan.tries name.attempt ≡ b
      → TriesBy b from to notes name names m → Goes m.next
  tries_by name names m turn ready ahead true e leads =
      subst (λ (v : Move). Goes v.next) (sym leads.1)
      (tries notes.at (omega arith) (omega (arith, later, before)) turn (next_try names) (try_fits (tried_one notes) names (open_tried notes names ahead)))
  tries_by name names m turn ready ahead false e leads =
      let few : name.attempt < 100 = let above = leb-false notes.plan.tries name.attempt e in omega (arith, above, fit.plan.tries.1) in
      let least : notes.at ≤ leads.now = let after = leads.after in omega (arith, later, after) in
      subst (λ (v : Move). Goes v.next) (sym leads.is)
      (tries leads.now least leads.before turn (leased_or_gone leads.there notes.known (leased notes leads.now name) names)
      (leased_fit leads.now name names ready few (open_later notes leads.now names least ahead) leads.there))

  tries_name : (names : List QueueName) (m : Move) → IsFitPhase notes (Trying names) → Leads from to notes (Trying names) m → Goes m.next
  tries_name [] m ready leads = absurd leads
  tries_name (name ∷ names) m ready leads =
      tries_by name names m leads.0 (All-head (IsOpen notes) name names ready.1) (All-tail (IsOpen notes) name names ready.1) (nat_le notes.plan.tries name.attempt) refl leads.1

  -- ---- a task
  fetched_fits : (name : QueueName) (paths : List (List ℕ)) (given : List Input) (names : List QueueName) (path : List ℕ) → slice_get paths (length given) ≡ Some path → (f : IsFetching notes name paths given names)
      → (found : Option (List ℕ)) → IsFitPhase notes (fetched name paths given names path found)
  fetched_fits name paths given names path next f None = try_fits notes names f.ahead
  fetched_fits name paths given names path next f (Some bytes) =
      let input : Input = record { path = path; found = Some bytes } in
      let more = given ++ input ∷ [] in
      let long : length more ≡ length given + 1 = length-append given (input ∷ []) in
      let below = f.more in
      let counts : suc (length given) ≡ length more = omega (arith, long) in
      let read : input_paths more ≡ take (length more) paths
      = map-append input_path given (input ∷ []) ∙ ap (λ ps. ps ++ path ∷ []) f.read
      ∙ ap (λ p. take (length given) paths ++ p ∷ []) (sym (get_or_from_slice_get paths (length given) path path next))
      ∙ sym (take-suc paths (length given) path below) ∙ ap (λ n. take n paths) counts in
      fetching_by notes name paths more names f.stage (length more == length paths) refl f.leased f.inputs read (All-push IsFound given input f.found refl) (omega (arith, long, below)) f.ahead

  reads_input : (name : QueueName) (paths : List (List ℕ)) (given : List Input) (names : List QueueName) (m : Move) → IsFetching notes name paths given names → ReadsInput notes name paths given names m → Goes m.next
  reads_input name paths given names m f leads =
      subst (λ (v : Move). Goes v.next) (sym leads.is) (rests (fetched name paths given names leads.path leads.found) (fetched_fits name paths given names leads.path leads.next f leads.found))

  hands_over : (name : QueueName) (outputs : List Output) (names : List QueueName) (m : Move) → IsFinishing notes name outputs names → HandsOver notes name outputs names m → Goes m.next
  hands_over name [] names m f leads = subst (λ (v : Move). Goes v.next) (sym leads.1) (rests (next_try names) (try_fits notes names f.ahead))
  hands_over name (output ∷ outputs) names m f leads =
      let next = next_path (paths_of f.stage name.task) output outputs f.done f.paths in
      subst (λ (v : Move). Goes v.next) (sym leads.1) (rests (Finishing name outputs names)
      (record { stage = f.stage; leased = f.leased; done = suc f.done; paths = next.later; texts = All-tail (HasText f.stage) output outputs f.texts; ahead = f.ahead }))

  runs_by : (name : QueueName) (names : List QueueName) (m : Move) → AreOpen notes names → (outcome : Outcome) → ((outputs : List Output) → outcome ≡ Makes outputs → IsFinishing notes name outputs names)
      → ActsOn notes name outcome names m → Goes m.next
  runs_by name names m ahead (Makes outputs) ran acts = hands_over name outputs names m (ran outputs refl) acts
  runs_by name names m ahead (Refuses cause) ran acts = subst (λ (v : Move). Goes v.next) (sym acts.1) (rests (next_try names) (try_fits notes names ahead))

  -- Each move leads to a place that fits.
  pub leads_fit : (phase : Phase) (m : Move) → IsFitPhase notes phase → HasMade notes phase → Leads from to notes phase m → Goes m.next
  leads_fit Starting m ready made leads = lists_stages Ask m tt leads
  leads_fit (Learning unread goal) m ready made leads = reads_record unread goal m ready leads
  leads_fit Asking m ready made leads = lists_queue m leads
  leads_fit (Trying names) m ready made leads = tries_name names m ready leads
  leads_fit (Fetching name paths given names) m ready made leads = reads_input name paths given names m ready leads
  leads_fit (Running name given names) m ready made leads =
      runs_by name names m ready.ahead leads.outcome (λ outputs e. made leads.stage leads.is outputs (subst (λ o. IsOutcome leads.stage name.task given o) e leads.comes)) leads.acts
  leads_fit (Finishing name outputs names) m ready made leads = hands_over name outputs names m ready leads
  leads_fit Closing m ready made leads = lists_stages Count m tt leads
  leads_fit ListingDead m ready made leads = subst (λ (v : Move). Goes v.next) (sym leads.1) (rests _ tt)
  leads_fit (ListingDone letters) m ready made leads = subst (λ (v : Move). Goes v.next) (sym leads.1) (rests (counted notes.known letters leads.0) (counted_fits notes notes.known letters leads.0))
  leads_fit (Telling letters count) m ready made leads = absurd leads
  leads_fit (Over end) m ready made leads = absurd leads
  leads_fit (Broken error) m ready made leads = absurd leads
