-- In a legal log a worker meets no record that isn't there, or is none.
use Rattle.std.specs.Prelude.{◌≡◌, ◌<◌, ◌^◌, ◌==◌, ℕ, Bool, true, false, if◌then◌else◌, List, [], ◌∷◌, ◌++◌, length, Option, None, Some, Contains, codes, option_and_then, option_map, refl}
use Rattle.std.proofs.Common.{arith, ap, sym, subst, true≢false, ◌∙◌}
use Rattle.std.proofs.lemmas.Option.{none-some}
use Rattle.ig_space.specs.Path.{joined}
use Rattle.ig_space.specs.declared.task_id.TaskId.{TaskId}
use Rattle.ig_defs.specs.declared.queue_name.QueueName.{QueueName}
use Rattle.ig_defs.specs.Files.{Files, file_at}
use Rattle.ig_defs.specs.Log.{Log, after, files_of, replay}
use Rattle.ig_defs.specs.TurnLaws.{files_then}
use Rattle.ig_cutout.specs.declared.types.Input.{Input}
use Rattle.ig_cutout.specs.declared.types.Output.{Output}
use Rattle.ig_meaning.specs.QueueMaking.{record_path, stages_dir}
use Rattle.ig_record.specs.declared.stage.Stage.{Stage}
use Rattle.ig_record.specs.Reading.{record_in}
use Rattle.ig_record.specs.Columns.{inputs_of}
use Rattle.ig_rule.specs.Facts.{Facts}
use Rattle.ig_rule.specs.Prefixes.{legal_sound}
use Rattle.ig_rule.specs.QueueFiles.{Record, queue_of}
use Rattle.ig_rule.specs.QueueSteps.{holds}
use Rattle.ig_rule.specs.declared.role.Role.{Role}
use Rattle.ig_rule.specs.Sound.{Legal, Sound}
use Rattle.ig_rule.specs.SoundNames.{has_record}
use Rattle.ig_rule.specs.Stages.{stages_in}
use Rattle.ig_task.specs.Facts.{facts_of, stage_reader}
use Rattle.ig_task.specs.Kinds.{kinds}
use Rattle.ig_worker.specs.declared.error.WorkerError.{WorkerError}
use Rattle.ig_worker.specs.declared.notes.Notes.{Notes}
use Rattle.ig_worker.specs.declared.phase.Phase.{Phase}
use Rattle.ig_worker.specs.declared.phase.Phase.TheVariants.{Starting, Learning, Asking, Trying, Fetching, Running, Finishing, Closing, ListingDead, ListingDone, Telling, Over, Broken}
use Rattle.ig_worker.specs.declared.phase.Then.{Then}
use Rattle.ig_worker.specs.declared.phase.Then.TheVariants.{Ask, Try, Count}
use Rattle.ig_worker.specs.declared.plan.Plan.{Plan}
use Rattle.ig_defs.specs.Answers.{Takes}
use Rattle.ig_worker.specs.Finishing.CanFinish.{stage_at}
use Rattle.ig_worker.specs.Course.{Course, fresh}
use Rattle.ig_worker.specs.Ending.Course.{course_later}
use Rattle.ig_worker.specs.Ending.Ending.{listed_by}
use Rattle.ig_worker.specs.Ending.Lasts.{lasts_others}
use Rattle.ig_worker.specs.Ending.Listed.{HasStage, listed_recorded, queued_recorded}
use Rattle.ig_worker.specs.Ending.Places.{call_stays, fresh_stays}
use Rattle.ig_worker.specs.Keeping.Lists.{first_in, later_in, none_in}
use Rattle.ig_worker.specs.Knows.{unread_at}
use Rattle.ig_worker.specs.Moves.{ActsOn, HandsOver, Leads, ListsQueue, ListsStages, Makes, Move, Outcome, ReadsRecord, Refuses, TriesBy, leased}
use Rattle.ig_worker.specs.Places.{State, asked, begun_by, counted, fetched, learning, learnt, learnt_all, learnt_by, leased_or_gone, next_try, round_of, stands}
use Rattle.ig_worker.specs.Plans.{HasLimits}
use Rattle.ig_worker.specs.Stages.{Known, open_names, stage_in, unknown_listed, unknown_named, with_stage}
use Rattle.ig_worker.specs.Ending.Standing.{AllowsFor, Stays}
use Rattle.ig_worker.specs.Steps.{Called}

-- The place is no error's, and each stage that is to be read there is recorded in these files.
pub record IsReadable (q : List ℕ) (files : Files) (phase : Phase) : Type 0 where
  pub no_error : (error : WorkerError) → phase ≡ Broken error → ⊥
  pub recorded : (n : ℕ) → Contains (unread_at phase) n → HasStage q files n

-- ---- places where nothing is to be read
abbrev is_calm : Phase → Bool
is_calm (Learning unread goal) = false
is_calm (Broken error) = false
is_calm phase = true

calm_unread : (phase : Phase) → is_calm phase ≡ true → unread_at phase ≡ []
calm_unread (Learning unread goal) calm = absurd (true≢false (sym calm))
calm_unread (Broken error) calm = absurd (true≢false (sym calm))
calm_unread phase calm = refl

calm_readable : (q : List ℕ) (files : Files) (phase : Phase) → is_calm phase ≡ true → IsReadable q files phase
calm_readable q files phase calm = record {
  no_error = λ error e. true≢false (sym calm ∙ ap is_calm e);
  recorded = λ n among. absurd (none_in n (subst (λ unread. Contains unread n) (calm_unread phase calm) among));
}

round_calm : (names : List QueueName) → is_calm (round_of names) ≡ true
round_calm [] = refl
round_calm (name ∷ names) = refl

learnt_calm : (known : Known) (goal : Then) → is_calm (learnt_all known goal) ≡ true
learnt_calm known Ask = refl
learnt_calm known (Try names) = round_calm (open_names known names)
learnt_calm known Count = refl

try_calm : (names : List QueueName) → is_calm (next_try names) ≡ true
try_calm [] = refl
try_calm (name ∷ names) = refl

fetching_calm : (name : QueueName) (paths : List (List ℕ)) (given : List Input) (names : List QueueName) (b : Bool) → is_calm (if b then Running name given names else Fetching name paths given names) ≡ true
fetching_calm name paths given names true = refl
fetching_calm name paths given names false = refl

begun_calm : (o : Option Stage) (name : QueueName) (names : List QueueName) → is_calm (begun_by o name names) ≡ true
begun_calm None name names = try_calm names
begun_calm (Some s) name names = let none : List Input = [] in let paths = inputs_of s name.task in fetching_calm name paths none names (length none == length paths)

leased_calm : (there : Bool) (known : Known) (name : QueueName) (names : List QueueName) → is_calm (leased_or_gone there known name names) ≡ true
leased_calm true known name names = begun_calm (stage_in known name.stage) name names
leased_calm false known name names = try_calm names

fetched_calm : (name : QueueName) (paths : List (List ℕ)) (given : List Input) (names : List QueueName) (path : List ℕ) (found : Option (List ℕ)) → is_calm (fetched name paths given names path found) ≡ true
fetched_calm name paths given names path None = try_calm names
fetched_calm name paths given names path (Some bytes) =
    let more : List Input = given ++ record { path = path; found = Some bytes } ∷ [] in
    fetching_calm name paths more names (length more == length paths)

counted_calm : (known : Known) (letters : List TaskId) (given : List (List ℕ)) → is_calm (counted known letters given) ≡ true
counted_calm known [] given = refl
counted_calm known (id ∷ letters) given = refl

-- ---- moves that lead to one
abbrev IsCalm : Move → Type 0
IsCalm m = is_calm m.next.phase ≡ true

tries_by_calm : (from to : ℕ) (notes : Notes) (name : QueueName) (names : List QueueName) (m : Move) (b : Bool) → TriesBy b from to notes name names m → IsCalm m
tries_by_calm from to notes name names m true h = ap (λ (v : Move). is_calm v.next.phase) h.1 ∙ try_calm names
tries_by_calm from to notes name names m false h = ap (λ (v : Move). is_calm v.next.phase) h.is ∙ leased_calm h.there notes.known (leased notes h.now name) names

tries_calm : (from to : ℕ) (notes : Notes) (names : List QueueName) (m : Move) → Leads from to notes (Trying names) m → IsCalm m
tries_calm from to notes [] m h = absurd h
tries_calm from to notes (name ∷ names) m h = tries_by_calm from to notes name names m _ h.1

hands_calm : (notes : Notes) (name : QueueName) (outputs : List Output) (names : List QueueName) (m : Move) → HandsOver notes name outputs names m → IsCalm m
hands_calm notes name [] names m h = ap (λ (v : Move). is_calm v.next.phase) h.1 ∙ try_calm names
hands_calm notes name (output ∷ outputs) names m h = ap (λ (v : Move). is_calm v.next.phase) h.1

acts_calm : (notes : Notes) (name : QueueName) (names : List QueueName) (m : Move) (outcome : Outcome) → ActsOn notes name outcome names m → IsCalm m
acts_calm notes name names m (Makes outputs) h = hands_calm notes name outputs names m h
acts_calm notes name names m (Refuses cause) h = ap (λ (v : Move). is_calm v.next.phase) h.1 ∙ try_calm names

-- ---- the record of a stage
-- it stands, and is one
pub record HasRecord (q : List ℕ) (files : Files) (n : ℕ) : Type 0 where
  pub text : List ℕ
  pub stage : Stage
  pub stands_there : file_at files (record_path q n) ≡ Some text
  pub reads : record_in n text ≡ Some stage
  pub at : stage_at q files n ≡ Some stage

stage_by : (n : ℕ) (text : List ℕ) (t : Facts) (o : Option Stage) → record_in n text ≡ o → option_map (facts_of n) o ≡ Some t → (s : Stage) × (record_in n text ≡ Some s)
stage_by n text t None e is = absurd (none-some t is)
stage_by n text t (Some s) e is = (s, e)

stage_read : (n : ℕ) (text : List ℕ) (t : Facts) → stage_reader n text ≡ Some t → (s : Stage) × (record_in n text ≡ Some s)
unfolding stage_reader
stage_read n text t is = stage_by n text t (record_in n text) refl is

pub record_of : (q : List ℕ) (files : Files) (n : ℕ) (t : Facts) → stages_in stage_reader q files n ≡ Some t → HasRecord q files n
record_of q files n t is =
    let h = holds q files (Record n) (has_record stage_reader (queue_of q files) n t is) in
    let s = stage_read n h.bytes t (ap (option_and_then (stage_reader n)) (sym h.is) ∙ is) in
    record { text = h.bytes; stage = s.0; stands_there = h.stands; reads = s.1; at = ap (option_and_then (record_in n)) h.is ∙ s.1 }

-- ---- places where records are to be read
learns_no_error : (unread : List ℕ) (goal : Then) (error : WorkerError) → Learning unread goal ≡ Broken error → ⊥
learns_no_error unread goal error e = absurd (cc)

learning_readable : (q : List ℕ) (files : Files) (known : Known) (unread : List ℕ) (goal : Then) → ((n : ℕ) → Contains unread n → HasStage q files n) → IsReadable q files (learning known unread goal)
learning_readable q files known [] goal all = calm_readable q files (learnt_all known goal) (learnt_calm known goal)
learning_readable q files known (n ∷ unread) goal all = record { no_error = learns_no_error (n ∷ unread) goal; recorded = all }

-- ---- one move
module _ (role : Role) (from to : ℕ) (notes : Notes) (old new : Log) (sound : Sound stage_reader notes.plan.queue (files_of old)) (m : Move) where
  abbrev IsCalled : Phase → Type 0
  IsCalled phase = Called (AllowsFor role notes.plan) from to (stands notes phase) old new m

  abbrev Goes : Phase → Type 0
  Goes phase = IsReadable notes.plan.queue (files_of new) phase

  lists_stages : (phase : Phase) (goal : Then) → IsCalled phase → ListsStages notes goal m → Goes m.next.phase
  lists_stages phase goal c leads =
      let q = notes.plan.queue in
      let given = leads.0 in
      let unread = unknown_listed notes.known given in
      let next = stands notes (learning notes.known unread goal) in
      let lists = listed_by (AllowsFor role notes.plan) from to (stands notes phase) old new m (stages_dir q) given next [] leads.1 c in
      subst (λ (v : Move). Goes v.next.phase) (sym leads.1)
      (learning_readable q (files_of new) notes.known unread goal (listed_recorded role q notes.known given old new sound lists))

  lists_queue : IsCalled Asking → ListsQueue from to notes m → Goes m.next.phase
  lists_queue c leads =
      let q = notes.plan.queue in
      let unread = unknown_named notes.known leads.names in
      let next = stands (asked notes leads.now) (learning notes.known unread (Try leads.names)) in
      let lists = listed_by (AllowsFor role notes.plan) from to (stands notes Asking) old new m (joined q (codes "queue")) leads.given next [] leads.is c in
      subst (λ (v : Move). Goes v.next.phase) (sym leads.is)
      (learning_readable q (files_of new) notes.known unread (Try leads.names) (queued_recorded role q notes.known leads.given leads.now leads.names old new sound leads.are lists))

  reads_record : (unread : List ℕ) (goal : Then) → IsCalled (Learning unread goal) → IsReadable notes.plan.queue (files_of old) (Learning unread goal) → ReadsRecord notes unread goal m → Goes m.next.phase
  reads_record [] goal c h leads = absurd leads
  reads_record (n ∷ unread) goal c h leads =
      let q = notes.plan.queue in
      let now = replay (files_of old) c.answered.acted.others in
      let takes = subst (λ (v : Move). Takes (files_of old) c.answered.acted.others v.call v.answer c.answered.act) leads.1 c.answered.takes in
      let lasts = lasts_others role q (files_of old) c.answered.acted.others c.answered.acted.by sound in
      let still : (k : ℕ) → Contains (n ∷ unread) k → HasStage q now k = λ k among. let there = h.recorded k among in (there.0, lasts.stages k there.0 there.1) in
      let first = still n (first_in n unread) in
      let r = record_of q now n first.0 first.1 in
      let found : leads.0 ≡ Some r.text = takes.1 ∙ r.stands_there in
      let next : learnt notes n unread goal leads.0 ≡ learnt_by notes n unread goal r.text (Some r.stage) = ap (learnt notes n unread goal) found ∙ ap (learnt_by notes n unread goal r.text) r.reads in
      let place = learning (with_stage n r.stage notes.known) unread goal in
      let same : files_of new ≡ now = files_then c.answered.acted ∙ ap (after now) takes.0 in
      subst (λ (v : Move). Goes v.next.phase) (sym leads.1) (subst (λ (s : State). Goes s.phase) (sym next) (subst (λ files. IsReadable q files place) (sym same)
      (learning_readable q now (with_stage n r.stage notes.known) unread goal (λ k among. still k (later_in n unread k among)))))

  calm : is_calm m.next.phase ≡ true → Goes m.next.phase
  calm is = calm_readable notes.plan.queue (files_of new) m.next.phase is

  move_readable : (phase : Phase) → IsCalled phase → IsReadable notes.plan.queue (files_of old) phase → Leads from to notes phase m → Goes m.next.phase
  move_readable Starting c h leads = lists_stages Starting Ask c leads
  move_readable (Learning unread goal) c h leads = reads_record unread goal c h leads
  move_readable Asking c h leads = lists_queue c leads
  move_readable (Trying names) c h leads = calm (tries_calm from to notes names m leads)
  move_readable (Fetching name paths given names) c h leads = calm (ap (λ (v : Move). is_calm v.next.phase) leads.is ∙ fetched_calm name paths given names leads.path leads.found)
  move_readable (Running name given names) c h leads = calm (acts_calm notes name names m leads.outcome leads.acts)
  move_readable (Finishing name outputs names) c h leads = calm (hands_calm notes name outputs names m leads)
  move_readable Closing c h leads = lists_stages Closing Count c leads
  move_readable ListingDead c h leads = calm (ap (λ (v : Move). is_calm v.next.phase) leads.1)
  move_readable (ListingDone letters) c h leads = calm (ap (λ (v : Move). is_calm v.next.phase) leads.1 ∙ counted_calm notes.known letters leads.0)
  move_readable (Telling letters count) c h leads = absurd leads
  move_readable (Over end) c h leads = absurd leads
  move_readable (Broken error) c h leads = absurd leads

-- Each move of a worker in a legal log leads to such a place.
pub call_readable : (role : Role) (plan : Plan) (from to : ℕ) (s : State) (old new : Log) (m : Move) → Stays plan from s old → Called (AllowsFor role plan) from to s old new m
    → IsReadable plan.queue (files_of old) s.phase → IsReadable plan.queue (files_of new) m.next.phase
call_readable role plan from to s old new m stays called readable =
    let P = λ (p : Plan). Legal stage_reader p.queue old → Called (AllowsFor role p) from to s old new m → IsReadable p.queue (files_of old) s.phase → IsReadable p.queue (files_of new) m.next.phase in
    let q = s.notes.plan.queue in
    subst P stays.place.of_plan (λ legal c h. move_readable role from to s.notes old new (legal_sound stage_reader kinds q old legal) m s.phase c h c.leads) stays.legal called readable

-- ---- a course
-- So does a course.
pub course_readable : (role : Role) (plan : Plan) (from : ℕ) (s : State) (old : Log) (ms : List Move) (to : ℕ) (next : State) (new : Log) → to < 10 ^ 10 → Stays plan from s old
    → IsReadable plan.queue (files_of old) s.phase → Course (AllowsFor role plan) from s old ms to next new → IsReadable plan.queue (files_of new) next.phase
course_readable role plan from s old [] to next new small stays readable c =
    subst (λ (log : Log). IsReadable plan.queue (files_of log) next.phase) (sym c.2) (subst (λ (t : State). IsReadable plan.queue (files_of old) t.phase) (sym c.1) readable)
course_readable role plan from s old (m ∷ ms) to next new small stays readable c =
    let rest = course_later (AllowsFor role plan) c.0 m.next c.1 ms to next new c.4 in
    course_readable role plan c.0 m.next c.1 ms to next new small (call_stays role plan from c.0 s old c.1 m c.2 (omega (arith, rest, small)) stays c.3)
    (call_readable role plan from c.0 s old c.1 m stays c.3 readable) c.4

-- In a legal log a worker meets no record that isn't there, or is none.
pub never_broken : (role : Role) (plan : Plan) (from : ℕ) (old : Log) (ms : List Move) (to : ℕ) (next : State) (new : Log) → HasLimits plan → to < 10 ^ 10 → Legal stage_reader plan.queue old
    → Course (AllowsFor role plan) from (fresh plan) old ms to next new → (error : WorkerError) → next.phase ≡ Broken error → ⊥
never_broken role plan from old ms to next new limits small legal c =
    (course_readable role plan from (fresh plan) old ms to next new small (fresh_stays plan from old limits legal) (calm_readable plan.queue (files_of old) Starting refl) c).no_error
