-- Where a worker finds no task that isn't done, each task is done of each stage that it listed last.
use Rattle.std.specs.Prelude.{◌≡◌, ◌⊎◌, ◌<◌, ◌^◌, ◌==◌, ◌||◌, ℕ, zero, suc, Bool, true, false, if◌then◌else◌, List, [], ◌∷◌, Option, None, Some, Contains, IsSome, is_some, refl}
use Rattle.std.specs.List.{list_any}
use Rattle.std.specs.Str.{bytes_eq}
use Rattle.std.proofs.Common.{arith, inl, inr, ap, sym, subst, true≢false, ◌∙◌}
use Rattle.std.proofs.lemmas.Bool.{and_from, eqb-true, lt-ltb}
use Rattle.std.proofs.lemmas.Option.{none-some, same_Some}
use Rattle.std.proofs.lemmas.Slice.Eq.{bytes_eq-Decides}
use Rattle.ig_defs.specs.Log.{Log, files_of}
use Rattle.ig_defs.specs.QueueNames.{task_file, task_fits}
use Rattle.ig_defs.specs.TurnLaws.{files_then, grew_in, prefix_of}
use Rattle.ig_record.specs.declared.stage.Stage.{Stage}
use Rattle.ig_record.specs.Stage.{task_count}
use Rattle.ig_rule.specs.Facts.{Facts}
use Rattle.ig_rule.specs.Keeps.{keep_laws}
use Rattle.ig_rule.specs.Prefixes.{legal_sound}
use Rattle.ig_rule.specs.QueueFiles.{Done, Record, queue_of}
use Rattle.ig_rule.specs.QueueSteps.{holds}
use Rattle.ig_rule.specs.declared.role.Role.{Role}
use Rattle.ig_rule.specs.Sound.{Legal}
use Rattle.ig_rule.specs.SoundNames.{has_record}
use Rattle.ig_rule.specs.Stages.{Finished, stages_in, task_id}
use Rattle.ig_task.specs.Facts.{facts_of, stage_reader}
use Rattle.ig_task.specs.Kinds.{kinds}
use Rattle.ig_worker.specs.declared.plan.Plan.{Plan}
use Rattle.ig_worker.specs.Ending.AtEnd.{Ending}
use Rattle.ig_worker.specs.Ending.Lasts.{done_once, lasts_later}
use Rattle.ig_worker.specs.Keeping.Listing.{known_facts}
use Rattle.ig_worker.specs.Keeping.Lists.{first_in, later_in}
use Rattle.ig_worker.specs.Moves.{Move}
use Rattle.ig_worker.specs.Places.{State}
use Rattle.ig_worker.specs.Stages.{Known, all_unlisted, is_listed, one_unless, stage_in, unlisted}
use Rattle.ig_worker.specs.Ending.Standing.{IsKnown, IsRecorded, Lasts, Stays}

-- ---- none is unlisted
last_or_before : (k n : ℕ) → k < suc n → (k < n) ⊎ (k ≡ n)
last_or_before k n below = grind (arith, below)

listed_by : (b : Bool) → one_unless b ≡ 0 → b ≡ true
listed_by true none = refl
listed_by false none = absurd (omega (arith, none))

one_listed : (given : List (List ℕ)) (n count k : ℕ) → one_unless (is_listed given (task_id n count)) ≡ 0 → (k < count → is_listed given (task_id n k) ≡ true) → (k < count) ⊎ (k ≡ count) → is_listed given (task_id n k) ≡ true
one_listed given n count k none before (inl less) = before less
one_listed given n count k none before (inr last) = ap (λ j. is_listed given (task_id n j)) last ∙ listed_by (is_listed given (task_id n count)) none

pub each_listed : (given : List (List ℕ)) (n count k : ℕ) → unlisted given n count ≡ 0 → k < count → is_listed given (task_id n k) ≡ true
each_listed given n zero k none below = absurd (omega (arith, below))
each_listed given n (suc count) k none below =
    let first : unlisted given n count ≡ 0 = omega (arith, none) in
    let last : one_unless (is_listed given (task_id n count)) ≡ 0 = omega (arith, none) in
    one_listed given n count k last (each_listed given n count k first) (last_or_before k count below)

stage_listed : (given : List (List ℕ)) (r : ℕ × Stage) (rest : Known) (n : ℕ) (s : Stage) (b : Bool) → (r.0 == n) ≡ b → unlisted given r.0 (task_count r.1) ≡ 0 → (stage_in rest n ≡ Some s → unlisted given n (task_count s) ≡ 0)
    → (if b then Some r.1 else stage_in rest n) ≡ Some s → unlisted given n (task_count s) ≡ 0
stage_listed given r rest n s true e none later is =
    ap (λ (t : Stage). unlisted given n (task_count t)) (sym (same_Some r.1 s is)) ∙ ap (λ m. unlisted given m (task_count r.1)) (sym (eqb-true r.0 n e)) ∙ none
stage_listed given r rest n s false e none later is = later is

all_listed : (given : List (List ℕ)) (known : Known) (n : ℕ) (s : Stage) → all_unlisted given known ≡ 0 → stage_in known n ≡ Some s → unlisted given n (task_count s) ≡ 0
all_listed given [] n s none is = absurd (none-some s is)
all_listed given (r ∷ rest) n s none is =
    let first : unlisted given r.0 (task_count r.1) ≡ 0 = omega (arith, none) in
    let more : all_unlisted given rest ≡ 0 = omega (arith, none) in
    stage_listed given r rest n s (r.0 == n) refl first (all_listed given rest n s more) is

among_by : (b : Bool) (text name : List ℕ) (given : List (List ℕ)) → bytes_eq text name ≡ b → (list_any (bytes_eq text) given ≡ true → Contains given text) → (b || list_any (bytes_eq text) given) ≡ true → Contains (name ∷ given) text
among_by true text name given e later some = subst (λ t. Contains (t ∷ given) text) ((bytes_eq-Decides text name).0 e) (first_in text given)
among_by false text name given e later some = later_in name given text (later some)

pub listed_among : (given : List (List ℕ)) (text : List ℕ) → list_any (bytes_eq text) given ≡ true → Contains given text
listed_among [] text some = absurd (true≢false (sym some))
listed_among (name ∷ given) text some = among_by (bytes_eq text name) text name given refl (listed_among given text) some

-- ---- a stage that is recorded
-- the numbers of its tasks have their places
pub recorded_fits : (plan : Plan) (log : Log) → Legal stage_reader plan.queue log → (n k : ℕ) (t : Facts) → IsRecorded plan log n t → k < t.tasks → task_fits (task_id n k) ≡ true
recorded_fits plan log legal n k t is below =
    let q = plan.queue in
    let fit = (holds q (files_of log) (Record n) (has_record stage_reader (queue_of q (files_of log)) n t is)).fit in
    let few = (keep_laws stage_reader kinds (queue_of q (files_of log)) n t is).few_tasks in
    and_from _ _ fit (lt-ltb k (10 ^ 6) (omega (arith, few, below)))

-- The stage is known, with these facts.
pub record IsNoted (known : Known) (n : ℕ) (t : Facts) : Type 0 where
  pub stage : Stage
  pub is : stage_in known n ≡ Some stage
  pub facts : facts_of n stage ≡ t

noted_by : (plan : Plan) (now : ℕ) (s : State) (log : Log) (n : ℕ) (t : Facts) (o : Option Stage) → stage_in s.notes.known n ≡ o → is_some o ≡ true → Stays plan now s log → IsRecorded plan log n t → IsNoted s.notes.known n t
noted_by plan now s log n t None e some stays is = absurd (true≢false (sym some))
noted_by plan now s log n t (Some stage) e some stays is =
    let facts = known_facts (stages_in stage_reader s.notes.plan.queue (files_of log)) s.notes.known stays.known.stages n stage e in
    let mine : stages_in stage_reader plan.queue (files_of log) n ≡ Some (facts_of n stage) = subst (λ (p : Plan). stages_in stage_reader p.queue (files_of log) n ≡ Some (facts_of n stage)) stays.place.of_plan facts in
    record { stage = stage; is = e; facts = same_Some (facts_of n stage) t (sym mine ∙ is) }

pub noted_is : (plan : Plan) (now : ℕ) (s : State) (log : Log) (n : ℕ) (t : Facts) → IsKnown s.notes.known n → Stays plan now s log → IsRecorded plan log n t → IsNoted s.notes.known n t
noted_is plan now s log n t known stays is = noted_by plan now s log n t (stage_in s.notes.known n) refl known stays is

-- ---- from the listing of the done tasks
module _ (role : Role) (plan : Plan) (old mid : Log) (ms : List Move) (next : State) (new whole : Log) (e : Ending role plan old mid ms next new whole) where
  -- the log lasts while the dead letters are listed
  dones_last : Lasts plan.queue (files_of e.deads) (files_of e.dones)
  dones_last = lasts_later plan.queue e.deads e.dones (prefix_of (grew_in e.lists_dead)) e.before_deads.legal e.before_dones.legal

  -- a stage that was recorded at first is so when the done tasks are listed
  pub recorded_then : (n : ℕ) (t : Facts) → IsRecorded plan mid n t → IsRecorded plan e.dones n t
  recorded_then n t is = dones_last.stages n t (e.lasts.stages n t is)

  -- a task whose done name was given is done
  pub given_then_done : (n k : ℕ) (t : Facts) → IsRecorded plan e.dones n t → k < t.tasks → Contains e.done_names (task_file (task_id n k)) → IsSome (queue_of plan.queue (files_of new) (Done (task_id n k)))
  given_then_done n k t is below among =
      let q = plan.queue in
      let l = e.lists_done in
      let sound = legal_sound stage_reader kinds q e.dones e.before_dones.legal in
      let fit = recorded_fits plan e.dones e.before_dones.legal n k t is below in
      let there = done_once role q (files_of e.dones) e.done_others l.by sound (task_id n k) fit (l.names.only (task_file (task_id n k)) among) in
      subst (λ files. IsSome (queue_of q files (Done (task_id n k)))) (sym (files_then (grew_in l))) there

  pub all_done : all_unlisted e.done_names e.notes.known ≡ 0 → (n : ℕ) (t : Facts) → IsRecorded plan mid n t → Finished (queue_of plan.queue (files_of new)) n t
  all_done none n t is k below =
      let noted = noted_is plan e.done_from _ e.dones n t (e.all n t is) e.before_dones (recorded_then n t is) in
      let few : k < task_count noted.stage = subst (λ (f : Facts). k < f.tasks) (sym noted.facts) below in
      let listed = each_listed e.done_names n (task_count noted.stage) k (all_listed e.done_names e.notes.known n noted.stage none noted.is) few in
      given_then_done n k t (recorded_then n t is) below (listed_among e.done_names (task_file (task_id n k)) listed)
