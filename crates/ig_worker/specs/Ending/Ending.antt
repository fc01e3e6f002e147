-- How a worker's course goes on once it has listed the stages for the last time.
use Rattle.std.specs.Prelude.{◌≡◌, ◌⊎◌, ◌<◌, ◌^◌, ℕ, Bool, true, false, List, [], ◌∷◌, ◌++◌, map, Contains, codes, refl}
use Rattle.std.proofs.Common.{arith, ap, sym, subst, true≢false, ◌∙◌, append-nil}
use Rattle.ig_space.specs.Path.{joined}
use Rattle.ig_space.specs.declared.task_id.TaskId.{TaskId}
use Rattle.ig_defs.specs.declared.step.Act.{Act}
use Rattle.ig_defs.specs.Files.{Files}
use Rattle.ig_defs.specs.Log.{Log, files_of}
use Rattle.ig_defs.specs.TurnLaws.{grew_in, listed_in, listed_of, prefix_of, prefix_then}
use Rattle.ig_defs.specs.Turns.{IsPrefix, Listed}
use Rattle.ig_meaning.specs.QueueMaking.{stages_dir}
use Rattle.ig_rule.specs.Facts.{Facts}
use Rattle.ig_rule.specs.declared.role.Role.{Role}
use Rattle.ig_worker.specs.declared.notes.Notes.{Notes}
use Rattle.ig_worker.specs.declared.phase.Phase.{Phase}
use Rattle.ig_worker.specs.declared.phase.Phase.TheVariants.{ListingDead, ListingDone, Telling, Over}
use Rattle.ig_worker.specs.declared.plan.Plan.{Plan}
use Rattle.ig_worker.specs.declared.turn.Line.{Line}
use Rattle.ig_worker.specs.declared.turn.Line.TheVariants as line
use Rattle.ig_worker.specs.Ending.AtEnd.{Ending, Listing}
use Rattle.ig_defs.specs.Answers.{IsAnswered, Lists, Names}
use Rattle.ig_worker.specs.Course.{Course, said_of}
use Rattle.ig_worker.specs.Ending.Course.{course_later, course_prefix}
use Rattle.ig_worker.specs.Ending.Lasts.{lasts_later}
use Rattle.ig_worker.specs.Ending.Places.{call_stays}
use Rattle.ig_worker.specs.Moves.{Leads, Move, moves}
use Rattle.ig_worker.specs.Places.{State, counted, stands}
use Rattle.ig_worker.specs.Stages.{Known, tasks_listed}
use Rattle.ig_worker.specs.Ending.Standing.{AllowsFor, IsKnown, IsRecorded, Lasts, Stays}
use Rattle.ig_worker.specs.Steps.{Called}

-- It has listed all that it looks for.
abbrev pub is_final : Phase → Bool
is_final (Over end) = true
is_final (Telling letters count) = true
is_final phase = false

-- with a move more, which says nothing
pub one_more : (role : Role) (plan : Plan) (old mid : Log) (m : Move) (ms : List Move) (next : State) (last new : Log) → m.said ≡ [] → Ending role plan old mid ms next last new → Ending role plan old mid (m ∷ ms) next last new
one_more role plan old mid m ms next last new nothing e = record {
  stages = e.stages;
  deads = e.deads;
  dones = e.dones;
  dead_names = e.dead_names;
  dead_others = e.dead_others;
  later = e.later;
  lists_dead = e.lists_dead;
  done_names = e.done_names;
  done_others = e.done_others;
  lists_done = e.lists_done;
  notes = e.notes;
  dead_from = e.dead_from;
  done_from = e.done_from;
  end_from = e.end_from;
  before_deads = e.before_deads;
  before_dones = e.before_dones;
  ended = e.ended;
  lasts = e.lasts;
  all = e.all;
  is = e.is;
  says = ap (λ said. said ++ said_of ms) nothing ∙ e.says;
}

-- ---- a listing
pub listed_by : (allows : Bool → Files → Act → Type 0) (from to : ℕ) (s : State) (old new : Log) (m : Move) (dir : List ℕ) (given : List (List ℕ)) (next : State) (said : List Line)
    → m ≡ moves (Lists dir) (Names given) next said → Called allows from to s old new m → Listed allows old new dir given
listed_by allows from to s old new m dir given next said e c = listed_of (subst (λ (v : Move). IsAnswered allows old new v.call v.answer) e c.answered)

-- ---- one step
pub step_lasts : (role : Role) (plan : Plan) (from to : ℕ) (s : State) (old new : Log) (m : Move) → Stays plan from s old → Stays plan to m.next new → Called (AllowsFor role plan) from to s old new m
    → Lasts plan.queue (files_of old) (files_of new)
step_lasts role plan from to s old new m stays later c = lasts_later plan.queue old new (prefix_of c.answered.acted) stays.legal later.legal

-- a place from which no call is made
abbrev pub IsStuck : State → Type 0
IsStuck s = (from to : ℕ) (m : Move) → Leads from to s.notes s.phase m → ⊥

counted_stuck : (notes : Notes) (known : Known) (letters : List TaskId) (given : List (List ℕ)) → IsStuck (stands notes (counted known letters given))
counted_stuck notes known [] given from to m leads = leads
counted_stuck notes known (id ∷ letters) given from to m leads = leads

pub stuck_ends : (allows : Bool → Files → Act → Type 0) (from : ℕ) (s : State) (old : Log) (ms : List Move) (to : ℕ) (next : State) (new : Log) → IsStuck s → Course allows from s old ms to next new → (next ≡ s) × (new ≡ old) × (said_of ms ≡ [])
stuck_ends allows from s old [] to next new stuck c = (c.1, c.2, refl)
stuck_ends allows from s old (m ∷ ms) to next new stuck c = absurd (stuck from c.0 m c.3.leads)

-- of a stage: it is known, or is still to be read
abbrev pub IsLearnt : Known → List ℕ → ℕ → Type 0
IsLearnt known unread n = IsKnown known n ⊎ Contains unread n

module _ (role : Role) (plan : Plan) (to : ℕ) (small : to < 10 ^ 10) (next : State) (new : Log) (final : is_final next.phase ≡ true) where
  abbrev pub Goes : ℕ → State → Log → List Move → Type 0
  Goes from s old ms = Course (AllowsFor role plan) from s old ms to next new

  -- a course doesn't end there
  pub not_there : (s : State) → is_final s.phase ≡ false → next ≡ s → ⊥
  not_there s other e = true≢false (sym final ∙ ap (λ (t : State). is_final t.phase) e ∙ other)

  pub next_stays : (from : ℕ) (s : State) (old : Log) (m : Move) (ms : List Move) → Stays plan from s old → (c : Goes from s old (m ∷ ms)) → Stays plan c.0 m.next c.1
  next_stays from s old m ms stays c =
      let rest = course_later (AllowsFor role plan) c.0 m.next c.1 ms to next new c.4 in
      call_stays role plan from c.0 s old c.1 m c.2 (omega (arith, rest, small)) stays c.3

  -- ---- the done tasks are listed
  record AfterDones (notes : Notes) (letters : List TaskId) (dones : Log) (ms : List Move) : Type 0 where
    names : List (List ℕ)
    lists : Listed (AllowsFor role plan) dones new (joined notes.plan.queue (codes "done")) names
    ended : (done_from : ℕ) × Stays plan done_from (stands notes (counted notes.known letters names)) new
    is : next ≡ stands notes (counted notes.known letters names)
    says : said_of ms ≡ map line.Letter letters

  after_dones : (from : ℕ) (notes : Notes) (letters : List TaskId) (dones : Log) (ms : List Move) → Stays plan from (stands notes (ListingDone letters)) dones → Goes from (stands notes (ListingDone letters)) dones ms
      → AfterDones notes letters dones ms
  after_dones from notes letters dones [] stays c = absurd (not_there (stands notes (ListingDone letters)) refl c.1)
  after_dones from notes letters dones (m ∷ ms) stays c =
      let leads = c.3.leads in
      let names = leads.0 in
      let place = stands notes (counted notes.known letters names) in
      let there : m.next ≡ place = ap (λ (v : Move). v.next) leads.1 in
      let rest : Goes c.0 place c.1 ms = subst (λ s. Goes c.0 s c.1 ms) there c.4 in
      let last = stuck_ends (AllowsFor role plan) c.0 place c.1 ms to next new (counted_stuck notes notes.known letters names) rest in
      let lists = listed_by (AllowsFor role plan) from c.0 (stands notes (ListingDone letters)) dones c.1 m (joined notes.plan.queue (codes "done")) names place _ leads.1 c.3 in
      record {
        names = names;
        lists = subst (λ log. Listed (AllowsFor role plan) dones log (joined notes.plan.queue (codes "done")) names) (sym last.1) lists;
        ended = (c.0, subst (λ log. Stays plan c.0 place log) (sym last.1) (subst (λ s. Stays plan c.0 s c.1) there (next_stays from (stands notes (ListingDone letters)) dones m ms stays c)));
        is = last.0;
        says = ap (λ (v : Move). v.said ++ said_of ms) leads.1 ∙ ap (λ said. map line.Letter letters ++ said) last.2 ∙ append-nil (map line.Letter letters);
      }

  -- ---- the dead letters are listed
  -- in the call from `first` to `whole`, whose moments these are
  module _ (first mid whole : Log) (within : IsPrefix new whole) where
    pub after_deads : (from : ℕ) (notes : Notes) (deads : Log) (ms : List Move) → (l : Listing (AllowsFor role plan) first mid whole (stages_dir plan.queue)) → IsPrefix l.to deads → Stays plan from (stands notes ListingDead) deads
        → Lasts plan.queue (files_of mid) (files_of deads) → ((n : ℕ) (t : Facts) → IsRecorded plan mid n t → IsKnown notes.known n) → Goes from (stands notes ListingDead) deads ms
        → Ending role plan first mid ms next new whole
    after_deads from notes deads [] l later stays lasts all c = absurd (not_there (stands notes ListingDead) refl c.1)
    after_deads from notes deads (m ∷ ms) l later stays lasts all c =
        let leads = c.3.leads in
        let names = leads.0 in
        let place = stands notes (ListingDone (tasks_listed names)) in
        let there : m.next ≡ place = ap (λ (v : Move). v.next) leads.1 in
        let after : Stays plan c.0 place c.1 = subst (λ s. Stays plan c.0 s c.1) there (next_stays from (stands notes ListingDead) deads m ms stays c) in
        let dones = after_dones c.0 notes (tasks_listed names) c.1 ms after (subst (λ s. Goes c.0 s c.1 ms) there c.4) in
        let lists = listed_by (AllowsFor role plan) from c.0 (stands notes ListingDead) deads c.1 m (joined notes.plan.queue (codes "dead")) names place [] leads.1 c.3 in
        let of_plan : notes.plan ≡ plan = stays.place.of_plan in
        let lists_dead = subst (λ (p : Plan). Listed (AllowsFor role plan) deads c.1 (joined p.queue (codes "dead")) names) of_plan lists in
        let lists_done = subst (λ (p : Plan). Listed (AllowsFor role plan) c.1 new (joined p.queue (codes "done")) dones.names) of_plan dones.lists in
        let began : IsPrefix first deads = prefix_then l.is.began (prefix_then (prefix_of (grew_in l.is)) later) in
        record {
          stages = l;
          deads = deads;
          dones = c.1;
          dead_names = names;
          dead_others = lists_dead.acted.others;
          later = later;
          lists_dead = listed_in began lists_dead (prefix_then (course_prefix (AllowsFor role plan) c.0 m.next c.1 ms to next new c.4) within);
          done_names = dones.names;
          done_others = lists_done.acted.others;
          lists_done = listed_in (prefix_then began (prefix_of lists_dead.acted)) lists_done within;
          notes = notes;
          dead_from = from;
          done_from = c.0;
          end_from = dones.ended.0;
          before_deads = stays;
          before_dones = after;
          ended = dones.ended.1;
          lasts = lasts;
          all = all;
          is = dones.is;
          says = ap (λ (v : Move). v.said ++ said_of ms) leads.1 ∙ dones.says;
        }
