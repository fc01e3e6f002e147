-- Where a worker has come to the close, the last listing of the queue showed no task that may be leased.
use Rattle.std.specs.Prelude.{◌≡◌, ◌<◌, ℕ, false, List, [], ◌∷◌, map, Option, None, Some, Contains, codes, refl}
use Rattle.std.proofs.Common.{arith, ap, sym, subst, ◌∙◌}
use Rattle.ig_space.specs.Path.{joined}
use Rattle.ig_defs.specs.declared.queue_name.QueueName.{QueueName}
use Rattle.ig_defs.specs.Log.{Log, files_of}
use Rattle.ig_defs.specs.QueueNames.{queue_file}
use Rattle.ig_defs.specs.TurnLaws.{listed_in, prefix_then}
use Rattle.ig_defs.specs.Turns.{IsPrefix, Listed}
use Rattle.ig_record.specs.declared.stage.Stage.{Stage}
use Rattle.ig_record.specs.Reading.{record_in}
use Rattle.ig_rule.specs.Facts.{Facts}
use Rattle.ig_rule.specs.Known.{KeptStage}
use Rattle.ig_rule.specs.declared.role.Role.{Role}
use Rattle.ig_rule.specs.Stages.{Clear, stages_in}
use Rattle.ig_task.specs.Facts.{stage_reader}
use Rattle.ig_worker.specs.declared.notes.Notes.{Notes}
use Rattle.ig_worker.specs.declared.phase.Phase.TheVariants.{Asking, Closing, Learning}
use Rattle.ig_worker.specs.declared.phase.Then.TheVariants.{Try}
use Rattle.ig_worker.specs.declared.plan.Plan.{Plan}
use Rattle.ig_worker.specs.Ending.AtEnd.{NoneOpen}
use Rattle.ig_worker.specs.Course.{Course}
use Rattle.ig_worker.specs.Ending.Closing.{learnt_all_known, learnt_more}
use Rattle.ig_worker.specs.Ending.Course.{all_first, course_prefix}
use Rattle.ig_worker.specs.Ending.Ending.{IsLearnt, listed_by}
use Rattle.ig_worker.specs.Ending.Finished.{noted_is}
use Rattle.ig_worker.specs.Ending.Open.{closed_not_clear, named_or_known, none_open}
use Rattle.ig_worker.specs.Ending.Sorts.{count_no_round, not_both}
use Rattle.ig_worker.specs.Knows.{kept_of}
use Rattle.ig_worker.specs.Ending.LastTimes.{AreAll, is_round}
use Rattle.ig_worker.specs.Moves.{Leads, Move}
use Rattle.ig_worker.specs.Places.{State, asked, learning, learnt, learnt_by, noted, round_of, stands}
use Rattle.ig_worker.specs.Stages.{Known, open_names, unknown_listed, unknown_named}
use Rattle.ig_worker.specs.Ending.Standing.{AllowsFor, IsKnown, Stays}

-- ---- from the listing to the close
-- none of the names may be tried, and the stage of each is known
record AreClosed (names : List QueueName) (known : Known) : Type 0 where
  closed : open_names known names ≡ []
  all : (name : QueueName) → Contains names name → IsKnown known name.stage

module _ (role : Role) (plan : Plan) (to : ℕ) (place : State) (mid : Log) (closing : place.phase ≡ Closing) (names : List QueueName) where
  abbrev Goes : ℕ → State → Log → List Move → Type 0
  Goes from s log ms = Course (AllowsFor role plan) from s log ms to place mid

  abbrev Ends : Type 0
  Ends = AreClosed names place.notes.known

  no_round : (s : State) (ms : List Move) → is_round s.phase ≡ false → AreAll is_round s ms → Ends
  no_round s ms other all = not_both (is_round s.phase) (all_first is_round s ms all) other

  not_learning : (notes : Notes) (unread : List ℕ) → place ≡ stands notes (Learning unread (Try names)) → Ends
  not_learning notes unread e = let same : Learning unread (Try names) ≡ Closing = ap (λ (s : State). s.phase) (sym e) ∙ closing in absurd (cc)

  round_by : (from : ℕ) (notes : Notes) (log : Log) (ms : List Move) (open_ones : List QueueName) → open_names notes.known names ≡ open_ones → ((name : QueueName) → Contains names name → IsKnown notes.known name.stage)
      → AreAll is_round (stands notes (round_of open_ones)) ms → Goes from (stands notes (round_of open_ones)) log ms → Ends
  round_by from notes log ms (name ∷ rest) e all round c = no_round (stands notes (round_of (name ∷ rest))) ms refl round
  round_by from notes log [] [] e all round c = subst (λ (s : State). AreClosed names s.notes.known) (sym c.1) (record { closed = e; all = all })
  round_by from notes log (m ∷ ms) [] e all round c =
      let leads = c.3.leads in
      no_round m.next ms (ap (λ (v : Move). is_round v.next.phase) leads.1 ∙ count_no_round notes.known (unknown_listed notes.known leads.0)) round.1

  -- a record is read
  module _ (from : ℕ) (notes : Notes) (n : ℕ) (unread : List ℕ) (log : Log) (ms : List Move)
      (rest : (text : List ℕ) (s : Stage) → AreAll is_round (learnt_by notes n unread (Try names) text (Some s)) ms → Goes from (learnt_by notes n unread (Try names) text (Some s)) log ms → Ends) where
    by_record : (text : List ℕ) (o : Option Stage) → AreAll is_round (learnt_by notes n unread (Try names) text o) ms → Goes from (learnt_by notes n unread (Try names) text o) log ms → Ends
    by_record text None round c = no_round (learnt_by notes n unread (Try names) text None) ms refl round
    by_record text (Some s) round c = rest text s round c

    by_found : (found : Option (List ℕ)) → AreAll is_round (learnt notes n unread (Try names) found) ms → Goes from (learnt notes n unread (Try names) found) log ms → Ends
    by_found None round c = no_round (learnt notes n unread (Try names) None) ms refl round
    by_found (Some text) round c = by_record text (record_in n text) round c

  learns : (ms : List Move) (from : ℕ) (notes : Notes) (unread : List ℕ) (log : Log) → ((name : QueueName) → Contains names name → IsLearnt notes.known unread name.stage)
      → AreAll is_round (stands notes (learning notes.known unread (Try names))) ms → Goes from (stands notes (learning notes.known unread (Try names))) log ms → Ends
  learns ms from notes [] log all round c =
      round_by from notes log ms (open_names notes.known names) refl (λ name among. learnt_all_known notes.known name.stage (all name among)) round c
  learns [] from notes (n ∷ unread) log all round c = not_learning notes (n ∷ unread) c.1
  learns (m ∷ ms) from notes (n ∷ unread) log all round c =
      let leads = c.3.leads in
      let there : m.next ≡ learnt notes n unread (Try names) leads.0 = ap (λ (v : Move). v.next) leads.1 in
      by_found c.0 notes n unread c.1 ms
      (λ text s round' c'. learns ms c.0 (noted notes n s) unread c.1 (λ name among. learnt_more name.stage n s notes.known unread (all name among)) round' c')
      leads.0 (subst (λ s. AreAll is_round s ms) there round.1) (subst (λ s. Goes c.0 s c.1 ms) there c.4)

-- ---- the listing
-- What the last listing of the queue says at the close.
pub round_ends : (role : Role) (plan : Plan) (from : ℕ) (s : State) (first queues : Log) (m : Move) (ms : List Move) (to : ℕ) (place : State) (mid whole : Log) → s.phase ≡ Asking → s.notes.plan ≡ plan → place.phase ≡ Closing
    → AreAll is_round m.next ms → Course (AllowsFor role plan) from s queues (m ∷ ms) to place mid → Stays plan to place mid → IsPrefix first queues → IsPrefix mid whole
    → NoneOpen role plan m.next.notes.at first queues mid whole
round_ends role plan from s first queues m ms to place mid whole asking of_plan closing round c stays began ended =
    let q = plan.queue in
    let allows = AllowsFor role plan in
    let leads : Leads from c.0 s.notes Asking m = subst (λ phase. Leads from c.0 s.notes phase m) asking c.3.leads in
    let next = stands (asked s.notes leads.now) (learning s.notes.known (unknown_named s.notes.known leads.names) (Try leads.names)) in
    let there : m.next ≡ next = ap (λ (v : Move). v.next) leads.is in
    let at : m.next.notes.at ≡ leads.now = ap (λ (v : State). v.notes.at) there in
    let lists : Listed allows queues c.1 (joined q (codes "queue")) leads.given
    = subst (λ (p : Plan). Listed allows queues c.1 (joined p.queue (codes "queue")) leads.given) of_plan
    (listed_by allows from c.0 s queues c.1 m (joined s.notes.plan.queue (codes "queue")) leads.given next [] leads.is c.3) in
    let later : IsPrefix c.1 mid = course_prefix allows c.0 m.next c.1 ms to place mid c.4 in
    let closed = learns role plan to place mid closing leads.names ms c.0 (asked s.notes leads.now) (unknown_named s.notes.known leads.names) c.1
    (named_or_known s.notes.known leads.names) (subst (λ t. AreAll is_round t ms) there round) (subst (λ t. Course allows c.0 t c.1 ms to place mid) there c.4) in
    record {
      listing = record { to = c.1; names = leads.given; others = lists.acted.others; is = listed_in began lists (prefix_then later ended) };
      later = later;
      none = λ name t fits due stood is below clear.
          let among = leads.are.each name (record { fits = fits; listed = lists.names.each (queue_file name) stood; due = omega (arith, due, at) }) in
          let noted = noted_is plan to place mid name.stage t (closed.all name among) stays is in
          let P = λ (p : Plan). (k : KeptStage) → Contains (map kept_of place.notes.known) k → stages_in stage_reader p.queue (files_of mid) k.number ≡ Some k.stage in
          closed_not_clear (stages_in stage_reader q (files_of mid)) place.notes.known (subst P stays.place.of_plan stays.known.stages) name noted.stage noted.is
          (subst (λ (f : Facts). name.task < f.tasks) (sym noted.facts) below) (none_open place.notes.known leads.names name closed.closed among)
          (subst (λ f. Clear (stages_in stage_reader q (files_of mid)) name.stage f) (sym noted.facts) clear);
    }
