-- From the last listing of the stages to the end.
use Rattle.std.specs.Prelude.{◌≡◌, ◌⊎◌, ◌<◌, ◌^◌, ℕ, true, List, [], ◌∷◌, Option, None, Some, Contains, refl}
use Rattle.std.proofs.Common.{inl, inr, ap, subst}
use Rattle.ig_defs.specs.Log.{Log, files_of}
use Rattle.ig_defs.specs.QueueNames.{stage_file}
use Rattle.ig_defs.specs.TurnLaws.{listed_in, prefix_itself, prefix_of, prefix_then}
use Rattle.ig_defs.specs.Turns.{IsPrefix, Listed}
use Rattle.ig_meaning.specs.QueueMaking.{record_path, stages_dir}
use Rattle.ig_record.specs.declared.stage.Stage.{Stage}
use Rattle.ig_record.specs.Answers.{record_fault}
use Rattle.ig_record.specs.Reading.{record_in}
use Rattle.ig_rule.specs.Facts.{Facts}
use Rattle.ig_rule.specs.Prefixes.{legal_sound}
use Rattle.ig_rule.specs.QueueFiles.{Record, queue_of}
use Rattle.ig_rule.specs.QueueSteps.{holds}
use Rattle.ig_rule.specs.declared.role.Role.{Role}
use Rattle.ig_rule.specs.Sound.{Legal}
use Rattle.ig_rule.specs.SoundNames.{has_record}
use Rattle.ig_task.specs.Facts.{stage_reader}
use Rattle.ig_task.specs.Kinds.{kinds}
use Rattle.ig_worker.specs.declared.error.WorkerError.{WorkerError}
use Rattle.ig_worker.specs.declared.error.WorkerError.TheVariants.{Absent, BadRecord}
use Rattle.ig_worker.specs.declared.notes.Notes.{Notes}
use Rattle.ig_worker.specs.declared.phase.Phase.TheVariants.{Closing, Broken}
use Rattle.ig_worker.specs.declared.phase.Then.TheVariants.{Count}
use Rattle.ig_worker.specs.declared.plan.Plan.{Plan}
use Rattle.ig_worker.specs.Ending.AtEnd.{Ending, Listing}
use Rattle.ig_worker.specs.Ending.Course.{course_prefix}
use Rattle.ig_worker.specs.Ending.Ending.{Goes, IsLearnt, IsStuck, after_deads, is_final, listed_by, next_stays, not_there, one_more, step_lasts, stuck_ends}
use Rattle.ig_worker.specs.Ending.Lasts.{lasts_then, record_throughout}
use Rattle.ig_worker.specs.Ending.Stages.{knows_new, knows_old}
use Rattle.ig_worker.specs.Keeping.Listing.{listed_or_known, stage_named-is}
use Rattle.ig_worker.specs.Keeping.Lists.{in_cases, none_in}
use Rattle.ig_worker.specs.Moves.{Move}
use Rattle.ig_worker.specs.Places.{State, learning, learnt, learnt_by, noted, stands}
use Rattle.ig_worker.specs.Plans.{HasLimits}
use Rattle.ig_worker.specs.Stages.{Known, unknown_listed, with_stage}
use Rattle.ig_worker.specs.Ending.Standing.{AllowsFor, IsKnown, IsRecorded, Lasts, Stays}

-- ---- once a record is read
pub learnt_more : (k n : ℕ) (s : Stage) (known : Known) (unread : List ℕ) → IsLearnt known (n ∷ unread) k → IsLearnt (with_stage n s known) unread k
learnt_more k n s known unread (inl is) = inl (knows_old k n s known is)
learnt_more k n s known unread (inr among) = by_place (in_cases n unread k among)
  where
    by_place : (n ≡ k) ⊎ Contains unread k → IsLearnt (with_stage n s known) unread k
    by_place (inl e) = inl (subst (IsKnown (with_stage n s known)) e (knows_new n s known))
    by_place (inr later) = inr later

-- once all are
pub learnt_all_known : (known : Known) (n : ℕ) → IsLearnt known [] n → IsKnown known n
learnt_all_known known n (inl is) = is
learnt_all_known known n (inr among) = absurd (none_in n among)

broken_stuck : (notes : Notes) (error : WorkerError) → IsStuck (stands notes (Broken error))
broken_stuck notes error from to m leads = leads

module _ (role : Role) (plan : Plan) (to : ℕ) (small : to < 10 ^ 10) (next : State) (new : Log) (final : is_final next.phase ≡ true) (first mid whole : Log) (within : IsPrefix new whole) where
  abbrev Ends : List Move → Type 0
  Ends ms = Ending role plan first mid ms next new whole

  abbrev GoesOn : ℕ → State → Log → List Move → Type 0
  GoesOn from s log ms = Goes role plan to small next new final from s log ms

  -- an error is no such end
  broken_ends : (from : ℕ) (notes : Notes) (error : WorkerError) (log : Log) (ms : List Move) → GoesOn from (stands notes (Broken error)) log ms → Ends ms
  broken_ends from notes error log ms c =
      let last = stuck_ends (AllowsFor role plan) from (stands notes (Broken error)) log ms to next new (broken_stuck notes error) c in
      absurd (not_there role plan to small next new final (stands notes (Broken error)) refl last.0)

  -- ---- a record is read
  module _ (from : ℕ) (notes : Notes) (n : ℕ) (unread : List ℕ) (log : Log) (ms : List Move)
      (rest : (text : List ℕ) (s : Stage) → Stays plan from (learnt_by notes n unread Count text (Some s)) log → GoesOn from (learnt_by notes n unread Count text (Some s)) log ms → Ends ms) where
    by_record : (text : List ℕ) (o : Option Stage) → Stays plan from (learnt_by notes n unread Count text o) log → GoesOn from (learnt_by notes n unread Count text o) log ms → Ends ms
    by_record text None stays c = broken_ends from notes (BadRecord (record_path notes.plan.queue n) (record_fault n text)) log ms c
    by_record text (Some s) stays c = rest text s stays c

    by_found : (found : Option (List ℕ)) → Stays plan from (learnt notes n unread Count found) log → GoesOn from (learnt notes n unread Count found) log ms → Ends ms
    by_found None stays c = broken_ends from notes (Absent (record_path notes.plan.queue n)) log ms c
    by_found (Some text) stays c = by_record text (record_in n text) stays c

  learns : (ms : List Move) (from : ℕ) (notes : Notes) (unread : List ℕ) (log : Log) → (l : Listing (AllowsFor role plan) first mid whole (stages_dir plan.queue)) → IsPrefix l.to log → Stays plan from (stands notes (learning notes.known unread Count)) log → Lasts plan.queue (files_of mid) (files_of log)
      → ((n : ℕ) (t : Facts) → IsRecorded plan mid n t → IsLearnt notes.known unread n) → GoesOn from (stands notes (learning notes.known unread Count)) log ms → Ends ms
  learns ms from notes [] log l since stays lasts all c = after_deads role plan to small next new final first mid whole within from notes log ms l since stays lasts (λ n t is. learnt_all_known notes.known n (all n t is)) c
  learns [] from notes (n ∷ unread) log l since stays lasts all c = absurd (not_there role plan to small next new final (stands notes (learning notes.known (n ∷ unread) Count)) refl c.1)
  learns (m ∷ ms) from notes (n ∷ unread) log l since stays lasts all c =
      let place = stands notes (learning notes.known (n ∷ unread) Count) in
      let leads = c.3.leads in
      let there : m.next ≡ learnt notes n unread Count leads.0 = ap (λ (v : Move). v.next) leads.1 in
      let later = next_stays role plan to small next new final from place log m ms stays c in
      let lasts_on = lasts_then plan.queue (files_of mid) (files_of log) (files_of c.1) lasts (step_lasts role plan from c.0 place log c.1 m stays later c.3) in
      one_more role plan first mid m ms next new whole (ap (λ (v : Move). v.said) leads.1)
      (by_found c.0 notes n unread c.1 ms
      (λ text s stays' c'. learns ms c.0 (noted notes n s) unread c.1 l (prefix_then since (prefix_of c.3.answered.acted)) stays' lasts_on (λ k t is. learnt_more k n s notes.known unread (all k t is)) c')
      leads.0 (subst (λ s. Stays plan c.0 s c.1) there later) (subst (λ s. GoesOn c.0 s c.1 ms) there c.4))

  -- ---- the stages are listed
  -- each stage that is recorded then is known, or still to be read
  listing_shows : (log : Log) (notes : Notes) (given : List (List ℕ)) → HasLimits plan → Legal stage_reader plan.queue mid → Listed (AllowsFor role plan) mid log (stages_dir plan.queue) given
      → (n : ℕ) (t : Facts) → IsRecorded plan mid n t → IsLearnt notes.known (unknown_listed notes.known given) n
  listing_shows log notes given limits legal l n t is =
      let q = plan.queue in
      let sound = legal_sound stage_reader kinds q mid legal in
      let fit = (holds q (files_of mid) (Record n) (has_record stage_reader (queue_of q (files_of mid)) n t is)).fit in
      let stood = record_throughout role q limits.path limits.short (files_of mid) l.acted.others l.acted.by sound n t is in
      listed_or_known notes.known given (stage_file n) n (stage_named-is n fit) (l.names.each (stage_file n) stood)

  closes : (from : ℕ) (notes : Notes) (m : Move) (ms : List Move) → IsPrefix first mid → Stays plan from (stands notes Closing) mid → GoesOn from (stands notes Closing) mid (m ∷ ms) → Ends (m ∷ ms)
  closes from notes m ms began stays c =
      let allows = AllowsFor role plan in
      let place = stands notes Closing in
      let leads = c.3.leads in
      let given = leads.0 in
      let next_place = stands notes (learning notes.known (unknown_listed notes.known given) Count) in
      let there : m.next ≡ next_place = ap (λ (v : Move). v.next) leads.1 in
      let later = next_stays role plan to small next new final from place mid m ms stays c in
      let of_plan : notes.plan ≡ plan = stays.place.of_plan in
      let lists : Listed allows mid c.1 (stages_dir plan.queue) given
      = subst (λ (p : Plan). Listed allows mid c.1 (stages_dir p.queue) given) of_plan (listed_by allows from c.0 place mid c.1 m (stages_dir notes.plan.queue) given next_place [] leads.1 c.3) in
      let rest : IsPrefix c.1 whole = prefix_then (course_prefix allows c.0 m.next c.1 ms to next new c.4) within in
      one_more role plan first mid m ms next new whole (ap (λ (v : Move). v.said) leads.1)
      (learns ms c.0 notes (unknown_listed notes.known given) c.1 (record { to = c.1; names = given; others = lists.acted.others; is = listed_in began lists rest }) (prefix_itself c.1)
      (subst (λ s. Stays plan c.0 s c.1) there later)
      (step_lasts role plan from c.0 place mid c.1 m stays later c.3)
      (listing_shows c.1 notes given (subst HasLimits of_plan stays.place.fit.notes.plan) stays.legal lists)
      (subst (λ s. GoesOn c.0 s c.1 ms) there c.4))

  -- What follows the last listing of the stages.
  pub ending_of : (from : ℕ) (s : State) (m : Move) (ms : List Move) → s.phase ≡ Closing → IsPrefix first mid → Stays plan from s mid → GoesOn from s mid (m ∷ ms) → Ends (m ∷ ms)
  ending_of from s m ms closing began stays c =
      let same : s ≡ stands s.notes Closing = λ i. stands s.notes (closing i) in
      closes from s.notes m ms began (subst (λ t. Stays plan from t mid) same stays) (subst (λ t. GoesOn from t mid (m ∷ ms)) same c)
