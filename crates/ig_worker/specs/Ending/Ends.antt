-- What the end of a worker means is so, where its course began in a legal log.
use Rattle.std.specs.Prelude.{◌≡◌, ◌≤◌, ◌<◌, ◌^◌, ◌+◌, ◌==◌, ℕ, zero, suc, Bool, true, false, if◌then◌else◌, List, [], ◌∷◌, length, None, Some, refl}
use Rattle.std.proofs.Common.{arith, ap, sym, subst, true≢false, ◌∙◌}
use Rattle.std.proofs.lemmas.Option.{none-some, same_Some}
use Rattle.ig_space.specs.declared.task_id.TaskId.{TaskId}
use Rattle.ig_defs.specs.Log.{Log}
use Rattle.ig_defs.specs.TurnLaws.{prefix_then}
use Rattle.ig_defs.specs.Turns.{IsPrefix}
use Rattle.ig_rule.specs.declared.role.Role.{Role}
use Rattle.ig_rule.specs.Sound.{Legal}
use Rattle.ig_task.specs.Facts.{stage_reader}
use Rattle.ig_worker.specs.declared.notes.Notes.{Notes}
use Rattle.ig_worker.specs.declared.phase.Phase.{Phase}
use Rattle.ig_worker.specs.declared.phase.Phase.TheVariants.{Starting, Learning, Asking, Trying, Fetching, Running, Finishing, Closing, ListingDead, ListingDone, Telling, Over, Broken}
use Rattle.ig_worker.specs.declared.plan.Plan.{Plan}
use Rattle.ig_worker.specs.declared.turn.End.{End}
use Rattle.ig_worker.specs.declared.turn.End.TheVariants as end
use Rattle.ig_worker.specs.Ending.AtEnd.{Ended, Finishes, Tells, Waits}
use Rattle.ig_worker.specs.Course.{Course, end_at, fresh}
use Rattle.ig_worker.specs.Ending.Closing.{ending_of}
use Rattle.ig_worker.specs.Ending.Course.{course_later, course_prefix, last_listing, last_round}
use Rattle.ig_worker.specs.Ending.Done.{are_done}
use Rattle.ig_worker.specs.Ending.Ending.{is_final}
use Rattle.ig_worker.specs.Ending.Finished.{all_done}
use Rattle.ig_worker.specs.Ending.Places.{course_keeps}
use Rattle.ig_worker.specs.Ending.Round.{round_ends}
use Rattle.ig_worker.specs.Ending.Said.{course_none, is_late}
use Rattle.ig_worker.specs.Ending.Waiting.{all_told, are_not_done, dead_stood, no_dead_stood}
use Rattle.ig_worker.specs.Ending.LastTimes.{is_ending, is_round}
use Rattle.ig_worker.specs.Moves.{Move}
use Rattle.ig_worker.specs.Places.{State, counted, end_by}
use Rattle.ig_worker.specs.Plans.{HasLimits}
use Rattle.ig_worker.specs.Stages.{Known, all_tasks, all_unlisted, tasks_listed}
use Rattle.ig_worker.specs.Ending.Standing.{AllowsFor}

-- ---- the course to an end
final_ends : (phase : Phase) → is_final phase ≡ true → is_ending phase ≡ true
final_ends (Over end) e = refl
final_ends (Telling letters count) e = refl
final_ends phase e = absurd (true≢false (sym e))

module _ (role : Role) (plan : Plan) (from : ℕ) (old : Log) (ms : List Move) (to : ℕ) (next : State) (new whole : Log) (limits : HasLimits plan) (small : to < 10 ^ 10) (legal : Legal stage_reader plan.queue old)
    (c : Course (AllowsFor role plan) from (fresh plan) old ms to next new) (within : IsPrefix new whole) where
  -- So it has come to its end, unless it has spent its turns or was stopped.
  pub ended : is_final next.phase ≡ true → Ended role plan from old ms to next new whole
  ended final =
      let l = last_listing (AllowsFor role plan) from (fresh plan) old ms to next new c refl (final_ends next.phase final) in
      let r = last_round (AllowsFor role plan) from (fresh plan) old l.first l.between l.place l.mid l.before refl (ap is_round l.there) in
      let after_listing = course_later (AllowsFor role plan) l.between l.place l.mid (l.move ∷ l.rest) to next new l.later in
      let after_round = course_later (AllowsFor role plan) r.between r.place r.mid (r.move ∷ r.rest) l.between l.place l.mid r.later in
      let at_listing = course_keeps role plan from old l.first l.between l.place l.mid limits (omega (arith, after_listing, small)) legal l.before in
      let at_round = course_keeps role plan from old r.first r.between r.place r.mid limits (omega (arith, after_round, after_listing, small)) legal r.before in
      let began : IsPrefix old l.mid = course_prefix (AllowsFor role plan) from (fresh plan) old l.first l.between l.place l.mid l.before in
      let rest : IsPrefix l.mid whole = prefix_then (course_prefix (AllowsFor role plan) l.between l.place l.mid (l.move ∷ l.rest) to next new l.later) within in
      record {
        listing = l;
        round = r;
        none_open = round_ends role plan r.between r.place old r.mid r.move r.rest l.between l.place l.mid whole r.there at_round.place.of_plan l.there r.since r.later at_listing
            (course_prefix (AllowsFor role plan) from (fresh plan) old r.first r.between r.place r.mid r.before) rest;
        ending = ending_of role plan to small next new final old l.mid whole within l.between l.place l.move l.rest l.there began at_listing l.later;
        told_none = course_none (AllowsFor role plan) from (fresh plan) old l.first l.between l.place l.mid l.before (ap is_late l.there);
      }

-- ---- the ends
-- it has spent its turns
abbrev is_spent : End → Bool
is_spent (end.Finished tasks) = false
is_spent (end.Waiting tasks) = false
is_spent (end.Letters count) = false
is_spent (end.Spent turns) = true

spent_by : (b : Bool) (turns : ℕ) (e : End) → is_spent e ≡ false → (if b then Some (end.Spent turns) else None) ≡ Some e → false ≡ true
spent_by true turns e other is = sym other ∙ ap is_spent (sym (same_Some (end.Spent turns) e is))
spent_by false turns e other is = absurd (none-some e is)

final_by : (notes : Notes) (phase : Phase) (e : End) → is_spent e ≡ false → end_at notes phase ≡ Some e → is_final phase ≡ true
final_by notes (Over other) e kept is = refl
final_by notes (Telling letters count) e kept is = refl
final_by notes (Trying names) e kept is = spent_by (notes.tried == notes.plan.turns) notes.plan.turns e kept is
final_by notes Starting e kept is = absurd (none-some e is)
final_by notes (Learning unread goal) e kept is = absurd (none-some e is)
final_by notes Asking e kept is = absurd (none-some e is)
final_by notes (Fetching name paths given names) e kept is = absurd (none-some e is)
final_by notes (Running name given names) e kept is = absurd (none-some e is)
final_by notes (Finishing name outputs names) e kept is = absurd (none-some e is)
final_by notes Closing e kept is = absurd (none-some e is)
final_by notes ListingDead e kept is = absurd (none-some e is)
final_by notes (ListingDone letters) e kept is = absurd (none-some e is)
final_by notes (Broken error) e kept is = absurd (none-some e is)

-- by how many tasks are not done, and how many there are
abbrev IsEndBy : ℕ → ℕ → End → Type 0
IsEndBy left total (end.Finished tasks) = (left ≡ 0) × (tasks ≡ total)
IsEndBy left total (end.Waiting tasks) = (1 ≤ tasks) × (left ≡ tasks)
IsEndBy left total (end.Letters count) = ⊥
IsEndBy left total (end.Spent turns) = ⊥

end_by_is : (left tasks : ℕ) → IsEndBy left tasks (end_by left tasks)
end_by_is zero tasks = (refl, refl)
end_by_is (suc n) tasks = (omega arith, refl)

-- by the dead letters too
abbrev IsEndOf : List TaskId → ℕ → ℕ → End → Type 0
IsEndOf [] left total e = IsEndBy left total e
IsEndOf (id ∷ letters) left total e = e ≡ end.Letters (length letters + 1)

end_of : (notes : Notes) (known : Known) (letters : List TaskId) (given : List (List ℕ)) (e : End) → end_at notes (counted known letters given) ≡ Some e → IsEndOf letters (all_unlisted given known) (all_tasks known) e
end_of notes known [] given e is =
    subst (IsEndBy (all_unlisted given known) (all_tasks known)) (same_Some (end_by (all_unlisted given known) (all_tasks known)) e is) (end_by_is (all_unlisted given known) (all_tasks known))
end_of notes known (id ∷ letters) given e is = sym (same_Some (end.Letters (length letters + 1)) e is)

no_letters : (letters : List TaskId) (left total : ℕ) (e : End) → ((count : ℕ) → e ≡ end.Letters count → ⊥) → IsEndOf letters left total e → (letters ≡ []) × IsEndBy left total e
no_letters [] left total e other is = (refl, is)
no_letters (id ∷ letters) left total e other is = absurd (other (length letters + 1) is)

letters_count : (letters : List TaskId) (left total count : ℕ) → IsEndOf letters left total (end.Letters count) → (1 ≤ count) × (length letters ≡ count)
letters_count [] left total count is = absurd is
letters_count (id ∷ letters) left total count is = let same : count ≡ length letters + 1 = cc in (omega (arith, same), omega (arith, same))

-- ---- what an end means

module _ (role : Role) (plan : Plan) (from : ℕ) (old : Log) (ms : List Move) (to : ℕ) (next : State) (new whole : Log) (limits : HasLimits plan) (small : to < 10 ^ 10) (legal : Legal stage_reader plan.queue old)
    (c : Course (AllowsFor role plan) from (fresh plan) old ms to next new) (within : IsPrefix new whole) where
  ended_as : (e : End) → is_spent e ≡ false → end_at next.notes next.phase ≡ Some e → Ended role plan from old ms to next new whole
  ended_as e kept is = ended role plan from old ms to next new whole limits small legal c within (final_by next.notes next.phase e kept is)

  end_is : (x : Ended role plan from old ms to next new whole) (e : End) → end_at next.notes next.phase ≡ Some e → IsEndOf (tasks_listed x.ending.dead_names) (all_unlisted x.ending.done_names x.ending.notes.known) (all_tasks x.ending.notes.known) e
  end_is x e is =
      let g = x.ending in
      end_of g.notes g.notes.known (tasks_listed g.dead_names) g.done_names e (ap (λ (s : State). end_at s.notes s.phase) (sym g.is) ∙ is)

  -- Where it has finished so many tasks, they are done; and so is each task of each stage that was recorded when its last listing
  -- of the stages began. No dead letter stood.
  pub finished : (tasks : ℕ) → end_at next.notes next.phase ≡ Some (end.Finished tasks)
      → (x : Ended role plan from old ms to next new whole) × Finishes role plan old x.listing.mid (x.listing.move ∷ x.listing.rest) next new whole x.ending tasks
  finished tasks is =
      let x = ended_as (end.Finished tasks) refl is in
      let l = x.listing in
      let left = no_letters (tasks_listed x.ending.dead_names) _ _ (end.Finished tasks) (λ count e. absurd (cc)) (end_is x (end.Finished tasks) is) in (
        x,
        record {
          tasks = are_done role plan old l.mid (l.move ∷ l.rest) next new whole x.ending tasks left.1.1 left.1.0;
          all = all_done role plan old l.mid (l.move ∷ l.rest) next new whole x.ending left.1.0;
          no_dead = no_dead_stood role plan old l.mid (l.move ∷ l.rest) next new whole x.ending left.0;
        },
      )

  -- Where it waits for so many tasks, they are not done, no dead letter stood, and none of the queue's tasks could be leased.
  pub waiting : (n : ℕ) → end_at next.notes next.phase ≡ Some (end.Waiting n)
      → (x : Ended role plan from old ms to next new whole) × Waits role plan old x.listing.mid (x.listing.move ∷ x.listing.rest) next new whole x.ending n
  waiting n is =
      let x = ended_as (end.Waiting n) refl is in
      let l = x.listing in
      let left = no_letters (tasks_listed x.ending.dead_names) _ _ (end.Waiting n) (λ count e. absurd (cc)) (end_is x (end.Waiting n) is) in (
        x,
        record {
          some = left.1.0;
          tasks = are_not_done role plan old l.mid (l.move ∷ l.rest) next new whole x.ending n left.1.1;
          no_dead = no_dead_stood role plan old l.mid (l.move ∷ l.rest) next new whole x.ending left.0;
        },
      )

  -- Where it tells so many dead letters, each of them stood, and none of the queue's tasks could be leased.
  pub letters : (count : ℕ) → end_at next.notes next.phase ≡ Some (end.Letters count)
      → (x : Ended role plan from old ms to next new whole) × Tells role plan old x.listing.mid (x.listing.move ∷ x.listing.rest) next new whole x.ending count
  letters count is =
      let x = ended_as (end.Letters count) refl is in
      let l = x.listing in
      let many = letters_count (tasks_listed x.ending.dead_names) _ _ count (end_is x (end.Letters count) is) in (
        x,
        record {
          some = many.0;
          letters = tasks_listed x.ending.dead_names;
          long = many.1;
          said = x.ending.says;
          stood = dead_stood role plan old l.mid (l.move ∷ l.rest) next new whole x.ending;
          each = all_told role plan old l.mid (l.move ∷ l.rest) next new whole x.ending;
        },
      )
