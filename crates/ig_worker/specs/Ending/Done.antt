-- The tasks that are done where a worker has finished: as many as it says, and all of them different.
use Rattle.std.specs.Prelude.{◌≡◌, ◌⊎◌, ℕ, zero, suc, List, [], ◌∷◌, Some, Contains, refl}
use Rattle.std.proofs.Common.{arith, inl, inr, sym, subst, ◌∙◌}
use Rattle.ig_space.specs.declared.task_id.TaskId.{TaskId}
use Rattle.ig_defs.specs.Log.{Log, files_of}
use Rattle.ig_defs.specs.QueueNames.{task_file}
use Rattle.ig_defs.specs.TurnLaws.{grew_in, prefix_of}
use Rattle.ig_record.specs.declared.stage.Stage.{Stage}
use Rattle.ig_record.specs.Stage.{task_count}
use Rattle.ig_rule.specs.declared.role.Role.{Role}
use Rattle.ig_rule.specs.Stages.{stages_in}
use Rattle.ig_task.specs.Facts.{facts_of, stage_reader}
use Rattle.ig_worker.specs.declared.plan.Plan.{Plan}
use Rattle.ig_worker.specs.Ending.AtEnd.{AreDone, Ending, IsDone}
use Rattle.ig_worker.specs.Ending.Finished.{each_listed, given_then_done, listed_among}
use Rattle.ig_worker.specs.Ending.Lasts.{lasts_later}
use Rattle.ig_worker.specs.Ending.Left.{all_left, different-all_left, left_is, length-all_left}
use Rattle.ig_worker.specs.Keeping.Lists.{in_cases, map_in, none_in}
use Rattle.ig_worker.specs.Knows.{kept_of}
use Rattle.ig_worker.specs.Moves.{Move}
use Rattle.ig_worker.specs.Places.{State}
use Rattle.ig_worker.specs.Stages.{Known, all_tasks, all_unlisted, unlisted}
use Rattle.ig_worker.specs.Ending.Standing.{IsRecorded}

-- ---- all tasks are those that an empty listing doesn't show
abbrev nothing : List (List ℕ)
nothing = []

all_of_stage : (n k : ℕ) → unlisted nothing n k ≡ k
all_of_stage n zero = refl
all_of_stage n (suc k) = let rest = all_of_stage n k in omega (arith, rest)

all_of : (known : Known) → all_unlisted nothing known ≡ all_tasks known
all_of [] = refl
all_of (r ∷ rest) =
    let first = all_of_stage r.0 (task_count r.1) in
    let more = all_of rest in
    omega (arith, first, more)

none_by : (given : List (List ℕ)) (r : ℕ × Stage) (rest : Known) (x : ℕ × Stage) → unlisted given r.0 (task_count r.1) ≡ 0 → (Contains rest x → unlisted given x.0 (task_count x.1) ≡ 0) → (r ≡ x) ⊎ Contains rest x
    → unlisted given x.0 (task_count x.1) ≡ 0
none_by given r rest x none later (inl e) = subst (λ (y : ℕ × Stage). unlisted given y.0 (task_count y.1) ≡ 0) e none
none_by given r rest x none later (inr among) = later among

none_of : (given : List (List ℕ)) (known : Known) (x : ℕ × Stage) → all_unlisted given known ≡ 0 → Contains known x → unlisted given x.0 (task_count x.1) ≡ 0
none_of given [] x none among = absurd (none_in x among)
none_of given (r ∷ rest) x none among =
    let first : unlisted given r.0 (task_count r.1) ≡ 0 = omega (arith, none) in
    let more : all_unlisted given rest ≡ 0 = omega (arith, none) in
    none_by given r rest x first (none_of given rest x more) (in_cases r rest x among)

module _ (role : Role) (plan : Plan) (old mid : Log) (ms : List Move) (next : State) (new whole : Log) (e : Ending role plan old mid ms next new whole) where
  known_recorded : (x : ℕ × Stage) → Contains e.notes.known x → IsRecorded plan e.dones x.0 (facts_of x.0 x.1)
  known_recorded x among =
      subst (λ (p : Plan). stages_in stage_reader p.queue (files_of e.dones) x.0 ≡ Some (facts_of x.0 x.1)) e.before_dones.place.of_plan
      (e.before_dones.known.stages (kept_of x) (map_in kept_of e.notes.known x among))

  task_done : all_unlisted e.done_names e.notes.known ≡ 0 → (id : TaskId) → Contains (all_left nothing e.notes.known) id → IsDone plan new id
  task_done none id among =
      let h = left_is nothing e.notes.known id among in
      let x : ℕ × Stage = (id.stage, h.stage) in
      let recorded = known_recorded x h.among in
      let listed = each_listed e.done_names id.stage (task_count h.stage) id.task (none_of e.done_names e.notes.known x none h.among) h.below in
      let lasts = lasts_later plan.queue e.dones new (prefix_of (grew_in e.lists_done)) e.before_dones.legal e.ended.legal in
      record {
        stage = facts_of id.stage h.stage;
        is = lasts.stages id.stage (facts_of id.stage h.stage) recorded;
        below = h.below;
        done = given_then_done role plan old mid ms next new whole e id.stage id.task (facts_of id.stage h.stage) recorded h.below (listed_among e.done_names (task_file id) listed);
      }

  -- where none is unlisted, all are done
  pub are_done : (n : ℕ) → n ≡ all_tasks e.notes.known → all_unlisted e.done_names e.notes.known ≡ 0 → AreDone plan new n
  are_done n total none = record {
    tasks = all_left nothing e.notes.known;
    count = length-all_left nothing e.notes.known ∙ all_of e.notes.known ∙ sym total;
    different = different-all_left nothing e.notes.known e.before_dones.place.fit.notes.known.ascending;
    each = task_done none;
  }
