-- What is so where a worker waits, and where it tells dead letters.
use Rattle.std.specs.Prelude.{◌≡◌, ◌≤◌, ℕ, true, List, [], ◌∷◌, length, Some, Contains, IsSome, codes, refl}
use Rattle.std.proofs.Common.{arith, sym, subst, true≢false, ◌∙◌}
use Rattle.ig_space.specs.Path.{is_path, joined}
use Rattle.ig_space.specs.declared.task_id.TaskId.{TaskId}
use Rattle.ig_defs.specs.declared.step.Step.{Step}
use Rattle.ig_defs.specs.Files.{Files}
use Rattle.ig_defs.specs.Log.{ByOthers, Log, after, files_of}
use Rattle.ig_defs.specs.Names.{Stands, StandsOnce, StandsThroughout}
use Rattle.ig_defs.specs.QueueNames.{task_file, task_fits}
use Rattle.ig_defs.specs.QueueNameLaws.{is_segment-task_file, length-task_file}
use Rattle.ig_queue.specs.FilesAt.{done_path_is}
use Rattle.ig_rule.specs.Prefixes.{legal_sound}
use Rattle.ig_rule.specs.QueueFiles.{Done, queue_of}
use Rattle.ig_rule.specs.Roles.{Allows}
use Rattle.ig_rule.specs.declared.role.Role.{Role}
use Rattle.ig_rule.specs.Sound.{Sound}
use Rattle.ig_rule.specs.SoundKept.{sound_kept}
use Rattle.ig_rule.specs.Stages.{stages_in}
use Rattle.ig_task.specs.Facts.{facts_of, stage_reader}
use Rattle.ig_task.specs.Kinds.{kinds}
use Rattle.ig_worker.specs.declared.plan.Plan.{Plan}
use Rattle.ig_worker.specs.Ending.AtEnd.{AreNotDone, Ending, IsNotDone, NoneIsDead, dead_dir}
use Rattle.ig_worker.specs.Ending.Lasts.{lasts_others}
use Rattle.ig_worker.specs.Ending.Left.{all_left, different-all_left, left_is, length-all_left}
use Rattle.ig_worker.specs.Ending.Names.{among_listed, shown_from, shown_is}
use Rattle.ig_worker.specs.Keeping.Listing.{file_stands}
use Rattle.ig_worker.specs.Keeping.Lists.{map_in, none_in, none_of}
use Rattle.ig_worker.specs.Knows.{kept_of}
use Rattle.ig_worker.specs.Moves.{Move}
use Rattle.ig_worker.specs.Places.{State}
use Rattle.ig_worker.specs.Plans.{HasLimits}
use Rattle.ig_worker.specs.Stages.{all_unlisted, tasks_listed}

-- the done name of a task that is done stands,
pub done_stands : (q : List ℕ) → is_path q ≡ true → length q ≤ 100 → (files : Files) (id : TaskId) → IsSome (queue_of q files (Done id)) → Stands files (joined q (codes "done")) (task_file id)
done_stands q path short files id there =
    let long : length (codes "done") ≡ 4 = refl in
    file_stands q path short files (Done id) (codes "done") (task_file id) (done_path_is q (task_file id) id refl) refl (omega (arith, long)) (is_segment-task_file id) (omega (arith, length-task_file id)) there

-- and does so throughout
done_throughout : (role : Role) (q : List ℕ) → is_path q ≡ true → length q ≤ 100 → (files : Files) (others : List Step) → ByOthers (Allows stage_reader role (Some q)) files others → Sound stage_reader q files
    → (id : TaskId) → IsSome (queue_of q files (Done id)) → StandsThroughout files others (joined q (codes "done")) (task_file id)
done_throughout role q path short files [] by sound id there = done_stands q path short files id there
done_throughout role q path short files (step ∷ steps) by sound id there =
    let one : ByOthers (Allows stage_reader role (Some q)) files (step ∷ []) = (by.0, by.1, tt) in (
      done_stands q path short files id there,
      done_throughout role q path short (after files step.act) steps by.2 (sound_kept stage_reader kinds q files step.act sound by.1.0) id ((lasts_others role q files (step ∷ []) one sound).done id there),
    )

-- ---- where no dead letter was listed
module _ (role : Role) (plan : Plan) (old mid : Log) (ms : List Move) (next : State) (new whole : Log) (e : Ending role plan old mid ms next new whole) where
  limits : HasLimits plan
  limits = subst HasLimits e.before_dones.place.of_plan e.before_dones.place.fit.notes.plan

  left_not_done : (id : TaskId) → Contains (all_left e.done_names e.notes.known) id → IsNotDone plan e.dones id
  left_not_done id among =
      let q = plan.queue in
      let h = left_is e.done_names e.notes.known id among in
      let recorded = e.before_dones.known.stages (kept_of (id.stage, h.stage)) (map_in kept_of e.notes.known (id.stage, h.stage) h.among) in
      let sound = legal_sound stage_reader kinds q e.dones e.before_dones.legal in
      let l = e.lists_done in
      record {
        stage = facts_of id.stage h.stage;
        is = subst (λ (p : Plan). stages_in stage_reader p.queue (files_of e.dones) id.stage ≡ Some (facts_of id.stage h.stage)) e.before_dones.place.of_plan recorded;
        below = h.below;
        not_done = none_of (queue_of q (files_of e.dones) (Done id)) (λ there.
            let stood = done_throughout role q limits.path limits.short (files_of e.dones) e.done_others l.by sound id there in
            true≢false (sym (among_listed e.done_names (task_file id) (l.names.each (task_file id) stood)) ∙ h.unlisted));
      }

  pub are_not_done : (n : ℕ) → all_unlisted e.done_names e.notes.known ≡ n → AreNotDone plan e.dones n
  are_not_done n count = record {
    tasks = all_left e.done_names e.notes.known;
    count = length-all_left e.done_names e.notes.known ∙ count;
    different = different-all_left e.done_names e.notes.known e.before_dones.place.fit.notes.known.ascending;
    each = left_not_done;
  }

  -- each dead letter that stood all through the listing is told,
  pub all_told : (id : TaskId) → task_fits id ≡ true → StandsThroughout (files_of e.deads) e.dead_others (dead_dir plan) (task_file id) → Contains (tasks_listed e.dead_names) id
  all_told id fit stood = shown_is e.dead_names id fit (e.lists_dead.names.each (task_file id) stood)

  pub no_dead_stood : tasks_listed e.dead_names ≡ [] → NoneIsDead plan e.deads e.dead_others
  no_dead_stood none id fit stood = none_in id (subst (λ ids. Contains ids id) none (all_told id fit stood))

  -- and each that is told stood
  pub dead_stood : (id : TaskId) → Contains (tasks_listed e.dead_names) id → StandsOnce (files_of e.deads) e.dead_others (dead_dir plan) (task_file id)
  dead_stood id among = e.lists_dead.names.only (task_file id) (shown_from e.dead_names id among).given
