-- What lasts in a legal log, and what a listing tells of it.
use Rattle.std.specs.Prelude.{◌≡◌, ◌≤◌, ℕ, Bool, true, List, [], ◌∷◌, ◌++◌, length, Some, IsSome, codes, refl}
use Rattle.std.proofs.Common.{inl, inr, sym, subst}
use Rattle.ig_space.specs.Path.{is_path, joined}
use Rattle.ig_space.specs.declared.task_id.TaskId.{TaskId}
use Rattle.ig_defs.specs.declared.step.Act.{Act}
use Rattle.ig_defs.specs.declared.step.Step.{Step}
use Rattle.ig_defs.specs.Files.{Files}
use Rattle.ig_defs.specs.Log.{Log, AreAllowed, ByOthers, after, files_of, replay}
use Rattle.ig_defs.specs.Names.{Stands, StandsOnce, StandsThroughout}
use Rattle.ig_defs.specs.QueueNames.{stage_file, task_file, task_fits}
use Rattle.ig_defs.specs.TurnLaws.{files_later}
use Rattle.ig_defs.specs.Turns.{IsPrefix}
use Rattle.ig_meaning.specs.QueueMaking.{stages_dir}
use Rattle.ig_queue.specs.FilesAt.{done_path_is}
use Rattle.ig_rule.specs.Beside.{others_allowed}
use Rattle.ig_rule.specs.Facts.{Facts}
use Rattle.ig_rule.specs.Prefixes.{legal_sound}
use Rattle.ig_rule.specs.QueueFiles.{Done, queue_of}
use Rattle.ig_rule.specs.QueueStays.{queue_stays}
use Rattle.ig_rule.specs.Roles.{Allows}
use Rattle.ig_rule.specs.declared.role.Role.{Role}
use Rattle.ig_rule.specs.Rule.{Allowed}
use Rattle.ig_rule.specs.Sound.{AreAllowedSteps, Legal, Sound}
use Rattle.ig_rule.specs.SoundKept.{sound_kept}
use Rattle.ig_rule.specs.Stages.{stages_in}
use Rattle.ig_task.specs.Facts.{stage_reader}
use Rattle.ig_task.specs.Kinds.{kinds}
use Rattle.ig_worker.specs.Keeping.Listing.{file_there, record_stands}
use Rattle.ig_worker.specs.Ending.Standing.{Lasts}

pub lasts_same : (q : List ℕ) (files : Files) → Lasts q files files
lasts_same q files = record { stages = λ n t is. is; done = λ id there. there }

pub lasts_then : (q : List ℕ) (old mid new : Files) → Lasts q old mid → Lasts q mid new → Lasts q old new
lasts_then q old mid new a b = record { stages = λ n t is. b.stages n t (a.stages n t is); done = λ id there. b.done id (a.done id there) }

-- an allowed act
lasts_act : (q : List ℕ) (files : Files) (a : Act) → Sound stage_reader q files → Allowed stage_reader q files a → Lasts q files (after files a)
lasts_act q files a sound may = let stays = queue_stays stage_reader kinds q files a sound may in record { stages = stays.stages; done = stays.done }

-- allowed steps
lasts_steps : (q : List ℕ) (files : Files) (steps : List Step) → Sound stage_reader q files → AreAllowedSteps stage_reader q files steps → Lasts q files (replay files steps)
lasts_steps q files [] sound h = lasts_same q files
lasts_steps q files (step ∷ steps) sound h =
    lasts_then q files (after files step.act) (replay (after files step.act) steps) (lasts_act q files step.act sound h.0)
    (lasts_steps q (after files step.act) steps (sound_kept stage_reader kinds q files step.act sound h.0) h.1)

-- the later ones of allowed steps are allowed
later_allowed : (allows : Bool → Files → Act → Type 0) (files : Files) (xs ys : List Step) → AreAllowed allows files (xs ++ ys) → AreAllowed allows (replay files xs) ys
later_allowed allows files [] ys h = h
later_allowed allows files (x ∷ xs) ys h = later_allowed allows (after files x.act) xs ys h.1

-- Both last while a legal log grows.
pub lasts_later : (q : List ℕ) (old new : Log) → IsPrefix old new → Legal stage_reader q old → Legal stage_reader q new → Lasts q (files_of old) (files_of new)
lasts_later q old new p legal grown =
    let allowed : AreAllowedSteps stage_reader q old.opening (old.steps ++ p.later)
    = subst (λ steps. AreAllowedSteps stage_reader q old.opening steps) p.grown (subst (λ files. AreAllowedSteps stage_reader q files new.steps) p.opening grown.steps) in
    subst (Lasts q (files_of old)) (sym (files_later p))
    (lasts_steps q (files_of old) p.later (legal_sound stage_reader kinds q old legal) (later_allowed (λ mine given a. Allowed stage_reader q given a) old.opening old.steps p.later allowed))

-- ---- while others take steps
module _ (role : Role) (q : List ℕ) where
  abbrev Others : Files → List Step → Type 0
  Others files others = ByOthers (Allows stage_reader role (Some q)) files others

  pub lasts_others : (files : Files) (others : List Step) → Others files others → Sound stage_reader q files → Lasts q files (replay files others)
  lasts_others files others by sound = lasts_steps q files others sound (others_allowed stage_reader role q files others by)

  -- the name of a stage that is recorded stands throughout
  pub record_throughout : is_path q ≡ true → length q ≤ 100 → (files : Files) (others : List Step) → Others files others → Sound stage_reader q files → (n : ℕ) (t : Facts) → stages_in stage_reader q files n ≡ Some t
      → StandsThroughout files others (stages_dir q) (stage_file n)
  record_throughout path short files [] by sound n t is = record_stands role q path short files n t is
  record_throughout path short files (step ∷ steps) by sound n t is =
      let lasts = lasts_act q files step.act sound by.1.0 in (
        record_stands role q path short files n t is,
        record_throughout path short (after files step.act) steps by.2 (sound_kept stage_reader kinds q files step.act sound by.1.0) n t (lasts.stages n t is),
      )

  -- a done name that stands is that of a task that is done
  done_stands : (files : Files) (id : TaskId) → task_fits id ≡ true → Stands files (joined q (codes "done")) (task_file id) → IsSome (queue_of q files (Done id))
  done_stands files id = file_there q files (Done id) (joined q (codes "done")) (task_file id) (done_path_is q (task_file id) id refl)

  -- one that stood once is so still
  pub done_once : (files : Files) (others : List Step) → Others files others → Sound stage_reader q files → (id : TaskId) → task_fits id ≡ true → StandsOnce files others (joined q (codes "done")) (task_file id)
      → IsSome (queue_of q (replay files others) (Done id))
  done_once files [] by sound id fit once = done_stands files id fit once
  done_once files (step ∷ steps) by sound id fit (inl stands) =
      (lasts_others files (step ∷ steps) by sound).done id (done_stands files id fit stands)
  done_once files (step ∷ steps) by sound id fit (inr once) =
      done_once (after files step.act) steps by.2 (sound_kept stage_reader kinds q files step.act sound by.1.0) id fit once
