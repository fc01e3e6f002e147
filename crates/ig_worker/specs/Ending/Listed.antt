-- Each stage that a listing shows is recorded: by its record, or by the name of a task of it.
use Rattle.std.specs.Prelude.{◌≡◌, ◌⊎◌, ◌≤◌, ◌<◌, ◌||◌, ℕ, Bool, true, false, if◌then◌else◌, List, [], ◌∷◌, Option, None, Some, Contains, IsSome, is_some, codes, refl}
use Rattle.std.proofs.Common.{arith, inl, inr, ap, sym, subst, ◌∙◌}
use Rattle.std.proofs.lemmas.List.Elements.{All-contains}
use Rattle.ig_space.specs.Path.{joined}
use Rattle.ig_defs.specs.declared.queue_name.QueueName.{QueueName}
use Rattle.ig_defs.specs.declared.step.Step.{Step}
use Rattle.ig_defs.specs.Files.{Files}
use Rattle.ig_defs.specs.Log.{Log, ByOthers, after, files_of, replay}
use Rattle.ig_defs.specs.Names.{Stands, StandsOnce}
use Rattle.ig_defs.specs.QueueNames.{queue_file, queue_fits, stage_file, stage_fits, task_of}
use Rattle.ig_meaning.specs.QueueMaking.{stage_named, stages_dir}
use Rattle.ig_queue.specs.Candidates.{AreCandidates, IsCandidate}
use Rattle.ig_queue.specs.FilesAt.{queued_path_is, record_path_is}
use Rattle.ig_rule.specs.Facts.{Facts}
use Rattle.ig_rule.specs.QueueFiles.{Queued, Record, queue_of}
use Rattle.ig_rule.specs.QueueSteps.{holds}
use Rattle.ig_rule.specs.Roles.{Allows}
use Rattle.ig_rule.specs.declared.role.Role.{Role}
use Rattle.ig_rule.specs.Sound.{Sound}
use Rattle.ig_rule.specs.SoundFiles.{none_there}
use Rattle.ig_rule.specs.SoundKept.{sound_kept}
use Rattle.ig_rule.specs.Stages.{stages_in}
use Rattle.ig_defs.specs.Turns.{Listed}
use Rattle.ig_defs.specs.TurnLaws.{files_then}
use Rattle.ig_task.specs.Facts.{stage_reader}
use Rattle.ig_task.specs.Kinds.{kinds}
use Rattle.ig_worker.specs.Ending.Lasts.{lasts_others}
use Rattle.ig_worker.specs.Keeping.Listing.{IsNameOf, file_there, stage_named-from}
use Rattle.ig_worker.specs.Keeping.Lists.{first_in, in_cases, later_in, none_in, some_of}
use Rattle.ig_worker.specs.Stages.{Known, is_last, stage_in, unknown_after, unknown_listed, unknown_named, with_unknown}

-- A stage with this number is recorded.
abbrev pub HasStage : List ℕ → Files → ℕ → Type 0
HasStage q files n = (t : Facts) × (stages_in stage_reader q files n ≡ Some t)

-- ---- the stages that a listing of records shows
-- the name of its record was given, and it isn't known
pub record IsListed (known : Known) (given : List (List ℕ)) (n : ℕ) : Type 0 where
  pub fits : stage_fits n ≡ true
  pub among : Contains given (stage_file n)
  pub unknown : is_some (stage_in known n) ≡ false

listed_first : (known : Known) (name : List ℕ) (names : List (List ℕ)) (n : ℕ) → IsNameOf name n → is_some (stage_in known n) ≡ false → IsListed known (name ∷ names) n
listed_first known name names n h unknown = record { fits = h.fits; among = subst (λ x. Contains (x ∷ names) (stage_file n)) h.is (first_in (stage_file n) names); unknown = unknown }

listed_later : (known : Known) (name : List ℕ) (names : List (List ℕ)) (n : ℕ) → IsListed known names n → IsListed known (name ∷ names) n
listed_later known name names n h = record { fits = h.fits; among = later_in name names (stage_file n) h.among; unknown = h.unknown }

listed_by : (known : Known) (name : List ℕ) (names : List (List ℕ)) (n : ℕ) (o : Option ℕ) (rest : List ℕ) → stage_named name ≡ o → (Contains rest n → IsListed known names n) → Contains (with_unknown known o rest) n
    → IsListed known (name ∷ names) n
listed_by known name names n None rest is later among = listed_later known name names n (later among)
listed_by known name names n (Some m) rest is later among = by_test (is_some (stage_in known m)) refl among
  where
    by_test : (b : Bool) → is_some (stage_in known m) ≡ b → Contains (if b then rest else m ∷ rest) n → IsListed known (name ∷ names) n
    by_test true e h = listed_later known name names n (later h)
    by_test false e h = by_place (in_cases m rest n h)
      where
        by_place : (m ≡ n) ⊎ Contains rest n → IsListed known (name ∷ names) n
        by_place (inl same) = listed_first known name names n (stage_named-from name n (is ∙ ap Some same)) (ap (λ k. is_some (stage_in known k)) (sym same) ∙ e)
        by_place (inr h') = listed_later known name names n (later h')

pub was_listed : (known : Known) (given : List (List ℕ)) (n : ℕ) → Contains (unknown_listed known given) n → IsListed known given n
was_listed known [] n among = absurd (none_in n among)
was_listed known (name ∷ names) n among = listed_by known name names n (stage_named name) (unknown_listed known names) refl (was_listed known names n) among

-- ---- the stages of listed tasks
-- one of these names is that of a task of the stage
record IsStageOf (names : List QueueName) (n : ℕ) : Type 0 where
  name : QueueName
  among : Contains names name
  is : name.stage ≡ n

later_stage : (x : QueueName) (names : List QueueName) (n : ℕ) → IsStageOf names n → IsStageOf (x ∷ names) n
later_stage x names n h = record { name = h.name; among = later_in x names h.name h.among; is = h.is }

stage_by : (x : QueueName) (names : List QueueName) (same more : List ℕ) (n : ℕ) (b : Bool) → (Contains same n → IsStageOf names n) → (Contains more n → IsStageOf names n)
    → Contains (if b then same else x.stage ∷ more) n → IsStageOf (x ∷ names) n
stage_by x names same more n true before after_it among = later_stage x names n (before among)
stage_by x names same more n false before after_it among = by_place (in_cases x.stage more n among)
  where
    by_place : (x.stage ≡ n) ⊎ Contains more n → IsStageOf (x ∷ names) n
    by_place (inl is) = record { name = x; among = first_in x names; is = is }
    by_place (inr later) = later_stage x names n (after_it later)

stage_of_name : (known : Known) (last : Option ℕ) (names : List QueueName) (n : ℕ) → Contains (unknown_after known last names) n → IsStageOf names n
stage_of_name known last [] n among = absurd (none_in n among)
stage_of_name known last (x ∷ names) n among =
    stage_by x names (unknown_after known last names) (unknown_after known (Some x.stage) names) n (is_some (stage_in known x.stage) || is_last last x.stage)
    (stage_of_name known last names n) (stage_of_name known (Some x.stage) names n) among

-- ---- what stands in sound files
below_or_beyond : (n count : ℕ) → (n < count) ⊎ (count ≤ n)
below_or_beyond n count = grind arith

module _ (q : List ℕ) (files : Files) (sound : Sound stage_reader q files) where
  recorded_by : (n : ℕ) → IsSome (queue_of q files (Record n)) → (n < sound.numbered.count) ⊎ (sound.numbered.count ≤ n) → HasStage q files n
  recorded_by n there (inl below) = some_of (stages_in stage_reader q files n) (sound.numbered.present n below)
  recorded_by n there (inr beyond) = absurd (none_there (queue_of q files (Record n)) there (sound.numbered.no_more n beyond))

  -- a record is that of a recorded stage,
  pub record_tells : (n : ℕ) → stage_fits n ≡ true → Stands files (stages_dir q) (stage_file n) → HasStage q files n
  record_tells n fit stands =
      recorded_by n (file_there q files (Record n) (stages_dir q) (stage_file n) (record_path_is q (stage_file n) n refl) fit stands) (below_or_beyond n sound.numbered.count)

  -- and a name in the queue is that of a task of one
  name_tells : (name : QueueName) → queue_fits name ≡ true → Stands files (joined q (codes "queue")) (queue_file name) → HasStage q files name.stage
  name_tells name fit stands =
      let h = holds q files (Queued name) (file_there q files (Queued name) (joined q (codes "queue")) (queue_file name) (queued_path_is q (queue_file name) name refl) fit stands) in
      let task = sound.names.tasks (Queued name) (task_of name) h.bytes refl h.is in
      (task.stage, task.is)

-- ---- while others take steps
module _ (role : Role) (q dir name : List ℕ) (n : ℕ) (tells : (files : Files) → Sound stage_reader q files → Stands files dir name → HasStage q files n) where
  -- where a file stood once that tells of a stage, the stage is recorded still
  told_once : (files : Files) (others : List Step) → ByOthers (Allows stage_reader role (Some q)) files others → Sound stage_reader q files → StandsOnce files others dir name → HasStage q (replay files others) n
  told_once files [] by sound stands = tells files sound stands
  told_once files (step ∷ steps) by sound (inl stands) =
      let told = tells files sound stands in
      (told.0, (lasts_others role q files (step ∷ steps) by sound).stages n told.0 told.1)
  told_once files (step ∷ steps) by sound (inr once) = told_once (after files step.act) steps by.2 (sound_kept stage_reader kinds q files step.act sound by.1.0) once

-- Each stage that is to be read after a listing of the records is recorded,
pub listed_recorded : (role : Role) (q : List ℕ) (known : Known) (given : List (List ℕ)) (old new : Log) → Sound stage_reader q (files_of old)
    → Listed (Allows stage_reader role (Some q)) old new (stages_dir q) given → (n : ℕ) → Contains (unknown_listed known given) n → HasStage q (files_of new) n
listed_recorded role q known given old new sound l n among =
    let h = was_listed known given n among in
    subst (λ files. HasStage q files n) (sym (files_then l.acted))
    (told_once role q (stages_dir q) (stage_file n) n (λ files now_sound stands. record_tells q files now_sound n h.fits stands) (files_of old) l.acted.others l.acted.by sound
    (l.names.only (stage_file n) h.among))

-- and so is each one that is to be read after a listing of the queue.
pub queued_recorded : (role : Role) (q : List ℕ) (known : Known) (given : List (List ℕ)) (now : ℕ) (names : List QueueName) (old new : Log) → Sound stage_reader q (files_of old)
    → AreCandidates given now names → Listed (Allows stage_reader role (Some q)) old new (joined q (codes "queue")) given → (n : ℕ) → Contains (unknown_named known names) n → HasStage q (files_of new) n
queued_recorded role q known given now names old new sound are l n among =
    let h = stage_of_name known None names n among in
    let name = h.name in
    let listed = All-contains (IsCandidate given now) names name are.only h.among in
    subst (λ k. HasStage q (files_of new) k) h.is (subst (λ files. HasStage q files name.stage) (sym (files_then l.acted))
    (told_once role q (joined q (codes "queue")) (queue_file name) name.stage (λ files now_sound stands. name_tells q files now_sound name listed.fits stands) (files_of old) l.acted.others l.acted.by sound
    (l.names.only (queue_file name) listed.listed)))
