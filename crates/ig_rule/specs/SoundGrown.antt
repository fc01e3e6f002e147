-- A put of a stage's record keeps the names of tasks and the files of stages sound.
use Rattle.std.specs.Prelude.{◌≡◌, ◌<◌, ℕ, true, false, List, None, Some, IsSome, refl}
use Rattle.std.proofs.Common.{ap, sym, subst, ◌∙◌, arith}
use Rattle.ig_space.specs.declared.task_id.TaskId.{TaskId}
use Rattle.ig_defs.specs.Files.{Files, file_at}
use Rattle.ig_rule.specs.QueueFiles.{QueueFile, Record, Seal, Done, named_task, Queue}
use Rattle.ig_rule.specs.Facts.{Facts, Reader, Uses, LiesInOne}
use Rattle.ig_rule.specs.Stages.{Records, recorded, task_id, IsSpared, Clear, Stands, Sealed, Named, Finished}
use Rattle.ig_rule.specs.Room.{IsOutsideQueue}
use Rattle.ig_rule.specs.Rule.{PutsRecord}
use Rattle.ig_rule.specs.Sound.{AreNumbered, AreSoundNames, AreSoundFiles, IsTask, IsWanted}
use Rattle.ig_rule.specs.QueuePaths.{no_queue_path}
use Rattle.ig_rule.specs.QueueSteps.{Sets, SameOutside}
use Rattle.ig_rule.specs.Keeps.{KeepLaws, Keeps}
use Rattle.ig_rule.specs.SoundFiles.{is_held, done_stand, outputs_kept, stands_kept, none_there}
use Rattle.ig_rule.specs.SoundNames.{set_there, set_named, not_a_name}
use Rattle.ig_rule.specs.Grown.{Grows, Age, is_old, is_the_new, is_below, still_recorded, age, spared_before, clear_before}
use Rattle.ig_rule.specs.SoundRecord.{record_other, seal_no_record, done_no_record, count_is}

-- ---- the names of tasks

name_same : (m : ℕ) (bytes : List ℕ) (old new : Queue) → Sets (Record m) bytes old new → (x : QueueFile) (id : TaskId) → named_task x ≡ Some id → new x ≡ old x
name_same m bytes old new sets x id of = record_other m bytes old new sets x (λ e. not_a_name (Record m) x id refl of (sym e))

seal_same : (m : ℕ) (bytes : List ℕ) (old new : Queue) → Sets (Record m) bytes old new → (n : ℕ) → Sealed new n → Sealed old n
seal_same m bytes old new sets n sealed = subst (λ o. IsSome o) (record_other m bytes old new sets (Seal n) (seal_no_record n m)) sealed

done_same : (m : ℕ) (bytes : List ℕ) (old new : Queue) → Sets (Record m) bytes old new → (id : TaskId) → IsSome (new (Done id)) → IsSome (old (Done id))
done_same m bytes old new sets id there = subst (λ o. IsSome o) (record_other m bytes old new sets (Done id) (done_no_record id m)) there

pub names_grown : (read : Reader) (q : List ℕ) (files : Files) (path bytes : List ℕ) (old new : Queue) (grown : Records) → (u : PutsRecord read old q files path bytes) → Sets (Record u.number) bytes old new
    → Grows (recorded read old) grown u.number u.stage → AreNumbered (recorded read old) old → AreSoundNames (recorded read old) old → AreSoundNames grown new
names_grown read q files path bytes old new grown u sets g numbered h = record {
  tasks = λ x id held of there. task_grown id held (h.tasks x id held of (sym (name_same u.number bytes old new sets x id of) ∙ there));
  named = λ n k s is sealed below. named_by n k s (seal_same u.number bytes old new sets n sealed) below (aged n s is);
  before_removal = λ n r s t less is is' removes uses k below.
      set_there (Record u.number) bytes old new sets (Done (task_id n k)) (finished_by n r s t less removes uses (aged n s is) (aged r t is') k below);
}
  where
    aged : (n : ℕ) (t : Facts) → grown n ≡ Some t → Age (recorded read old) u.number u.stage n t
    aged = age (recorded read old) grown u.number u.stage g

    task_grown : (id : TaskId) (held : List ℕ) → IsTask (recorded read old) id held → IsTask grown id held
    task_grown id held t = record { stage = t.stage; is = still_recorded (recorded read old) grown u.number u.stage g id.stage t.stage t.is; below = t.below; text = t.text }

    named_by : (n k : ℕ) (s : Facts) → Sealed old n → k < s.tasks → Age (recorded read old) u.number u.stage n s → Named new (task_id n k)
    named_by n k s sealed below (is_old less is) = set_named (Record u.number) bytes old new sets (task_id n k) (h.named n k s is sealed below)
    named_by n k s sealed below (is_the_new e s') =
        absurd (none_there (old (Seal n)) sealed (numbered.no_seal n (omega (arith, e, count_is read q files path bytes old u numbered))))

    finished_by : (n r : ℕ) (s t : Facts) → n < r → t.removes ≡ true → Uses s t.source → Age (recorded read old) u.number u.stage n s → Age (recorded read old) u.number u.stage r t → Finished old n s
    finished_by n r s t less removes uses (is_old below is) (is_old below' is') = h.before_removal n r s t less is is' removes uses
    finished_by n r s t less removes uses (is_old below is) (is_the_new e t') =
        (u.room.unused (ap (λ (v : Facts). v.removes) t' ∙ removes) n s is (subst (λ (v : Facts). Uses s v.source) (sym t') uses)).1
    finished_by n r s t less removes uses (is_the_new e s') (is_old below' is') = absurd (omega arith)
    finished_by n r s t less removes uses (is_the_new e s') (is_the_new e' t') = absurd (omega arith)

-- ---- the files of the stages

-- a file in an output directory of the new stage was there before
not_made : (q : List ℕ) (s : Facts) (old new : Files) → IsOutsideQueue q s → SameOutside q old new → (path : List ℕ) → LiesInOne s.outputs path → file_at new path ≡ file_at old path
not_made q s old new outside same path lies = same path (λ x e. no_queue_path q lies.dir path x (outside.outputs lies.dir lies.one) lies.lies e)

pub files_grown : (read : Reader) (q : List ℕ) (files later : Files) (path bytes : List ℕ) (old new : Queue) (grown : Records) → (u : PutsRecord read old q files path bytes) → Sets (Record u.number) bytes old new
    → Grows (recorded read old) grown u.number u.stage → KeepLaws (recorded read old) → Keeps (recorded read old) files later → SameOutside q files later
    → AreSoundNames (recorded read old) old → AreSoundFiles (recorded read old) old files → AreSoundFiles grown new later
files_grown read q files later path bytes old new grown u sets g laws keeps same names h = record {
  outputs = λ n s is makes spared other there lies now. outputs_by n s makes spared other there lies now (aged n s is);
  done = λ n k s is clear there. done_by n k s clear (done_same u.number bytes old new sets (task_id n k) there) (aged n s is);
}
  where
    aged : (n : ℕ) (t : Facts) → grown n ≡ Some t → Age (recorded read old) u.number u.stage n t
    aged = age (recorded read old) grown u.number u.stage g

    none_before : (other there : List ℕ) → file_at files other ≡ None → file_at files other ≡ Some there → ⊥
    none_before other there none is = let both : None ≡ Some there = sym none ∙ is in absurd (cc)

    outputs_by : (n : ℕ) (s : Facts) → s.removes ≡ false → IsSpared grown n s.source → (other there : List ℕ) → LiesInOne s.outputs other → file_at later other ≡ Some there
        → Age (recorded read old) u.number u.stage n s → IsWanted s later other there
    outputs_by n s makes spared other there lies now (is_old less is) =
        let spared' = spared_before (recorded read old) grown u.number u.stage g n s.source spared in
        outputs_kept (recorded read old) files later laws keeps n s is makes spared' (h.outputs n s is makes spared') other there lies now
    outputs_by n s makes spared other there lies now (is_the_new e s') =
        let lies' = subst (λ (v : Facts). LiesInOne v.outputs other) (sym s') lies in
        absurd (none_before other there (u.room.empty other lies') (sym (not_made q u.stage files later u.room.outside same other lies') ∙ now))

    unnamed : (n k : ℕ) → n ≡ u.number → IsSome (old (Done (task_id n k))) → ⊥
    unnamed n k e there =
        let held = is_held old (Done (task_id n k)) there in
        let t = names.tasks (Done (task_id n k)) (task_id n k) held.bytes refl held.is in
        let less : n < u.number = is_below (recorded read old) grown u.number u.stage g n t.stage t.is in
        omega arith

    done_by : (n k : ℕ) (s : Facts) → Clear grown n s → IsSome (old (Done (task_id n k))) → Age (recorded read old) u.number u.stage n s → Stands later s k
    done_by n k s clear there (is_old less is) =
        let clear' = clear_before (recorded read old) grown u.number u.stage g n s clear in
        let d = done_stand (recorded read old) old files names h n k s is clear' there in
        stands_kept (recorded read old) files later laws keeps n s is clear' k d.below d.stands
    done_by n k s clear there (is_the_new e s') = absurd (unnamed n k e there)
