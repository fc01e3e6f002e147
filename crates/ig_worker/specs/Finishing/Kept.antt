-- What stays for a worker by itself: what its acts leave as it was, and which names are then ahead.
use Rattle.std.specs.Prelude.{◌≡◌, ◌⊎◌, ℕ, Bool, true, false, List, Option, None, Some, IsSome, is_some, refl}
use Rattle.std.specs.FinMap as maps
use Rattle.std.proofs.Common.{inl, inr, ap, sym, subst, true≢false, ◌∙◌}
use Rattle.ig_space.specs.declared.task_id.TaskId.{TaskId}
use Rattle.ig_defs.specs.declared.queue_name.QueueName.{QueueName}
use Rattle.ig_defs.specs.declared.step.Act.{Act}
use Rattle.ig_defs.specs.declared.step.Act.TheVariants as act
use Rattle.ig_defs.specs.Files.{Files, file_at}
use Rattle.ig_defs.specs.Log.{after}
use Rattle.ig_defs.specs.Puts.{file_at-other}
use Rattle.ig_defs.specs.QueueNames.{task_of}
use Rattle.ig_rule.specs.Facts.{Facts}
use Rattle.ig_rule.specs.QueueFiles.{Dead, Done, Queue, QueueFile, Queued, Record, Seal, fits, path_of, queue_of}
use Rattle.ig_rule.specs.QueuePaths.{path_is}
use Rattle.ig_rule.specs.QueueSteps.{Holds, IsShifted, SameOutside, Shifts, file_at-gone, holds, is_gone, is_new, is_same, move_shifts, move_within, moved_is, queue_of-fits}
use Rattle.ig_rule.specs.SoundFiles.{none_there, some_there}
use Rattle.ig_rule.specs.SoundNames.{records_same}
use Rattle.ig_rule.specs.Stages.{Clear, Records, stages_in}
use Rattle.ig_task.specs.Facts.{stage_reader}
use Rattle.ig_worker.specs.Finishing.Going.{AllKnown, IsKept, IsRun}
use Rattle.ig_defs.specs.Answers.{act_if}
use Rattle.ig_worker.specs.Finishing.CanFinish.{IsAhead}
use Rattle.ig_worker.specs.Stages.{Known}

-- ---- a queue
-- Its records, its seals and its dead letters are as they were.
pub record IsQueueKept (q : List ℕ) (old new : Files) : Type 0 where
  pub records : (n : ℕ) → queue_of q new (Record n) ≡ queue_of q old (Record n)
  pub seals : (n : ℕ) → queue_of q new (Seal n) ≡ queue_of q old (Seal n)
  pub letters : (id : TaskId) → queue_of q new (Dead id) ≡ queue_of q old (Dead id)

-- one that is as it was
pub queue_kept : (q : List ℕ) (old new : Files) → queue_of q new ≡ queue_of q old → IsQueueKept q old new
queue_kept q old new same = record {
  records = λ n. ap (λ (u : Queue). u (Record n)) same;
  seals = λ n. ap (λ (u : Queue). u (Seal n)) same;
  letters = λ id. ap (λ (u : Queue). u (Dead id)) same;
}

-- Kept is kept back.
pub kept_back : (q : List ℕ) (old new : Files) → IsQueueKept q old new → IsQueueKept q new old
kept_back q old new h = record { records = λ n. sym (h.records n); seals = λ n. sym (h.seals n); letters = λ id. sym (h.letters id) }

stages_same : (q : List ℕ) (old new : Files) → IsQueueKept q old new → stages_in stage_reader q new ≡ stages_in stage_reader q old
stages_same q old new h = records_same stage_reader (queue_of q old) (queue_of q new) h.records

-- the same stages are recorded
pub stage_was : (q : List ℕ) (old new : Files) → IsQueueKept q old new → (n : ℕ) (t : Facts) → stages_in stage_reader q new n ≡ Some t → stages_in stage_reader q old n ≡ Some t
stage_was q old new h n t is = sym (ap (λ (r : Records). r n) (stages_same q old new h)) ∙ is

-- What a worker by itself keeps stays,
pub kept_on : (q : List ℕ) (first old new : Files) (known : Known) → IsQueueKept q old new → IsKept q first old known → IsKept q first new known
kept_on q first old new known same h = record {
  records = λ n. same.records n ∙ h.records n;
  sealed = λ n t is. subst (λ (o : Option (List ℕ)). IsSome o) (sym (same.seals n)) (h.sealed n t (stage_was q old new same n t is));
  no_letters = λ id. same.letters id ∙ h.no_letters id;
  known = h.known;
}

-- and that all recorded stages are known,
pub all_on : (q : List ℕ) (old new : Files) (known : Known) → IsQueueKept q old new → AllKnown q old known → AllKnown q new known
all_on q old new known same all = λ n t is. all n t (stage_was q old new same n t is)

-- and that a name is ahead, under another name of its stage,
pub ahead_as : (q : List ℕ) (old new : Files) → IsQueueKept q old new → (name other : QueueName) → name.stage ≡ other.stage → IsSome (queue_of q new (Queued other)) → IsAhead q old name → IsAhead q new other
ahead_as q old new same name other of there h =
    let e = stages_same q old new same in
    record {
      there = there;
      stage = h.stage;
      is = subst (λ (n : ℕ). stages_in stage_reader q new n ≡ Some h.stage) of (ap (λ (r : Records). r name.stage) e ∙ h.is);
      clear = subst (λ (n : ℕ). Clear (stages_in stage_reader q new) n h.stage) of (subst (λ (r : Records). Clear r name.stage h.stage) (sym e) h.clear);
    }

-- or its own, where it is there.
pub ahead_on : (q : List ℕ) (old new : Files) → IsQueueKept q old new → (name : QueueName) → IsSome (queue_of q new (Queued name)) → IsAhead q old name → IsAhead q new name
ahead_on q old new same name there h = ahead_as q old new same name name refl there h

stage_on : (q : List ℕ) (old new : Files) → IsQueueKept q old new → (n : ℕ) (t : Facts) → stages_in stage_reader q old n ≡ Some t → stages_in stage_reader q new n ≡ Some t
stage_on q old new same = stage_was q new old (kept_back q old new same)

clear_on : (q : List ℕ) (old new : Files) → IsQueueKept q old new → (n : ℕ) (t : Facts) → Clear (stages_in stage_reader q old) n t → Clear (stages_in stage_reader q new) n t
clear_on q old new same n t clear = subst (λ (r : Records). Clear r n t) (sym (stages_same q old new same)) clear

-- One that was ahead is run, where it is gone and its task is done,
pub run_from : (q : List ℕ) (old new : Files) → IsQueueKept q old new → (name : QueueName) → queue_of q new (Queued name) ≡ None → IsSome (queue_of q new (Done (task_of name))) → IsAhead q old name → IsRun q new name
run_from q old new same name gone done h = record {
  fits = (holds q old (Queued name) h.there).fit;
  gone = gone;
  done = done;
  stage = h.stage;
  is = stage_on q old new same name.stage h.stage h.is;
  clear = clear_on q old new same name.stage h.stage h.clear;
}

-- and so is one that was run.
pub run_on : (q : List ℕ) (old new : Files) → IsQueueKept q old new → (name : QueueName) → queue_of q new (Queued name) ≡ None → IsSome (queue_of q new (Done (task_of name))) → IsRun q old name → IsRun q new name
run_on q old new same name gone done h = record {
  fits = h.fits;
  gone = gone;
  done = done;
  stage = h.stage;
  is = stage_on q old new same name.stage h.stage h.is;
  clear = clear_on q old new same name.stage h.stage h.clear;
}

-- where it is there again, it is ahead
ahead_again : (q : List ℕ) (old new : Files) → IsQueueKept q old new → (name : QueueName) → IsSome (queue_of q new (Queued name)) → IsRun q old name → IsAhead q new name
ahead_again q old new same name there h =
    record { there = there; stage = h.stage; is = stage_on q old new same name.stage h.stage h.is; clear = clear_on q old new same name.stage h.stage h.clear }

-- ---- the move of a name
-- the name of a task that is queued or done
abbrev pub is_live : QueueFile → Bool
is_live (Record stage) = false
is_live (Seal stage) = false
is_live (Queued name) = true
is_live (Dead task) = false
is_live (Done task) = true

-- the name has become this one, and nothing else has changed
pub record IsTurned (q : List ℕ) (old new : Files) (name : QueueName) (y : QueueFile) : Type 0 where
  pub bytes : List ℕ
  pub shifts : Shifts (Queued name) y bytes (queue_of q old) (queue_of q new)
  pub gone : queue_of q new (Queued name) ≡ None
  pub same : SameOutside q old new

move_gone : (q : List ℕ) (old : Files) (x y : QueueFile) (bytes : List ℕ) → fits x ≡ true → fits y ≡ true → (x ≡ y → ⊥) → queue_of q (maps.insert (maps.remove old (path_of q x)) (path_of q y) bytes) x ≡ None
move_gone q old x y bytes fit fitting differ =
    queue_of-fits q (maps.insert (maps.remove old (path_of q x)) (path_of q y) bytes) x fit
    ∙ file_at-other (maps.remove old (path_of q x)) (path_of q x) (path_of q y) bytes (λ e. differ (path_is q x y fit fitting e))
    ∙ file_at-gone old (path_of q x) (path_of q x) refl

turned_by : (q : List ℕ) (old : Files) (name : QueueName) (y : QueueFile) → (h : Holds q old (Queued name)) → fits y ≡ true → (Queued name ≡ y → ⊥)
    → IsTurned q old (after old (act.Move (path_of q (Queued name)) (path_of q y))) name y
turned_by q old name y h fitting differ =
    subst (λ (new : Files). IsTurned q old new name y) (sym (moved_is q old (Queued name) y h))
    (record {
      bytes = h.bytes;
      shifts = move_shifts q old (Queued name) y h fitting;
      gone = move_gone q old (Queued name) y h.bytes h.fit fitting differ;
      same = move_within q old (Queued name) y h.bytes;
    })

turned : (q : List ℕ) (old : Files) (name : QueueName) (y : QueueFile) → IsSome (queue_of q old (Queued name)) → fits y ≡ true → (Queued name ≡ y → ⊥)
    → IsTurned q old (after old (act.Move (path_of q (Queued name)) (path_of q y))) name y
turned q old name y there fitting differ = turned_by q old name y (holds q old (Queued name) there) fitting differ

-- by the call that moves a name that is there
pub moved_on : (q : List ℕ) (old new : Files) (name : QueueName) (y : QueueFile) (a : Act) (there : Bool) → IsSome (queue_of q old (Queued name)) → fits y ≡ true → (Queued name ≡ y → ⊥)
    → a ≡ act_if there (act.Move (path_of q (Queued name)) (path_of q y)) (path_of q (Queued name)) → there ≡ is_some (file_at old (path_of q (Queued name))) → new ≡ after old a
    → IsTurned q old new name y × (there ≡ true)
moved_on q old new name y a there stands fitting differ is_act is files =
    let from = path_of q (Queued name) in
    let move = act.Move from (path_of q y) in
    let was : there ≡ true = is ∙ ap (λ (o : Option (List ℕ)). is_some o) (holds q old (Queued name) stands).stands in
    let moves : a ≡ move = is_act ∙ ap (λ (b : Bool). act_if b move from) was in
    (subst (λ (f : Files). IsTurned q old f name y) (sym (files ∙ ap (after old) moves)) (turned q old name y stands fitting differ), was)

others_kept : (name : QueueName) (y z : QueueFile) (old new : Queue) → is_live y ≡ true → is_live z ≡ false → IsShifted (Queued name) y z old new → new z ≡ old z
others_kept name y z old new live other (is_new e) = absurd (true≢false (sym live ∙ ap is_live (sym e) ∙ other))
others_kept name y z old new live other (is_gone e none) = absurd (true≢false (ap is_live (sym e) ∙ other))
others_kept name y z old new live other (is_same e) = e

-- names are told apart by their files
pub some_name : (x y : QueueName) → Queued x ≡ Queued y → x ≡ y
some_name x y e = cc

module _ (q : List ℕ) (old new : Files) (name : QueueName) (y : QueueFile) (live : is_live y ≡ true) (t : IsTurned q old new name y) where
  -- the records, the seals and the dead letters are as they were
  pub turned_kept : IsQueueKept q old new
  turned_kept = record {
    records = λ n. others_kept name y (Record n) (queue_of q old) (queue_of q new) live refl (t.shifts.others (Record n));
    seals = λ n. others_kept name y (Seal n) (queue_of q old) (queue_of q new) live refl (t.shifts.others (Seal n));
    letters = λ id. others_kept name y (Dead id) (queue_of q old) (queue_of q new) live refl (t.shifts.others (Dead id));
  }

  -- a name that was ahead is so still, or it is this one, and gone,
  pub turned_only : (x : QueueName) → IsAhead q old x → IsAhead q new x ⊎ ((x ≡ name) × (queue_of q new (Queued x) ≡ None))
  turned_only x h = by_place (t.shifts.others (Queued x))
    where
      by_place : IsShifted (Queued name) y (Queued x) (queue_of q old) (queue_of q new) → IsAhead q new x ⊎ ((x ≡ name) × (queue_of q new (Queued x) ≡ None))
      by_place (is_new e) = inl (ahead_on q old new turned_kept x (some_there (queue_of q new (Queued x)) t.bytes (ap (queue_of q new) e ∙ t.shifts.at)) h)
      by_place (is_gone e none) = inr (some_name x name e, none)
      by_place (is_same e) = inl (ahead_on q old new turned_kept x (subst (λ (o : Option (List ℕ)). IsSome o) (sym e) h.there) h)

  -- a done task is done still,
  turned_done : (id : TaskId) → IsSome (queue_of q old (Done id)) → IsSome (queue_of q new (Done id))
  turned_done id there = by_place (t.shifts.others (Done id))
    where
      by_place : IsShifted (Queued name) y (Done id) (queue_of q old) (queue_of q new) → IsSome (queue_of q new (Done id))
      by_place (is_new e) = some_there (queue_of q new (Done id)) t.bytes (ap (queue_of q new) e ∙ t.shifts.at)
      by_place (is_gone e none) = absurd (cc)
      by_place (is_same e) = subst (λ (o : Option (List ℕ)). IsSome o) (sym e) there

  -- and its name is gone still, or is the new one.
  pub turned_run : (x : QueueName) → IsRun q old x → IsAhead q new x ⊎ IsRun q new x
  turned_run x h = by_place (t.shifts.others (Queued x))
    where
      still : queue_of q new (Queued x) ≡ None → IsRun q new x
      still none = run_on q old new turned_kept x none (turned_done (task_of x) h.done) h

      by_place : IsShifted (Queued name) y (Queued x) (queue_of q old) (queue_of q new) → IsAhead q new x ⊎ IsRun q new x
      by_place (is_new e) = inl (ahead_again q old new turned_kept x (some_there (queue_of q new (Queued x)) t.bytes (ap (queue_of q new) e ∙ t.shifts.at)) h)
      by_place (is_gone e none) = inr (still none)
      by_place (is_same e) = inr (still (e ∙ h.gone))

  -- One that is ahead now is the new one, or is another that was ahead.
  pub turned_each : (x : QueueName) → IsAhead q new x → (y ≡ Queued x) ⊎ (IsAhead q old x × (name ≡ x → ⊥))
  turned_each x h = by_place (t.shifts.others (Queued x))
    where
      by_place : IsShifted (Queued name) y (Queued x) (queue_of q old) (queue_of q new) → (y ≡ Queued x) ⊎ (IsAhead q old x × (name ≡ x → ⊥))
      by_place (is_new e) = inl (sym e)
      by_place (is_gone e none) = absurd (none_there (queue_of q new (Queued x)) h.there none)
      by_place (is_same e) = inr (
        ahead_on q new old (kept_back q old new turned_kept) x (subst (λ (o : Option (List ℕ)). IsSome o) e h.there) h,
        λ same. none_there (queue_of q new (Queued x)) h.there (ap (λ (n : QueueName). queue_of q new (Queued n)) (sym same) ∙ t.gone),
      )
