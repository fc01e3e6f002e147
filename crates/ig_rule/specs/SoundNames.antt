-- Puts of task names and of seals, and moves of task names, keep the files of a queue sound.
use Rattle.std.specs.Prelude.{◌≡◌, ◌⊎◌, ◌≤◌, ◌<◌, ℕ, List, Option, None, Some, IsSome, option_and_then, refl}
use Rattle.std.proofs.Common.{inl, inr, ap, sym, subst, ◌∙◌}
use Rattle.std.proofs.lemmas.Option.{same_Some}
use Rattle.ig_space.specs.declared.task_id.TaskId.{TaskId}
use Rattle.ig_defs.specs.Files.{Files}
use Rattle.ig_rule.specs.QueueFiles.{QueueFile, Record, Seal, Queued, Done, named_task, Queue, queue_of}
use Rattle.ig_rule.specs.Facts.{Facts, Reader}
use Rattle.ig_rule.specs.Stages.{Records, recorded, stages_in, task_id, Sealed, Named}
use Rattle.ig_rule.specs.Rule.{PutsTask, PutsSeal, fresh_name}
use Rattle.ig_rule.specs.Sound.{AreNumbered, AreSoundStages, AreSoundNames, AreSoundFiles, IsTask, Sound}
use Rattle.ig_rule.specs.QueueSteps.{Sets}
use Rattle.ig_rule.specs.Keeps.{one_stage}
use Rattle.ig_rule.specs.SoundFiles.{some_there, none_there, DoneStand}

-- ---- parts of soundness

-- the recorded stages are the same where the records are
pub records_same : (read : Reader) (old new : Queue) → ((n : ℕ) → new (Record n) ≡ old (Record n)) → recorded read new ≡ recorded read old
records_same read old new same = λ i n. option_and_then (read n) (same n i)

pub sound_by_parts : (read : Reader) (q : List ℕ) (new : Files) (records : Records) → stages_in read q new ≡ records → AreNumbered records (queue_of q new) → AreSoundStages q records
    → AreSoundNames records (queue_of q new) → AreSoundFiles records (queue_of q new) new → Sound read q new
sound_by_parts read q new records e numbered stages names files = record {
  numbered = subst (λ p. AreNumbered p (queue_of q new)) (sym e) numbered;
  stages = subst (AreSoundStages q) (sym e) stages;
  names = subst (λ p. AreSoundNames p (queue_of q new)) (sym e) names;
  outputs = subst (λ p. AreSoundFiles p (queue_of q new) new) (sym e) files;
}

id_is : (x y : TaskId) → ◌≡◌ {A = Option TaskId} (Some x) (Some y) → x ≡ y
id_is x y e = cc

-- a file of the queue that is no task's name is none that is
pub not_a_name : (z x : QueueFile) (id : TaskId) → named_task z ≡ None → named_task x ≡ Some id → z ≡ x → ⊥
not_a_name z x id a b e = let both : None ≡ Some id = sym a ∙ ap named_task e ∙ b in absurd (cc)

-- where only task names change, the stages stay numbered
abbrev pub OnlyNames : Queue → Queue → Type 0
OnlyNames old new = (z : QueueFile) → named_task z ≡ None → new z ≡ old z

pub numbered_same : (records : Records) (old new : Queue) → OnlyNames old new → AreNumbered records old → AreNumbered records new
numbered_same records old new only h = record {
  count = h.count;
  present = h.present;
  no_more = λ n more. only (Record n) refl ∙ h.no_more n more;
  sealed = λ n below. subst (λ o. IsSome o) (sym (only (Seal n) refl)) (h.sealed n below);
  no_seal = λ n more. only (Seal n) refl ∙ h.no_seal n more;
}

-- where tasks keep names and done names, the names stay sound
pub names_kept : (records : Records) (old new : Queue) → OnlyNames old new
    → ((x : QueueFile) (id : TaskId) (bytes : List ℕ) → named_task x ≡ Some id → new x ≡ Some bytes → IsTask records id bytes)
    → ((id : TaskId) → Named old id → Named new id) → ((id : TaskId) → IsSome (old (Done id)) → IsSome (new (Done id)))
    → AreSoundNames records old → AreSoundNames records new
names_kept records old new only tasks stay done h = record {
  tasks = tasks;
  named = λ n k s is sealed below. stay (task_id n k) (h.named n k s is (subst (λ o. IsSome o) (only (Seal n) refl) sealed) below);
  before_removal = λ n r s t less is is' removes uses k below. done (task_id n k) (h.before_removal n r s t less is is' removes uses k below);
}

-- ---- a file of the queue is set

-- what was there is there
pub set_there : (x : QueueFile) (bytes : List ℕ) (old new : Queue) → Sets x bytes old new → (z : QueueFile) → IsSome (old z) → IsSome (new z)
set_there x bytes old new sets z there = by_place (sets.others z)
  where
    by_place : (z ≡ x) ⊎ (new z ≡ old z) → IsSome (new z)
    by_place (inl e) = some_there (new z) bytes (ap new e ∙ sets.at)
    by_place (inr e) = subst (λ o. IsSome o) (sym e) there

pub set_named : (x : QueueFile) (bytes : List ℕ) (old new : Queue) → Sets x bytes old new → (id : TaskId) → Named old id → Named new id
set_named x bytes old new sets id h = record { name = h.name; is_of = h.is_of; there = set_there x bytes old new sets h.name h.there }

-- ---- a put of a task name

abbrev fresh : ℕ → ℕ → QueueFile
fresh n k = Queued (fresh_name (task_id n k))

put_only : (n k : ℕ) (bytes : List ℕ) (old new : Queue) → Sets (fresh n k) bytes old new → OnlyNames old new
put_only n k bytes old new sets z none = by_place (sets.others z)
  where
    by_place : (z ≡ fresh n k) ⊎ (new z ≡ old z) → new z ≡ old z
    by_place (inl e) = absurd (not_a_name z (fresh n k) (task_id n k) none refl e)
    by_place (inr e) = e

put_tasks : (records : Records) (n k : ℕ) (bytes : List ℕ) (old new : Queue) → Sets (fresh n k) bytes old new → IsTask records (task_id n k) bytes → AreSoundNames records old
    → (x : QueueFile) (id : TaskId) (held : List ℕ) → named_task x ≡ Some id → new x ≡ Some held → IsTask records id held
put_tasks records n k bytes old new sets is h x id held of there = by_place (sets.others x)
  where
    by_place : (x ≡ fresh n k) ⊎ (new x ≡ old x) → IsTask records id held
    by_place (inl e) =
        let ids : task_id n k ≡ id = id_is (task_id n k) id (sym (ap named_task e) ∙ of) in
        let text : bytes ≡ held = same_Some bytes held (sym sets.at ∙ ap new (sym e) ∙ there) in
        subst (λ b. IsTask records id b) text (subst (λ t. IsTask records t bytes) ids is)
    by_place (inr e) = h.tasks x id held of (sym e ∙ there)

put_done : (n k : ℕ) (bytes : List ℕ) (old new : Queue) → Sets (fresh n k) bytes old new → (id : TaskId) → IsSome (new (Done id)) → IsSome (old (Done id))
put_done n k bytes old new sets id there = by_place (sets.others (Done id))
  where
    by_place : (Done id ≡ fresh n k) ⊎ (new (Done id) ≡ old (Done id)) → IsSome (old (Done id))
    by_place (inl e) = absurd (cc)
    by_place (inr e) = subst (λ o. IsSome o) e there

-- what soundness says of a queue's names and numbers, and of its done tasks
pub record AreKept (records : Records) (queue : Queue) (files : Files) : Type 0 where
  pub numbered : AreNumbered records queue
  pub names : AreSoundNames records queue
  pub done : DoneStand records queue files

pub put_task_kept : (records : Records) (q path bytes : List ℕ) (old new : Queue) (files : Files) → (u : PutsTask records old q path bytes) → Sets (fresh u.number u.task) bytes old new
    → AreKept records old files → AreKept records new files
put_task_kept records q path bytes old new files u sets h =
    let only = put_only u.number u.task bytes old new sets in
    record {
      numbered = numbered_same records old new only h.numbered;
      names = names_kept records old new only
          (put_tasks records u.number u.task bytes old new sets (record { stage = u.stage; is = u.last.is; below = u.below; text = u.text }) h.names)
          (set_named (fresh u.number u.task) bytes old new sets) (λ id. set_there (fresh u.number u.task) bytes old new sets (Done id)) h.names;
      done = λ n k s is clear there. h.done n k s is clear (put_done u.number u.task bytes old new sets (task_id n k) there);
    }

-- ---- a put of a seal

seal_other : (n : ℕ) (bytes : List ℕ) (old new : Queue) → Sets (Seal n) bytes old new → (z : QueueFile) → (z ≡ Seal n → ⊥) → new z ≡ old z
seal_other n bytes old new sets z other = by_place (sets.others z)
  where
    by_place : (z ≡ Seal n) ⊎ (new z ≡ old z) → new z ≡ old z
    by_place (inl e) = absurd (other e)
    by_place (inr e) = e

record_no_seal : (m n : ℕ) → Record m ≡ Seal n → ⊥
record_no_seal m n e = absurd (cc)

done_no_seal : (id : TaskId) (n : ℕ) → Done id ≡ Seal n → ⊥
done_no_seal id n e = absurd (cc)

seal_is : (m n : ℕ) → Seal m ≡ Seal n → m ≡ n
seal_is m n e = cc

-- a recorded stage has a record
pub has_record : (read : Reader) (queue : Queue) (n : ℕ) (s : Facts) → recorded read queue n ≡ Some s → IsSome (queue (Record n))
has_record read queue n s is = by_text (queue (Record n)) refl is
  where
    by_text : (o : Option (List ℕ)) → queue (Record n) ≡ o → option_and_then (read n) o ≡ Some s → IsSome o
    by_text (Some text) e is = refl
    by_text None e is = absurd (cc)

seal_numbered : (read : Reader) (n : ℕ) (s : Facts) (bytes : List ℕ) (old new : Queue) → Sets (Seal n) bytes old new → recorded read old n ≡ Some s
    → AreNumbered (recorded read old) old → AreNumbered (recorded read old) new
seal_numbered read n s bytes old new sets is h = record {
  count = h.count;
  present = h.present;
  no_more = λ m more. seal_other n bytes old new sets (Record m) (record_no_seal m n) ∙ h.no_more m more;
  sealed = λ m below. set_there (Seal n) bytes old new sets (Seal m) (h.sealed m below);
  no_seal = λ m more. seal_other n bytes old new sets (Seal m) (not_this m more) ∙ h.no_seal m more;
}
  where
    not_this : (m : ℕ) → h.count ≤ m → Seal m ≡ Seal n → ⊥
    not_this m more e =
        let none : old (Record n) ≡ None = ap (λ l. old (Record l)) (sym (seal_is m n e)) ∙ h.no_more m more in
        none_there (old (Record n)) (has_record read old n s is) none

-- each task of a sealed stage is named
seal_named : (read : Reader) (q : List ℕ) (files : Files) (path bytes : List ℕ) (old new : Queue) → (u : PutsSeal (recorded read old) old q files path bytes) → Sets (Seal u.number) bytes old new
    → AreSoundNames (recorded read old) old → (n k : ℕ) (s : Facts) → recorded read old n ≡ Some s → Sealed new n → k < s.tasks → Named new (task_id n k)
seal_named read q files path bytes old new u sets h n k s is sealed below = set_named (Seal u.number) bytes old new sets (task_id n k) (by_place (sets.others (Seal n)))
  where
    by_place : (Seal n ≡ Seal u.number) ⊎ (new (Seal n) ≡ old (Seal n)) → Named old (task_id n k)
    by_place (inl e) =
        let number : u.number ≡ n = sym (seal_is n u.number e) in
        let stage : s ≡ u.stage = one_stage (recorded read old) n u.number s u.stage (sym number) is u.last.is in
        subst (λ m. Named old (task_id m k)) number (u.named k (subst (λ (t : Facts). k < t.tasks) stage below))
    by_place (inr e) = h.named n k s is (subst (λ o. IsSome o) e sealed) below

pub put_seal_kept : (read : Reader) (q path bytes : List ℕ) (old new : Queue) (files : Files) → (u : PutsSeal (recorded read old) old q files path bytes) → Sets (Seal u.number) bytes old new
    → AreKept (recorded read old) old files → AreKept (recorded read old) new files
put_seal_kept read q path bytes old new files u sets h = record {
  numbered = seal_numbered read u.number u.stage bytes old new sets u.last.is h.numbered;
  names = record {
    tasks = λ x id held of there. h.names.tasks x id held of (sym (seal_other u.number bytes old new sets x (no_name x id of)) ∙ there);
    named = seal_named read q files path bytes old new u sets h.names;
    before_removal = λ n r s t less is is' removes uses k below. set_there (Seal u.number) bytes old new sets (Done (task_id n k)) (h.names.before_removal n r s t less is is' removes uses k below);
  };
  done = λ n k s is clear there. h.done n k s is clear (subst (λ o. IsSome o) (seal_other u.number bytes old new sets (Done (task_id n k)) (done_no_seal (task_id n k) u.number)) there);
}
  where
    no_name : (x : QueueFile) (id : TaskId) → named_task x ≡ Some id → x ≡ Seal u.number → ⊥
    no_name x id of e = not_a_name (Seal u.number) x id refl of (sym e)
