-- Files of the stages stay sound where an act keeps them.
use Rattle.std.specs.Prelude.{◌≡◌, ◌⊎◌, ◌<◌, ℕ, false, List, Option, None, Some, IsSome, is_some, refl}
use Rattle.std.proofs.Common.{inl, inr, true≢false, ap, sym, subst, ◌∙◌}
use Rattle.ig_defs.specs.Files.{Files, file_at}
use Rattle.ig_rule.specs.QueueFiles.{QueueFile, Done, Queue, queue_of}
use Rattle.ig_rule.specs.Facts.{Facts, Reader, IsPath, LiesInOne}
use Rattle.ig_rule.specs.Stages.{Records, recorded, stages_in, task_id, IsSpared, Clear, HasWanted, Stands}
use Rattle.ig_rule.specs.Sound.{AreNumbered, AreSoundStages, AreSoundNames, AreSoundFiles, IsTask, IsWanted, Sound}
use Rattle.ig_rule.specs.Keeps.{KeepLaws, Keeps, one_stage}

-- a wanted text stays
pub wanted_kept : (records : Records) (old new : Files) → KeepLaws records → Keeps records old new → (n : ℕ) (s : Facts) → records n ≡ Some s → s.removes ≡ false → IsSpared records n s.source
    → (path bytes : List ℕ) → s.wanted (file_at old) path ≡ Some bytes → s.wanted (file_at new) path ≡ Some bytes
wanted_kept records old new laws keeps n s is makes spared path bytes e =
    (laws n s is).wanted_stays (file_at old) (file_at new) path bytes (keeps.chunks n s is makes spared) e

-- a file with the wanted text stays
pub has_wanted_kept : (records : Records) (old new : Files) → KeepLaws records → Keeps records old new → (n : ℕ) (s : Facts) → records n ≡ Some s → s.removes ≡ false → Clear records n s
    → (path : List ℕ) → IsPath s path → HasWanted old s path → HasWanted new s path
has_wanted_kept records old new laws keeps n s is makes clear path path_is h = record {
  bytes = h.bytes;
  wanted = wanted_kept records old new laws keeps n s is makes clear.source path h.bytes h.wanted;
  stands = keeps.stays n s is makes clear path h.bytes ((laws n s is).path_in makes path path_is) h.stands;
}

-- what a task makes stays
pub stands_kept : (records : Records) (old new : Files) → KeepLaws records → Keeps records old new → (n : ℕ) (s : Facts) → records n ≡ Some s → Clear records n s
    → (k : ℕ) → k < s.tasks → Stands old s k → Stands new s k
stands_kept records old new laws keeps n s is clear k below stands = record {
  made = λ makes path among. has_wanted_kept records old new laws keeps n s is makes clear path (record { task = k; below = below; among = among }) (stands.made makes path among);
  gone = λ removes path among. keeps.gone n s is removes path (record { task = k; below = below; among = among }) (stands.gone removes path among);
}

-- the outputs stay nothing but wanted texts
pub outputs_kept : (records : Records) (old new : Files) → KeepLaws records → Keeps records old new → (n : ℕ) (s : Facts) → records n ≡ Some s → s.removes ≡ false → IsSpared records n s.source
    → ((path bytes : List ℕ) → LiesInOne s.outputs path → file_at old path ≡ Some bytes → IsWanted s old path bytes)
    → (path bytes : List ℕ) → LiesInOne s.outputs path → file_at new path ≡ Some bytes → IsWanted s new path bytes
outputs_kept records old new laws keeps n s is makes spared outputs path bytes lies now = kept (by_time (keeps.added n s is makes path bytes lies now))
  where
    by_time : (file_at old path ≡ Some bytes) ⊎ IsWanted s old path bytes → IsWanted s old path bytes
    by_time (inl e) = outputs path bytes lies e
    by_time (inr w) = w

    kept : IsWanted s old path bytes → IsWanted s new path bytes
    kept w = record { path_is = w.path_is; text = wanted_kept records old new laws keeps n s is makes spared path bytes w.text }

-- a done task of a stage that is not under removal: its number is below the number of tasks, and what it makes stands
pub record IsDoneIn (files : Files) (s : Facts) (k : ℕ) : Type 0 where
  pub below : k < s.tasks
  pub stands : Stands files s k

abbrev pub DoneStand : Records → Queue → Files → Type 0
DoneStand records queue files = (n k : ℕ) (s : Facts) → records n ≡ Some s → Clear records n s → IsSome (queue (Done (task_id n k))) → IsDoneIn files s k

-- what a name there tells
pub record IsHeld (queue : Queue) (x : QueueFile) : Type 0 where
  pub bytes : List ℕ
  pub is : queue x ≡ Some bytes

pub is_held : (queue : Queue) (x : QueueFile) → IsSome (queue x) → IsHeld queue x
is_held queue x there = by_value (queue x) refl there
  where
    by_value : (o : Option (List ℕ)) → queue x ≡ o → IsSome o → IsHeld queue x
    by_value (Some bytes) e there = record { bytes = bytes; is = e }
    by_value None e there = absurd (cc)

pub some_there : (o : Option (List ℕ)) (bytes : List ℕ) → o ≡ Some bytes → IsSome o
some_there o bytes e = subst (λ p. IsSome p) (sym e) refl

pub none_there : (o : Option (List ℕ)) → IsSome o → o ≡ None → ⊥
none_there o there none = true≢false (sym there ∙ ap (λ (p : Option (List ℕ)). is_some p) none)

task_below : (records : Records) (n k : ℕ) (s : Facts) (bytes : List ℕ) → records n ≡ Some s → IsTask records (task_id n k) bytes → k < s.tasks
task_below records n k s bytes is t = subst (λ (u : Facts). k < u.tasks) (one_stage records n n t.stage s refl t.is is) t.below

pub done_stand : (records : Records) (queue : Queue) (files : Files) → AreSoundNames records queue → AreSoundFiles records queue files → DoneStand records queue files
done_stand records queue files names sound n k s is clear there =
    let h = is_held queue (Done (task_id n k)) there in
    record {
      below = task_below records n k s h.bytes is (names.tasks (Done (task_id n k)) (task_id n k) h.bytes refl h.is);
      stands = sound.done n k s is clear there;
    }

-- so the files stay sound
pub files_kept : (records : Records) (queue : Queue) (old new : Files) → KeepLaws records → Keeps records old new
    → ((n : ℕ) (s : Facts) → records n ≡ Some s → s.removes ≡ false → IsSpared records n s.source → (path bytes : List ℕ) → LiesInOne s.outputs path → file_at old path ≡ Some bytes → IsWanted s old path bytes)
    → DoneStand records queue old → AreSoundFiles records queue new
files_kept records queue old new laws keeps outputs done = record {
  outputs = λ n s is makes spared. outputs_kept records old new laws keeps n s is makes spared (outputs n s is makes spared);
  done = λ n k s is clear there. let d = done n k s is clear there in stands_kept records old new laws keeps n s is clear k d.below d.stands;
}

-- ---- acts outside the queue

sound_of_same : (read : Reader) (q : List ℕ) (new : Files) (queue : Queue) → queue_of q new ≡ queue
    → AreNumbered (recorded read queue) queue → AreSoundStages q (recorded read queue) → AreSoundNames (recorded read queue) queue → AreSoundFiles (recorded read queue) queue new → Sound read q new
sound_of_same read q new queue e numbered stages names files = record {
  numbered = subst (λ p. AreNumbered (recorded read p) p) (sym e) numbered;
  stages = subst (λ p. AreSoundStages q (recorded read p)) (sym e) stages;
  names = subst (λ p. AreSoundNames (recorded read p) p) (sym e) names;
  outputs = subst (λ p. AreSoundFiles (recorded read p) p new) (sym e) files;
}

pub sound_outside : (read : Reader) (q : List ℕ) (old new : Files) → KeepLaws (stages_in read q old) → Keeps (stages_in read q old) old new
    → queue_of q new ≡ queue_of q old → Sound read q old → Sound read q new
sound_outside read q old new laws keeps same sound =
    let records = stages_in read q old in
    sound_of_same read q new (queue_of q old) same sound.numbered sound.stages sound.names
    (files_kept records (queue_of q old) old new laws keeps sound.outputs.outputs (done_stand records (queue_of q old) old sound.names sound.outputs))
