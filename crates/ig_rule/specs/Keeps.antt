-- What each allowed act keeps of the files of the stages.
use Rattle.std.specs.Prelude.{◌≡◌, ◌≢◌, ◌⊎◌, ℕ, true, false, List, Option, None, Some, option_and_then}
use Rattle.std.proofs.Common.{inl, inr, true≢false, ap, sym, ◌∙◌}
use Rattle.ig_defs.specs.Files.{Files, file_at}
use Rattle.ig_rule.specs.QueueFiles.{Record, Queue, IsApartFrom}
use Rattle.ig_rule.specs.Facts.{Facts, Reader, IsPath, KeepsChunks, LiesInOne, StageLaws, KindLaws}
use Rattle.ig_rule.specs.Stages.{Records, recorded, IsSpared, Clear}
use Rattle.ig_rule.specs.Room.{IsOutsideQueue}
use Rattle.ig_rule.specs.Sound.{IsWanted}
use Rattle.ig_rule.specs.QueuePaths.{no_queue_path}
use Rattle.ig_rule.specs.QueueSteps.{SameOutside}

-- each recorded stage keeps the laws of its kind
abbrev pub KeepLaws : Records → Type 0
KeepLaws records = (n : ℕ) (s : Facts) → records n ≡ Some s → StageLaws s

pub keep_laws : (read : Reader) → KindLaws read → (queue : Queue) → KeepLaws (recorded read queue)
keep_laws read laws queue n s is = by_text (queue (Record n)) is
  where
    by_text : (o : Option (List ℕ)) → option_and_then (read n) o ≡ Some s → StageLaws s
    by_text (Some text) e = laws.stage n text s e
    by_text None e = absurd (cc)

-- What becomes of the files of the recorded stages.
pub record Keeps (records : Records) (old new : Files) : Type 0 where
  -- a source chunk stays, where the source is spared
  pub chunks : (n : ℕ) (s : Facts) → records n ≡ Some s → s.removes ≡ false → IsSpared records n s.source → KeepsChunks s (file_at old) (file_at new)
  -- a file in an output directory stays, where the stage is not under removal
  pub stays : (n : ℕ) (s : Facts) → records n ≡ Some s → s.removes ≡ false → Clear records n s
      → (path bytes : List ℕ) → LiesInOne s.outputs path → file_at old path ≡ Some bytes → file_at new path ≡ Some bytes
  -- one that is there now was there, or is wanted
  pub added : (n : ℕ) (s : Facts) → records n ≡ Some s → s.removes ≡ false
      → (path bytes : List ℕ) → LiesInOne s.outputs path → file_at new path ≡ Some bytes → (file_at old path ≡ Some bytes) ⊎ IsWanted s old path bytes
  -- what a removal removed does not come back
  pub gone : (n : ℕ) (s : Facts) → records n ≡ Some s → s.removes ≡ true → (path : List ℕ) → IsPath s path → file_at old path ≡ None → file_at new path ≡ None

-- a number has one stage
pub one_stage : (records : Records) (n m : ℕ) (s t : Facts) → n ≡ m → records n ≡ Some s → records m ≡ Some t → s ≡ t
one_stage records n m s t e a b = let both : Some s ≡ Some t = sym a ∙ ap records e ∙ b in cc

-- a stage that removes and one that does not have other numbers
pub other_number : (records : Records) (n m : ℕ) (s t : Facts) → records n ≡ Some s → records m ≡ Some t → s.removes ≡ true → t.removes ≡ false → n ≢ m
other_number records n m s t a b removes makes e =
    true≢false (sym removes ∙ ap (λ (u : Facts). u.removes) (one_stage records n m s t e a b) ∙ makes)

-- ---- acts that touch no chunk and no output directory

-- the path is a chunk of the stage, or lies in one of its output directories
abbrev pub IsFileOf : Facts → List ℕ → Type 0
IsFileOf s path = (s.is_chunk path ≡ true) ⊎ LiesInOne s.outputs path

pub keeps_same : (records : Records) (old new : Files) → KeepLaws records
    → ((n : ℕ) (s : Facts) → records n ≡ Some s → (path : List ℕ) → IsFileOf s path → file_at new path ≡ file_at old path) → Keeps records old new
keeps_same records old new laws same = record {
  chunks = λ n s is makes spared. record { kept = λ path bytes chunk e. same n s is path (inl chunk) ∙ e };
  stays = λ n s is makes clear path bytes lies e. same n s is path (inr lies) ∙ e;
  added = λ n s is makes path bytes lies e. inl (sym (same n s is path (inr lies)) ∙ e);
  gone = λ n s is removes path path_is none. same n s is path (inl ((laws n s is).removed_chunk removes path path_is)) ∙ none;
}

-- the files of stages outside the queue are no files of the queue
apart_files : (q : List ℕ) (s : Facts) (path : List ℕ) → StageLaws s → IsOutsideQueue q s → IsFileOf s path → IsApartFrom q path
apart_files q s path laws outside (inl chunk) x e = no_queue_path q s.source path x outside.source (laws.chunk_in path chunk) e
apart_files q s path laws outside (inr lies) x e = no_queue_path q lies.dir path x (outside.outputs lies.dir lies.one) lies.lies e

-- acts on files of the queue
pub keeps_within : (q : List ℕ) (records : Records) (old new : Files) → KeepLaws records
    → ((n : ℕ) (s : Facts) → records n ≡ Some s → IsOutsideQueue q s) → SameOutside q old new → Keeps records old new
keeps_within q records old new laws outside same =
    keeps_same records old new laws (λ n s is path file. same path (apart_files q s path (laws n s is) (outside n s is) file))
