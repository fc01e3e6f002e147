-- What a new stage needs to be recorded.
use Rattle.std.specs.Prelude.{◌≡◌, ◌≢◌, ◌<◌, ℕ, true, List, None, Some, Contains}
use Rattle.ig_defs.specs.Files.{Files, file_at}
use Rattle.ig_defs.specs.Own.{File}
use Rattle.ig_rule.specs.Dirs.{IsOutside}
use Rattle.ig_rule.specs.QueueFiles.{Queue}
use Rattle.ig_rule.specs.Facts.{Facts, Pass, Uses, LiesInOne}
use Rattle.ig_rule.specs.Stages.{Records, Sealed, Finished}

-- What two stages keep of each other: they share no output directory, and neither's info lies directly in one of the other's.
pub record AreApart (s t : Facts) : Type 0 where
  pub outputs : (dir : List ℕ) → Contains s.outputs dir → Contains t.outputs dir → ⊥
  pub info : (info : File) → s.info ≡ Some info → LiesInOne t.outputs info.path → ⊥
  pub other_info : (info : File) → t.info ≡ Some info → LiesInOne s.outputs info.path → ⊥

-- No directory of the stage, and not its info, is the queue's directory or lies in it.
pub record IsOutsideQueue (q : List ℕ) (s : Facts) : Type 0 where
  pub source : IsOutside q s.source
  pub outputs : (dir : List ℕ) → Contains s.outputs dir → IsOutside q dir
  pub inputs : (dir : List ℕ) → Contains s.inputs dir → IsOutside q dir
  pub info : (info : File) → s.info ≡ Some info → IsOutside q info.path

-- The removal t removes neither the source of s nor one of its output directories.
pub record IsNotRemovedBy (s t : Facts) : Type 0 where
  pub source : t.source ≢ s.source
  pub outputs : (dir : List ℕ) → Contains s.outputs dir → t.source ≢ dir

-- A stage below number n is recorded that serves as this pass.
pub record HasPass (records : Records) (n : ℕ) (key : Pass) : Type 0 where
  pub number : ℕ
  pub stage : Facts
  pub below : number < n
  pub recorded : records number ≡ Some stage
  pub serves : stage.serves ≡ Some key

-- Stage m has room: its output directories hold no file, and its info is not there where it has to be new; its directories
-- are apart from those of recorded stages, from what they remove and from the queue; the pass that it builds on is recorded;
-- and each stage that uses what it removes is finished.
pub record Room (records : Records) (queue : Queue) (q : List ℕ) (files : Files) (m : ℕ) (s : Facts) : Type 0 where
  pub empty : (path : List ℕ) → LiesInOne s.outputs path → file_at files path ≡ None
  pub fresh_info : s.needs_fresh_info ≡ true → (info : File) → s.info ≡ Some info → file_at files info.path ≡ None
  pub apart : (n : ℕ) (t : Facts) → records n ≡ Some t → AreApart s t
  pub not_removed : (r : ℕ) (t : Facts) → records r ≡ Some t → t.removes ≡ true → IsNotRemovedBy s t
  pub outside : IsOutsideQueue q s
  pub pass : (key : Pass) → s.needs ≡ Some key → HasPass records m key
  pub unused : s.removes ≡ true → (n : ℕ) (t : Facts) → records n ≡ Some t → Uses t s.source → Sealed queue n × Finished queue n t
