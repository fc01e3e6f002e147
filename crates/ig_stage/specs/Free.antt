-- What a maker knows of the place of a new stage once it has looked: this project's own.
use Rattle.std.specs.Prelude.{◌≡◌, ℕ, List, None, Some, Ok, Contains}
use Rattle.ig_defs.specs.Files.{Files, file_at}
use Rattle.ig_meaning.specs.Making.{fresh_info}
use Rattle.ig_meaning.specs.Plan.{planned}
use Rattle.ig_meaning.specs.Words.{Request}
use Rattle.ig_record.specs.Columns.{output_dirs}
use Rattle.ig_record.specs.declared.stage.InfoFile.{InfoFile}
use Rattle.ig_record.specs.declared.stage.Stage.{Stage}
use Rattle.ig_rule.specs.Dirs.{LiesIn}
use Rattle.ig_rule.specs.Facts.{LiesInOne}
use Rattle.ig_rule.specs.QueueFiles.{IsApartFrom}
use Rattle.ig_stage.specs.Open.{maker_rule}
use Rattle.ig_task.specs.Maker.{IsPathOfNone, KnowsStages}
use Rattle.ig_task.specs.declared.pipeline.Pipeline.{Pipeline}

-- after these stages the request plans the stage, by the bytes of some info
pub record IsPlanned (earlier : List Stage) (request : Request) (s : Stage) : Type 0 where
  pub bytes : List ℕ
  pub is : planned earlier request bytes ≡ Ok s

-- A maker works in this queue, and knows its stages.
pub record KnowsQueue (rule : Pipeline) (q : List ℕ) (stages : List Stage) (files : Files) : Type 0 where
  pub is : rule ≡ maker_rule q
  pub knows : KnowsStages q stages files

-- no file lies directly in the directory, but of the queue or of its stages
abbrev pub IsEmptyDir : List ℕ → List Stage → List ℕ → Files → Type 0
IsEmptyDir q stages dir files = (path : List ℕ) → LiesIn dir path → IsApartFrom q path → IsPathOfNone stages path → file_at files path ≡ None

-- these directories are so
abbrev pub AreEmptyDirs : List ℕ → List Stage → List (List ℕ) → Files → Type 0
AreEmptyDirs q stages dirs files = (dir : List ℕ) → Contains dirs dir → IsEmptyDir q stages dir files

-- no file stands at the path of its info, where that has to be new
abbrev pub HasNoInfo : Stage → Files → Type 0
HasNoInfo s files = (info : InfoFile) → fresh_info s ≡ Some info → file_at files info.path ≡ None

-- The stages of the queue are known, the new stage's info is not there, where it has to be new, and no file lies directly in its
-- output directories.
pub record IsFree (q : List ℕ) (stages : List Stage) (s : Stage) (files : Files) : Type 0 where
  pub knows : KnowsStages q stages files
  pub no_info : HasNoInfo s files
  pub empty : (path : List ℕ) → LiesInOne (output_dirs s) path → file_at files path ≡ None
