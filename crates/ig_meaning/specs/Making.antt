-- The making of a stage: what the own steps so far found before the first put, and the own steps after that. Each fact is taken in
-- the files at the own step that looks at it.
use Rattle.std.specs.Prelude.{ℕ, Bool, true, false, List, [], ◌∷◌, Option, None, Some, is_some, Result, Ok, Err}
use Rattle.std.specs.Str.{bytes_eq}
use Rattle.ig_space.specs.Path.{joined}
use Rattle.ig_defs.specs.declared.step.Act.{Act}
use Rattle.ig_defs.specs.declared.step.Act.TheVariants as act
use Rattle.ig_defs.specs.Files.{file_at}
use Rattle.ig_defs.specs.Own.{Moment}
use Rattle.ig_record.specs.declared.stage.Stage.{Stage}
use Rattle.ig_record.specs.declared.stage.InfoFile.{InfoFile}
use Rattle.ig_record.specs.Columns.{needs_fresh_info, output_dirs}
use Rattle.ig_meaning.specs.Refusal.{Refusal, Missing, NotEmpty}
use Rattle.ig_meaning.specs.Plan.{info_path, planned}
use Rattle.ig_meaning.specs.Taken.{unfit_after}
use Rattle.ig_meaning.specs.Words.{Request}

-- A stage is planned to be run by this process, or it is a new one of a queue with this number, or the last one of a queue, which
-- is not sealed yet.
pub data Making : Type 0 where
  Refused : (refusal : Refusal) → Making
  Unfinished : Making
  Planned : (s : Stage) → (after : List Moment) → Making
  New : (number : ℕ) → (s : Stage) → (after : List Moment) → Making
  Continues : (number : ℕ) → (s : Stage) → (after : List Moment) → Making

-- ---- where it looks
-- the own step reads this path
abbrev pub reads : List ℕ → Act → Bool
reads path (act.Read other) = bytes_eq path other
reads path (act.List dir given) = false
reads path (act.Put other bytes) = false
reads path (act.Move from to) = false
reads path (act.Remove other) = false

-- the own step lists this directory
abbrev pub lists : List ℕ → Act → Bool
lists dir (act.List other given) = bytes_eq dir other
lists dir (act.Read path) = false
lists dir (act.Put path bytes) = false
lists dir (act.Move from to) = false
lists dir (act.Remove path) = false

abbrev pub given_by : Act → List (List ℕ)
given_by (act.List dir given) = given
given_by (act.Read path) = []
given_by (act.Put path bytes) = []
given_by (act.Move from to) = []
given_by (act.Remove path) = []

-- the making goes on where the own step looks as it has to
abbrev pub where_it_looks : Bool → Making → Making
where_it_looks true making = making
where_it_looks false making = Unfinished

-- whether the stage can be made after these earlier ones, once all was looked at
abbrev pub making_of_fit : (Stage → List Moment → Making) → Stage → Option Refusal → List Moment → Making
making_of_fit planned_as s None ms = planned_as s ms
making_of_fit planned_as s (Some refusal) ms = Refused refusal

-- the first name that an output directory lists
abbrev pub making_of_names : List ℕ → List (List ℕ) → Making → Making
making_of_names dir (name ∷ names) making = Refused (NotEmpty (joined dir name))
making_of_names dir [] making = making

-- the output directories, each listed by one own step
abbrev pub making_of_dirs : List Stage → (Stage → List Moment → Making) → Stage → List (List ℕ) → List Moment → Making
making_of_dirs earlier planned_as s [] ms = making_of_fit planned_as s (unfit_after earlier s) ms
making_of_dirs earlier planned_as s (dir ∷ dirs) [] = Unfinished
making_of_dirs earlier planned_as s (dir ∷ dirs) (m ∷ ms) =
    where_it_looks (lists dir m.act) (making_of_names dir (given_by m.act) (making_of_dirs earlier planned_as s dirs ms))

abbrev pub making_of_found : List Stage → (Stage → List Moment → Making) → Stage → List ℕ → Bool → List Moment → Making
making_of_found earlier planned_as s path true ms = Refused (NotEmpty path)
making_of_found earlier planned_as s path false ms = making_of_dirs earlier planned_as s (output_dirs s) ms

-- the info that has to be new, if there is one
abbrev pub info_if : Bool → Option InfoFile → Option InfoFile
info_if true info = info
info_if false info = None

abbrev pub fresh_info : Stage → Option InfoFile
fresh_info s = info_if (needs_fresh_info s.kind) s.info

-- its file, looked at by one own step
abbrev pub making_of_info : List Stage → (Stage → List Moment → Making) → Stage → Option InfoFile → List Moment → Making
making_of_info earlier planned_as s None ms = making_of_dirs earlier planned_as s (output_dirs s) ms
making_of_info earlier planned_as s (Some info) [] = Unfinished
making_of_info earlier planned_as s (Some info) (m ∷ ms) =
    where_it_looks (reads info.path m.act) (making_of_found earlier planned_as s info.path (is_some (file_at m.files info.path)) ms)

abbrev pub making_of_plan : List Stage → (Stage → List Moment → Making) → Result Stage Refusal → List Moment → Making
making_of_plan earlier planned_as (Err refusal) ms = Refused refusal
making_of_plan earlier planned_as (Ok s) ms = making_of_info earlier planned_as s (fresh_info s) ms

abbrev pub making_of_source : List Stage → (Stage → List Moment → Making) → Request → Option (List ℕ) → List Moment → Making
making_of_source earlier planned_as request None ms = Refused (Missing (info_path request.source))
making_of_source earlier planned_as request (Some bytes) ms = making_of_plan earlier planned_as (planned earlier request bytes) ms

-- The making of a stage after these earlier ones of a queue, none where it is run by this process. The info of the source is read
-- by the first own step.
abbrev pub making_of_request : List Stage → (Stage → List Moment → Making) → Request → List Moment → Making
making_of_request earlier planned_as request [] = Unfinished
making_of_request earlier planned_as request (m ∷ ms) =
    where_it_looks (reads (info_path request.source) m.act) (making_of_source earlier planned_as request (file_at m.files (info_path request.source)) ms)
