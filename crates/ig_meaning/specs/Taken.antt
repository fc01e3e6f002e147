-- Which stages of a queue have a directory of a new one: this project's own.
use Rattle.std.specs.Prelude.{ℕ, suc, Bool, true, false, ◌||◌, if◌then◌else◌, List, [], ◌∷◌, Option, None, Some, option_map, codes}
use Rattle.std.specs.Str.{bytes_eq}
use Rattle.ig_space.specs.Path.{joined}
use Rattle.ig_layer.specs.Faults.{or_else}
use Rattle.ig_record.specs.declared.stage.InfoFile.{InfoFile}
use Rattle.ig_record.specs.declared.stage.Stage.{Stage}
use Rattle.ig_record.specs.Columns.{is_among, output_dirs, removed_dir}
use Rattle.ig_meaning.specs.Refusal.{Refusal, Taken}
use Rattle.ig_meaning.specs.Stage.{unfit}

abbrev pub share_one : List (List ℕ) → List (List ℕ) → Bool
share_one [] dirs = false
share_one (dir ∷ others) dirs = is_among dir dirs || share_one others dirs

-- the info is that of a layer which is one of these directories
abbrev pub has_info_among : Option InfoFile → List (List ℕ) → Bool
has_info_among None dirs = false
has_info_among (Some info) [] = false
has_info_among (Some info) (dir ∷ dirs) = bytes_eq info.path (joined dir (codes "info")) || has_info_among (Some info) dirs

-- the removed directory is among these
abbrev pub removes_one : Option (List ℕ) → List (List ℕ) → Bool
removes_one None dirs = false
removes_one (Some dir) dirs = is_among dir dirs

-- An earlier stage has one of the directories of a new one: the new one would write where it writes, put its info there, or
-- write where its info is; or it removes what the new one reads, writes or removes.
abbrev pub takes : Stage → Stage → Bool
takes earlier s =
    share_one (output_dirs s) (output_dirs earlier) || (has_info_among s.info (output_dirs earlier)
    || (has_info_among earlier.info (output_dirs s) || removes_one (removed_dir earlier) (s.source.dir ∷ output_dirs s)))

-- the number of the first of these that does, where the first has number n
abbrev pub taker_from : ℕ → List Stage → Stage → Option ℕ
taker_from n [] s = None
taker_from n (earlier ∷ stages) s = if takes earlier s then Some n else taker_from (suc n) stages s

abbrev pub taken_by : List Stage → Stage → Option Refusal
taken_by stages s = option_map Taken (taker_from 0 stages s)

-- why a stage is not made once its directories were looked at: an earlier stage has one of them, or it cannot be run
abbrev pub unfit_after : List Stage → Stage → Option Refusal
unfit_after stages s = or_else (taken_by stages s) (unfit s)
