-- What each kind of stage owes: one record, from which its laws follow.
use Rattle.std.specs.Prelude.{◌≡◌, ◌<◌, ℕ, true, List, [], ◌++◌, Option, None, Some, is_some, Contains, option_map}
use Rattle.std.proofs.Common.{ap, append-nil, sym, subst, ◌∙◌}
use Rattle.ig_space.specs.declared.point.Box3.{Box3}
use Rattle.ig_space.specs.Chunks.{chunks_in}
use Rattle.ig_defs.specs.Own.{File}
use Rattle.ig_layer.specs.Layer.{Reading}
use Rattle.ig_record.specs.declared.stage.Kind.{Kind}
use Rattle.ig_record.specs.declared.stage.Kind.TheVariants.{Xfer, Downsample, Count, Remove}
use Rattle.ig_record.specs.declared.stage.Stage.{Stage}
use Rattle.ig_record.specs.Columns.{box_read, chunks_met, inputs_of, output_dirs, paths_of, removed_dir, scratch_read}
use Rattle.ig_record.specs.SoundKinds.{HasMips, IsCopyOf, IsRemoval}
use Rattle.ig_record.specs.SoundRows.{IsSoundKind, is_count, is_downsample, is_remove, is_xfer}
use Rattle.ig_record.specs.Stage.{task_box, task_count, task_size}
use Rattle.ig_meaning.specs.Jobs.{file_of}
use Rattle.ig_meaning.specs.Wants.{wanted_text, wants_by}
use Rattle.ig_rule.specs.Facts.{IsInfoName, IsPath, LiesInOne}
use Rattle.ig_task.specs.Facts.{facts_of}

-- ---- by the kind
-- a stage of counts has a directory for its files, and no new scale or info
pub record IsCount (s : Stage) : Type 0 where
  pub scratch : List ℕ
  pub at : s.scratch ≡ Some scratch
  pub alone : IsRemoval s.dests s.info

-- a stage of mips has scales of one layer, which are the source halved, and the info of that layer
pub record IsDownsample (s : Stage) : Type 0 where
  pub layer : List ℕ
  pub mips : HasMips layer s.source s.dests s.info

-- what a sound stage of each kind has; of the kinds that are not listed none is sound
abbrev pub IsOf : Kind → Stage → Type 0
IsOf Xfer s = IsCopyOf s.source s.dests s.info
IsOf Downsample s = IsDownsample s
IsOf Count s = IsCount s
IsOf Remove s = IsRemoval s.dests s.info
IsOf kind s = Unit {0}

pub is-of : (s : Stage) → IsSoundKind s → IsOf s.kind s
is-of s (is_xfer is none c) = subst (λ (kind : Kind). IsOf kind s) (sym is) c
is-of s (is_downsample is none layer h) = subst (λ (kind : Kind). IsOf kind s) (sym is) (record { layer = layer; mips = h })
is-of s (is_count is scratch at r) = subst (λ (kind : Kind). IsOf kind s) (sym is) (record { scratch = scratch; at = at; alone = r })
is-of s (is_remove is none r) = subst (λ (kind : Kind). IsOf kind s) (sym is) r

-- ---- what a kind owes
-- Of a stage that makes files: what its tasks read, and which files they make.
pub record MakesFiles (s : Stage) : Type 0 where
  -- it takes nothing away
  pub keeps : removed_dir s ≡ None
  -- the box of each task is of the shape; the task reads the source there, and no file of an earlier pass
  pub shape : task_size s.kind s ≡ s.shape
  pub reads : (k : ℕ) → box_read s.kind s k ≡ Some (task_box s k)
  pub no_scratch : (k : ℕ) → scratch_read s.kind s k ≡ []
  -- something is wanted at each path of its tasks, and a text at no other path
  pub wants : (k : ℕ) → k < task_count s → (path : List ℕ) → Contains (paths_of s k) path → is_some (wants_by s.kind s path) ≡ true
  pub wanted_at : (files : Reading) (path bytes : List ℕ) → wanted_text s files path ≡ Some bytes → IsPath (facts_of 0 s) path
  -- these lie directly in its output directories, and none is of two tasks
  pub path_in : (path : List ℕ) → IsPath (facts_of 0 s) path → LiesInOne (output_dirs s) path
  pub one_task : (j k : ℕ) (path : List ℕ) → j < task_count s → k < task_count s → Contains (paths_of s j) path → Contains (paths_of s k) path → j ≡ k
  -- its info is called `info`, and does not lie directly in one of these
  pub info_name : (info : File) → option_map file_of s.info ≡ Some info → IsInfoName info.path
  pub info_apart : (info : File) → option_map file_of s.info ≡ Some info → LiesInOne (output_dirs s) info.path → ⊥

-- A stage makes files, or takes chunks of its source away.
pub data KindFacts (s : Stage) : Type 0 where
  makes_files : MakesFiles s → KindFacts s
  removes : s.kind ≡ Remove → IsRemoval s.dests s.info → KindFacts s

-- the paths of a stage are the same, whatever its number
pub path-of : (n m : ℕ) (s : Stage) (path : List ℕ) → IsPath (facts_of n s) path → IsPath (facts_of m s) path
path-of n m s path u = record { task = u.task; below = u.below; among = u.among }

-- a task that makes files reads the chunks that meet its box
pub files-inputs : (s : Stage) → MakesFiles s → (k : ℕ) → inputs_of s k ≡ chunks_in s.source (task_box s k)
files-inputs s m k =
    ap (λ (box : Option Box3). chunks_met s.source box ++ scratch_read s.kind s k) (m.reads k)
    ∙ ap (λ (scratch : List (List ℕ)). chunks_in s.source (task_box s k) ++ scratch) (m.no_scratch k)
    ∙ append-nil (chunks_in s.source (task_box s k))
