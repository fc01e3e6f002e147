-- The inputs of a stage's tasks: they are chunks of its source and files of earlier passes, and no task makes one of another.
use Rattle.std.specs.Prelude.{◌≡◌, ◌⊎◌, ◌<◌, ℕ, true, false, List, [], length, Option, None, Some, is_some, Contains, option_map, refl}
use Rattle.std.proofs.Common.{arith, inl, inr, ap, sym, subst, ◌∙◌, true≢false}
use Rattle.std.proofs.lemmas.List.Elements.{Contains-append_cases, Contains-append_left}
use Rattle.ig_space.specs.declared.point.Box3.{Box3}
use Rattle.ig_space.specs.Cells.{cell-within, low-in_cell}
use Rattle.ig_space.specs.CellBoxes.{chunks-IsGrid}
use Rattle.ig_space.specs.Chunk.{chunk_path}
use Rattle.ig_space.specs.Chunks.{chunk_in, chunks_in}
use Rattle.ig_space.specs.Grid.{cell, cell_at, cell_count, chunks_of, hull, number_at}
use Rattle.ig_space.specs.HullCells.{hull-cells}
use Rattle.ig_record.specs.declared.stage.InfoFile.{InfoFile}
use Rattle.ig_record.specs.declared.stage.Kind.{Kind}
use Rattle.ig_record.specs.declared.stage.Kind.TheVariants.{Remove}
use Rattle.ig_record.specs.declared.stage.Stage.{Stage}
use Rattle.ig_record.specs.Columns.{box_read, chunks_met, inputs_by, inputs_of, output_dirs, removed_by, removed_dir, scratch_read}
use Rattle.ig_record.specs.Sound.{is_sound}
use Rattle.ig_record.specs.SoundStages.{IsSound, IsSound-from, tasks-IsGrid}
use Rattle.ig_record.specs.Stage.{task_box, task_count, task_grid}
use Rattle.ig_meaning.specs.Agreeing.{box_read-is, voxel-chunk}
use Rattle.ig_meaning.specs.ChunkPlaces.{chunk-not_info, is_chunk_of-from, is_chunk_of-is}
use Rattle.ig_meaning.specs.Jobs.{file_of}
use Rattle.ig_meaning.specs.Lists.{listed-from}
use Rattle.ig_meaning.specs.Sequential.{IsElsewhere}
use Rattle.ig_meaning.specs.Wants.{is_chunk_of}
use Rattle.ig_rule.specs.DirPaths.{dir_is}
use Rattle.ig_task.specs.Facts.{is_scratch}
use Rattle.ig_task.specs.KindFacts.{KindFacts, makes_files, removes}
use Rattle.ig_task.specs.Kinds.{kind-facts, stage-laws}
use Rattle.ig_task.specs.MadeOutputs.{no_scratch}
use Rattle.ig_task.specs.OwnedPaths.{removal-removes}
use Rattle.ig_task.specs.ReadPasses.{reads-passes}

-- ---- what they are
-- an input is a chunk of the source, or a file that an earlier pass makes, of a stage that makes something
pub record IsInput (s : Stage) (path : List ℕ) : Type 0 where
  pub from : (is_chunk_of s.source path ≡ true) ⊎ (is_scratch s path ≡ true)
  pub makes : is_some (removed_dir s) ≡ false

-- each chunk that meets a task's box is one of the source
chunk_met : (s : Stage) → IsSound s → (k : ℕ) → k < task_count s → (path : List ℕ) → Contains (chunks_in s.source (task_box s k)) path → is_chunk_of s.source path ≡ true
chunk_met s h k below path among =
    let g = chunks_of s.source.geometry in
    let box = task_box s k in
    let v = listed-from (chunk_in s.source box) (cell_count (hull g box)) path among in
    let c = cell (hull g box) v.number in
    let within = cell-within (task_grid s) (tasks-IsGrid s h.fits h.shape.sides) k below in
    let met = hull-cells g box (chunks-IsGrid s.source.geometry h.fits) within v.number v.below in
    is_chunk_of-is s.source h.fits path
    (record { box = c; at = record { number = number_at g c.lo.x c.lo.y c.lo.z; below = met.0; box_is = met.1; path_is = sym v.is } })

nothing_in : {A : Type 0} (x : A) → Contains [] x → ⊥
nothing_in x h = absurd (omega (arith, h.1))

met_by : (s : Stage) → IsSound s → (k : ℕ) → k < task_count s → (path : List ℕ) (box : Option Box3) → box_read s.kind s k ≡ box → Contains (chunks_met s.source box) path → is_chunk_of s.source path ≡ true
met_by s h k below path None is among = absurd (nothing_in path among)
met_by s h k below path (Some box) is among =
    chunk_met s h k below path (subst (λ (b : Box3). Contains (chunks_in s.source b) path) (sym (box_read-is s.kind s k box is)) among)

-- The chunks that a task reads are those of its source,
pub chunk-read : (s : Stage) → is_sound s ≡ true → (k : ℕ) → k < task_count s → (path : List ℕ) → Contains (chunks_met s.source (box_read s.kind s k)) path → is_chunk_of s.source path ≡ true
chunk-read s sound k below path among = met_by s (IsSound-from s sound) k below path (box_read s.kind s k) refl among

-- a removal reads nothing
reads-makes : (kind : Kind) (s : Stage) (k : ℕ) (path : List ℕ) → Contains (inputs_by kind s k) path → is_some (removed_by kind s) ≡ false
reads-makes Remove s k path among = absurd (nothing_in path among)
reads-makes kind s k path among = refl

-- and its other inputs are files that earlier passes make.
pub inputs_are : (s : Stage) → is_sound s ≡ true → (k : ℕ) → k < task_count s → (path : List ℕ) → Contains (inputs_of s k) path → IsInput s path
inputs_are s sound k below path among = record {
  from = by_list (Contains-append_cases (chunks_met s.source (box_read s.kind s k)) (scratch_read s.kind s k) path among);
  makes = reads-makes s.kind s k path among;
}
  where
    by_list : Contains (chunks_met s.source (box_read s.kind s k)) path ⊎ Contains (scratch_read s.kind s k) path → (is_chunk_of s.source path ≡ true) ⊎ (is_scratch s path ≡ true)
    by_list (inl chunk) = inl (chunk-read s sound k below path chunk)
    by_list (inr scratch) = inr ((reads-passes s sound).reads k below path scratch)

-- ---- how many
some_read : (s : Stage) → IsSound s → (k : ℕ) → k < task_count s → box_read s.kind s k ≡ Some (task_box s k) → 0 < length (inputs_of s k)
some_read s h k below reads =
    let grid = tasks-IsGrid s h.fits h.shape.sides in
    let box = task_box s k in
    let met = voxel-chunk s.source h.fits box (cell-within (task_grid s) grid k below) box.lo.x box.lo.y box.lo.z (low-in_cell (task_grid s) grid k below) in
    let path = chunk_path s.source.dir (cell_at (chunks_of s.source.geometry) box.lo.x box.lo.y box.lo.z) in
    let among = Contains-append_left (chunks_met s.source (box_read s.kind s k)) (scratch_read s.kind s k) path (subst (λ (o : Option Box3). Contains (chunks_met s.source o) path) (sym reads) met) in
    omega (arith, among.1)

some_by : (s : Stage) → IsSound s → KindFacts s → is_some (removed_dir s) ≡ false → (k : ℕ) → k < task_count s → 0 < length (inputs_of s k)
some_by s h (makes_files m) makes k below = some_read s h k below (m.reads k)
some_by s h (removes is r) makes k below = absurd (true≢false (sym (removal-removes s is) ∙ makes))

-- Each task of a stage that makes files has an input.
pub inputs-some : (s : Stage) → is_sound s ≡ true → is_some (removed_dir s) ≡ false → (k : ℕ) → k < task_count s → 0 < length (inputs_of s k)
inputs-some s sound = some_by s (IsSound-from s sound) (kind-facts s sound)

-- ---- elsewhere
-- no kind that has come builds on earlier passes: each input is a chunk
input-chunk : (s : Stage) → is_sound s ≡ true → (k : ℕ) → k < task_count s → (path : List ℕ) → Contains (inputs_of s k) path → is_chunk_of s.source path ≡ true
input-chunk s sound k below path among = by_list (Contains-append_cases (chunks_met s.source (box_read s.kind s k)) (scratch_read s.kind s k) path among)
  where
    by_list : Contains (chunks_met s.source (box_read s.kind s k)) path ⊎ Contains (scratch_read s.kind s k) path → is_chunk_of s.source path ≡ true
    by_list (inl chunk) = chunk-read s sound k below path chunk
    by_list (inr scratch) = absurd (nothing_in path (subst (λ (paths : List (List ℕ)). Contains paths path) (no_scratch s sound k) scratch))

-- A stage that doesn't write in the directory of its source makes no input of its tasks.
pub elsewhere-from : (s : Stage) → is_sound s ≡ true → (Contains (output_dirs s) s.source.dir → ⊥) → IsElsewhere s
elsewhere-from s sound apart =
    let h = IsSound-from s sound in
    let laws = stage-laws 0 s sound in
    let no_info : (info : InfoFile) → s.info ≡ Some info → is_chunk_of s.source info.path ≡ true → ⊥
    = λ info is chunk. chunk-not_info s.source h.fits h.layers.dir info.path (is_chunk_of-from s.source info.path chunk) (laws.info_name (file_of info) (ap (option_map file_of) is)) in
    record {
      outputs = λ j k path j_below k_below made among.
          let input = inputs_are s sound k k_below path among in
          let lies = laws.path_in input.makes path (record { task = j; below = j_below; among = made }) in
          apart (subst (Contains (output_dirs s)) (dir_is lies.dir s.source.dir path lies.lies (laws.chunk_in path (input-chunk s sound k k_below path among))) lies.one);
      info = λ info is k below among. no_info info is (input-chunk s sound k below info.path among);
      no_chunk = no_info;
    }
