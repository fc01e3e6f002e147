-- The paths of a stage's tasks are those of all chunks of one place.
use Rattle.std.specs.Prelude.{◌≡◌, ◌<◌, ℕ, true, false, List, [], ◌∷◌, Some, is_some, Contains, refl}
use Rattle.std.proofs.Common.{ap, sym, subst, ◌∙◌, append-nil, true≢false}
use Rattle.ig_space.specs.declared.point.Point.{Point}
use Rattle.ig_space.specs.declared.place.Place.{Place}
use Rattle.ig_space.specs.Chunks.{chunks_in}
use Rattle.ig_space.specs.Geometry.{geometry_fits}
use Rattle.ig_space.specs.Grid.{space_of}
use Rattle.ig_record.specs.declared.stage.Kind.{Kind}
use Rattle.ig_record.specs.declared.stage.Kind.TheVariants.{Xfer, Remove}
use Rattle.ig_record.specs.declared.stage.Stage.{Stage}
use Rattle.ig_record.specs.SoundFacts.{IsDir}
use Rattle.ig_record.specs.SoundStages.{IsSound, tasks-IsGrid}
use Rattle.ig_record.specs.SoundKinds.{IsCopyOf}
use Rattle.ig_record.specs.Columns.{chunks_of_all, dirs_by, dirs_of_all, output_dirs, paths_by, paths_of, removed_by, removed_dir}
use Rattle.ig_record.specs.Stage.{shape_unit, task_box, task_count, task_grid, task_size}
use Rattle.ig_meaning.specs.TaskBoxes.{IsWhole, task_box-whole, unfit_axis-none}
use Rattle.ig_rule.specs.Facts.{IsPath}
use Rattle.ig_meaning.specs.ChunkPlaces.{IsChunk}
use Rattle.ig_task.specs.Facts.{facts_of}
use Rattle.ig_task.specs.Tiles.{IsTiled, chunk-part, part-from, part-one}

-- The tasks own the chunks of the place: each task those that meet its box.
pub record Owns (s : Stage) (place : Place) : Type 0 where
  pub tiled : IsTiled place (task_grid s)
  pub paths : (k : ℕ) → paths_of s k ≡ chunks_in place (task_box s k)

-- each path of the stage is that of a chunk
pub path-chunk : (s : Stage) (place : Place) → Owns s place → (n : ℕ) (path : List ℕ) → IsPath (facts_of n s) path → IsChunk place path
path-chunk s place owns n path u =
    let p = part-from place (task_grid s) owns.tiled u.task u.below path (subst (λ paths. Contains paths path) (owns.paths u.task) u.among) in
    record { box = p.box; at = p.at }

-- and each chunk's path is one of the stage
pub chunk-path : (s : Stage) (place : Place) → Owns s place → (n : ℕ) (path : List ℕ) → IsChunk place path → IsPath (facts_of n s) path
chunk-path s place owns n path c =
    let h = chunk-part place (task_grid s) owns.tiled path c in
    record { task = h.part; below = h.below; among = subst (λ paths. Contains paths path) (sym (owns.paths h.part)) h.among }

-- no path is of two tasks
pub one-task : (s : Stage) (place : Place) → Owns s place → (j k : ℕ) (path : List ℕ) → j < task_count s → k < task_count s → Contains (paths_of s j) path → Contains (paths_of s k) path → j ≡ k
one-task s place owns j k path j_below k_below in_j in_k =
    part-one place (task_grid s) owns.tiled j k path j_below k_below
    (subst (λ paths. Contains paths path) (owns.paths j) in_j) (subst (λ paths. Contains paths path) (owns.paths k) in_k)

-- ---- by the kind
-- a place of the space of the source, with chunks of the unit of the shape
sound-tiled : (s : Stage) → IsSound s → (place : Place) → IsDir place.dir → geometry_fits place.geometry ≡ true → space_of place.geometry ≡ space_of s.source.geometry
    → shape_unit s.kind s.source s.dests ≡ place.geometry.chunk → task_size s.kind s ≡ s.shape → IsTiled place (task_grid s)
sound-tiled s h place dir fits space unit size =
    let grid = tasks-IsGrid s h.fits h.shape.sides in
    let shape : IsWhole place.geometry.chunk s.shape = subst (λ (u : Point). IsWhole u s.shape) unit (unfit_axis-none (shape_unit s.kind s.source s.dests) s.shape h.shape.fits) in
    let whole : IsWhole place.geometry.chunk (task_size s.kind s) = subst (IsWhole place.geometry.chunk) (sym size) shape in
    record {
      dir = dir;
      fits = fits;
      grid = grid;
      space = sym space;
      whole = task_box-whole s place.geometry grid fits space whole;
    }

-- a copy owns the chunks that it writes
pub copy-owns : (s : Stage) → IsSound s → s.kind ≡ Xfer → (c : IsCopyOf s.source s.dests s.info) → Owns s c.dest
copy-owns s h is c =
    let dest = c.dest in
    record {
      tiled = sound-tiled s h dest c.is_dest.dir c.is_dest.fits c.is_dest.space
          (ap (λ (kind : Kind). shape_unit kind s.source s.dests) is ∙ ap (shape_unit Xfer s.source) c.dests_are)
          (ap (λ (kind : Kind). task_size kind s) is);
      paths = λ k.
          ap (λ (kind : Kind). paths_by kind s k) is ∙ ap (λ (dests : List Place). chunks_of_all (λ m. task_box s k) 1 dests) c.dests_are
          ∙ append-nil (chunks_in dest (task_box s k));
    }

pub copy-outputs : (s : Stage) → s.kind ≡ Xfer → (c : IsCopyOf s.source s.dests s.info) → output_dirs s ≡ c.dest.dir ∷ []
copy-outputs s is c = ap (λ (kind : Kind). dirs_by kind s) is ∙ ap dirs_of_all c.dests_are

pub copy-makes : (s : Stage) → s.kind ≡ Xfer → is_some (removed_dir s) ≡ false
copy-makes s is = ap (λ (kind : Kind). is_some (removed_by kind s)) is

-- a removal owns the chunks of its source
pub removal-owns : (s : Stage) → IsSound s → s.kind ≡ Remove → Owns s s.source
removal-owns s h is = record {
  tiled = sound-tiled s h s.source h.layers.dir h.fits refl (ap (λ (kind : Kind). shape_unit kind s.source s.dests) is) (ap (λ (kind : Kind). task_size kind s) is);
  paths = λ k. ap (λ (kind : Kind). paths_by kind s k) is;
}

pub removal-removes : (s : Stage) → s.kind ≡ Remove → is_some (removed_dir s) ≡ true
removal-removes s is = ap (λ (kind : Kind). is_some (removed_by kind s)) is

-- what a stage removes is its source
removed_kind : (s : Stage) (kind : Kind) → is_some (removed_by kind s) ≡ true → removed_by kind s ≡ Some s.source.dir
removed_kind s Remove some = refl
removed_kind s kind some = absurd (true≢false (sym some))

pub removes_source : (s : Stage) → is_some (removed_dir s) ≡ true → removed_dir s ≡ Some s.source.dir
removes_source s = removed_kind s s.kind
