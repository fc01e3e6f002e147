-- Laws on the files of the chunks of a layer.
use Rattle.std.specs.Prelude.{◌≡◌, ◌≢◌, ℕ, true, List, Option, Some}
use Rattle.std.proofs.Common.{ap, sym, ◌∙◌}
use Rattle.std.proofs.lemmas.Option.{same_Some}
use Rattle.std.specs.List.{Contains}
use Rattle.ig_space.specs.declared.point.Box3.{Box3}
use Rattle.ig_space.specs.declared.place.Place.{Place}
use Rattle.ig_space.specs.Chunk.{chunk_path}
use Rattle.ig_space.specs.ChunkPaths.{chunk_path-dir, chunk_path-injective}
use Rattle.ig_space.specs.Geometry.{geometry_fits}
use Rattle.ig_space.specs.Grid.{IsBox, IsWithin, cell, cell_count, chunks_of, hull, number_at, space_of}
use Rattle.ig_space.specs.CellBoxes.{cell-IsBox, chunks-IsGrid}
use Rattle.ig_space.specs.HullCells.{hull-cells}
use Rattle.ig_defs.specs.Own.{File}
use Rattle.ig_layer.specs.Listed.{IsValue, all_listed-from, file_if-path}
use Rattle.ig_layer.specs.Texts.{chunk_file, chunk_text, files_in}

-- it is the file of a chunk of a layer that holds the volume
abbrev pub IsChunkFile : Place → (ℕ → ℕ → ℕ → Option ℕ) → File → Type 0
IsChunkFile place volume file = IsValue (λ k. chunk_file place volume (cell (chunks_of place.geometry) k)) (cell_count (chunks_of place.geometry)) file

pub chunk_file-path : (place : Place) (volume : ℕ → ℕ → ℕ → Option ℕ) (b : Box3) (file : File) → chunk_file place volume b ≡ Some file → file.path ≡ chunk_path place.dir b
chunk_file-path place volume b file is = file_if-path (chunk_path place.dir b) (chunk_text place.geometry volume b) file is

module _ (place : Place) (fits : geometry_fits place.geometry ≡ true) (volume : ℕ → ℕ → ℕ → Option ℕ) where
  box_of : (file : File) (h : IsChunkFile place volume file) → IsBox (cell (chunks_of place.geometry) h.number)
  box_of file h = cell-IsBox (chunks_of place.geometry) (chunks-IsGrid place.geometry fits) h.number h.below

  -- chunks of one path are one
  pub chunk_files-one : (f g : File) → IsChunkFile place volume f → IsChunkFile place volume g → f.path ≡ g.path → f.bytes ≡ g.bytes
  chunk_files-one f g h k e =
      let c = cell (chunks_of place.geometry) h.number in
      let d = cell (chunks_of place.geometry) k.number in
      let paths : chunk_path place.dir c ≡ chunk_path place.dir d = sym (chunk_file-path place volume c f h.is) ∙ e ∙ chunk_file-path place volume d g k.is in
      let boxes : c ≡ d = chunk_path-injective place.dir c d (box_of f h) (box_of g k) paths in
      ap (λ (file : File). file.bytes) (same_Some f g (sym h.is ∙ ap (chunk_file place volume) boxes ∙ k.is))

  -- a chunk of another directory has another path
  pub chunk_files-apart : (dir : List ℕ) → dir ≢ place.dir → (b : Box3) → IsBox b → (f : File) → IsChunkFile place volume f → f.path ≢ chunk_path dir b
  chunk_files-apart dir other b box f h e =
      let c = cell (chunks_of place.geometry) h.number in
      other (chunk_path-dir dir place.dir b c box (box_of f h) (sym e ∙ chunk_file-path place volume c f h.is))

  -- the files of the chunks that meet a box are files of chunks
  pub files_in-chunks : (b : Box3) → IsWithin b (space_of place.geometry) → (files : List File) → files_in place volume b ≡ Some files
      → (f : File) → Contains files f → IsChunkFile place volume f
  files_in-chunks b within files is f h =
      let g = chunks_of place.geometry in
      let v = all_listed-from (λ k. chunk_file place volume (cell (hull g b) k)) (cell_count (hull g b)) files is f h in
      let c = cell (hull g b) v.number in
      let whole = hull-cells g b (chunks-IsGrid place.geometry fits) within v.number v.below in
      record { number = number_at g c.lo.x c.lo.y c.lo.z; below = whole.0; is = ap (chunk_file place volume) whole.1 ∙ v.is }
