-- The text of a chunk of a mip, by the labels of the blocks that it is made of.
use Rattle.std.specs.Prelude.{◌≡◌, ◌<◌, ◌+◌, ℕ, zero, suc, true, List, [], ◌∷◌, Option, None, Some, option_and_then, slice_get, refl}
use Rattle.std.proofs.Common.{arith, ap, sym, subst, ◌∙◌, inl, inr}
use Rattle.std.proofs.lemmas.Option.{none-some, same_Some}
use Rattle.ig_space.specs.declared.point.Box3.{Box3}
use Rattle.ig_space.specs.declared.geometry.Geometry.{Geometry}
use Rattle.ig_space.specs.declared.place.Place.{Place}
use Rattle.ig_space.specs.Chunk.{chunk_path}
use Rattle.ig_space.specs.Geometry.{geometry_fits}
use Rattle.ig_space.specs.Grid.{cell, cell_count, chunks_of, size_of, space_of}
use Rattle.ig_layer.specs.Layer.{Labels, Reading, volume_at}
use Rattle.ig_layer.specs.Texts.{chunk_text, labels_in, text_of}
use Rattle.ig_mode.specs.Aligned.{IsAligned}
use Rattle.ig_mode.specs.CellLaws.{cell-aligned, cells-as-many, space-halved}
use Rattle.ig_mode.specs.HalvedGrids.{halved_box, halved_geometry, long_grid}
use Rattle.ig_mode.specs.Known.{AgreeIn, mode_known, scale_mips}
use Rattle.ig_mode.specs.KnownLaws.{own-agree}
use Rattle.ig_record.specs.declared.stage.Kind.TheVariants.{Downsample}
use Rattle.ig_record.specs.declared.stage.Stage.{Stage}
use Rattle.ig_record.specs.Sound.{is_sound}
use Rattle.ig_record.specs.SoundStages.{IsSound-from}
use Rattle.ig_meaning.specs.Wants.{mip_box, mip_want, placed, text_by, wanted_text}
use Rattle.ig_task.specs.Downsamples.{mip-wants, mips-of}
use Rattle.ig_task.specs.HalvedTiles.{mip_scale}
use Rattle.ig_task.specs.LabelLists.{agree-labels, placed-agrees}
use Rattle.ig_task.specs.MipBoxes.{block-chunk, blocks-IsGrid}
use Rattle.ig_task.specs.Scales.{HasScale}

module _ (source : Geometry) (fits : geometry_fits source ≡ true) (m : ℕ) (place : Place) (is : place.geometry ≡ halved_geometry m source) where
  block-aligned : (i : ℕ) → i < cell_count (chunks_of place.geometry) → IsAligned m (space_of source) (mip_box source m place i)
  block-aligned i below =
      let grid = blocks-IsGrid source fits m place is in
      let space = space-halved m source ∙ ap (λ (g : Geometry). space_of g) (sym is) in
      let many : cell_count (long_grid m (space_of source) place.geometry.chunk) ≡ cell_count (chunks_of place.geometry)
      = cells-as-many m (space_of source) place.geometry.chunk grid ∙ ap (λ (b : Box3). cell_count (record { space = b; step = place.geometry.chunk })) space in
      cell-aligned m (space_of source) place.geometry.chunk grid i (omega (arith, below, many))

  -- the labels of the blocks alone make the text that the whole volume does
  pub mip_text-is : (i : ℕ) → i < cell_count (chunks_of place.geometry) → (v : Labels) (labels : List ℕ) → labels_in v (mip_box source m place i) ≡ Some labels
      → chunk_text place.geometry (scale_mips m (space_of source) (placed (mip_box source m place i) labels)) (cell (chunks_of place.geometry) i)
      ≡ chunk_text place.geometry (scale_mips m (space_of source) v) (cell (chunks_of place.geometry) i)
  mip_text-is i below v labels are =
      let b = mip_box source m place i in
      let own : Labels = scale_mips m (space_of source) (placed b labels) in
      let whole : Labels = scale_mips m (space_of source) v in
      let agree : AgreeIn (halved_box m source.offset b) own whole
      = own-agree mode_known m (space_of source) b (placed b labels) v (block-aligned i below) (placed-agrees v b labels are) in
      let here : AgreeIn (cell (chunks_of place.geometry) i) own whole = subst (λ (c : Box3). AgreeIn c own whole) (block-chunk source fits m place is i) agree in
      ap (text_of place.geometry.encoding place.geometry.width (size_of (cell (chunks_of place.geometry) i))) (agree-labels own whole (cell (chunks_of place.geometry) i) here)

  -- what is wanted, of a volume that has the labels
  pub want-text : (i : ℕ) → i < cell_count (chunks_of place.geometry) → (v : Labels) (labels : List ℕ) → labels_in v (mip_box source m place i) ≡ Some labels
      → text_by v (Some (mip_want source m place i)) ≡ chunk_text place.geometry (scale_mips m (space_of source) v) (cell (chunks_of place.geometry) i)
  want-text i below v labels are = ap (option_and_then (mip_want source m place i).text) are ∙ mip_text-is i below v labels are

  -- so it is the text of the chunk of the whole mip
  whole_by : (i : ℕ) → i < cell_count (chunks_of place.geometry) → (v : Labels) (bytes : List ℕ) (o : Option (List ℕ)) → labels_in v (mip_box source m place i) ≡ o → option_and_then (mip_want source m place i).text o ≡ Some bytes
      → chunk_text place.geometry (scale_mips m (space_of source) v) (cell (chunks_of place.geometry) i) ≡ Some bytes
  whole_by i below v bytes None are e = absurd (none-some bytes e)
  whole_by i below v bytes (Some labels) are e = sym (mip_text-is i below v labels are) ∙ e

  pub want-whole : (i : ℕ) → i < cell_count (chunks_of place.geometry) → (v : Labels) (bytes : List ℕ) → text_by v (Some (mip_want source m place i)) ≡ Some bytes
      → chunk_text place.geometry (scale_mips m (space_of source) v) (cell (chunks_of place.geometry) i) ≡ Some bytes
  want-whole i below v bytes e = whole_by i below v bytes (labels_in v (mip_box source m place i)) refl e

-- ---- a stage
-- the scale with a number, from 0 on
pub scale-at : (m : ℕ) (places : List Place) (k : ℕ) (place : Place) → slice_get places k ≡ Some place → HasScale m places (m + k) place
scale-at m [] k place e = absurd (none-some place e)
scale-at m (first ∷ rest) zero place e = inl (omega arith, same_Some first place e)
scale-at m (first ∷ rest) (suc k) place e = inr (subst (λ n. HasScale (suc m) rest n place) (omega arith) (scale-at (suc m) rest k place e))

-- What is wanted of a chunk of a scale is its text in the mip of the whole volume.
abbrev pub AreOfTheWhole : Stage → ℕ → Place → Type 0
AreOfTheWhole s m place =
    (files : Reading) (i : ℕ) (bytes : List ℕ) → i < cell_count (chunks_of place.geometry) → wanted_text s files (chunk_path place.dir (cell (chunks_of place.geometry) i)) ≡ Some bytes
    → chunk_text place.geometry (scale_mips (suc m) (space_of s.source.geometry) (volume_at files s.source)) (cell (chunks_of place.geometry) i) ≡ Some bytes

pub mips-of_the_whole : (s : Stage) → is_sound s ≡ true → s.kind ≡ Downsample → (m : ℕ) (place : Place) → slice_get s.dests m ≡ Some place → AreOfTheWhole s m place
mips-of_the_whole s sound is m place at files i bytes below e =
    let h = IsSound-from s sound in
    let d = mips-of s sound is in
    let has : HasScale 1 s.dests (suc m) place = subst (λ n. HasScale 1 s.dests n place) (omega arith) (scale-at 1 s.dests m place at) in
    let mip = mip_scale s h is d (suc m) place has in
    let path = chunk_path place.dir (cell (chunks_of place.geometry) i) in
    let wants = mip-wants s h is d (suc m) place has i path (record { below = below; is = refl }) in
    want-whole s.source.geometry h.fits (suc m) place mip.geometry i below (volume_at files s.source) bytes (ap (text_by (volume_at files s.source)) (sym wants) ∙ e)
