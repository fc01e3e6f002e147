-- What a task of mips makes of the labels of its box.
use Rattle.std.proofs.Common.{arith, ◌≡◌, ◌<◌, ◌≤◌, ◌+◌, ℕ, zero, suc, true, List, [], ◌∷◌, ◌++◌, length, Some, IfOk, Result, Ok, Err, get_or, option_map, map, drop, drop-cons, refl, sym, ap, subst, ◌∙◌, append-nil, append_assoc}
use Rattle.std.specs.List.{slice_get}
use Rattle.std.proofs.lemmas.Option.{get_or_from_slice_get, same_Some, slice_get-get_or}
use Rattle.ig_space.specs.declared.point.Box3.{Box3}
use Rattle.ig_space.specs.declared.geometry.Geometry.{Geometry}
use Rattle.ig_space.specs.declared.geometry.Grid.{Grid}
use Rattle.ig_space.specs.declared.geometry.Width.{Width}
use Rattle.ig_space.specs.declared.place.Place.{Place}
use Rattle.ig_space.specs.Chunks.{chunk_in, chunks_in}
use Rattle.ig_space.specs.Grid.{IsIn, IsWithin, cell, cell_count, chunks_of, hull, size_of, space_of}
use Rattle.ig_space.specs.Raw.{AllFit}
use Rattle.ig_space.specs.Volume.{IsWhole, Voxels}
use Rattle.ig_layer.specs.Layer.{Labels}
use Rattle.ig_layer.specs.Texts.{chunk_text, files_in, labels_in}
use Rattle.ig_mode.specs.HalvedGrids.{halved_box}
use Rattle.ig_mode.specs.HasMips.{HasMip, HaveMips}
use Rattle.ig_mode.specs.Known.{scale_mips}
use Rattle.ig_mode.specs.KnownLaws.{all-fit, own-known}
use Rattle.ig_mode.specs.Mips.{size_times}
use Rattle.ig_mode.specs.PartLaws.{own-size}
use Rattle.ig_record.specs.declared.stage.Kind.{Kind}
use Rattle.ig_record.specs.declared.stage.Kind.TheVariants.{Downsample}
use Rattle.ig_record.specs.declared.stage.Stage.{Stage}
use Rattle.ig_record.specs.Columns.{box_written, chunks_of_all, paths_of}
use Rattle.ig_record.specs.Sound.{is_sound}
use Rattle.ig_record.specs.SoundStages.{IsSound-from}
use Rattle.ig_record.specs.Stage.{task_box, task_count}
use Rattle.ig_cutout.specs.declared.types.Output.{Output}
use Rattle.ig_cutout.specs.Outputs.{output_of}
use Rattle.ig_meaning.specs.Sequential.{outputs_at-append}
use Rattle.ig_meaning.specs.Wants.{mip_box, outputs_at, text_by}
use Rattle.ig_task.specs.Answers.{AreOfMip}
use Rattle.ig_task.specs.Downsamples.{mip-wants, mips-of}
use Rattle.ig_task.specs.HalvedTiles.{IsMipScale, mip-box, mip-count, mip-tiled, mip_parts, mip_scale, task-aligned}
use Rattle.ig_task.specs.LabelLists.{inner-labels, known-labels, labels-known}
use Rattle.ig_task.specs.MipBoxes.{blocks-within}
use Rattle.ig_task.specs.MipTexts.{scale-at, want-text}
use Rattle.ig_task.specs.MipWants.{path-of-chunk}
use Rattle.ig_task.specs.Scales.{HasScale}
use Rattle.ig_task.specs.Tiles.{IsTiled, part-begins, part-chunk, part-within}
use Rattle.ig_task.proofs.CutChunks.{AreWantedOf, chunk_cut, cut_outputs}

-- ---- one scale
-- the scale at a place, by its number
pub scale_of : (s : Stage) (j : ℕ) (place : Place) → slice_get s.dests j ≡ Some place → HasScale 1 s.dests (j + 1) place
scale_of s j place at = let next : 1 + j ≡ j + 1 = omega arith in subst (λ n. HasScale 1 s.dests n place) next (scale-at 1 s.dests j place at)

-- an item of a list, seen as a slice
pub item_at : {A : Type 0} (xs seen : List A) (i : ℕ) (x : A) → seen ≡ xs → i < length xs → x ≡ get_or seen i x → slice_get xs i ≡ Some x
item_at xs seen i x same below is = slice_get-get_or xs i x below ∙ ap Some (sym (is ∙ ap (λ ys. get_or ys i x) same))

module _ (s : Stage) (sound : is_sound s ≡ true) (is : s.kind ≡ Downsample) (m : ℕ) (place : Place) (has : HasScale 1 s.dests m place) where
  pub the_scale : IsMipScale s m place
  the_scale = mip_scale s (IsSound-from s sound) is (mips-of s sound is) m place has

  abbrev parts_of : Grid
  parts_of = mip_parts s (IsSound-from s sound) m place the_scale

  tiled_of : IsTiled place parts_of
  tiled_of = mip-tiled s (IsSound-from s sound) m place the_scale

  part_below : (k : ℕ) → k < task_count s → k < cell_count parts_of
  part_below k below = subst (λ n. k < n) (mip-count s (IsSound-from s sound) m place the_scale) below

  -- the task's box in the scale
  pub written-is : (k : ℕ) → box_written s.kind s k m ≡ cell parts_of k
  written-is k = ap (λ (kind : Kind). box_written kind s k m) is ∙ mip-box s (IsSound-from s sound) m place the_scale k

  pub written-within : (k : ℕ) → k < task_count s → IsWithin (box_written s.kind s k m) (space_of place.geometry)
  written-within k below = subst (λ (b : Box3). IsWithin b (space_of place.geometry)) (sym (written-is k)) (part-within place parts_of tiled_of k (part_below k below))

  pub written-whole : (k : ℕ) → k < task_count s → (hull (chunks_of place.geometry) (box_written s.kind s k m)).space ≡ box_written s.kind s k m
  written-whole k below = subst (λ (b : Box3). (hull (chunks_of place.geometry) b).space ≡ b) (sym (written-is k)) (tiled_of.whole k (part_below k below))

  pub written-size : (k : ℕ) → k < task_count s → (from mip : Voxels) → from.size ≡ size_of (task_box s k) → HasMip m from mip → mip.size ≡ size_of (box_written s.kind s k m)
  written-size k below from mip size of =
      of.size ∙ ap (size_times m) size ∙ sym (own-size m (space_of s.source.geometry) (task_box s k) (task-aligned s (IsSound-from s sound) m place the_scale k below))
      ∙ ap (λ (kind : Kind). size_of (box_written kind s k m)) (sym is)

  pub written-fit : (from mip : Voxels) → HasMip m from mip → IsWhole from.size from.labels → IsWhole mip.size mip.labels → AllFit s.source.geometry.width from.labels → AllFit place.geometry.width mip.labels
  written-fit from mip of whole whole_mip fit =
      subst (λ (w : Width). AllFit w mip.labels) (sym (ap (λ (g : Geometry). g.width) the_scale.geometry)) (all-fit s.source.geometry.width m from mip of whole whole_mip fit)

  -- the texts of the chunks of the mip are wanted of the labels
  mip-wanted : (k : ℕ) → k < task_count s → (volume : Labels) (labels : List ℕ) → labels_in volume (task_box s k) ≡ Some labels
      → AreWantedOf s place (cell parts_of k) (scale_mips m (space_of s.source.geometry) volume) volume
  mip-wanted k below volume labels are i few bytes e =
      let h = IsSound-from s sound in
      let g = s.source.geometry in
      let path = chunk_in place (cell parts_of k) i in
      let chunk = part-chunk place parts_of tiled_of k (part_below k below) i few in
      let n = chunk.number in
      let begins = subst (λ (b : Box3). IsIn (cell parts_of k) b.lo.x b.lo.y b.lo.z) (sym chunk.box_is) (part-begins place parts_of tiled_of k (part_below k below) i few) in
      let own = inner-labels volume (mip_box g m place n) (task_box s k) labels are (blocks-within s h m place the_scale n k begins) in
      let wants = mip-wants s h is (mips-of s sound is) m place has n path (path-of-chunk place path (chunk_cut place (cell parts_of k) i) chunk) in
      ap (text_by volume) wants
      ∙ want-text g h.fits m place the_scale.geometry n chunk.below volume own.0 own.1
      ∙ ap (chunk_text place.geometry (scale_mips m (space_of g) volume)) chunk.box_is ∙ e

  -- so the chunks that are cut of it are what is to stand there
  pub mip-made : (k : ℕ) → k < task_count s → (from mip : Voxels) → from.size ≡ size_of (task_box s k) → HasMip m from mip → IsWhole mip.size mip.labels → (outputs : List Output)
      → ((v : Labels) → labels_in v (box_written s.kind s k m) ≡ Some mip.labels → option_map (map output_of) (files_in place v (box_written s.kind s k m)) ≡ Some outputs)
      → (volume : Labels) → labels_in volume (task_box s k) ≡ Some from.labels → outputs_at s volume (chunks_in place (box_written s.kind s k m)) ≡ Some outputs
  mip-made k below from mip size of whole outputs cut volume are =
      let h = IsSound-from s sound in
      let g = s.source.geometry in
      let given : Labels = scale_mips m (space_of g) volume in
      let box : Voxels = record { size = size_of (task_box s k); labels = from.labels } in
      let same : from ≡ box = (λ i. record { size = size i; labels = from.labels }) in
      let known = own-known m (space_of g) (task_box s k) volume box mip (task-aligned s h m place the_scale k below) (labels-known volume (task_box s k) from.labels are)
      (subst (λ (v : Voxels). HasMip m v mip) same of) in
      let have : labels_in given (halved_box m g.offset (task_box s k)) ≡ Some mip.labels = known-labels given (halved_box m g.offset (task_box s k)) mip known whole in
      let here : labels_in given (box_written s.kind s k m) ≡ Some mip.labels = ap (λ (kind : Kind). labels_in given (box_written kind s k m)) is ∙ have in
      let files = subst (λ (b : Box3). option_map (map output_of) (files_in place given b) ≡ Some outputs) (written-is k) (cut given here) in
      subst (λ (b : Box3). outputs_at s volume (chunks_in place b) ≡ Some outputs) (sym (written-is k))
      (cut_outputs s place (cell parts_of k) given volume (mip-wanted k below volume from.labels are) outputs files)

-- the chunks that are cut at a place of the list of scales
pub mip-answer : (s : Stage) → is_sound s ≡ true → s.kind ≡ Downsample → (k : ℕ) → k < task_count s → (j : ℕ) (dest : Place) → slice_get s.dests j ≡ Some dest → (from mip : Voxels) → from.size ≡ size_of (task_box s k)
    → HasMip (j + 1) from mip → IsWhole mip.size mip.labels → (area : Box3) → area ≡ box_written s.kind s k (j + 1) → (outputs : List Output)
    → ((v : Labels) → labels_in v area ≡ Some mip.labels → option_map (map output_of) (files_in dest v area) ≡ Some outputs) → AreOfMip s k j from.labels outputs
mip-answer s sound is k below j dest at from mip size of whole area area_is outputs cut place at_place volume are =
    let same : dest ≡ place = same_Some dest place (sym at ∙ at_place) in
    subst (λ (p : Place). outputs_at s volume (chunks_in p (box_written s.kind s k (j + 1))) ≡ Some outputs) same
    (mip-made s sound is (j + 1) dest (scale_of s j dest at) k below from mip size of whole outputs
    (λ v have. subst (λ (b : Box3). option_map (map output_of) (files_in dest v b) ≡ Some outputs) area_is (cut v (ap (labels_in v) area_is ∙ have)))
    volume are)

pub if_made : {E : Type 0} (result : Result (List Output) E) (P Q : List Output → Type 0) → ((outputs : List Output) → P outputs → Q outputs) → IfOk result P → IfOk result Q
if_made (Ok outputs) P Q so made = so outputs made
if_made (Err e) P Q so made = tt

-- ---- scale by scale
-- What was made so far, with what is to be made of the scales that are left, is what is to stand at all paths of the task.
abbrev pub GoOn : Stage → ℕ → Labels → ℕ → List Output → Type 0
GoOn s k volume j made =
    (rest : List Output) → outputs_at s volume (chunks_of_all (box_written s.kind s k) (j + 1) (drop j s.dests)) ≡ Some rest → outputs_at s volume (paths_of s k) ≡ Some (made ++ rest)

abbrev pub AreSoFar : Stage → ℕ → ℕ → List ℕ → List Output → Type 0
AreSoFar s k j labels made = (volume : Labels) → labels_in volume (task_box s k) ≡ Some labels → GoOn s k volume j made

pub more-made : (s : Stage) (k j : ℕ) (labels : List ℕ) (made more : List Output) → j < length s.dests → AreSoFar s k j labels made → AreOfMip s k j labels more → AreSoFar s k (j + 1) labels (made ++ more)
more-made s k j labels made more below so_far next volume are rest e =
    let boxes = box_written s.kind s k in
    let place = get_or s.dests j s.source in
    let at : slice_get s.dests j ≡ Some place = slice_get-get_or s.dests j s.source below in
    let here = next place at volume are in
    let one : suc j ≡ j + 1 = omega arith in
    let two : j + 1 + 1 ≡ suc (j + 1) = omega arith in
    let left : drop j s.dests ≡ place ∷ drop (j + 1) s.dests = drop-cons s.dests j s.source below ∙ ap (λ n. place ∷ drop n s.dests) one in
    let later : outputs_at s volume (chunks_of_all boxes (suc (j + 1)) (drop (j + 1) s.dests)) ≡ Some rest
    = ap (λ n. outputs_at s volume (chunks_of_all boxes n (drop (j + 1) s.dests))) (sym two) ∙ e in
    let both = outputs_at-append s volume (chunks_in place (boxes (j + 1))) (chunks_of_all boxes (suc (j + 1)) (drop (j + 1) s.dests)) more rest here later in
    so_far volume are (more ++ rest) (ap (λ places. outputs_at s volume (chunks_of_all boxes (j + 1) places)) left ∙ both)
    ∙ ap Some (sym (append_assoc made more rest))

drop_all : {A : Type 0} (xs : List A) (n : ℕ) → length xs ≤ n → drop n xs ≡ []
drop_all [] zero few = refl
drop_all [] (suc n) few = refl
drop_all (x ∷ xs) zero few = absurd (omega (arith, few))
drop_all (x ∷ xs) (suc n) few = drop_all xs n (omega (arith, few))

pub all-made : (s : Stage) (k j : ℕ) (labels : List ℕ) (made : List Output) → length s.dests ≤ j → AreSoFar s k j labels made
    → (volume : Labels) → labels_in volume (task_box s k) ≡ Some labels → outputs_at s volume (paths_of s k) ≡ Some made
all-made s k j labels made few so_far volume are =
    so_far volume are [] (ap (λ places. outputs_at s volume (chunks_of_all (box_written s.kind s k) (j + 1) places)) (drop_all s.dests j few)) ∙ ap Some (append-nil made)

-- the mip with a number is that volume
pub has-mip : (from : Voxels) (volumes : List Voxels) (j : ℕ) (mip : Voxels) → HaveMips from volumes → j < length volumes → slice_get volumes j ≡ Some mip → HasMip (j + 1) from mip
has-mip from volumes j mip have below at = subst (HasMip (j + 1) from) (get_or_from_slice_get volumes j mip _ at) (have j below)
