-- Mips: the files of a task are the chunks of its box in each scale.
use Rattle.std.specs.Prelude.{◌≡◌, ◌≢◌, ◌<◌, ℕ, zero, suc, true, List, [], ◌∷◌, length, Option, None, Some, is_some, option_map, Contains, codes, refl}
use Rattle.std.proofs.Common.{arith, ap, sym, subst, ◌∙◌, length-append}
use Rattle.std.proofs.lemmas.Option.{none-some, same_Some}
use Rattle.ig_space.specs.declared.point.Box3.{Box3}
use Rattle.ig_space.specs.declared.geometry.Geometry.{Geometry}
use Rattle.ig_space.specs.declared.place.Place.{Place}
use Rattle.ig_space.specs.Chunks.{chunks_in}
use Rattle.ig_space.specs.Grid.{cell}
use Rattle.ig_space.specs.Path.{joined}
use Rattle.ig_defs.specs.Own.{File}
use Rattle.ig_layer.specs.Layer.{Reading, volume_at}
use Rattle.ig_mode.specs.HalvedGrids.{halved_geometry}
use Rattle.ig_record.specs.declared.stage.Kind.{Kind}
use Rattle.ig_record.specs.declared.stage.Kind.TheVariants.{Downsample}
use Rattle.ig_record.specs.declared.stage.Stage.{Stage}
use Rattle.ig_record.specs.Columns.{box_read, box_written, chunks_of_all, dirs_by, dirs_of_all, output_dirs, paths_by, paths_of, removed_by, scratch_read}
use Rattle.ig_record.specs.Sound.{are_apart, is_sound}
use Rattle.ig_record.specs.SoundKinds.{AreMips}
use Rattle.ig_record.specs.SoundStages.{IsSound, sound-kind}
use Rattle.ig_record.specs.Stage.{task_count, task_size}
use Rattle.ig_meaning.specs.ChunkPlaces.{IsChunk, chunk-lies}
use Rattle.ig_meaning.specs.Jobs.{file_of}
use Rattle.ig_meaning.specs.Wants.{Want, mip_among, mip_want, text_by, wanted_text, wants_by}
use Rattle.ig_rule.specs.Dirs.{LiesIn}
use Rattle.ig_rule.specs.DirPaths.{dir_is, dir_of-segment, dir_within}
use Rattle.ig_rule.specs.Facts.{IsPath, LiesInOne}
use Rattle.ig_task.specs.Facts.{facts_of}
use Rattle.ig_task.specs.HalvedTiles.{IsMipScale, mip-box, mip-count, mip-tiled, mip_parts, mip_scale}
use Rattle.ig_task.specs.KindFacts.{IsDownsample, IsOf, MakesFiles, is-of}
use Rattle.ig_task.specs.MipWants.{IsMipAt, IsPathOf, chunk-of-path, mip_among-from, mip_among-is, path-of-chunk}
use Rattle.ig_task.specs.Scales.{HasScale, rest_apart, scale-dir, scale-from, scale-has, scales-one}
use Rattle.ig_task.specs.Tiles.{chunk-part, part-from, part-one}

pub mips-of : (s : Stage) → is_sound s ≡ true → s.kind ≡ Downsample → IsDownsample s
mips-of s sound is = subst (λ (kind : Kind). IsOf kind s) is (is-of s (sound-kind s sound))

longer : (layer key : List ℕ) → joined layer key ≢ layer
longer layer key e = let long : length (joined layer key) ≡ length layer = ap (λ (text : List ℕ). length text) e in absurd (omega (arith, long, length-append layer (47 ∷ key)))

-- the scales lie under the layer
mips_under : (layer : List ℕ) (g : Geometry) (places : List Place) → AreMips layer g places → (dir : List ℕ) → Contains (dirs_of_all places) dir → dir ≡ layer → ⊥
mips_under layer g [] are dir h same = absurd (omega (arith, h.1))
mips_under layer g (first ∷ rest) are dir (zero, few, is) same = longer layer are.0.key (sym are.0.dir_is ∙ is ∙ same)
mips_under layer g (first ∷ rest) are dir (suc k, few, is) same = mips_under layer (halved_geometry 1 g) rest are.1 dir (k, omega (arith, few), is) same

module _ (s : Stage) (h : IsSound s) (is : s.kind ≡ Downsample) (d : IsDownsample s) where
  abbrev boxes : ℕ → ℕ → Box3
  boxes k m = box_written Downsample s k m

  apart : are_apart (dirs_of_all s.dests) ≡ true
  apart = rest_apart s.source.dir (dirs_of_all s.dests) d.mips.apart

  mip-paths : (k : ℕ) → paths_of s k ≡ chunks_of_all (boxes k) 1 s.dests
  mip-paths k = ap (λ (kind : Kind). paths_by kind s k) is

  mip-dirs : output_dirs s ≡ dirs_of_all s.dests
  mip-dirs = ap (λ (kind : Kind). dirs_by kind s) is

  -- what is wanted at the path of a chunk of a scale
  pub mip-wants : (m : ℕ) (place : Place) → HasScale 1 s.dests m place → (i : ℕ) (path : List ℕ) → IsPathOf place i path → wants_by s.kind s path ≡ Some (mip_want s.source.geometry m place i)
  mip-wants m place has i path of =
      ap (λ (kind : Kind). wants_by kind s path) is ∙ mip_among-is s.source.geometry 1 s.dests h.layers.row.scales apart m place has i path of

  -- a path of a task is that of a chunk of a scale, in a part of that
  pub record IsOfMip (k : ℕ) (path : List ℕ) : Type 0 where
    pub number : ℕ
    pub place : Place
    pub has : HasScale 1 s.dests number place
    pub mip : IsMipScale s number place
    pub among : Contains (chunks_in place (cell (mip_parts s h number place mip) k)) path
    pub chunk : ℕ
    pub of : IsPathOf place chunk path

  pub mip-from : (k : ℕ) → k < task_count s → (path : List ℕ) → Contains (paths_of s k) path → IsOfMip k path
  mip-from k below path among =
      let v = scale-from (boxes k) 1 s.dests path (subst (λ paths. Contains paths path) (mip-paths k) among) in
      let mip = mip_scale s h is d v.number v.place v.has in
      let parts = mip_parts s h v.number v.place mip in
      let within = subst (λ (b : Box3). Contains (chunks_in v.place b) path) (mip-box s h v.number v.place mip k) v.among in
      let p = part-from v.place parts (mip-tiled s h v.number v.place mip) k (subst (λ n. k < n) (mip-count s h v.number v.place mip) below) path within in
      record {
        number = v.number;
        place = v.place;
        has = v.has;
        mip = mip;
        among = within;
        chunk = p.at.number;
        of = path-of-chunk v.place path p.box p.at;
      }

  -- and each chunk of a scale is the path of a task
  pub mip-path : (m : ℕ) (place : Place) → HasScale 1 s.dests m place → (path : List ℕ) → IsChunk place path → IsPath (facts_of 0 s) path
  mip-path m place has path chunk =
      let mip = mip_scale s h is d m place has in
      let p = chunk-part place (mip_parts s h m place mip) (mip-tiled s h m place mip) path chunk in
      let among = subst (λ (b : Box3). Contains (chunks_in place b) path) (sym (mip-box s h m place mip p.part)) p.among in
      record {
        task = p.part;
        below = subst (λ n. p.part < n) (sym (mip-count s h m place mip)) p.below;
        among = subst (λ paths. Contains paths path) (sym (mip-paths p.part)) (scale-has (boxes p.part) 1 s.dests m place path has among);
      }

  -- ---- what a kind owes
  mip-wanted : (k : ℕ) → k < task_count s → (path : List ℕ) → Contains (paths_of s k) path → is_some (wants_by s.kind s path) ≡ true
  mip-wanted k below path among =
      let v = mip-from k below path among in
      ap (λ (want : Option Want). is_some want) (mip-wants v.number v.place v.has v.chunk path v.of)

  wanted_by : (files : Reading) (path bytes : List ℕ) (o : Option Want) → mip_among s.source.geometry 1 s.dests path ≡ o → text_by (volume_at files s.source) o ≡ Some bytes → IsMipAt 1 s.dests path
  wanted_by files path bytes None at e = absurd (none-some bytes e)
  wanted_by files path bytes (Some want) at e = mip_among-from s.source.geometry 1 s.dests h.layers.row.scales path want at

  wanted_path : (files : Reading) (path bytes : List ℕ) → wanted_text s files path ≡ Some bytes → IsPath (facts_of 0 s) path
  wanted_path files path bytes e =
      let wants : wants_by s.kind s path ≡ mip_among s.source.geometry 1 s.dests path = ap (λ (kind : Kind). wants_by kind s path) is in
      let v = wanted_by files path bytes (mip_among s.source.geometry 1 s.dests path) refl (ap (text_by (volume_at files s.source)) (sym wants) ∙ e) in
      mip-path v.number v.place v.has path (chunk-of-path v.place v.chunk path v.of)

  lies_in : (k : ℕ) (path : List ℕ) → (v : IsOfMip k path) → LiesIn v.place.dir path
  lies_in k path v = chunk-lies v.place v.mip.scale.fits v.mip.scale.dir path (chunk-of-path v.place v.chunk path v.of)

  mip-in : (path : List ℕ) → IsPath (facts_of 0 s) path → LiesInOne (output_dirs s) path
  mip-in path u =
      let v = mip-from u.task u.below path u.among in
      record {
        dir = v.place.dir;
        one = subst (λ dirs. Contains dirs v.place.dir) (sym mip-dirs) (scale-dir 1 s.dests v.number v.place v.has);
        lies = lies_in u.task path v;
      }

  mip-one : (j k : ℕ) (path : List ℕ) → j < task_count s → k < task_count s → Contains (paths_of s j) path → Contains (paths_of s k) path → j ≡ k
  mip-one j k path j_below k_below in_j in_k =
      let v = mip-from j j_below path in_j in
      let w = mip-from k k_below path in_k in
      let same = scales-one 1 s.dests apart w.number v.number w.place v.place w.has v.has (dir_is w.place.dir v.place.dir path (lies_in k path w) (lies_in j path v)) in
      let back = subst (λ (b : Box3). Contains (chunks_in w.place b) path) (sym (mip-box s h w.number w.place w.mip k)) w.among in
      let moved : Contains (chunks_in v.place (boxes k v.number)) path
      = subst (λ (p : Place). Contains (chunks_in p (boxes k v.number)) path) same.1 (subst (λ (n : ℕ). Contains (chunks_in w.place (boxes k n)) path) same.0 back) in
      part-one v.place (mip_parts s h v.number v.place v.mip) (mip-tiled s h v.number v.place v.mip) j k path
      (subst (λ n. j < n) (mip-count s h v.number v.place v.mip) j_below) (subst (λ n. k < n) (mip-count s h v.number v.place v.mip) k_below)
      v.among (subst (λ (b : Box3). Contains (chunks_in v.place b) path) (mip-box s h v.number v.place v.mip k) moved)

  -- the info of the layer
  info_is : (info : File) → option_map file_of s.info ≡ Some info → info.path ≡ joined d.layer (codes "info")
  info_is info e =
      let same : file_of d.mips.put ≡ info = same_Some (file_of d.mips.put) info (ap (option_map file_of) (sym d.mips.info_is) ∙ e) in
      ap (λ (file : File). file.path) (sym same) ∙ d.mips.path_is

  info-apart : (info : File) → option_map file_of s.info ≡ Some info → LiesInOne (output_dirs s) info.path → ⊥
  info-apart info e within =
      let one : Contains (dirs_of_all s.dests) within.dir = subst (λ dirs. Contains dirs within.dir) mip-dirs within.one in
      let of_layer : within.dir ≡ d.layer = dir_within within.dir d.layer (codes "info") info.path within.lies (dir_of-segment (codes "info") refl) (info_is info e) in
      mips_under d.layer s.source.geometry s.dests d.mips.mips within.dir one of_layer

  pub mips-make_files : MakesFiles s
  mips-make_files = record {
    keeps = ap (λ (kind : Kind). removed_by kind s) is;
    shape = ap (λ (kind : Kind). task_size kind s) is;
    reads = λ k. ap (λ (kind : Kind). box_read kind s k) is;
    no_scratch = λ k. ap (λ (kind : Kind). scratch_read kind s k) is;
    wants = mip-wanted;
    wanted_at = wanted_path;
    path_in = mip-in;
    one_task = mip-one;
    info_name = λ info e. record { dir = d.layer; is = info_is info e };
    info_apart = info-apart;
  }
