-- What a lawful stage has, by its kind.
use Rattle.std.specs.Prelude.{◌≡◌, ◌≤◌, ◌==◌, ℕ, Bool, true, ◌&&◌, suc, List, [], ◌∷◌, length, drop, Option, None, Some, is_none, codes}
use Rattle.std.specs.Str.{bytes_eq, is_utf8}
use Rattle.std.proofs.Common.{refl, sym, ap, ◌∙◌}
use Rattle.std.proofs.lemmas.Bool.{and_parts, leb-true}
use Rattle.std.proofs.lemmas.Slice.Eq.{bytes_eq-Decides}
use Rattle.ig_space.specs.declared.geometry.Encoding.{Encoding}
use Rattle.ig_space.specs.declared.geometry.Encoding.TheVariants.{Raw, Cseg}
use Rattle.ig_space.specs.declared.geometry.Geometry.{Geometry}
use Rattle.ig_space.specs.declared.geometry.Width.{Width}
use Rattle.ig_space.specs.declared.geometry.Width.TheVariants.{W8, W16, W32, W64}
use Rattle.ig_space.specs.declared.place.Place.{Place}
use Rattle.ig_space.specs.Geometry.{geometry_fits, label_len}
use Rattle.ig_space.specs.Grid.{space_of}
use Rattle.ig_space.specs.Path.{joined}
use Rattle.ig_mode.specs.HalvedGrids.{halved_geometry}
use Rattle.ig_record.specs.declared.stage.Kind.{Kind}
use Rattle.ig_record.specs.declared.stage.Kind.TheVariants.{Xfer, Downsample, Faces, Links, Labels, Relabel, Count, Sum, Remove}
use Rattle.ig_record.specs.declared.stage.InfoFile.{InfoFile}
use Rattle.ig_record.specs.declared.stage.Stage.{Stage}
use Rattle.ig_record.specs.Columns.{dirs_of_all}
use Rattle.ig_record.specs.Sound.{are_apart, are_mips, before_name, components_name, counts_name, has_key, has_members, has_mips, has_scratch, is_in_layer, is_info_in, is_info_of, is_layer, is_nothing, is_pass, is_relabelled, is_scale, is_word, most_mips, same_box, same_encoding, same_geometry, same_point, same_voxels}
use Rattle.ig_record.specs.SoundFacts.{IsDest, IsDir-joined, dest-from, is_none-None, same_point-from, same_width, with_points}

-- ---- what stages have

-- One scale of a layer, whose geometry passes, and the info of that layer.
pub record IsLayerOf (test : Geometry → Bool) (dests : List Place) (info : Option InfoFile) : Type 0 where
  pub dest : Place
  pub put : InfoFile
  pub layer : List ℕ
  pub key : List ℕ
  pub dests_are : dests ≡ dest ∷ []
  pub info_is : info ≡ Some put
  pub layer_word : is_word layer ≡ true
  pub key_word : is_word key ≡ true
  pub dir_is : dest.dir ≡ joined layer key
  pub path_is : put.path ≡ joined layer (codes "info")
  pub text : is_utf8 put.text ≡ true
  pub fits : geometry_fits dest.geometry ≡ true
  pub passes : test dest.geometry ≡ true

-- A copy writes one scale of a layer, which has the voxels of the source, and the info of that layer.
pub record IsCopyOf (source : Place) (dests : List Place) (info : Option InfoFile) : Type 0 where
  pub dest : Place
  pub put : InfoFile
  pub layer : List ℕ
  pub key : List ℕ
  pub dests_are : dests ≡ dest ∷ []
  pub info_is : info ≡ Some put
  pub layer_word : is_word layer ≡ true
  pub key_word : is_word key ≡ true
  pub dir_is : dest.dir ≡ joined layer key
  pub path_is : put.path ≡ joined layer (codes "info")
  pub text : is_utf8 put.text ≡ true
  pub is_dest : IsDest source dest

-- The numbers of components have the chunks of the source, and 32 bits.
pub record IsNumbered (source dest : Geometry) : Type 0 where
  pub offset : dest.offset ≡ source.offset
  pub size : dest.size ≡ source.size
  pub chunk : dest.chunk ≡ source.chunk
  pub width : dest.width ≡ W32
  pub space : space_of dest ≡ space_of source

-- a scale with a key of its own in the layer, which is another halved
pub record IsMip (layer : List ℕ) (g : Geometry) (dest : Place) : Type 0 where
  pub key : List ℕ
  pub key_word : is_word key ≡ true
  pub dir_is : dest.dir ≡ joined layer key
  pub geometry : dest.geometry ≡ halved_geometry 1 g

-- each is the one before, halved
abbrev pub AreMips : List ℕ → Geometry → List Place → Type 0
AreMips layer g [] = Unit {0}
AreMips layer g (dest ∷ dests) = IsMip layer g dest × AreMips layer (halved_geometry 1 g) dests

-- Mips of a scale of the layer, in directories that differ, and the info of the layer.
pub record HasMips (layer : List ℕ) (source : Place) (dests : List Place) (info : Option InfoFile) : Type 0 where
  pub put : InfoFile
  pub info_is : info ≡ Some put
  pub path_is : put.path ≡ joined layer (codes "info")
  pub text : is_utf8 put.text ≡ true
  pub some : 1 ≤ length dests
  pub few : length dests ≤ most_mips
  pub apart : are_apart (source.dir ∷ dirs_of_all dests) ≡ true
  pub mips : AreMips layer source.geometry dests

-- It writes no scale, and puts no info.
pub record IsRemoval (dests : List Place) (info : Option InfoFile) : Type 0 where
  pub no_dests : dests ≡ []
  pub no_info : info ≡ None

-- by the kind, where the source is the scale with this key of this layer
pub data IsOfKind (s : Stage) (layer key : List ℕ) : Type 0 where
  of_xfer : s.kind ≡ Xfer → s.scratch ≡ None → IsCopyOf s.source s.dests s.info → IsOfKind s layer key
  of_downsample : s.kind ≡ Downsample → s.scratch ≡ None → HasMips layer s.source s.dests s.info → IsOfKind s layer key
  of_faces : s.kind ≡ Faces → s.scratch ≡ Some (joined (joined layer components_name) key) → IsRemoval s.dests s.info → IsOfKind s layer key
  of_links : s.kind ≡ Links → s.scratch ≡ Some (joined (joined layer components_name) key) → IsRemoval s.dests s.info → IsOfKind s layer key
  of_labels : s.kind ≡ Labels → s.scratch ≡ Some (joined (joined layer components_name) key) → IsRemoval s.dests s.info → IsOfKind s layer key
  of_relabel : s.kind ≡ Relabel → s.scratch ≡ Some (joined (joined layer components_name) key)
      → IsLayerOf (is_relabelled s.source.geometry) s.dests s.info → IsOfKind s layer key
  of_count : s.kind ≡ Count → s.scratch ≡ Some (joined (joined layer counts_name) key) → IsRemoval s.dests s.info → IsOfKind s layer key
  of_sum : s.kind ≡ Sum → s.scratch ≡ Some (joined (joined layer counts_name) key) → IsRemoval s.dests s.info → IsOfKind s layer key
  of_remove : s.kind ≡ Remove → s.scratch ≡ None → IsRemoval s.dests s.info → IsOfKind s layer key

-- ---- from the tests

text-is : (a b : List ℕ) → bytes_eq a b ≡ true → a ≡ b
text-is a b = (bytes_eq-Decides a b).0

layer-of : (test : Geometry → Bool) (key : List ℕ) (dests : List Place) (info : Option InfoFile) → is_word key ≡ true → is_layer test key dests info ≡ true → IsLayerOf test dests info
layer-of test key (dest ∷ []) (Some info) word h =
    let layer = before_name dest.dir key in
    let a = and_parts (is_scale key dest && is_info_of key dest.dir info) (test dest.geometry) h in
    let b = and_parts (is_scale key dest) (is_info_of key dest.dir info) a.0 in
    let d = and_parts (has_key key dest.dir) (geometry_fits dest.geometry) b.0 in
    let k = and_parts (is_word layer) (bytes_eq (joined layer key) dest.dir) d.0 in
    let p = and_parts (bytes_eq info.path (joined layer (codes "info"))) (is_utf8 info.text) b.1 in
    record {
      dest = dest;
      put = info;
      layer = layer;
      key = key;
      dests_are = refl;
      info_is = refl;
      layer_word = k.0;
      key_word = word;
      dir_is = sym (text-is (joined layer key) dest.dir k.1);
      path_is = text-is info.path (joined layer (codes "info")) p.0;
      text = p.1;
      fits = d.1;
      passes = a.1;
    }
layer-of test key [] info word h = absurd cc
layer-of test key (dest ∷ []) None word h = absurd cc
layer-of test key (dest ∷ other ∷ dests) info word h = absurd cc

copy-of : (source : Place) (dests : List Place) (info : Option InfoFile) → IsLayerOf (same_voxels source.geometry) dests info → IsCopyOf source dests info
copy-of source dests info l = record {
  dest = l.dest;
  put = l.put;
  layer = l.layer;
  key = l.key;
  dests_are = l.dests_are;
  info_is = l.info_is;
  layer_word = l.layer_word;
  key_word = l.key_word;
  dir_is = l.dir_is;
  path_is = l.path_is;
  text = l.text;
  is_dest = dest-from source l.dest (IsDir-joined l.dest.dir l.layer l.key l.dir_is l.layer_word l.key_word) l.fits l.passes;
}

pub numbered-from : (g h : Geometry) → is_relabelled g h ≡ true → IsNumbered g h
numbered-from g h e =
    let a = and_parts (same_box g h) (same_point g.chunk h.chunk && label_len h.width == 4) e in
    let b = and_parts (same_point g.offset h.offset) (same_point g.size h.size) a.0 in
    let d = and_parts (same_point g.chunk h.chunk) (label_len h.width == 4) a.1 in
    let offset = sym (same_point-from g.offset h.offset b.0) in
    let size = sym (same_point-from g.size h.size b.1) in
    record {
      offset = offset;
      size = size;
      chunk = sym (same_point-from g.chunk h.chunk d.0);
      width = same_width W32 h.width (four h.width d.1);
      space = λ i. space_of (with_points g (offset i) (size i));
    }
  where
    four : (w : Width) → (label_len w == 4) ≡ true → (4 == label_len w) ≡ true
    four W32 e = refl
    four W8 e = absurd cc
    four W16 e = absurd cc
    four W64 e = absurd cc

same_encoding-from : (a b : Encoding) → same_encoding a b ≡ true → b ≡ a
same_encoding-from Raw Raw e = refl
same_encoding-from (Cseg a) (Cseg b) e = ap (λ p. Cseg p) (sym (same_point-from a b e))
same_encoding-from Raw (Cseg b) e = absurd cc
same_encoding-from (Cseg a) Raw e = absurd cc

same_geometry-from : (g h : Geometry) → same_geometry g h ≡ true → h ≡ g
same_geometry-from g h e =
    let a = and_parts (same_voxels g h) (same_point g.chunk h.chunk && same_encoding g.encoding h.encoding) e in
    let v = and_parts (same_box g h) (label_len g.width == label_len h.width) a.0 in
    let b = and_parts (same_point g.offset h.offset) (same_point g.size h.size) v.0 in
    let d = and_parts (same_point g.chunk h.chunk) (same_encoding g.encoding h.encoding) a.1 in
    let offset = sym (same_point-from g.offset h.offset b.0) in
    let size = sym (same_point-from g.size h.size b.1) in
    let chunk = sym (same_point-from g.chunk h.chunk d.0) in
    let width = same_width g.width h.width v.1 in
    let encoding = same_encoding-from g.encoding h.encoding d.1 in
    λ i. record { offset = offset i; size = size i; chunk = chunk i; width = width i; encoding = encoding i }

mips-of : (layer : List ℕ) (g : Geometry) (dests : List Place) → are_mips layer g dests ≡ true → AreMips layer g dests
mips-of layer g [] h = tt
mips-of layer g (dest ∷ dests) h =
    let key = drop (suc (length layer)) dest.dir in
    let a = and_parts (is_in_layer layer dest.dir) _ h in
    let b = and_parts (same_geometry (halved_geometry 1 g) dest.geometry) (are_mips layer (halved_geometry 1 g) dests) a.1 in
    let d = and_parts (is_word key) (bytes_eq (joined layer key) dest.dir) a.0 in (
      record { key = key; key_word = d.0; dir_is = sym (text-is (joined layer key) dest.dir d.1); geometry = same_geometry-from (halved_geometry 1 g) dest.geometry b.0 },
      mips-of layer (halved_geometry 1 g) dests b.1,
    )

has-mips : (layer : List ℕ) (source : Place) (dests : List Place) (info : Option InfoFile) → has_mips layer source dests info ≡ true → HasMips layer source dests info
has-mips layer source dests None h = absurd cc
has-mips layer source dests (Some info) h =
    let a = and_parts _ (are_apart (source.dir ∷ dirs_of_all dests) && (are_mips layer source.geometry dests && is_info_in layer info)) h in
    let n = and_parts _ _ a.0 in
    let b = and_parts (are_apart (source.dir ∷ dirs_of_all dests)) (are_mips layer source.geometry dests && is_info_in layer info) a.1 in
    let d = and_parts (are_mips layer source.geometry dests) (is_info_in layer info) b.1 in
    let p = and_parts (bytes_eq info.path (joined layer (codes "info"))) (is_utf8 info.text) d.1 in
    record {
      put = info;
      info_is = refl;
      path_is = text-is info.path (joined layer (codes "info")) p.0;
      text = p.1;
      some = leb-true 1 (length dests) n.0;
      few = leb-true (length dests) most_mips n.1;
      apart = b.0;
      mips = mips-of layer source.geometry dests d.0;
    }

removal-of : (dests : List Place) (info : Option InfoFile) → is_nothing dests info ≡ true → IsRemoval dests info
removal-of [] None h = record { no_dests = refl; no_info = refl }
removal-of [] (Some info) h = absurd cc
removal-of (dest ∷ dests) info h = absurd cc

scratch-of : (layer name key : List ℕ) (scratch : Option (List ℕ)) → has_scratch layer name key scratch ≡ true → scratch ≡ Some (joined (joined layer name) key)
scratch-of layer name key None h = absurd cc
scratch-of layer name key (Some dir) h =
    let front = before_name dir key in
    let a = and_parts (bytes_eq (joined layer name) front) (bytes_eq (joined front key) dir) h in
    ap (λ d. Some d) (sym (text-is (joined front key) dir a.1)) ∙ ap (λ d. Some (joined d key)) (sym (text-is (joined layer name) front a.0))

-- the scratch and that nothing else is written
pass-of : (layer name key : List ℕ) (s : Stage) → is_pass layer name key s ≡ true → (s.scratch ≡ Some (joined (joined layer name) key)) × IsRemoval s.dests s.info
pass-of layer name key s h =
    let a = and_parts (has_scratch layer name key s.scratch) (is_nothing s.dests s.info) h in
    (scratch-of layer name key s.scratch a.0, removal-of s.dests s.info a.1)

pub kind-of : (kind : Kind) (layer key : List ℕ) (s : Stage) → s.kind ≡ kind → is_word key ≡ true → has_members kind layer key s ≡ true → IsOfKind s layer key
kind-of Xfer layer key s is word h =
    let a = and_parts (is_none s.scratch) _ h in
    of_xfer is (is_none-None s.scratch a.0) (copy-of s.source s.dests s.info (layer-of (same_voxels s.source.geometry) key s.dests s.info word a.1))
kind-of Downsample layer key s is word h =
    let a = and_parts (is_none s.scratch) _ h in of_downsample is (is_none-None s.scratch a.0) (has-mips layer s.source s.dests s.info a.1)
kind-of Faces layer key s is word h = let p = pass-of layer components_name key s h in of_faces is p.0 p.1
kind-of Links layer key s is word h = let p = pass-of layer components_name key s h in of_links is p.0 p.1
kind-of Labels layer key s is word h = let p = pass-of layer components_name key s h in of_labels is p.0 p.1
kind-of Relabel layer key s is word h =
    let a = and_parts (has_scratch layer components_name key s.scratch) _ h in
    of_relabel is (scratch-of layer components_name key s.scratch a.0) (layer-of (is_relabelled s.source.geometry) key s.dests s.info word a.1)
kind-of Count layer key s is word h = let p = pass-of layer counts_name key s h in of_count is p.0 p.1
kind-of Sum layer key s is word h = let p = pass-of layer counts_name key s h in of_sum is p.0 p.1
kind-of Remove layer key s is word h =
    let a = and_parts (is_none s.scratch) _ h in of_remove is (is_none-None s.scratch a.0) (removal-of s.dests s.info a.1)
