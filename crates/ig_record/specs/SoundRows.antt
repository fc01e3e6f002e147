-- What the rows of the table of kinds rest on: one record for a stage of any kind.
use Rattle.std.specs.Prelude.{◌≡◌, ◌≤◌, ◌<◌, ◌+◌, ◌-◌, ℕ, zero, suc, true, List, [], ◌∷◌, length, Option, Some, None, IfSome}
use Rattle.std.specs.List.{AllByRecursion}
use Rattle.std.proofs.Common.{arith, refl, sym, ap, ◌∙◌, subst, mul-pos, length-append, true≢false}
use Rattle.std.proofs.lemmas.Nat.{pow_pos}
use Rattle.ig_space.specs.declared.point.Point.{Point}
use Rattle.ig_space.specs.declared.point.Box3.{Box3}
use Rattle.ig_space.specs.declared.geometry.Geometry.{Geometry}
use Rattle.ig_space.specs.declared.place.Place.{Place}
use Rattle.ig_space.specs.Geometry.{geometry_fits}
use Rattle.ig_space.specs.Grid.{IsWithin, space_of}
use Rattle.ig_space.specs.Path.{is_path, joined}
use Rattle.ig_space.specs.Segments.{is_path-joined}
use Rattle.ig_mode.specs.CellLaws.{geometry-after, geometry-fits}
use Rattle.ig_mode.specs.HalvedGrids.{halved_box, halved_geometry}
use Rattle.ig_mode.specs.Mips.{down_times, up_times}
use Rattle.ig_mode.specs.Mode.{half_up}
use Rattle.ig_record.specs.declared.stage.InfoFile.{InfoFile}
use Rattle.ig_record.specs.declared.stage.Kind.{Kind}
use Rattle.ig_record.specs.declared.stage.Kind.TheVariants.{Xfer, Downsample, Faces, Links, Labels, Relabel, Count, Sum, Remove}
use Rattle.ig_record.specs.declared.stage.Stage.{Stage}
use Rattle.ig_record.specs.Columns.{box_written}
use Rattle.ig_record.specs.Sound.{components_name, counts_name, has_come, is_relabelled, is_word, most_mips}
use Rattle.ig_record.specs.SoundFacts.{HasSides, IsDir-joined, IsPut, IsScale, IsScratch, info-from, none-holds, sides-fit, some-holds, word-path}
use Rattle.ig_record.specs.SoundKinds.{AreMips, HasMips, IsCopyOf, IsLayerOf, IsOfKind, IsRemoval, of_xfer, of_downsample, of_faces, of_links, of_labels, of_relabel, of_count, of_sum, of_remove, numbered-from}
use Rattle.ig_record.specs.Stage.{before_mips, shape_unit, task_box}

-- each scale has its box in its space, where the first has number m
abbrev pub AllWithin : (ℕ → Box3) → ℕ → List Place → Type 0
AllWithin boxes m [] = Unit {0}
AllWithin boxes m (place ∷ places) = IsWithin (boxes m) (space_of place.geometry) × AllWithin boxes (suc m) places

-- What a lawful stage has, whatever its kind.
pub record HasRow (s : Stage) : Type 0 where
  pub scales : AllByRecursion IsScale s.dests
  pub few : length s.dests ≤ most_mips
  pub unit : HasSides (shape_unit s.kind s.source s.dests)
  pub keeps : IfSome s.scratch IsScratch
  pub puts : IfSome s.info IsPut
  pub boxes : (k : ℕ) → IsWithin (task_box s k) (space_of s.source.geometry) → AllWithin (box_written s.kind s k) 1 s.dests

-- ---- mips
down-below : (m a b : ℕ) → a < b → down_times m a < up_times m b
down-below zero a b less = less
down-below (suc m) a b less = down-below m _ (half_up b) (omega arith)

up-most : (m a b : ℕ) → a ≤ b → up_times m a ≤ up_times m b
up-most zero a b most = most
up-most (suc m) a b most = up-most m (half_up a) (half_up b) (omega arith)

-- a box in a scale, halved, is one in the halved scale
pub halved-within : (m : ℕ) (g : Geometry) (b : Box3) → IsWithin b (space_of g) → IsWithin (halved_box m g.offset b) (space_of (halved_geometry m g))
halved-within m g b w = record {
  x_from = omega arith;
  x_some = let less = down-below m (b.lo.x - g.offset.x) (b.hi.x - g.offset.x) (omega (arith, w.x_from, w.x_some)) in omega (arith, less);
  x_to = let most = up-most m (b.hi.x - g.offset.x) g.size.x (omega (arith, w.x_to)) in omega (arith, most);
  y_from = omega arith;
  y_some = let less = down-below m (b.lo.y - g.offset.y) (b.hi.y - g.offset.y) (omega (arith, w.y_from, w.y_some)) in omega (arith, less);
  y_to = let most = up-most m (b.hi.y - g.offset.y) g.size.y (omega (arith, w.y_to)) in omega (arith, most);
  z_from = w.z_from;
  z_some = w.z_some;
  z_to = w.z_to;
}

after : (m : ℕ) (g : Geometry) → halved_geometry 1 (halved_geometry m g) ≡ halved_geometry (suc m) g
after m g = let next : m + 1 ≡ suc m = omega arith in geometry-after m g ∙ ap (λ n. halved_geometry n g) next

mips-within : (layer : List ℕ) (g : Geometry) (b : Box3) (m : ℕ) (dests : List Place) → IsWithin b (space_of g) → AreMips layer (halved_geometry m g) dests
    → AllWithin (λ n. halved_box n g.offset b) (suc m) dests
mips-within layer g b m [] w are = tt
mips-within layer g b m (dest ∷ dests) w are = (
  subst (λ (h : Geometry). IsWithin (halved_box (suc m) g.offset b) (space_of h)) (sym (are.0.geometry ∙ after m g)) (halved-within (suc m) g b w),
  mips-within layer g b (suc m) dests w (subst (λ (h : Geometry). AreMips layer h dests) (after m g) are.1),
)

mips-scales : (layer : List ℕ) (g : Geometry) (dests : List Place) → is_word layer ≡ true → geometry_fits g ≡ true → AreMips layer g dests → AllByRecursion IsScale dests
mips-scales layer g [] word fits are = tt
mips-scales layer g (dest ∷ dests) word fits are =
    let next = geometry-fits 1 g fits in (
      record {
        dir = IsDir-joined dest.dir layer are.0.key are.0.dir_is word are.0.key_word;
        fits = subst (λ (h : Geometry). geometry_fits h ≡ true) (sym are.0.geometry) next;
      },
      mips-scales layer (halved_geometry 1 g) dests word next are.1,
    )

long-sides : (m : ℕ) (chunk : Point) → HasSides chunk → HasSides (before_mips m chunk)
long-sides m chunk sides = record { x = mul-pos (pow_pos m) sides.x; y = mul-pos (pow_pos m) sides.y; z = sides.z }

-- ---- passes
scratch-is : (layer name key : List ℕ) (scratch : Option (List ℕ)) → is_word layer ≡ true → is_path name ≡ true → length name ≤ 6 → is_word key ≡ true → scratch ≡ Some (joined (joined layer name) key)
    → IfSome scratch IsScratch
scratch-is layer name key scratch l n short k is =
    let a = word-path layer l in
    let b = word-path key k in
    let first = length-append layer (47 ∷ name) in
    let whole = length-append (joined layer name) (47 ∷ key) in
    some-holds scratch (joined (joined layer name) key) IsScratch is
    (record {
      path = is_path-joined (joined layer name) key (is_path-joined layer name a.0 n (omega (arith, first, a.1, short))) b.0 (omega (arith, first, whole, a.1, b.1, short));
      short = omega (arith, first, whole, a.1, b.1, short);
    })

-- ---- rows
-- a stage that writes no scale
row-empty : (s : Stage) → geometry_fits s.source.geometry ≡ true → IsRemoval s.dests s.info → shape_unit s.kind s.source s.dests ≡ s.source.geometry.chunk → IfSome s.scratch IsScratch → HasRow s
row-empty s fits r unit keeps = record {
  scales = subst (AllByRecursion IsScale) (sym r.no_dests) tt;
  few = let none = ap length r.no_dests in omega (arith, none);
  unit = subst HasSides (sym unit) (sides-fit s.source.geometry fits);
  keeps = keeps;
  puts = none-holds s.info IsPut r.no_info;
  boxes = λ k within. subst (AllWithin (box_written s.kind s k) 1) (sym r.no_dests) tt;
}

-- a stage that writes one scale, of the voxels of its source
record WritesOne (s : Stage) : Type 0 where
  dest : Place
  put : InfoFile
  dests_are : s.dests ≡ dest ∷ []
  info_is : s.info ≡ Some put
  scale : IsScale dest
  is_put : IsPut put
  space : space_of dest.geometry ≡ space_of s.source.geometry
  box : (k : ℕ) → box_written s.kind s k 1 ≡ task_box s k

row-one : (s : Stage) (w : WritesOne s) → HasSides (shape_unit s.kind s.source (w.dest ∷ [])) → IfSome s.scratch IsScratch → HasRow s
row-one s w unit keeps = record {
  scales = subst (AllByRecursion IsScale) (sym w.dests_are) (w.scale, tt);
  few = let one = ap length w.dests_are in omega (arith, one);
  unit = subst (λ (dests : List Place). HasSides (shape_unit s.kind s.source dests)) (sym w.dests_are) unit;
  keeps = keeps;
  puts = some-holds s.info w.put IsPut w.info_is w.is_put;
  boxes = λ k within. subst (AllWithin (box_written s.kind s k) 1) (sym w.dests_are)
      (subst (λ (b : Box3). IsWithin b (space_of w.dest.geometry)) (sym (w.box k)) (subst (IsWithin (task_box s k)) (sym w.space) within), tt);
}

copy-one : (s : Stage) → s.kind ≡ Xfer → IsCopyOf s.source s.dests s.info → WritesOne s
copy-one s is c = record {
  dest = c.dest;
  put = c.put;
  dests_are = c.dests_are;
  info_is = c.info_is;
  scale = record { dir = c.is_dest.dir; fits = c.is_dest.fits };
  is_put = info-from c.layer c.put c.layer_word c.path_is c.text;
  space = c.is_dest.space;
  box = λ k. ap (λ (kind : Kind). box_written kind s k 1) is;
}

numbers-one : (s : Stage) → s.kind ≡ Relabel → IsLayerOf (is_relabelled s.source.geometry) s.dests s.info → WritesOne s
numbers-one s is l = record {
  dest = l.dest;
  put = l.put;
  dests_are = l.dests_are;
  info_is = l.info_is;
  scale = record { dir = IsDir-joined l.dest.dir l.layer l.key l.dir_is l.layer_word l.key_word; fits = l.fits };
  is_put = info-from l.layer l.put l.layer_word l.path_is l.text;
  space = (numbered-from s.source.geometry l.dest.geometry l.passes).space;
  box = λ k. ap (λ (kind : Kind). box_written kind s k 1) is;
}

row-mips : (s : Stage) (layer : List ℕ) → geometry_fits s.source.geometry ≡ true → is_word layer ≡ true → s.kind ≡ Downsample → s.scratch ≡ None → HasMips layer s.source s.dests s.info → HasRow s
row-mips s layer fits word is none h = record {
  scales = mips-scales layer s.source.geometry s.dests word fits h.mips;
  few = h.few;
  unit = subst (λ (kind : Kind). HasSides (shape_unit kind s.source s.dests)) (sym is) (long-sides (length s.dests) s.source.geometry.chunk (sides-fit s.source.geometry fits));
  keeps = none-holds s.scratch IsScratch none;
  puts = some-holds s.info h.put IsPut h.info_is (info-from layer h.put word h.path_is h.text);
  boxes = λ k within. subst (λ (kind : Kind). AllWithin (box_written kind s k) 1 s.dests) (sym is) (mips-within layer s.source.geometry (task_box s k) 0 s.dests within h.mips);
}

chunk-unit : (s : Stage) (kind : Kind) → s.kind ≡ kind → shape_unit kind s.source s.dests ≡ s.source.geometry.chunk → shape_unit s.kind s.source s.dests ≡ s.source.geometry.chunk
chunk-unit s kind is e = ap (λ (kind : Kind). shape_unit kind s.source s.dests) is ∙ e

components-path : is_path components_name ≡ true
unfolding is_path
components-path = refl

counts-path : is_path counts_name ≡ true
unfolding is_path
counts-path = refl

-- Each kind has its row.
pub row_of : (s : Stage) (layer key : List ℕ) → geometry_fits s.source.geometry ≡ true → is_word layer ≡ true → is_word key ≡ true → IsOfKind s layer key → HasRow s
unfolding copy-one numbers-one
row_of s layer key fits l k (of_xfer is none c) =
    row-one s (copy-one s is c) (subst (λ (kind : Kind). HasSides (shape_unit kind s.source (c.dest ∷ []))) (sym is) (sides-fit c.dest.geometry c.is_dest.fits)) (none-holds s.scratch IsScratch none)
row_of s layer key fits l k (of_downsample is none h) = row-mips s layer fits l is none h
row_of s layer key fits l k (of_faces is at r) = row-empty s fits r (chunk-unit s Faces is refl) (scratch-is layer components_name key s.scratch l components-path (omega arith) k at)
row_of s layer key fits l k (of_links is at r) = row-empty s fits r (chunk-unit s Links is refl) (scratch-is layer components_name key s.scratch l components-path (omega arith) k at)
row_of s layer key fits l k (of_labels is at r) = row-empty s fits r (chunk-unit s Labels is refl) (scratch-is layer components_name key s.scratch l components-path (omega arith) k at)
row_of s layer key fits l k (of_relabel is at n) =
    row-one s (numbers-one s is n) (subst (λ (kind : Kind). HasSides (shape_unit kind s.source (n.dest ∷ []))) (sym is) (sides-fit s.source.geometry fits))
    (scratch-is layer components_name key s.scratch l components-path (omega arith) k at)
row_of s layer key fits l k (of_count is at r) = row-empty s fits r (chunk-unit s Count is refl) (scratch-is layer counts_name key s.scratch l counts-path (omega arith) k at)
row_of s layer key fits l k (of_sum is at r) = row-empty s fits r (chunk-unit s Sum is refl) (scratch-is layer counts_name key s.scratch l counts-path (omega arith) k at)
row_of s layer key fits l k (of_remove is none r) = row-empty s fits r (chunk-unit s Remove is refl) (none-holds s.scratch IsScratch none)

-- ---- the kinds that have come
-- A sound stage is of one of these. Each kind that comes adds its line here, and so owes what is proved by these cases above.
pub data IsSoundKind (s : Stage) : Type 0 where
  is_xfer : s.kind ≡ Xfer → s.scratch ≡ None → IsCopyOf s.source s.dests s.info → IsSoundKind s
  is_downsample : s.kind ≡ Downsample → s.scratch ≡ None → (layer : List ℕ) → HasMips layer s.source s.dests s.info → IsSoundKind s
  is_count : s.kind ≡ Count → (scratch : List ℕ) → s.scratch ≡ Some scratch → IsRemoval s.dests s.info → IsSoundKind s
  is_remove : s.kind ≡ Remove → s.scratch ≡ None → IsRemoval s.dests s.info → IsSoundKind s

not-come : (s : Stage) (kind : Kind) → s.kind ≡ kind → has_come s.kind ≡ true → has_come kind ≡ true
not-come s kind is come = subst (λ (kind : Kind). has_come kind ≡ true) is come

pub come-kind : (s : Stage) (layer key : List ℕ) → has_come s.kind ≡ true → IsOfKind s layer key → IsSoundKind s
come-kind s layer key come (of_xfer is none c) = is_xfer is none c
come-kind s layer key come (of_downsample is none h) = is_downsample is none layer h
come-kind s layer key come (of_remove is none r) = is_remove is none r
come-kind s layer key come (of_faces is at r) = absurd (true≢false (sym (not-come s Faces is come)))
come-kind s layer key come (of_links is at r) = absurd (true≢false (sym (not-come s Links is come)))
come-kind s layer key come (of_labels is at r) = absurd (true≢false (sym (not-come s Labels is come)))
come-kind s layer key come (of_relabel is at n) = absurd (true≢false (sym (not-come s Relabel is come)))
come-kind s layer key come (of_count is at r) = is_count is (joined (joined layer counts_name) key) at r
come-kind s layer key come (of_sum is at r) = absurd (true≢false (sym (not-come s Sum is come)))
