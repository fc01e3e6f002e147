-- A stage that is planned is a draft.
use Rattle.std.proofs.Common.{◌≡◌, ◌≢◌, ◌≤◌, ◌^◌, ◌*◌, ℕ, ◌&&◌, true, is_some, nat_le, List, [], ◌∷◌, length, None, Some, Contains, codes, unwrap_or, ap, sym, ◌∙◌, subst, arith, le-leb, lit≤, length-append}
use Rattle.std.proofs.Math.Nat.{mul-le-mul_left, le_trans}
use Rattle.std.proofs.lemmas.Bool.{and_from, and_parts}
use Rattle.std.proofs.lemmas.List.{append_cancel_right}
use Rattle.std.specs.Str.{is_utf8}
use Rattle.ig_space.specs.declared.point.Point.{Point}
use Rattle.ig_space.specs.declared.geometry.Geometry.{Geometry}
use Rattle.ig_space.specs.declared.place.Place.{Place}
use Rattle.ig_space.specs.Geometry.{Fits-from, all_within, count, geometry_fits, largest_chunk}
use Rattle.ig_space.specs.Path.{is_path, joined}
use Rattle.ig_info.specs.declared.scale.Scale.{Scale}
use Rattle.ig_info.specs.Scale.{scale_fits}
use Rattle.ig_record.specs.declared.stage.InfoFile.{InfoFile}
use Rattle.ig_record.specs.declared.stage.Kind.{Kind}
use Rattle.ig_record.specs.declared.stage.Kind.TheVariants.{Xfer, Count}
use Rattle.ig_record.specs.declared.stage.Stage.{Stage}
use Rattle.ig_record.specs.Columns.{dirs_by, dirs_of_all, removed_by, under}
use Rattle.ig_record.specs.Sound.{counts_name, has_come, has_members, is_word, same_voxels}
use Rattle.ig_record.specs.SoundFacts.{HasSides as HasSome, IsSmall}
use Rattle.ig_meaning.specs.Options.{largest_value}
use Rattle.ig_meaning.specs.Plan.{info_path, new_scale, place_in}
use Rattle.ig_meaning.specs.TakenLaws.{the_only}
use Rattle.ig_meaning.specs.Words.{new_layer}
use Rattle.ig_stage.specs.declared.request.Request.{Request}
use Rattle.ig_stage.specs.Drafts.{IsDraft}
use Rattle.ig_stage.specs.Requests.{HasDest, HasLimits, HasSides, shown_request}
use Rattle.ig_stage.proofs.Members.{copy-holds, pass-holds, voxels-hold}

-- ---- no side of a chunk is longer than it has voxels
le_times : (x n : ℕ) → 1 ≤ n → x ≤ x * n
le_times x n h = let m = mul-le-mul_left x h in omega (arith, m)

times_le : (x n : ℕ) → 1 ≤ x → n ≤ x * n
times_le x n h = let m = le_times n x h in omega (arith, m)

sides : (p : Point) → 1 ≤ p.x → 1 ≤ p.y → 1 ≤ p.z → count p ≤ largest_value → HasSides p
sides p x y z few =
    let face : p.y ≤ p.y * p.z = le_times p.y p.z z in
    let other : p.z ≤ p.y * p.z = times_le p.y p.z y in
    let some : 1 ≤ p.y * p.z = omega (arith, face, y) in
    let whole : p.x ≤ p.x * (p.y * p.z) = le_times p.x (p.y * p.z) some in
    let rest : p.y * p.z ≤ p.x * (p.y * p.z) = times_le p.x (p.y * p.z) x in
    record {
      x_some = x;
      y_some = y;
      z_some = z;
      x_limit = le_trans whole few;
      y_limit = le_trans face (le_trans rest few);
      z_limit = le_trans other (le_trans rest few);
    }

few_in : (n : ℕ) → n ≤ largest_chunk → n ≤ largest_value
few_in n h = le_trans h (lit≤ tt)

pub sides_of_chunk : (g : Geometry) → geometry_fits g ≡ true → HasSides g.chunk
sides_of_chunk g fits = let f = Fits-from g fits in sides g.chunk f.x_step f.y_step f.z_step (few_in (count g.chunk) f.few)

-- ---- a scale within the limits has a short key, and a geometry within them
module _ (s : Scale) (h : scale_fits s ≡ true) where
  within_limits : (nat_le (length s.key) 100 ≡ true) × ((all_within 1 (2 ^ 32) s.resolution && geometry_fits s.geometry) ≡ true)
  within_limits = and_parts (nat_le (length s.key) 100) (all_within 1 (2 ^ 32) s.resolution && geometry_fits s.geometry)
      (and_parts (is_path s.key) (nat_le (length s.key) 100 && (all_within 1 (2 ^ 32) s.resolution && geometry_fits s.geometry)) h).1

  pub key_of_fitting : is_word s.key ≡ true
  key_of_fitting =
      and_from (is_path s.key) (nat_le (length s.key) 100)
      (and_parts (is_path s.key) (nat_le (length s.key) 100 && (all_within 1 (2 ^ 32) s.resolution && geometry_fits s.geometry)) h).0 within_limits.0

  pub resolution_of_fitting : all_within 1 (2 ^ 32) s.resolution ≡ true
  resolution_of_fitting = (and_parts (all_within 1 (2 ^ 32) s.resolution) (geometry_fits s.geometry) within_limits.1).0

  pub geometry_of_fitting : geometry_fits s.geometry ≡ true
  geometry_of_fitting = (and_parts (all_within 1 (2 ^ 32) s.resolution) (geometry_fits s.geometry) within_limits.1).1

  pub sides_of_fitting : HasSides s.geometry.chunk
  sides_of_fitting = sides_of_chunk s.geometry geometry_of_fitting

-- ---- the layers
pub word_of : (layer : List ℕ) → is_path layer ≡ true → length layer ≤ 100 → is_word layer ≡ true
word_of layer path short = and_from (is_path layer) (nat_le (length layer) 100) path (le-leb (length layer) 100 short)

pub layer_of : (r : Request) (d : HasDest r) → new_layer (shown_request r) ≡ d.layer
layer_of r d = ap (λ o. unwrap_or o []) d.is

-- ---- a copy
-- scales with one key in two layers have two directories
dirs-apart : (from to key : List ℕ) → from ≢ to → joined from key ≢ joined to key
dirs-apart from to key differ e = differ (append_cancel_right from to (47 ∷ key) e)

-- the copy of a scale that is read, in the chunks that are asked for
pub copy-draft : (s : Stage) (r : Request) (scale new : Scale) (dest : Place) (info : InfoFile) → HasLimits r → HasDest r → scale_fits scale ≡ true → scale_fits new ≡ true
    → new ≡ new_scale (shown_request r) scale → s.kind ≡ Xfer → s.scratch ≡ None → s.source ≡ place_in r.source scale → s.dests ≡ dest ∷ [] → dest ≡ place_in (new_layer (shown_request r)) new
    → s.info ≡ Some info → info.path ≡ info_path (new_layer (shown_request r)) → is_utf8 info.text ≡ true → HasSome s.shape → IsSmall s.shape → IsDraft s
copy-draft s r scale new dest info limits d fits new_fits as_new kind scratch from one to has at text sides small =
    let layer = layer_of r d in
    let key : new.key ≡ scale.key = ap (λ (n : Scale). n.key) as_new in
    let source : s.source.geometry ≡ scale.geometry = ap (λ (p : Place). p.geometry) from in
    let made : dest.geometry ≡ (new_scale (shown_request r) scale).geometry = ap (λ (p : Place). p.geometry) to ∙ ap (λ (n : Scale). n.geometry) as_new in
    let dest_dir : dest.dir ≡ joined (new_layer (shown_request r)) scale.key = ap (λ (p : Place). p.dir) to ∙ ap (joined (new_layer (shown_request r))) key in
    let source_dir : s.source.dir ≡ joined r.source scale.key = ap (λ (p : Place). p.dir) from in
    let voxels : same_voxels s.source.geometry dest.geometry ≡ true =
    voxels-hold s.source.geometry dest.geometry
    (ap (λ (g : Geometry). g.offset) made ∙ sym (ap (λ (g : Geometry). g.offset) source))
    (ap (λ (g : Geometry). g.size) made ∙ sym (ap (λ (g : Geometry). g.size) source))
    (ap (λ (g : Geometry). g.width) made ∙ sym (ap (λ (g : Geometry). g.width) source)) in
    record {
      layer = r.source;
      key = scale.key;
      come = ap has_come kind;
      makes = ap (λ (k : Kind). is_some (removed_by k s)) kind;
      fits = ap geometry_fits source ∙ geometry_of_fitting scale fits;
      source_dir = source_dir;
      layer_word = word_of r.source limits.source_path limits.source_short;
      key_word = key_of_fitting scale fits;
      members = ap (λ (k : Kind). has_members k r.source scale.key s) kind
          ∙ copy-holds s scale.key (new_layer (shown_request r)) dest info scratch one has dest_dir
          (subst (λ l. is_word l ≡ true) (sym layer) (word_of d.layer d.path d.short))
          (ap (λ (p : Place). geometry_fits p.geometry) to ∙ geometry_of_fitting new new_fits) at text voxels;
      sides = sides;
      small = small;
      elsewhere = λ among.
          dirs-apart r.source (new_layer (shown_request r)) scale.key (λ same. d.apart (same ∙ layer))
          (sym source_dir ∙ sym (the_only dest.dir s.source.dir (subst (λ dirs. Contains dirs s.source.dir) (ap (λ (k : Kind). dirs_by k s) kind ∙ ap dirs_of_all one) among)) ∙ dest_dir);
    }

-- ---- the counts of voxels
-- a directory of a pass is no scale's
longer : (layer key sub : List ℕ) → joined (joined (joined layer counts_name) key) sub ≡ joined layer key → ⊥
longer layer key sub e =
    let long = ap length e in
    let a = length-append (joined (joined layer counts_name) key) (47 ∷ sub) in
    let b = length-append (joined layer counts_name) (47 ∷ key) in
    let c = length-append layer (47 ∷ counts_name) in
    let d = length-append layer (47 ∷ key) in
    omega (arith, long, a, b, c, d)

pub count-draft : (s : Stage) (r : Request) (scale : Scale) → HasLimits r → r.kind ≡ Count → scale_fits scale ≡ true → s.kind ≡ Count → s.scratch ≡ Some (joined (joined r.source counts_name) scale.key)
    → s.source ≡ place_in r.source scale → s.dests ≡ [] → s.info ≡ None → HasSome s.shape → IsSmall s.shape → IsDraft s
count-draft s r scale limits counts fits kind scratch from none no_info sides small =
    let source_dir : s.source.dir ≡ joined r.source scale.key = ap (λ (p : Place). p.dir) from in
    record {
      layer = r.source;
      key = scale.key;
      come = ap has_come (kind ∙ sym counts) ∙ limits.come;
      makes = ap (λ (k : Kind). is_some (removed_by k s)) kind;
      fits = ap (λ (p : Place). geometry_fits p.geometry) from ∙ geometry_of_fitting scale fits;
      source_dir = source_dir;
      layer_word = word_of r.source limits.source_path limits.source_short;
      key_word = key_of_fitting scale fits;
      members = ap (λ (k : Kind). has_members k r.source scale.key s) kind ∙ pass-holds s r.source counts_name scale.key scratch none no_info;
      sides = sides;
      small = small;
      elsewhere = λ among.
          longer r.source scale.key (codes "parts")
          (the_only (joined (joined (joined r.source counts_name) scale.key) (codes "parts")) s.source.dir
          (subst (λ dirs. Contains dirs s.source.dir) (ap (λ (k : Kind). dirs_by k s) kind ∙ ap (λ o. under o (codes "parts")) scratch) among) ∙ source_dir);
    }
