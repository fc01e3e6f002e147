-- A stage of mips that is planned is the one that is meant, and a draft.
use Rattle.std.proofs.Common.{◌≡◌, ◌≤◌, ◌+◌, ℕ, zero, suc, true, not, ◌&&◌, is_some, is_none, nat_le, List, [], ◌∷◌, length, drop, map, None, Some, slice_get, unwrap_or, Ok, All, Contains, codes, refl, ap, sym, subst, ◌∙◌, arith, le-leb}
use Rattle.std.proofs.Math.Seq.{drop-append-add}
use Rattle.std.proofs.lemmas.Bool.{and_from}
use Rattle.std.specs.Str.{bytes_eq, is_utf8}
use Rattle.serde_json.specs.Written.{compact_text}
use Rattle.ig_space.specs.declared.geometry.Encoding.{Encoding}
use Rattle.ig_space.specs.declared.geometry.Encoding.TheVariants.{Raw, Cseg}
use Rattle.ig_space.specs.declared.geometry.Geometry.{Geometry}
use Rattle.ig_space.specs.declared.place.Place.{Place}
use Rattle.ig_space.specs.Geometry.{geometry_fits}
use Rattle.ig_space.specs.Path.{joined, within}
use Rattle.ig_info.specs.declared.scale.Scale.{Scale}
use Rattle.ig_info.specs.Info.{InfoData}
use Rattle.ig_info.specs.Scale.{scale_fits}
use Rattle.ig_info.specs.Scales.{has_key}
use Rattle.ig_record.specs.declared.stage.InfoFile.{InfoFile}
use Rattle.ig_record.specs.declared.stage.Kind.{Kind}
use Rattle.ig_record.specs.declared.stage.Kind.TheVariants.{Downsample}
use Rattle.ig_record.specs.declared.stage.Stage.{Stage}
use Rattle.ig_record.specs.Columns.{dirs_by, dirs_of_all, is_among, removed_by}
use Rattle.ig_record.specs.Sound.{are_apart, are_mips, has_come, has_members, has_mips, is_in_layer, is_info_in, is_word, most_mips, same_encoding, same_geometry, same_point, same_voxels}
use Rattle.ig_record.specs.SoundFacts.{HasSides as HasSome, IsSmall}
use Rattle.ig_record.specs.Stage.{before_mips, times}
use Rattle.ig_meaning.specs.Plan.{all_added, info_path, mip_of, mips_of, mips_stage, place_in, with_mips}
use Rattle.ig_meaning.specs.Words as meaning
use Rattle.ig_stage.specs.declared.request.Request.{Request}
use Rattle.ig_stage.specs.Drafts.{IsDraft}
use Rattle.ig_stage.specs.Requests.{HasLimits}
use Rattle.ig_stage.proofs.AddedMips.{AreNew, are-new, new-fit}
use Rattle.ig_stage.proofs.Drafts.{geometry_of_fitting, key_of_fitting, word_of}
use Rattle.ig_stage.proofs.Members.{point-holds, text-is, voxels-hold}
use Rattle.ig_stage.proofs.MipDirs.{apart-new, found-key, not-among, not-contained}

-- ---- how many mips there are
pub length-mips : (n : ℕ) (s : Scale) → length (mips_of n s) ≡ n
length-mips zero s = refl
length-mips (suc n) s = ap suc (length-mips n (mip_of s))

length-places : (layer : List ℕ) (scales : List Scale) → length (map (place_in layer) scales) ≡ length scales
length-places layer [] = refl
length-places layer (s ∷ scales) = ap suc (length-places layer scales)

-- ---- each is the one before, halved, and lies in the layer
encoding-holds : (e : Encoding) → same_encoding e e ≡ true
encoding-holds Raw = refl
encoding-holds (Cseg block) = point-holds block block refl

geometry-holds : (g : Geometry) → same_geometry g g ≡ true
geometry-holds g =
    and_from (same_voxels g g) (same_point g.chunk g.chunk && same_encoding g.encoding g.encoding) (voxels-hold g g refl refl refl)
    (and_from (same_point g.chunk g.chunk) (same_encoding g.encoding g.encoding) (point-holds g.chunk g.chunk refl) (encoding-holds g.encoding))

after-layer : (layer key : List ℕ) → drop (suc (length layer)) (joined layer key) ≡ key
after-layer layer key =
    let next : suc (length layer) ≡ length layer + 1 = omega arith in
    ap (λ n. drop n (joined layer key)) next ∙ drop-append-add layer (47 ∷ key) 1

in-layer : (layer key : List ℕ) → is_word key ≡ true → is_in_layer layer (joined layer key) ≡ true
in-layer layer key word =
    subst (λ k. (is_word k && bytes_eq (joined layer k) (joined layer key)) ≡ true) (sym (after-layer layer key))
    (and_from (is_word key) (bytes_eq (joined layer key) (joined layer key)) word (text-is (joined layer key) (joined layer key) refl))

mips-hold : (layer : List ℕ) (n : ℕ) (s : Scale) → All (λ (m : Scale). scale_fits m ≡ true) (mips_of n s) → are_mips layer s.geometry (map (place_in layer) (mips_of n s)) ≡ true
mips-hold layer zero s fit = refl
mips-hold layer (suc n) s fit =
    let m = mip_of s in
    let rest = are_mips layer m.geometry (map (place_in layer) (mips_of n m)) in
    and_from (is_in_layer layer (joined layer m.key)) (same_geometry m.geometry m.geometry && rest) (in-layer layer m.key (key_of_fitting m (fit 0 m (omega arith))))
    (and_from (same_geometry m.geometry m.geometry) rest (geometry-holds m.geometry) (mips-hold layer n m (λ k d few. fit (suc k) d (omega (arith, few)))))

-- ---- the members
length-dests : (layer : List ℕ) (n : ℕ) (s : Scale) → length (map (place_in layer) (mips_of n s)) ≡ n
length-dests layer n s = length-places layer (mips_of n s) ∙ length-mips n s

mips-among : (layer : List ℕ) (source : Place) (dests : List Place) (put : InfoFile) → 1 ≤ length dests → length dests ≤ most_mips → are_apart (source.dir ∷ dirs_of_all dests) ≡ true
    → are_mips layer source.geometry dests ≡ true → put.path ≡ joined layer (codes "info") → is_utf8 put.text ≡ true → has_mips layer source dests (Some put) ≡ true
mips-among layer source dests put some few apart mips at text =
    let info = and_from (bytes_eq put.path (joined layer (codes "info"))) (is_utf8 put.text) (text-is put.path (joined layer (codes "info")) at) text in
    and_from (within 1 most_mips (length dests)) (are_apart (source.dir ∷ dirs_of_all dests) && (are_mips layer source.geometry dests && is_info_in layer put))
    (and_from (nat_le 1 (length dests)) (nat_le (length dests) most_mips) (le-leb 1 (length dests) some) (le-leb (length dests) most_mips few))
    (and_from (are_apart (source.dir ∷ dirs_of_all dests)) (are_mips layer source.geometry dests && is_info_in layer put) apart
    (and_from (are_mips layer source.geometry dests) (is_info_in layer put) mips info))

mips-has : (layer : List ℕ) (n : ℕ) (old : List Scale) (s : Scale) (put : InfoFile) → 1 ≤ n → n ≤ most_mips → has_key old s.key ≡ true → AreNew old (mips_of n s)
    → put.path ≡ joined layer (codes "info") → is_utf8 put.text ≡ true → has_mips layer (place_in layer s) (map (place_in layer) (mips_of n s)) (Some put) ≡ true
mips-has layer n old s put some few known new at text =
    let long = length-dests layer n s in
    let dirs = dirs_of_all (map (place_in layer) (mips_of n s)) in
    mips-among layer (place_in layer s) (map (place_in layer) (mips_of n s)) put (omega (arith, long, some)) (omega (arith, long, few))
    (and_from (not (is_among (joined layer s.key) dirs)) (are_apart dirs) (ap not (not-among layer s.key old (mips_of n s) known new)) (apart-new layer old (mips_of n s) new))
    (mips-hold layer n s (new-fit old (mips_of n s) new)) at text

-- ---- the draft
pub mips-draft : (s : Stage) (r : Request) (scale : Scale) (info more : InfoData) (mips : List Scale) (put : InfoFile) → HasLimits r → r.kind ≡ Downsample → scale_fits scale ≡ true
    → slice_get info.scales r.mip ≡ Some scale → mips ≡ mips_of r.levels scale → all_added info mips ≡ Ok more → s.kind ≡ Downsample → s.scratch ≡ None → s.source ≡ place_in r.source scale
    → s.dests ≡ map (place_in r.source) mips → s.info ≡ Some put → put.path ≡ info_path r.source → is_utf8 put.text ≡ true → HasSome s.shape → IsSmall s.shape → IsDraft s
mips-draft s r scale info more mips put limits halves fits found meant all kind none from to has at text sides small =
    let layer = r.source in
    let known = found-key info.scales r.mip scale found in
    let new : AreNew info.scales (mips_of r.levels scale) = subst (AreNew info.scales) meant (are-new info more mips all) in
    let dests : s.dests ≡ map (place_in layer) (mips_of r.levels scale) = to ∙ ap (map (place_in layer)) meant in
    let source_dir : s.source.dir ≡ joined layer scale.key = ap (λ (p : Place). p.dir) from in
    let members : has_mips layer s.source s.dests s.info ≡ true =
    (λ i. has_mips layer (from i) (dests i) (has i)) ∙ mips-has layer r.levels info.scales scale put (limits.some_levels halves) limits.few_levels known new at text in
    record {
      layer = layer;
      key = scale.key;
      come = ap has_come (kind ∙ sym halves) ∙ limits.come;
      makes = ap (λ (k : Kind). is_some (removed_by k s)) kind;
      fits = ap (λ (p : Place). geometry_fits p.geometry) from ∙ geometry_of_fitting scale fits;
      source_dir = source_dir;
      layer_word = word_of layer limits.source_path limits.source_short;
      key_word = key_of_fitting scale fits;
      members = ap (λ (k : Kind). has_members k layer scale.key s) kind ∙ and_from (is_none s.scratch) (has_mips layer s.source s.dests s.info) (ap is_none none) members;
      sides = sides;
      small = small;
      elsewhere = λ among.
          not-contained (joined layer scale.key) (dirs_of_all (map (place_in layer) (mips_of r.levels scale))) (not-among layer scale.key info.scales (mips_of r.levels scale) known new)
          (subst (λ dir. Contains (dirs_of_all (map (place_in layer) (mips_of r.levels scale))) dir) source_dir
          (subst (λ dirs. Contains dirs s.source.dir) (ap (λ (k : Kind). dirs_by k s) kind ∙ ap dirs_of_all dests) among));
    }

-- ---- it is the stage that is meant
pub mips-planned : (r : meaning.Request) (scale : Scale) (info more : InfoData) (mips : List Scale) (s : Stage) → mips ≡ mips_of r.levels scale → all_added info mips ≡ Ok more
    → s.kind ≡ Downsample → s.scratch ≡ None → s.source ≡ place_in r.source scale → s.dests ≡ map (place_in r.source) mips
    → s.shape ≡ unwrap_or r.shape (times 1 (before_mips r.levels scale.geometry.chunk)) → s.info ≡ Some (record { path = info_path r.source; text = compact_text more.members })
    → with_mips r scale (all_added info (mips_of r.levels scale)) ≡ Ok s
mips-planned r scale info more mips s meant all kind none from to shape put =
    let dests : s.dests ≡ map (place_in r.source) (mips_of r.levels scale) = to ∙ ap (map (place_in r.source)) meant in
    let long : r.levels ≡ length (map (place_in r.source) (mips_of r.levels scale)) = sym (length-dests r.source r.levels scale) in
    let sides = shape ∙ ap (λ n. unwrap_or r.shape (times 1 (before_mips n scale.geometry.chunk))) long in
    let whole : s ≡ mips_stage r scale more = λ i. record { kind = kind i; source = from i; dests = dests i; scratch = none i; shape = sides i; info = put i } in
    ap (with_mips r scale) (ap (all_added info) (sym meant) ∙ all) ∙ ap Ok (sym whole)
