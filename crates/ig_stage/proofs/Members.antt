-- The members of a planned stage are those of its kind.
use Rattle.std.proofs.Common.{◌≡◌, ◌-◌, ◌==◌, ℕ, suc, ◌&&◌, true, List, [], ◌∷◌, ◌++◌, length, take, Option, None, Some, is_none, codes, refl, ap, sym, ◌∙◌, subst, arith, length-append}
use Rattle.std.proofs.lemmas.Bool.{and_from, eq-eqb}
use Rattle.std.proofs.lemmas.Slice.Eq.{bytes_eq-Decides}
use Rattle.std.specs.Str.{bytes_eq, is_utf8}
use Rattle.ig_space.specs.declared.geometry.Geometry.{Geometry}
use Rattle.ig_space.specs.declared.place.Place.{Place}
use Rattle.ig_space.specs.declared.point.Point.{Point}
use Rattle.ig_space.specs.Geometry.{geometry_fits, label_len}
use Rattle.ig_space.specs.Path.{joined}
use Rattle.ig_record.specs.declared.stage.InfoFile.{InfoFile}
use Rattle.ig_record.specs.declared.stage.Stage.{Stage}
use Rattle.ig_record.specs.Sound.{before_name, has_key, has_scratch, is_copy, is_info_of, is_nothing, is_pass, is_scale, is_word, same_box, same_point, same_voxels}

-- ---- a directory is the layer and the key
take-first : (xs more : List ℕ) → take (length xs) (xs ++ more) ≡ xs
take-first [] more = refl
take-first (x ∷ xs) more = ap (λ rest. x ∷ rest) (take-first xs more)

before-joined : (layer key : List ℕ) → before_name (joined layer key) key ≡ layer
before-joined layer key =
    let long : length (layer ++ 47 ∷ key) - suc (length key) ≡ length layer = omega (arith, length-append layer (47 ∷ key)) in
    ap (λ n. take n (layer ++ 47 ∷ key)) long ∙ take-first layer (47 ∷ key)

pub text-is : (a b : List ℕ) → a ≡ b → bytes_eq a b ≡ true
text-is a b = (bytes_eq-Decides a b).1

key-holds : (layer key : List ℕ) → is_word layer ≡ true → has_key key (joined layer key) ≡ true
key-holds layer key word =
    subst (λ l. (is_word l && bytes_eq (joined l key) (joined layer key)) ≡ true) (sym (before-joined layer key))
    (and_from (is_word layer) (bytes_eq (joined layer key) (joined layer key)) word (text-is (joined layer key) (joined layer key) refl))

info-holds : (layer key : List ℕ) (info : InfoFile) → info.path ≡ joined layer (codes "info") → is_utf8 info.text ≡ true → is_info_of key (joined layer key) info ≡ true
info-holds layer key info at text =
    subst (λ l. (bytes_eq info.path (joined l (codes "info")) && is_utf8 info.text) ≡ true) (sym (before-joined layer key))
    (and_from (bytes_eq info.path (joined layer (codes "info"))) (is_utf8 info.text) (text-is info.path (joined layer (codes "info")) at) text)

-- ---- the voxels
pub point-holds : (p q : Point) → q ≡ p → same_point p q ≡ true
point-holds p q e =
    let x : p.x ≡ q.x = sym (ap (λ (r : Point). r.x) e) in
    let y : p.y ≡ q.y = sym (ap (λ (r : Point). r.y) e) in
    let z : p.z ≡ q.z = sym (ap (λ (r : Point). r.z) e) in
    and_from (p.x == q.x) (p.y == q.y && p.z == q.z) (eq-eqb p.x q.x x) (and_from (p.y == q.y) (p.z == q.z) (eq-eqb p.y q.y y) (eq-eqb p.z q.z z))

pub voxels-hold : (g h : Geometry) → h.offset ≡ g.offset → h.size ≡ g.size → h.width ≡ g.width → same_voxels g h ≡ true
voxels-hold g h offset size width =
    and_from (same_box g h) (label_len g.width == label_len h.width)
    (and_from (same_point g.offset h.offset) (same_point g.size h.size) (point-holds g.offset h.offset offset) (point-holds g.size h.size size))
    (eq-eqb (label_len g.width) (label_len h.width) (ap label_len (sym width)))

-- ---- by the kind
pub copy-holds : (s : Stage) (key to : List ℕ) (dest : Place) (info : InfoFile) → s.scratch ≡ None → s.dests ≡ dest ∷ [] → s.info ≡ Some info → dest.dir ≡ joined to key → is_word to ≡ true
    → geometry_fits dest.geometry ≡ true → info.path ≡ joined to (codes "info") → is_utf8 info.text ≡ true → same_voxels s.source.geometry dest.geometry ≡ true
    → (is_none s.scratch && is_copy key s.source s.dests s.info) ≡ true
copy-holds s key to dest info scratch one has dir word fits at text voxels =
    and_from (is_none s.scratch) (is_copy key s.source s.dests s.info) (ap is_none scratch)
    (ap (λ (dests : List Place). is_copy key s.source dests s.info) one ∙ ap (is_copy key s.source (dest ∷ [])) has
    ∙ and_from (is_scale key dest && is_info_of key dest.dir info) (same_voxels s.source.geometry dest.geometry)
    (and_from (is_scale key dest) (is_info_of key dest.dir info)
    (and_from (has_key key dest.dir) (geometry_fits dest.geometry) (subst (λ d. has_key key d ≡ true) (sym dir) (key-holds to key word)) fits)
    (subst (λ d. is_info_of key d info ≡ true) (sym dir) (info-holds to key info at text)))
    voxels)

scratch-holds : (layer name key : List ℕ) (scratch : Option (List ℕ)) → scratch ≡ Some (joined (joined layer name) key) → has_scratch layer name key scratch ≡ true
scratch-holds layer name key scratch is =
    let dir = joined (joined layer name) key in
    let before = before-joined (joined layer name) key in
    ap (has_scratch layer name key) is
    ∙ and_from (bytes_eq (joined layer name) (before_name dir key)) (bytes_eq (joined (before_name dir key) key) dir)
    (text-is (joined layer name) (before_name dir key) (sym before))
    (text-is (joined (before_name dir key) key) dir (ap (λ d. joined d key) before))

pub pass-holds : (s : Stage) (layer name key : List ℕ) → s.scratch ≡ Some (joined (joined layer name) key) → s.dests ≡ [] → s.info ≡ None → is_pass layer name key s ≡ true
pass-holds s layer name key scratch none no_info =
    and_from (has_scratch layer name key s.scratch) (is_nothing s.dests s.info) (scratch-holds layer name key s.scratch scratch)
    (ap (λ (dests : List Place). is_nothing dests s.info) none ∙ ap (is_nothing []) no_info)
