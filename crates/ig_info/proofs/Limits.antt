-- What is read is within the limits of an info.
use Rattle.std.proofs.Common.{◌≡◌, ◌≤◌, ℕ, ◌+◌, ◌^◌, ◌&&◌, nat_le, Bool, true, false, not, List, [], ◌∷◌, ◌++◌, length, Option, Some, None, is_some, option_and_then, Result, Ok, Err, codes, refl, ap, subst, ◌∙◌, arith, cond, length-append}
use Rattle.std.proofs.lemmas.Bool.{and_parts, and_from, leb-true}
use Rattle.std.proofs.lemmas.List.Folds.{list_all-append}
use Rattle.std.specs.List.{list_all}
use Rattle.serde_json.specs.Data.{Data, depth, Items, no_items, item}
use Rattle.serde_json.specs.Events.{items_len}
use Rattle.serde_json.specs.Find.{get, as_str, as_array, as_object}
use Rattle.serde_json.specs.Read.{max_depth}
use Rattle.serde_json.specs.Written.{has_float}
use Rattle.ig_space.specs.declared.point.Point.{Point}
use Rattle.ig_space.specs.declared.geometry.Geometry.{Geometry}
use Rattle.ig_space.specs.declared.geometry.Width.{Width}
use Rattle.ig_space.specs.declared.geometry.Encoding.{Encoding}
use Rattle.ig_space.specs.Path.{is_path, within}
use Rattle.ig_space.specs.Geometry.{largest_place, all_within, geometry_fits}
use Rattle.ig_info.specs.declared.error.InfoError.{InfoError}
use Rattle.ig_info.specs.declared.error.InfoError.TheVariants.{Member, Unsupported}
use Rattle.ig_info.specs.declared.scale.Scale.{Scale}
use Rattle.ig_info.specs.Answer.{◌>>=◌, or_error, only_if, in_scale}
use Rattle.ig_info.specs.Parts.{limited, side, triple}
use Rattle.ig_info.specs.Scale.{scale_fits}
use Rattle.ig_info.specs.Scales.{triple_member, short_path, has_key, key_of, offset_of, chunk_of, encoding_of, is_absent_or_null, geometry_of, scale_of, scales_after}
use Rattle.ig_info.specs.Whole.{all_objects, scale_list, is_scale_list, kind_of, head_of, items_of_scales, scales_in, scales_of}
use Rattle.ig_info.specs.Ascending.{ascends}
use Rattle.ig_info.specs.Reading.{IsInfo, info_of}

-- ---- the steps of a reader that gave a value

pub bind_ok : {A B : Type 0} (m : Result A InfoError) (f : A → Result B InfoError) (y : B) → (m >>= f) ≡ Ok y → (x : A) × (m ≡ Ok x) × (f x ≡ Ok y)
bind_ok (Ok x) f y e = (x, refl, e)
bind_ok (Err r) f y e = absurd cc

only_if-ok : (b : Bool) (r : InfoError) (u : Unit {0}) → only_if b r ≡ Ok u → b ≡ true
only_if-ok true r u e = refl
only_if-ok false r u e = absurd cc

pub or_error-ok : {A : Type 0} (r : InfoError) (o : Option A) (x : A) → or_error r o ≡ Ok x → o ≡ Some x
or_error-ok r (Some z) x e = cc
or_error-ok r None x e = absurd cc

pub and_then-some : {A B : Type 0} (o : Option A) (f : A → Option B) (y : B) → option_and_then f o ≡ Some y → (x : A) × (o ≡ Some x) × (f x ≡ Some y)
and_then-some (Some x) f y e = (x, refl, e)
and_then-some None f y e = absurd cc

pub if_some : {A : Type 0} (b : Bool) (x y : A) → cond b (Some x) None ≡ Some y → (b ≡ true) × (x ≡ y)
if_some true x y e = (refl, cc)
if_some false x y e = absurd cc

not_true : (b : Bool) → not b ≡ true → b ≡ false
not_true true e = absurd cc
not_true false e = refl

-- ---- the parts of a scale

side-within : (i low high : ℕ) (d : Data) (n : ℕ) → side i low high d ≡ Some n → within low high n ≡ true
unfolding side
side-within i low high d n e =
    let s = and_then-some _ (limited low high) n e in
    let t = if_some (within low high s.0) s.0 n s.2 in
    subst (λ k. within low high k ≡ true) t.1 t.0

point_within : (low high x y z : ℕ) (p : Point) → record { x = x; y = y; z = z } ≡ p → within low high x ≡ true → within low high y ≡ true → within low high z ≡ true
    → all_within low high p ≡ true
point_within low high x y z p e a b c = subst (λ q. all_within low high q ≡ true) e (and_from _ _ (and_from _ _ a b) c)

triple-within : (low high : ℕ) (d : Data) (p : Point) → triple low high d ≡ Some p → all_within low high p ≡ true
unfolding triple
triple-within low high d p e =
    let a = and_then-some (side 0 low high d) _ p e in
    let b = and_then-some (side 1 low high d) _ p a.2 in
    let c = and_then-some (side 2 low high d) _ p b.2 in
    let r = if_some _ _ p c.2 in
    point_within low high a.0 b.0 c.0 p r.1 (side-within 0 low high d a.0 a.1) (side-within 1 low high d b.0 b.1) (side-within 2 low high d c.0 c.1)

triple_member-within : (n : ℕ) (name : List ℕ) (low high : ℕ) (d : Data) (p : Point) → triple_member n name low high d ≡ Ok p → all_within low high p ≡ true
unfolding triple_member
triple_member-within n name low high d p e =
    let s = and_then-some _ (triple low high) p (or_error-ok _ _ p e) in
    triple-within low high s.0 p s.2

kept : (test : Bool) (r : InfoError) (k key : List ℕ) → (only_if test r >>= λ _. Ok k) ≡ Ok key → k ≡ key
kept true r k key e = cc
kept false r k key e = absurd cc

key_found : (o : Option (List ℕ)) (r t : InfoError) (test : List ℕ → Bool) (key : List ℕ) → (or_error r o >>= λ k. only_if (test k) t >>= λ _. Ok k) ≡ Ok key → o ≡ Some key
key_found (Some k) r t test key e = ap Some (kept (test k) t k key e)
key_found None r t test key e = absurd cc

key_of-short : (earlier : List Scale) (d : Data) (key : List ℕ) → key_of earlier d ≡ Ok key → (is_path key && nat_le (length key) 100) ≡ true
unfolding key_of
key_of-short earlier d key e =
    let text = option_and_then as_str (get (codes "key") d) in
    let o = option_and_then short_path text in
    let s = and_then-some text short_path key (key_found o (in_scale (length earlier) (codes "key")) (Unsupported (codes "key")) (λ k. not (has_key earlier k)) key e) in
    let t = if_some (is_path s.0 && nat_le (length s.0) 100) s.0 key s.2 in
    subst (λ k. (is_path k && nat_le (length k) 100) ≡ true) t.1 t.0

abbrev pub made : Width → Point → Point → Point → Encoding → Geometry
made width size offset chunk encoding = record { offset = offset; size = size; chunk = chunk; width = width; encoding = encoding }

pub tested : (test : Bool) (r : InfoError) (x g : Geometry) → (only_if test r >>= λ _. Ok x) ≡ Ok g → (test ≡ true) × (x ≡ g)
tested true r x g e = (refl, cc)
tested false r x g e = absurd cc

geometry_fits-made : (width : Width) (size : Point) (offset chunk : Result Point InfoError) (encoding : Result Encoding InfoError) (whole : Bool) (r t : InfoError) (g : Geometry)
    → (offset >>= λ o. chunk >>= λ c. encoding >>= λ n. only_if whole r >>= λ _. only_if (geometry_fits (made width size o c n)) t >>= λ _. Ok (made width size o c n)) ≡ Ok g
    → geometry_fits g ≡ true
geometry_fits-made width size (Ok o) (Ok c) (Ok n) true r t g e =
    let p = tested (geometry_fits (made width size o c n)) t (made width size o c n) g e in
    subst (λ k. geometry_fits k ≡ true) p.1 p.0
geometry_fits-made width size (Ok o) (Ok c) (Ok n) false r t g e = absurd cc
geometry_fits-made width size (Ok o) (Ok c) (Err x) whole r t g e = absurd cc
geometry_fits-made width size (Ok o) (Err x) encoding whole r t g e = absurd cc
geometry_fits-made width size (Err x) chunk encoding whole r t g e = absurd cc

geometry_of-fits : (n : ℕ) (width : Width) (size : Point) (d : Data) (g : Geometry) → geometry_of n width size d ≡ Ok g → geometry_fits g ≡ true
unfolding geometry_of
geometry_of-fits n width size d g e =
    geometry_fits-made width size (offset_of n size d) (chunk_of n d) (encoding_of n width d) (is_absent_or_null (get (codes "sharding") d)) (Unsupported (codes "sharding")) (Unsupported (codes "chunk_sizes")) g e

scale_within : (key : List ℕ) (resolution : Point) (geometry : Geometry) (s : Scale) → record { key = key; resolution = resolution; geometry = geometry } ≡ s
    → (is_path key && nat_le (length key) 100) ≡ true → all_within 1 (2 ^ 32) resolution ≡ true → geometry_fits geometry ≡ true → scale_fits s ≡ true
scale_within key resolution geometry s e k r g =
    let parts = and_parts (is_path key) (nat_le (length key) 100) k in
    subst (λ q. scale_fits q ≡ true) e (and_from _ _ parts.0 (and_from _ _ parts.1 (and_from _ _ r g)))

abbrev pub scale_made : List ℕ → Point → Geometry → Scale
scale_made key resolution geometry = record { key = key; resolution = resolution; geometry = geometry }

pub last_part : (m : Result Geometry InfoError) (k : List ℕ) (r : Point) (s : Scale) → (m >>= λ g. Ok (scale_made k r g)) ≡ Ok s → (g : Geometry) × (m ≡ Ok g) × (scale_made k r g ≡ s)
last_part (Ok g) k r s e = (g, refl, cc)
last_part (Err x) k r s e = absurd cc

scale_fits-made : (key : Result (List ℕ) InfoError) (size resolution : Result Point InfoError) (geometry : Point → Result Geometry InfoError) (s : Scale)
    → (key >>= λ k. size >>= λ z. resolution >>= λ r. geometry z >>= λ g. Ok (scale_made k r g)) ≡ Ok s
    → ((k : List ℕ) → key ≡ Ok k → (is_path k && nat_le (length k) 100) ≡ true)
    → ((r : Point) → resolution ≡ Ok r → all_within 1 (2 ^ 32) r ≡ true)
    → ((z : Point) (g : Geometry) → geometry z ≡ Ok g → geometry_fits g ≡ true)
    → scale_fits s ≡ true
scale_fits-made (Ok k) (Ok z) (Ok r) geometry s e short fine fits =
    let p = last_part (geometry z) k r s e in
    scale_within k r p.0 s p.2 (short k refl) (fine r refl) (fits z p.0 p.1)
scale_fits-made (Ok k) (Ok z) (Err x) geometry s e short fine fits = absurd cc
scale_fits-made (Ok k) (Err x) resolution geometry s e short fine fits = absurd cc
scale_fits-made (Err x) size resolution geometry s e short fine fits = absurd cc

-- a scale that is read fits
scale_of-fits : (width : Width) (earlier : List Scale) (d : Data) (s : Scale) → scale_of width earlier d ≡ Ok s → scale_fits s ≡ true
unfolding scale_of
scale_of-fits width earlier d s e =
    let n = length earlier in
    scale_fits-made (key_of earlier d) (triple_member n (codes "size") 1 largest_place d) (triple_member n (codes "resolution") 1 (2 ^ 32) d) (λ z. geometry_of n width z d) s e
    (key_of-short earlier d) (triple_member-within n (codes "resolution") 1 (2 ^ 32) d) (λ z. geometry_of-fits n width z d)

-- ---- all scales

scales_after-fit : (width : Width) (earlier : List Scale) (ds : Items) (all : List Scale) → scales_after width earlier ds ≡ Ok all → list_all scale_fits earlier ≡ true → list_all scale_fits all ≡ true
scales_after-fit width earlier no_items all e h = let same : earlier ≡ all = cc in subst (λ l. list_all scale_fits l ≡ true) same h
scales_after-fit width earlier (item d ds) all e h =
    let s = bind_ok (scale_of width earlier d) (λ scale. scales_after width (earlier ++ scale ∷ []) ds) all e in
    scales_after-fit width (earlier ++ s.0 ∷ []) ds all s.2 (list_all-append scale_fits earlier (s.0 ∷ []) ∙ and_from _ _ h (and_from _ _ (scale_of-fits width earlier d s.0 s.1) refl))

pub scales_after-length : (width : Width) (earlier : List Scale) (ds : Items) (all : List Scale) → scales_after width earlier ds ≡ Ok all → length all ≡ length earlier + items_len ds
scales_after-length width earlier no_items all e = let same : earlier ≡ all = cc in omega (arith, ap length same)
scales_after-length width earlier (item d ds) all e =
    let s = bind_ok (scale_of width earlier d) (λ scale. scales_after width (earlier ++ scale ∷ []) ds) all e in
    let later = scales_after-length width (earlier ++ s.0 ∷ []) ds all s.2 in
    omega (arith, later, length-append earlier (s.0 ∷ []))

both_hold : (a b : Bool) (r t : InfoError) (m : Result Width InfoError) (width : Width) → (only_if a r >>= λ _. only_if b t >>= λ _. m) ≡ Ok width → b ≡ true
both_hold true true r t m width e = refl
both_hold true false r t m width e = absurd cc
both_hold false b r t m width e = absurd cc

pub head_of-whole : (d : Data) (width : Width) → head_of d ≡ Ok width → has_float d ≡ false
unfolding head_of
head_of-whole d width e = not_true _ (both_hold (is_some (as_object d)) (not (has_float d)) (Member (codes "$")) (Unsupported (codes "number")) (kind_of d) width e)

pub items_of_scales-few : (d : Data) (ds : Items) → items_of_scales d ≡ Ok ds → is_scale_list ds ≡ true
unfolding items_of_scales
items_of_scales-few d ds e =
    let s = and_then-some (option_and_then as_array (get (codes "scales") d)) scale_list ds (or_error-ok (Member (codes "scales")) (scales_in d) ds e) in
    let t = if_some (is_scale_list s.0) s.0 ds s.2 in
    subst (λ k. is_scale_list k ≡ true) t.1 t.0

IsInfo-from : (d : Data) (width : Width) (items : Items) (scales : List Scale) → has_float d ≡ false → is_scale_list items ≡ true → scales_after width [] items ≡ Ok scales → depth d ≤ max_depth
    → ascends d ≡ true → info_of d ≡ Ok (record { members = d; scales = scales }) → IsInfo (record { members = d; scales = scales })
IsInfo-from d width items scales whole few e shallow ordered same =
    let long = and_parts (nat_le 1 (items_len items)) (nat_le (items_len items) 100) ((and_parts (within 1 100 (items_len items)) (all_objects items) few).0) in
    let low : 1 ≤ items_len items = leb-true 1 (items_len items) long.0 in
    let high : items_len items ≤ 100 = leb-true (items_len items) 100 long.1 in
    let count : length scales ≡ 0 + items_len items = scales_after-length width [] items scales e in record {
      shallow = shallow;
      whole = whole;
      ordered = ordered;
      some = omega arith;
      few = omega arith;
      fit = scales_after-fit width [] items scales e refl;
      reads_back = same;
    }

all_made : (d : Data) (head : Result Width InfoError) (items : Result Items InfoError) (scales : List Scale) → (head >>= λ w. items >>= λ ds. scales_after w [] ds) ≡ Ok scales
    → ((w : Width) → head ≡ Ok w → has_float d ≡ false) → ((ds : Items) → items ≡ Ok ds → is_scale_list ds ≡ true) → depth d ≤ max_depth
    → ascends d ≡ true → info_of d ≡ Ok (record { members = d; scales = scales }) → IsInfo (record { members = d; scales = scales })
all_made d (Ok w) (Ok ds) scales e whole few shallow ordered same = IsInfo-from d w ds scales (whole w refl) (few ds refl) e shallow ordered same
all_made d (Ok w) (Err x) scales e whole few shallow ordered same = absurd cc
all_made d (Err x) items scales e whole few shallow ordered same = absurd cc

info_of-made : (d : Data) (scales : List Scale) → scales_of d ≡ Ok scales → info_of d ≡ Ok (record { members = d; scales = scales })
unfolding info_of
info_of-made d scales e = rw e refl

-- the data and the scales that were read make an info
pub scales_of-IsInfo : (d : Data) (scales : List Scale) → scales_of d ≡ Ok scales → depth d ≤ max_depth → ascends d ≡ true → IsInfo (record { members = d; scales = scales })
unfolding scales_of
scales_of-IsInfo d scales e shallow ordered =
    all_made d (head_of d) (items_of_scales d) scales e (head_of-whole d) (items_of_scales-few d) shallow ordered (info_of-made d scales e)
