-- The members of an info with a scale added are read as that info.
use Rattle.std.proofs.Common.{◌≡◌, ◌≤◌, ◌<◌, ℕ, Bool, true, false, not, true≢false, List, [], ◌∷◌, ◌++◌, Some, is_some, option_and_then, Result, Ok, codes, bytes_eq, refl, ap, sym, ◌∙◌, arith, lit≤}
use Rattle.std.proofs.lemmas.Bool.{and_parts, and_from, le-leb}
use Rattle.std.proofs.lemmas.Slice.Eq.{bytes_eq-Decides}
use Rattle.serde_json.specs.Data.{Data, null, boolean, number, string, array, object, Items, no_items, item, Members, put, depth}
use Rattle.serde_json.specs.Events.{items_len}
use Rattle.serde_json.specs.Find.{get, as_array, as_object}
use Rattle.serde_json.specs.Written.{has_float}
use Rattle.serde_json.proofs.Views.{get_member-put_other}
use Rattle.ig_space.specs.declared.geometry.Width.{Width}
use Rattle.ig_space.specs.declared.geometry.Encoding.{Encoding}
use Rattle.ig_space.specs.declared.geometry.Encoding.TheVariants.{Raw, Cseg}
use Rattle.ig_space.specs.Path.{within}
use Rattle.ig_info.specs.declared.error.InfoError.{InfoError}
use Rattle.ig_info.specs.declared.error.InfoError.TheVariants.{Member, Unsupported}
use Rattle.ig_info.specs.declared.scale.Scale.{Scale}
use Rattle.ig_info.specs.Answer.{◌>>=◌, only_if}
use Rattle.ig_info.specs.Added.{with_last}
use Rattle.ig_info.specs.Ascending.{ascends}
use Rattle.ig_info.specs.Dest.{scale_of_encoding}
use Rattle.ig_info.specs.Scales.{scale_of, scales_after}
use Rattle.ig_info.specs.Whole.{all_objects, is_scale_list, scale_list, scales_in, text_member, segmentation_only, width_of, one_channel, kind_of, head_of, items_of_scales}
use Rattle.ig_info.proofs.Limits.{bind_ok, and_then-some, or_error-ok, if_some}
use Rattle.ig_info.proofs.Longer.{items_len-with_last, all_objects-with_last}

-- ---- the scale's own members

pub scale-depth : (e : Encoding) (s : Scale) → depth (scale_of_encoding e s) ≤ 3
scale-depth Raw s = lit≤ tt
scale-depth (Cseg block) s = lit≤ tt

pub scale-whole : (e : Encoding) (s : Scale) → has_float (scale_of_encoding e s) ≡ false
scale-whole Raw s = refl
scale-whole (Cseg block) s = refl

pub scale-ordered : (e : Encoding) (s : Scale) → ascends (scale_of_encoding e s) ≡ true
scale-ordered Raw s = refl
scale-ordered (Cseg block) s = refl

pub scale-object : (e : Encoding) (s : Scale) → is_some (as_object (scale_of_encoding e s)) ≡ true
scale-object Raw s = refl
scale-object (Cseg block) s = refl

-- ---- reading one scale more

pub scales_after-last : (width : Width) (earlier : List Scale) (ds : Items) (d : Data) (all : List Scale) (s : Scale) → scales_after width earlier ds ≡ Ok all → scale_of width all d ≡ Ok s
    → scales_after width earlier (with_last d ds) ≡ Ok (all ++ s ∷ [])
scales_after-last width earlier no_items d all s e more = let same : earlier ≡ all = cc in rw (same, more) refl
scales_after-last width earlier (item x ds) d all s e more =
    let r = bind_ok (scale_of width earlier x) (λ scale. scales_after width (earlier ++ scale ∷ []) ds) all e in
    rw r.1 (scales_after-last width (earlier ++ r.0 ∷ []) ds d all s r.2 more)

-- ---- the rows before the scales

differ : (a b : List ℕ) → bytes_eq a b ≡ false → a ≡ b → ⊥
differ a b f e = true≢false (sym ((bytes_eq-Decides a b).1 e) ∙ f)

kind-same : (d e : Data) → get (codes "@type") e ≡ get (codes "@type") d → get (codes "type") e ≡ get (codes "type") d → get (codes "data_type") e ≡ get (codes "data_type") d
    → get (codes "num_channels") e ≡ get (codes "num_channels") d → kind_of e ≡ kind_of d
unfolding kind_of segmentation_only width_of one_channel text_member
kind-same d e a b c n = rw (a, b, c, n) refl

pub kind-put : (v : Data) (ms : Members) → kind_of (object (put (codes "scales") v ms)) ≡ kind_of (object ms)
kind-put v ms =
    let other = λ (q : List ℕ) (f : bytes_eq q (codes "scales") ≡ false). get_member-put_other q (codes "scales") v ms (differ q (codes "scales") f) in
    kind-same (object ms) (object (put (codes "scales") v ms)) (other (codes "@type") refl) (other (codes "type") refl) (other (codes "data_type") refl) (other (codes "num_channels") refl)

kind_left : (a b : Bool) (r t : InfoError) (m : Result Width InfoError) (width : Width) → (only_if a r >>= λ _. only_if b t >>= λ _. m) ≡ Ok width → m ≡ Ok width
kind_left true true r t m width e = e
kind_left true false r t m width e = absurd cc
kind_left false b r t m width e = absurd cc

pub head-kind : (d : Data) (width : Width) → head_of d ≡ Ok width → kind_of d ≡ Ok width
unfolding head_of
head-kind d width e = kind_left (is_some (as_object d)) (not (has_float d)) (Member (codes "$")) (Unsupported (codes "number")) (kind_of d) width e

pub head-made : (d : Data) (width : Width) → is_some (as_object d) ≡ true → has_float d ≡ false → kind_of d ≡ Ok width → head_of d ≡ Ok width
unfolding head_of
head-made d width o whole kind = rw (o, whole, kind) refl

-- ---- the list of scales

array_of : (d : Data) (ds : Items) → as_array d ≡ Some ds → d ≡ array ds
array_of null ds e = absurd cc
array_of (boolean b) ds e = absurd cc
array_of (number n) ds e = absurd cc
array_of (string s) ds e = absurd cc
array_of (array es) ds e = let same : es ≡ ds = cc in ap array same
array_of (object ms) ds e = absurd cc

pub items-found : (d : Data) (ds : Items) → items_of_scales d ≡ Ok ds → get (codes "scales") d ≡ Some (array ds)
unfolding items_of_scales
items-found d ds e =
    let s = and_then-some (option_and_then as_array (get (codes "scales") d)) scale_list ds (or_error-ok (Member (codes "scales")) (scales_in d) ds e) in
    let t = if_some (is_scale_list s.0) s.0 ds s.2 in
    let u = and_then-some (get (codes "scales") d) as_array s.0 s.1 in
    u.1 ∙ ap Some (array_of u.0 s.0 u.2 ∙ ap array t.1)

pub items-made : (d : Data) (ds : Items) → get (codes "scales") d ≡ Some (array ds) → is_scale_list ds ≡ true → items_of_scales d ≡ Ok ds
unfolding items_of_scales
items-made d ds e h = rw (e, h) refl

pub one-more_fits : (ds : Items) (d : Data) → is_some (as_object d) ≡ true → is_scale_list ds ≡ true → items_len ds < 100 → is_scale_list (with_last d ds) ≡ true
one-more_fits ds d o h few =
    let parts = and_parts (within 1 100 (items_len ds)) (all_objects ds) h in
    let grown = items_len-with_last d ds in
    let low : 1 ≤ items_len (with_last d ds) = omega arith in
    let high : items_len (with_last d ds) ≤ 100 = omega arith in
    and_from _ _ (and_from _ _ (le-leb 1 _ low) (le-leb _ 100 high)) (all_objects-with_last d ds o parts.1)
