-- All scales that are read have the width of the info.
use Rattle.std.proofs.Common.{◌≡◌, ℕ, zero, suc, Bool, true, false, List, [], ◌∷◌, ◌++◌, length, slice_get, Some, Result, Ok, Err, codes, refl, subst, ◌^◌}
use Rattle.serde_json.specs.Data.{Data, Items, no_items, item}
use Rattle.serde_json.specs.Find.{get}
use Rattle.ig_space.specs.declared.point.Point.{Point}
use Rattle.ig_space.specs.declared.geometry.Geometry.{Geometry}
use Rattle.ig_space.specs.declared.geometry.Width.{Width}
use Rattle.ig_space.specs.declared.geometry.Encoding.{Encoding}
use Rattle.ig_space.specs.Geometry.{largest_place, geometry_fits}
use Rattle.ig_info.specs.declared.error.InfoError.{InfoError}
use Rattle.ig_info.specs.declared.error.InfoError.TheVariants.{Unsupported}
use Rattle.ig_info.specs.declared.scale.Scale.{Scale}
use Rattle.ig_info.specs.Answer.{◌>>=◌, only_if}
use Rattle.ig_info.specs.Scales.{triple_member, key_of, offset_of, chunk_of, encoding_of, is_absent_or_null, geometry_of, scale_of, scales_after}
use Rattle.ig_info.proofs.Limits.{bind_ok, made, tested, scale_made, last_part}

geometry_width-made : (width : Width) (size : Point) (offset chunk : Result Point InfoError) (encoding : Result Encoding InfoError) (whole : Bool) (r t : InfoError) (g : Geometry)
    → (offset >>= λ o. chunk >>= λ c. encoding >>= λ n. only_if whole r >>= λ _. only_if (geometry_fits (made width size o c n)) t >>= λ _. Ok (made width size o c n)) ≡ Ok g
    → g.width ≡ width
geometry_width-made width size (Ok o) (Ok c) (Ok n) true r t g e =
    let p = tested (geometry_fits (made width size o c n)) t (made width size o c n) g e in
    subst (λ (k : Geometry). k.width ≡ width) p.1 refl
geometry_width-made width size (Ok o) (Ok c) (Ok n) false r t g e = absurd cc
geometry_width-made width size (Ok o) (Ok c) (Err x) whole r t g e = absurd cc
geometry_width-made width size (Ok o) (Err x) encoding whole r t g e = absurd cc
geometry_width-made width size (Err x) chunk encoding whole r t g e = absurd cc

geometry_of-width : (n : ℕ) (width : Width) (size : Point) (d : Data) (g : Geometry) → geometry_of n width size d ≡ Ok g → g.width ≡ width
unfolding geometry_of
geometry_of-width n width size d g e =
    geometry_width-made width size (offset_of n size d) (chunk_of n d) (encoding_of n width d) (is_absent_or_null (get (codes "sharding") d)) (Unsupported (codes "sharding")) (Unsupported (codes "chunk_sizes")) g e

scale_width-made : (width : Width) (key : Result (List ℕ) InfoError) (size resolution : Result Point InfoError) (geometry : Point → Result Geometry InfoError) (s : Scale)
    → (key >>= λ k. size >>= λ z. resolution >>= λ r. geometry z >>= λ g. Ok (scale_made k r g)) ≡ Ok s
    → ((z : Point) (g : Geometry) → geometry z ≡ Ok g → g.width ≡ width)
    → s.geometry.width ≡ width
scale_width-made width (Ok k) (Ok z) (Ok r) geometry s e wide =
    let p = last_part (geometry z) k r s e in
    subst (λ (q : Scale). q.geometry.width ≡ width) p.2 (wide z p.0 p.1)
scale_width-made width (Ok k) (Ok z) (Err x) geometry s e wide = absurd cc
scale_width-made width (Ok k) (Err x) resolution geometry s e wide = absurd cc
scale_width-made width (Err x) size resolution geometry s e wide = absurd cc

scale_of-width : (width : Width) (earlier : List Scale) (d : Data) (s : Scale) → scale_of width earlier d ≡ Ok s → s.geometry.width ≡ width
unfolding scale_of
scale_of-width width earlier d s e =
    let n = length earlier in
    scale_width-made width (key_of earlier d) (triple_member n (codes "size") 1 largest_place d) (triple_member n (codes "resolution") 1 (2 ^ 32) d) (λ z. geometry_of n width z d) s e
    (λ z. geometry_of-width n width z d)

-- each of these scales has this width
abbrev pub AreOfWidth : Width → List Scale → Type 0
AreOfWidth width [] = Unit {0}
AreOfWidth width (s ∷ scales) = (s.geometry.width ≡ width) × AreOfWidth width scales

AreOfWidth-more : (width : Width) (scales : List Scale) (s : Scale) → AreOfWidth width scales → s.geometry.width ≡ width → AreOfWidth width (scales ++ s ∷ [])
AreOfWidth-more width [] s all own = (own, tt)
AreOfWidth-more width (x ∷ scales) s all own = (all.0, AreOfWidth-more width scales s all.1 own)

pub scales_after-width : (width : Width) (earlier : List Scale) (ds : Items) (all : List Scale) → scales_after width earlier ds ≡ Ok all → AreOfWidth width earlier → AreOfWidth width all
scales_after-width width earlier no_items all e h = let same : earlier ≡ all = cc in subst (AreOfWidth width) same h
scales_after-width width earlier (item d ds) all e h =
    let s = bind_ok (scale_of width earlier d) (λ scale. scales_after width (earlier ++ scale ∷ []) ds) all e in
    scales_after-width width (earlier ++ s.0 ∷ []) ds all s.2 (AreOfWidth-more width earlier s.0 h (scale_of-width width earlier d s.0 s.1))

pub width_at : (width : Width) (scales : List Scale) (k : ℕ) (s : Scale) → slice_get scales k ≡ Some s → AreOfWidth width scales → s.geometry.width ≡ width
width_at width [] k s e h = absurd cc
width_at width (x ∷ scales) zero s e h = let same : x ≡ s = cc in subst (λ (q : Scale). q.geometry.width ≡ width) same h.0
width_at width (x ∷ scales) (suc k) s e h = width_at width scales k s e h.1
