-- Facts about the members of stages: paths, splits of a directory, scales.
use Rattle.std.specs.Prelude.{◌≡◌, ◌≤◌, ◌-◌, ◌*◌, ◌^◌, ◌==◌, ℕ, Bool, true, false, ◌&&◌, ◌||◌, List, [], ◌∷◌, ◌++◌, length, Option, None, Some, is_none, IfSome, nat_le, codes}
use Rattle.std.proofs.Common.{arith, refl, ap, sym, subst, append_assoc, length-append, le_trans, lit≤, mul-pos}
use Rattle.std.proofs.lemmas.Bool.{and_parts, leb-true, eqb-true}
use Rattle.std.specs.Str.{is_utf8}
use Rattle.ig_space.specs.declared.point.Point.{Point}
use Rattle.ig_space.specs.declared.geometry.Geometry.{Geometry}
use Rattle.ig_space.specs.declared.geometry.Width.{Width}
use Rattle.ig_space.specs.declared.geometry.Width.TheVariants.{W8, W16, W32, W64}
use Rattle.ig_space.specs.declared.place.Place.{Place}
use Rattle.ig_space.specs.Geometry.{geometry_fits, label_len, Fits-from}
use Rattle.ig_space.specs.Grid.{space_of}
use Rattle.ig_space.specs.Path.{is_path, joined}
use Rattle.ig_space.specs.Segments.{is_path-joined}
use Rattle.ig_record.specs.declared.stage.InfoFile.{InfoFile}
use Rattle.ig_record.specs.Sound.{is_word, same_box, same_point, same_voxels, some_split}

-- ---- records

-- the text is a text, `/` and another text, and these pass
pub record IsSplit (test : List ℕ → List ℕ → Bool) (text : List ℕ) : Type 0 where
  pub before : List ℕ
  pub after : List ℕ
  pub whole : text ≡ joined before after
  pub passes : test before after ≡ true

-- the directory of a scale is a path, and short
pub record IsDir (dir : List ℕ) : Type 0 where
  pub path : is_path dir ≡ true
  pub short : length dir ≤ 201

-- a scale that is written has the voxels of the source
pub record IsDest (source dest : Place) : Type 0 where
  pub dir : IsDir dest.dir
  pub fits : geometry_fits dest.geometry ≡ true
  pub offset : dest.geometry.offset ≡ source.geometry.offset
  pub size : dest.geometry.size ≡ source.geometry.size
  pub width : dest.geometry.width ≡ source.geometry.width
  pub space : space_of dest.geometry ≡ space_of source.geometry

pub record IsPut (info : InfoFile) : Type 0 where
  pub path : is_path info.path ≡ true
  pub text : is_utf8 info.text ≡ true

pub record HasSides (p : Point) : Type 0 where
  pub x : 1 ≤ p.x
  pub y : 1 ≤ p.y
  pub z : 1 ≤ p.z

-- each side is a number of 64 bits
pub record IsSmall (p : Point) : Type 0 where
  pub x : p.x ≤ 2 ^ 64 - 1
  pub y : p.y ≤ 2 ^ 64 - 1
  pub z : p.z ≤ 2 ^ 64 - 1

-- a scale that is written: its directory is a path, and short, and its geometry fits
pub record IsScale (place : Place) : Type 0 where
  pub dir : IsDir place.dir
  pub fits : geometry_fits place.geometry ≡ true

-- a directory of passes is a path, and short
pub record IsScratch (dir : List ℕ) : Type 0 where
  pub path : is_path dir ≡ true
  pub short : length dir ≤ 208

-- ---- the directory

split-more : (test : List ℕ → List ℕ → Bool) (before rest : List ℕ) (c : ℕ) → IsSplit test ((before ++ c ∷ []) ++ rest) → IsSplit test (before ++ c ∷ rest)
split-more test before rest c = subst (IsSplit test) (append_assoc before (c ∷ []) rest)

split-here : (test : List ℕ → List ℕ → Bool) (before rest : List ℕ) (c : ℕ) → (c == 47) ≡ true → test before rest ≡ true → IsSplit test (before ++ c ∷ rest)
split-here test before rest c slash passes = record {
  before = before;
  after = rest;
  whole = ap (λ d. before ++ d ∷ rest) (eqb-true c 47 slash);
  passes = passes;
}

split-either : (test : List ℕ → List ℕ → Bool) (before rest : List ℕ) (c : ℕ) (slash passes later : Bool) → (c == 47) ≡ slash → test before rest ≡ passes
    → (later ≡ true → IsSplit test ((before ++ c ∷ []) ++ rest)) → (slash && passes || later) ≡ true → IsSplit test (before ++ c ∷ rest)
split-either test before rest c true true later is holds more h = split-here test before rest c is holds
split-either test before rest c true false later is holds more h = split-more test before rest c (more h)
split-either test before rest c false passes later is holds more h = split-more test before rest c (more h)

pub split-from : (test : List ℕ → List ℕ → Bool) (before rest : List ℕ) → some_split test before rest ≡ true → IsSplit test (before ++ rest)
split-from test before [] h = absurd cc
split-from test before (c ∷ rest) h =
    split-either test before rest c (c == 47) (test before rest) (some_split test (before ++ c ∷ []) rest) refl refl (split-from test (before ++ c ∷ []) rest) h

pub word-path : (text : List ℕ) → is_word text ≡ true → (is_path text ≡ true) × (length text ≤ 100)
word-path text h = let p = and_parts (is_path text) (nat_le (length text) 100) h in (p.0, leb-true (length text) 100 p.1)

pub IsDir-joined : (dir layer key : List ℕ) → dir ≡ joined layer key → is_word layer ≡ true → is_word key ≡ true → IsDir dir
IsDir-joined dir layer key e l k =
    let a = word-path layer l in
    let b = word-path key k in
    let long = length-append layer (47 ∷ key) in
    rw e (record {
      path = is_path-joined layer key a.0 b.0 (omega (arith, long, a.1, b.1));
      short = omega (arith, long, a.1, b.1);
    })

-- ---- members

pub same_point-from : (p q : Point) → same_point p q ≡ true → p ≡ q
same_point-from p q h =
    let a = and_parts (p.x == q.x) (p.y == q.y && p.z == q.z) h in
    let b = and_parts (p.y == q.y) (p.z == q.z) a.1 in
    let x = eqb-true p.x q.x a.0 in
    let y = eqb-true p.y q.y b.0 in
    let z = eqb-true p.z q.z b.1 in
    λ i. record { x = x i; y = y i; z = z i }

abbrev pub with_points : Geometry → Point → Point → Geometry
with_points g offset size = record { offset = offset; size = size; chunk = g.chunk; width = g.width; encoding = g.encoding }

pub same_width : (v w : Width) → (label_len v == label_len w) ≡ true → w ≡ v
same_width W8 W8 e = refl
same_width W16 W16 e = refl
same_width W32 W32 e = refl
same_width W64 W64 e = refl
same_width W8 W16 e = absurd cc
same_width W8 W32 e = absurd cc
same_width W8 W64 e = absurd cc
same_width W16 W8 e = absurd cc
same_width W16 W32 e = absurd cc
same_width W16 W64 e = absurd cc
same_width W32 W8 e = absurd cc
same_width W32 W16 e = absurd cc
same_width W32 W64 e = absurd cc
same_width W64 W8 e = absurd cc
same_width W64 W16 e = absurd cc
same_width W64 W32 e = absurd cc

-- a scale that is written has the voxels of the source
pub dest-from : (source dest : Place) → IsDir dest.dir → geometry_fits dest.geometry ≡ true → same_voxels source.geometry dest.geometry ≡ true → IsDest source dest
dest-from source dest dir fits e =
    let g = source.geometry in
    let h = dest.geometry in
    let v = and_parts (same_box g h) _ e in
    let a = and_parts (same_point g.offset h.offset) (same_point g.size h.size) v.0 in
    let offset = sym (same_point-from g.offset h.offset a.0) in
    let size = sym (same_point-from g.size h.size a.1) in
    record {
      dir = dir;
      fits = fits;
      offset = offset;
      size = size;
      width = same_width g.width h.width v.1;
      space = λ i. space_of (with_points g (offset i) (size i));
    }

-- a factor of a product of numbers that are some is no more than it
factor-most : (a b c most : ℕ) → 1 ≤ b → 1 ≤ c → a * (b * c) ≤ most → a ≤ most
factor-most a b c most some more few = let product = mul-pos some more in grind arith

-- the sides of a chunk are no more than its voxels
pub chunk-small : (g : Geometry) → geometry_fits g ≡ true → (g.chunk.x ≤ 2 ^ 40) × (g.chunk.y ≤ 2 ^ 40)
chunk-small g h =
    let f = Fits-from g h in
    let c = g.chunk in
    let swapped : c.y * (c.x * c.z) ≡ c.x * (c.y * c.z) = grind arith in
    let wide : 2 ^ 21 ≤ 2 ^ 40 = lit≤ tt in (
      le_trans (factor-most c.x c.y c.z (2 ^ 21) f.y_step f.z_step f.few) wide,
      le_trans (factor-most c.y c.x c.z (2 ^ 21) f.x_step f.z_step (subst (λ n. n ≤ 2 ^ 21) (sym swapped) f.few)) wide,
    )

pub sides-fit : (g : Geometry) → geometry_fits g ≡ true → HasSides g.chunk
sides-fit g h = let f = Fits-from g h in record { x = f.x_step; y = f.y_step; z = f.z_step }

pub info-from : (layer : List ℕ) (info : InfoFile) → is_word layer ≡ true → info.path ≡ joined layer (codes "info") → is_utf8 info.text ≡ true → IsPut info
unfolding is_path
info-from layer info word same text =
    let w = word-path layer word in
    record {
      path = rw same (is_path-joined layer (codes "info") w.0 refl (omega (arith, length-append layer (47 ∷ codes "info"), w.1)));
      text = text;
    }

pub none-holds : {A : Type 0} (o : Option A) (P : A → Type 0) → o ≡ None → IfSome o P
none-holds None P none = tt
none-holds (Some a) P none = absurd cc

pub some-holds : {A : Type 0} (o : Option A) (a : A) (P : A → Type 0) → o ≡ Some a → P a → IfSome o P
some-holds {A = A} o a P is holds = subst (λ (o : Option A). IfSome o P) (sym is) holds

pub is_none-None : {A : Type 0} (o : Option A) → is_none o ≡ true → o ≡ None
is_none-None None h = refl
is_none-None (Some a) h = absurd cc
