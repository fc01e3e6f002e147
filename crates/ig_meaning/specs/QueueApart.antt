-- What lies in a layer that is apart from a queue's directory is outside it; so does what is planned.
use Rattle.std.specs.Prelude.{◌≡◌, ◌+◌, ◌==◌, ℕ, zero, suc, Bool, true, false, not, List, [], ◌∷◌, ◌++◌, length, map, take, Option, None, Some, Contains, Result, Ok, Err, slice_get, codes, refl}
use Rattle.std.proofs.Common.{arith, ap, sym, subst, append_assoc, true≢false, ◌∙◌}
use Rattle.std.proofs.lemmas.Bool.{and_parts}
use Rattle.std.proofs.lemmas.Slice.Eq.{bytes_eq-Decides}
use Rattle.std.specs.Str.{bytes_eq}
use Rattle.ig_space.specs.Path.{joined}
use Rattle.ig_info.specs.declared.error.InfoError.{InfoError}
use Rattle.ig_info.specs.declared.scale.Scale.{Scale}
use Rattle.ig_info.specs.Dest.{dest_of}
use Rattle.ig_info.specs.Info.{InfoData}
use Rattle.ig_info.specs.Reading.{info_in}
use Rattle.ig_record.specs.declared.stage.InfoFile.{InfoFile}
use Rattle.ig_record.specs.declared.stage.Kind.{Kind}
use Rattle.ig_record.specs.declared.stage.Kind.TheVariants.{Xfer, Downsample, Count}
use Rattle.ig_record.specs.declared.stage.Stage.{Stage}
use Rattle.ig_record.specs.Columns.{dirs_of_all, output_dirs}
use Rattle.ig_record.specs.Sound.{counts_name}
use Rattle.ig_rule.specs.Dirs.{IsOutside}
use Rattle.ig_meaning.specs.Plan.{all_added, copy_stage, mips_if, mips_of, mips_stage, new_scale, pass_stage, place_in, planned, planned_by, with_dest, with_info, with_mips, with_scale}
use Rattle.ig_meaning.specs.QueueWords.{holds, is_apart}
use Rattle.ig_meaning.specs.Refusal.{Refusal}
use Rattle.ig_meaning.specs.TakenLaws.{the_only}
use Rattle.ig_meaning.specs.Words.{Request, new_layer, writes_layer}

-- ---- two directories that one path lies in

-- the path lies in the directory, at some depth
record LiesBelow (dir path : List ℕ) : Type 0 where
  rest : List ℕ
  is : path ≡ joined dir rest

-- one is the other, or lies in it
data AreOnOnePath (dir other : List ℕ) : Type 0 where
  same : dir ≡ other → AreOnOnePath dir other
  below : LiesBelow dir other → AreOnOnePath dir other
  above : LiesBelow other dir → AreOnOnePath dir other

longer : (c d : ℕ) (dir other : List ℕ) → c ≡ d → AreOnOnePath dir other → AreOnOnePath (c ∷ dir) (d ∷ other)
longer c d dir other first (same e) = same (λ i. first i ∷ e i)
longer c d dir other first (below b) = below (record { rest = b.rest; is = λ i. sym first i ∷ b.is i })
longer c d dir other first (above b) = above (record { rest = b.rest; is = λ i. first i ∷ b.is i })

head_is : (c d : ℕ) (xs ys : List ℕ) → c ∷ xs ≡ d ∷ ys → c ≡ d
head_is c d xs ys e = cc

tail_is : (c d : ℕ) (xs ys : List ℕ) → c ∷ xs ≡ d ∷ ys → xs ≡ ys
tail_is c d xs ys e = cc

on_one_path : (dir other rest later : List ℕ) → joined dir rest ≡ joined other later → AreOnOnePath dir other
on_one_path [] [] rest later e = same refl
on_one_path [] (d ∷ other) rest later e = below (record { rest = other; is = ap (λ c. c ∷ other) (sym (head_is 47 d rest (joined other later) e)) })
on_one_path (c ∷ dir) [] rest later e = above (record { rest = dir; is = ap (λ d. d ∷ dir) (head_is c 47 (joined dir rest) later e) })
on_one_path (c ∷ dir) (d ∷ other) rest later e =
    longer c d dir other (head_is c d (joined dir rest) (joined other later) e) (on_one_path dir other rest later (tail_is c d (joined dir rest) (joined other later) e))

-- ---- the test

front-joined : (dir rest : List ℕ) → take (suc (length dir)) (joined dir rest) ≡ dir ++ 47 ∷ []
front-joined [] rest = refl
front-joined (c ∷ dir) rest = ap (λ xs. c ∷ xs) (front-joined dir rest)

below-holds : (dir path : List ℕ) → LiesBelow dir path → holds dir path ≡ true
below-holds dir path b =
    let on : length dir + 1 ≡ suc (length dir) = omega arith in
    (bytes_eq-Decides (take (length dir + 1) path) (dir ++ 47 ∷ [])).1 (ap (λ n. take n path) on ∙ ap (λ p. take (suc (length dir)) p) b.is ∙ front-joined dir b.rest)

refused : (b : Bool) → not b ≡ true → b ≡ true → ⊥
refused true negated is = true≢false (sym negated)
refused false negated is = true≢false (sym is)

-- What lies in a layer apart from the queue's directory is outside it.
pub outside-layer : (q layer rest : List ℕ) → is_apart q layer ≡ true → IsOutside q (joined layer rest)
outside-layer q layer rest apart =
    let a = and_parts (not (bytes_eq layer q)) _ apart in
    let b = and_parts (not (holds q layer)) (not (holds layer q)) a.1 in
    let not_in = λ (h : LiesBelow layer q). refused (holds layer q) b.1 (below-holds layer q h) in
    record {
      other = λ e. not_in (record { rest = rest; is = sym e });
      not_within = λ later e. by_place a.0 b.0 not_in (on_one_path layer q rest later e);
    }
  where
    by_place : not (bytes_eq layer q) ≡ true → not (holds q layer) ≡ true → (LiesBelow layer q → ⊥) → AreOnOnePath layer q → ⊥
    by_place other not_held not_in (same e) = refused (bytes_eq layer q) other ((bytes_eq-Decides layer q).1 e)
    by_place other not_held not_in (below b) = not_in b
    by_place other not_held not_in (above b) = refused (holds q layer) not_held (below-holds q layer b)

-- ---- the stage that is planned

-- The path lies in a layer of the request.
pub data IsInLayers (request : Request) (path : List ℕ) : Type 0 where
  in_source : (rest : List ℕ) → path ≡ joined request.source rest → IsInLayers request path
  in_new : writes_layer request.kind ≡ true → (rest : List ℕ) → path ≡ joined (new_layer request) rest → IsInLayers request path

-- The stage reads and writes in the layers of the request alone.
pub record IsPlaced (request : Request) (s : Stage) : Type 0 where
  pub source : IsInLayers request s.source.dir
  pub outputs : (dir : List ℕ) → Contains (output_dirs s) dir → IsInLayers request dir
  pub info : (info : InfoFile) → s.info ≡ Some info → IsInLayers request info.path

ok_is : (s t : Stage) → ◌≡◌ {A = Result Stage Refusal} (Ok s) (Ok t) → s ≡ t
ok_is s t e = cc

the_info : (info put : InfoFile) → Some put ≡ Some info → put ≡ info
the_info info put e = cc

copy-placed : (request : Request) → writes_layer request.kind ≡ true → (scale new : Scale) (info : InfoData) → IsPlaced request (copy_stage request scale new info)
copy-placed request writes scale new members = record {
  source = in_source scale.key refl;
  outputs = λ dir among. in_new writes new.key (sym (the_only (joined (new_layer request) new.key) dir among));
  info = λ info is. in_new writes (codes "info") (ap (λ (i : InfoFile). i.path) (sym (the_info info _ is)));
}

dest-placed : (request : Request) → writes_layer request.kind ≡ true → (scale new : Scale) (r : Result InfoData InfoError) (s : Stage) → with_dest request scale new r ≡ Ok s → IsPlaced request s
dest-placed request writes scale new (Ok info) s e = subst (IsPlaced request) (ok_is (copy_stage request scale new info) s e) (copy-placed request writes scale new info)
dest-placed request writes scale new (Err cause) s e = absurd (cc)

-- the directories of scales of the source
record IsScaleOf (layer dir : List ℕ) : Type 0 where
  key : List ℕ
  is : dir ≡ joined layer key

scale-dirs : (layer dir : List ℕ) (scales : List Scale) → Contains (dirs_of_all (map (place_in layer) scales)) dir → IsScaleOf layer dir
scale-dirs layer dir [] (k, few, is) = absurd (omega (arith, few))
scale-dirs layer dir (scale ∷ scales) (zero, few, is) = record { key = scale.key; is = sym is }
scale-dirs layer dir (scale ∷ scales) (suc k, few, is) = scale-dirs layer dir scales (k, omega (arith, few), is)

mips-placed : (request : Request) (scale : Scale) (info : InfoData) → IsPlaced request (mips_stage request scale info)
mips-placed request scale members = record {
  source = in_source scale.key refl;
  outputs = λ dir among. let own = scale-dirs request.source dir (mips_of request.levels scale) among in in_source own.key own.is;
  info = λ info is. in_source (codes "info") (ap (λ (i : InfoFile). i.path) (sym (the_info info _ is)));
}

added-placed : (request : Request) (scale : Scale) (r : Result InfoData InfoError) (s : Stage) → with_mips request scale r ≡ Ok s → IsPlaced request s
added-placed request scale (Ok info) s e = subst (IsPlaced request) (ok_is (mips_stage request scale info) s e) (mips-placed request scale info)
added-placed request scale (Err cause) s e = absurd (cc)

last-placed : (last : Bool) (request : Request) (info : InfoData) (scale : Scale) (s : Stage) → mips_if last request info scale ≡ Ok s → IsPlaced request s
last-placed true request info scale s e = added-placed request scale (all_added info (mips_of request.levels scale)) s e
last-placed false request info scale s e = absurd (cc)

-- a directory of a pass
joined-twice : (layer name key sub : List ℕ) → joined (joined (joined layer name) key) sub ≡ joined layer (joined (joined name key) sub)
joined-twice layer name key sub =
    ap (λ text. text ++ 47 ∷ sub) (append_assoc layer (47 ∷ name) (47 ∷ key)) ∙ append_assoc layer (47 ∷ (name ++ 47 ∷ key)) (47 ∷ sub)

count-placed : (request : Request) (scale : Scale) → IsPlaced request (pass_stage Count counts_name request scale)
count-placed request scale = record {
  source = in_source scale.key refl;
  outputs = λ dir among.
      in_source (joined (joined counts_name scale.key) (codes "parts"))
      (sym (the_only (joined (joined (joined request.source counts_name) scale.key) (codes "parts")) dir among) ∙ joined-twice request.source counts_name scale.key (codes "parts"));
  info = λ info is. absurd (cc);
}

placed-by : (kind : Kind) (earlier : List Stage) (request : Request) (info : InfoData) (scale : Scale) (s : Stage) → request.kind ≡ kind → planned_by kind earlier request info scale ≡ Ok s → IsPlaced request s
placed-by Xfer earlier request info scale s is e = dest-placed request (ap writes_layer is) scale (new_scale request scale) (dest_of (new_scale request scale)) s e
placed-by Downsample earlier request info scale s is e = last-placed (suc request.mip == length info.scales) request info scale s e
placed-by Count earlier request info scale s is e = subst (IsPlaced request) (ok_is (pass_stage Count counts_name request scale) s e) (count-placed request scale)
placed-by kind earlier request info scale s is e = absurd (cc)

from_scale : (earlier : List Stage) (request : Request) (info : InfoData) (found : Option Scale) (s : Stage) → with_scale earlier request info found ≡ Ok s → IsPlaced request s
from_scale earlier request info (Some scale) s e = placed-by request.kind earlier request info scale s refl e
from_scale earlier request info None s e = absurd (cc)

from_info : (earlier : List Stage) (request : Request) (r : Result InfoData InfoError) (s : Stage) → with_info earlier request r ≡ Ok s → IsPlaced request s
from_info earlier request (Ok info) s e = from_scale earlier request info (slice_get info.scales request.mip) s e
from_info earlier request (Err cause) s e = absurd (cc)

pub planned-placed : (earlier : List Stage) (request : Request) (bytes : List ℕ) (s : Stage) → planned earlier request bytes ≡ Ok s → IsPlaced request s
unfolding planned
planned-placed earlier request bytes s e = from_info earlier request (info_in bytes) s e

-- ---- outside the queue

-- The layers of the request are apart from the queue's directory.
pub record AreLayersApart (q : List ℕ) (request : Request) : Type 0 where
  pub source : is_apart q request.source ≡ true
  pub dest : writes_layer request.kind ≡ true → is_apart q (new_layer request) ≡ true

pub outside-layers : (q : List ℕ) (request : Request) (path : List ℕ) → AreLayersApart q request → IsInLayers request path → IsOutside q path
outside-layers q request path apart (in_source rest is) = subst (IsOutside q) (sym is) (outside-layer q request.source rest apart.source)
outside-layers q request path apart (in_new writes rest is) = subst (IsOutside q) (sym is) (outside-layer q (new_layer request) rest (apart.dest writes))
