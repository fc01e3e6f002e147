-- Stages that the rule reads as the same have the same directories, and the same is planned after them.
use Rattle.std.proofs.Common.{◌≡◌, ◌||◌, ℕ, suc, Bool, true, false, if◌then◌else◌, List, [], ◌∷◌, length, Option, None, Some, Result, Ok, Err, slice_get, is_some, codes, refl, ap, ◌∙◌, sym}
use Rattle.std.specs.Prelude.{option_map}
use Rattle.std.specs.Result.{result_ok}
use Rattle.std.specs.Str.{bytes_eq}
use Rattle.ig_space.specs.Path.{joined}
use Rattle.ig_layer.specs.Faults.{or_else}
use Rattle.ig_meaning.specs.Refusal.{Taken}
use Rattle.ig_meaning.specs.Jobs.{file_of}
use Rattle.ig_info.specs.declared.error.InfoError.{InfoError}
use Rattle.ig_info.specs.declared.scale.Scale.{Scale}
use Rattle.ig_info.specs.Info.{InfoData}
use Rattle.ig_info.specs.Reading.{info_in}
use Rattle.ig_meaning.specs.Plan.{planned, planned_by, stage_of_found, with_info, with_scale}
use Rattle.ig_meaning.specs.Stage.{unfit}
use Rattle.ig_meaning.specs.Taken.{has_info_among, removes_one, share_one, taker_from, takes, unfit_after}
use Rattle.ig_meaning.specs.Words.{Request}
use Rattle.ig_record.specs.declared.stage.InfoFile.{InfoFile}
use Rattle.ig_record.specs.declared.stage.Kind.{Kind}
use Rattle.ig_record.specs.declared.stage.Kind.TheVariants.{Xfer, Downsample, Count, Remove}
use Rattle.ig_record.specs.declared.stage.Stage.{Stage}
use Rattle.ig_record.specs.Columns.{output_dirs, removed_by, removed_dir}
use Rattle.ig_rule.specs.Facts.{Facts}
use Rattle.ig_task.specs.Facts.{facts_of}

-- the rule reads each of these stages, the first of which has number n, as the other
abbrev pub AreRead : ℕ → List Stage → List Stage → Type 0
AreRead n [] [] = Unit {0}
AreRead n [] (t ∷ ts) = ⊥
AreRead n (s ∷ ss) [] = ⊥
AreRead n (s ∷ ss) (t ∷ ts) = (facts_of n s ≡ facts_of n t) × AreRead (suc n) ss ts

pub length_read : (n : ℕ) (ss ts : List Stage) → AreRead n ss ts → length ss ≡ length ts
length_read n [] [] read = refl
length_read n [] (t ∷ ts) read = absurd read
length_read n (s ∷ ss) [] read = absurd read
length_read n (s ∷ ss) (t ∷ ts) read = ap suc (length_read (suc n) ss ts read.1)

-- ---- one stage

same_paths : (a b : InfoFile) → a.path ≡ b.path → (dirs : List (List ℕ)) → has_info_among (Some a) dirs ≡ has_info_among (Some b) dirs
same_paths a b same [] = refl
same_paths a b same (dir ∷ dirs) =
    ap (λ path. bytes_eq path (joined dir (codes "info")) || has_info_among (Some a) dirs) same
    ∙ ap (λ rest. bytes_eq b.path (joined dir (codes "info")) || rest) (same_paths a b same dirs)

same_infos : (a b : Option InfoFile) → option_map file_of a ≡ option_map file_of b → (dirs : List (List ℕ)) → has_info_among a dirs ≡ has_info_among b dirs
same_infos None None same dirs = refl
same_infos None (Some b) same dirs = let no_way : ⊥ = cc in absurd no_way
same_infos (Some a) None same dirs = let no_way : ⊥ = cc in absurd no_way
same_infos (Some a) (Some b) same dirs =
    let files : file_of a ≡ file_of b = cc in
    same_paths a b (ap (λ file. file.path) files) dirs

abbrev removed_if : Bool → List ℕ → Option (List ℕ)
removed_if true dir = Some dir
removed_if false dir = None

removed_is : (kind : Kind) (s : Stage) → removed_by kind s ≡ removed_if (is_some (removed_by kind s)) s.source.dir
removed_is Remove s = refl
removed_is kind s = refl

-- what takes the directories of a stage takes them where it is read as the same
takes_same : (n : ℕ) (e t s : Stage) → facts_of n e ≡ facts_of n t → takes e s ≡ takes t s
takes_same n e t s same =
    let outputs : output_dirs e ≡ output_dirs t = ap (λ (f : Facts). f.outputs) same in
    let removes : is_some (removed_dir e) ≡ is_some (removed_dir t) = ap (λ (f : Facts). f.removes) same in
    let source : e.source.dir ≡ t.source.dir = ap (λ (f : Facts). f.source) same in
    let removed : removed_dir e ≡ removed_dir t =
    removed_is e.kind e ∙ ap (λ b. removed_if b e.source.dir) removes ∙ ap (removed_if (is_some (removed_dir t))) source ∙ sym (removed_is t.kind t) in
    ap (λ dirs. share_one (output_dirs s) dirs || (has_info_among s.info dirs || (has_info_among e.info (output_dirs s) || removes_one (removed_dir e) (s.source.dir ∷ output_dirs s)))) outputs
    ∙ ap (λ b. share_one (output_dirs s) (output_dirs t) || (has_info_among s.info (output_dirs t) || (b || removes_one (removed_dir e) (s.source.dir ∷ output_dirs s))))
    (same_infos e.info t.info (ap (λ (f : Facts). f.info) same) (output_dirs s))
    ∙ ap (λ dir. share_one (output_dirs s) (output_dirs t) || (has_info_among s.info (output_dirs t) || (has_info_among t.info (output_dirs s) || removes_one dir (s.source.dir ∷ output_dirs s)))) removed

-- ---- all of them

taker_same : (n : ℕ) (ss ts : List Stage) (s : Stage) → AreRead n ss ts → taker_from n ss s ≡ taker_from n ts s
taker_same n [] [] s read = refl
taker_same n [] (t ∷ ts) s read = absurd read
taker_same n (e ∷ ss) [] s read = absurd read
taker_same n (e ∷ ss) (t ∷ ts) s read =
    ap (λ b. if b then Some n else taker_from (suc n) ss s) (takes_same n e t s read.0)
    ∙ ap (λ rest. if takes t s then Some n else rest) (taker_same (suc n) ss ts s read.1)

pub unfit_same : (ss ts : List Stage) (s : Stage) → AreRead 0 ss ts → unfit_after ss s ≡ unfit_after ts s
unfit_same ss ts s read = ap (λ taker. or_else (option_map Taken taker) (unfit s)) (taker_same 0 ss ts s read)

-- ---- what is planned after them

module _ (ss ts : List Stage) (read : AreRead 0 ss ts) (request : Request) where
  by_kind : (kind : Kind) (info : InfoData) (scale : Scale) → planned_by kind ss request info scale ≡ planned_by kind ts request info scale
  by_kind Xfer info scale = refl
  by_kind Downsample info scale = refl
  by_kind Count info scale = refl
  by_kind kind info scale = refl

  by_scale : (info : InfoData) (found : Option Scale) → with_scale ss request info found ≡ with_scale ts request info found
  by_scale info (Some scale) = by_kind request.kind info scale
  by_scale info None = refl

  by_info : (info : Result InfoData InfoError) → with_info ss request info ≡ with_info ts request info
  by_info (Ok info) = by_scale info (slice_get info.scales request.mip)
  by_info (Err cause) = refl

  pub planned_same : (found : Option (List ℕ)) → stage_of_found ss request found ≡ stage_of_found ts request found
  unfolding planned
  planned_same None = refl
  planned_same (Some bytes) = ap result_ok (by_info (info_in bytes))
