-- What a maker knows of the place of a new stage once it has looked.
use Rattle.std.proofs.Common.{arith, inl, inr, ◌⊎◌, ◌≡◌, ◌<◌, ◌≤◌, ◌+◌, ◌∙◌, ℕ, Bool, true, false, List, [], ◌∷◌, Option, None, Some, is_some, Contains, length, slice_get, get_or, codes, Result, refl, ap, sym, subst, true≢false}
use Rattle.std.specs.Prelude.{option_map}
use Rattle.std.proofs.lemmas.Option.{get_or_from_slice_get, slice_get-get_or}
use Rattle.ig_defs.specs.declared.step.Step.{Step}
use Rattle.ig_defs.specs.Files.{Files, file_at}
use Rattle.ig_defs.specs.Log.{Log, ByOthers, after, files_of}
use Rattle.ig_defs.specs.Names.{StandsThroughout}
use Rattle.ig_defs.specs.Own.{Moment}
use Rattle.ig_meaning.specs.Making.{Making, fresh_info, info_if}
use Rattle.ig_meaning.specs.Jobs.{file_of}
use Rattle.ig_meaning.specs.QueueApart.{AreLayersApart}
use Rattle.ig_meaning.specs.Taken.{taken_by}
use Rattle.ig_meaning.specs.TakenLaws.{HasNoneOf, none_in, not_taken}
use Rattle.ig_meaning.specs.Words.{Request}
use Rattle.ig_record.specs.declared.stage.InfoFile.{InfoFile}
use Rattle.ig_record.specs.declared.stage.Kind.{Kind}
use Rattle.ig_record.specs.declared.stage.Kind.TheVariants.{Remove}
use Rattle.ig_record.specs.declared.stage.Stage.{Stage}
use Rattle.ig_record.specs.Columns.{needs_fresh_info, output_dirs, removed_by, removed_dir}
use Rattle.ig_rule.specs.Dirs.{LiesIn}
use Rattle.ig_rule.specs.DirPaths.{dir_is, dir_within, listed_in}
use Rattle.ig_rule.specs.Facts.{IsInfoName, IsPath, StageLaws}
use Rattle.ig_rule.specs.Keeps.{keep_laws}
use Rattle.ig_rule.specs.QueueFiles.{IsApartFrom, queue_of}
use Rattle.ig_rule.specs.QueuePaths.{no_queue_path}
use Rattle.ig_rule.specs.Room.{IsOutsideQueue}
use Rattle.ig_defs.specs.Turns.{Listed}
use Rattle.ig_rule.specs.WentOn.{went_of}
use Rattle.ig_rule.specs.Went.{Went}
use Rattle.ig_space.specs.Path.{joined}
use Rattle.ig_task.specs.Facts.{facts_of, stage_reader}
use Rattle.ig_task.specs.Kinds.{kinds, named_info}
use Rattle.ig_task.specs.Maker.{IsPathOfNone, KnowsStages, Others}
use Rattle.ig_task.specs.MakerLaws.{KnowsFile, file_keeps, knows_went, same_file}
use Rattle.ig_task.specs.Pipeline.{is_allowed}
use Rattle.ig_task.specs.Rooms.{outside-planned}
use Rattle.ig_task.specs.declared.pipeline.Pipeline.{Pipeline}
use Rattle.ig_stage.specs.Drafts.{CanRun}
use Rattle.ig_stage.specs.Free.{AreEmptyDirs, HasNoInfo, IsEmptyDir, IsFree, IsPlanned, KnowsQueue}
use Rattle.ig_stage.specs.Looking.{Looks}
use Rattle.ig_stage.specs.declared.error.MakeError.{MakeError}
use Rattle.ig_stage.proofs.Lookings.{look_only}

-- ---- no path of an earlier stage

-- the recorded stages that are known keep the laws of their kinds
laws_known : (q : List ℕ) (stages : List Stage) (files : Files) → KnowsStages q stages files → (n : ℕ) (t : Stage) → slice_get stages n ≡ Some t → StageLaws (facts_of n t)
laws_known q stages files k n t is =
    keep_laws stage_reader kinds (queue_of q files) n (facts_of n t) (k.recorded n ∙ ap (option_map (facts_of n)) is)

removes_source : (kind : Kind) (t : Stage) → is_some (removed_by kind t) ≡ true → removed_by kind t ≡ Some t.source.dir
removes_source Remove t removes = refl
removes_source kind t removes = absurd (true≢false (sym removes))

-- it makes its paths, or removes them
by_removal : (P : Type 0) (b : Bool) → (b ≡ false → P) → (b ≡ true → P) → P
by_removal P false makes removes = makes refl
by_removal P true makes removes = removes refl

-- the path lies directly in an output directory of the new stage
not_in_output : (s t : Stage) (n : ℕ) → StageLaws (facts_of n t) → HasNoneOf t s → (dir path : List ℕ) → Contains (output_dirs s) dir → LiesIn dir path → IsPath (facts_of n t) path → ⊥
not_in_output s t n laws none dir path one lies is = by_removal ⊥ (is_some (removed_dir t)) made removed
  where
    made : is_some (removed_dir t) ≡ false → ⊥
    made makes =
        let l = laws.path_in makes path is in
        none.outputs dir one (subst (Contains (output_dirs t)) (dir_is l.dir dir path l.lies lies) l.one)

    removed : is_some (removed_dir t) ≡ true → ⊥
    removed removes =
        let within = laws.chunk_in path (laws.removed_chunk removes path is) in
        none.removed t.source.dir (removes_source t.kind t removes) (subst (Contains (output_dirs s)) (dir_is dir t.source.dir path lies within) one)

-- the path is that of the new stage's info
not_the_info : (s t : Stage) (n : ℕ) → StageLaws (facts_of n t) → HasNoneOf t s → (info : InfoFile) → s.info ≡ Some info → IsInfoName info.path → IsPath (facts_of n t) info.path → ⊥
not_the_info s t n laws none info has name is = by_removal ⊥ (is_some (removed_dir t)) made removed
  where
    made : is_some (removed_dir t) ≡ false → ⊥
    made makes =
        let l = laws.path_in makes info.path is in
        none.info info has l.dir l.one (name.is ∙ ap (λ d. joined d (codes "info")) (sym (dir_within l.dir name.dir (codes "info") info.path l.lies refl name.is)))

    removed : is_some (removed_dir t) ≡ true → ⊥
    removed removes = laws.chunk_name info.path (laws.removed_chunk removes info.path is) name

module _ (q : List ℕ) (stages : List Stage) (files : Files) (k : KnowsStages q stages files) (s : Stage) (free : taken_by stages s ≡ None) where
  pub output_of_none : (dir path : List ℕ) → Contains (output_dirs s) dir → LiesIn dir path → IsPathOfNone stages path
  output_of_none dir path one lies = λ n t is.
      not_in_output s t n (laws_known q stages files k n t is) (not_taken stages s free n t is) dir path one lies

  pub info_of_none : (info : InfoFile) → s.info ≡ Some info → IsInfoName info.path → IsPathOfNone stages info.path
  info_of_none info has name = λ n t is.
      not_the_info s t n (laws_known q stages files k n t is) (not_taken stages s free n t is) info has name

-- ---- outside the queue

pub info_apart : (q : List ℕ) (s : Stage) (n : ℕ) → IsOutsideQueue q (facts_of n s) → (info : InfoFile) → s.info ≡ Some info → IsApartFrom q info.path
info_apart q s n outside info has = λ x is. (outside.info (file_of info) (ap (option_map file_of) has)).not_within _ is

-- ---- a listing

-- A file that is neither the queue's nor a stage's, and lies in a directory, does so throughout steps of others.
stands_throughout : (q : List ℕ) (stages : List Stage) (dir path bytes : List ℕ) → IsApartFrom q path → IsPathOfNone stages path → (lies : LiesIn dir path)
    → (files : Files) (others : List Step) → ByOthers (Others q) files others → KnowsFile kinds q stages path (Some bytes) files → StandsThroughout files others dir lies.name
stands_throughout q stages dir path bytes apart none lies files [] by k = listed_in files dir path bytes lies k.holds
stands_throughout q stages dir path bytes apart none lies files (step ∷ others) by k = (
  listed_in files dir path bytes lies k.holds,
  stands_throughout q stages dir path bytes apart none lies (after files step.act) others by.2
      (file_keeps kinds q stages path (Some bytes) apart none files step.act by.1 k),
)

empty_listing : (q : List ℕ) (stages : List Stage) (old new : Log) (dir : List ℕ) (given : List (List ℕ)) → given ≡ [] → KnowsStages q stages (files_of old) → Listed (Others q) old new dir given
    → IsEmptyDir q stages dir (files_of new)
empty_listing q stages old new dir given empty k listed path lies apart none = by_file (file_at (files_of old) path) refl
  where
    same : file_at (files_of new) path ≡ file_at (files_of old) path
    same = same_file kinds q stages path apart none old new _ (went_of listed.acted) (tt, tt) k

    by_file : (found : Option (List ℕ)) → file_at (files_of old) path ≡ found → file_at (files_of new) path ≡ None
    by_file None e = same ∙ e
    by_file (Some bytes) e =
        let stands = stands_throughout q stages dir path bytes apart none lies (files_of old) listed.acted.others listed.acted.by (record { knows = k; holds = e }) in
        absurd (none_in lies.name (subst (λ names. Contains names lies.name) empty (listed.names.each lies.name stands)))

-- An empty listing tells a maker that no file lies in the directory, but of the queue or of its stages.
pub listed_empty : (rule : Pipeline) (q : List ℕ) (stages : List Stage) (old new : Log) (dir : List ℕ) (given : List (List ℕ)) → given ≡ [] → KnowsQueue rule q stages (files_of old)
    → Listed (is_allowed rule) old new dir given → IsEmptyDir q stages dir (files_of new)
listed_empty rule q stages old new dir given empty k listed =
    empty_listing q stages old new dir given empty k.knows (subst (λ r. Listed (is_allowed r) old new dir given) k.is listed)

-- ---- while a maker looks

module _ {T : Type 0} (rule : Pipeline) (q : List ℕ) (stages : List Stage) (making : List Moment → Making) (next : T → List Moment → Making) (old new : Log) (result : Result T MakeError)
    (looks : Looks (is_allowed rule) making next old new result) (k : KnowsQueue rule q stages (files_of old)) where
  went_others : Went (Others q) old new looks.ms
  went_others = subst (λ r. Went (is_allowed r) old new looks.ms) k.is looks.went

  -- its stages stay known
  pub looks_know : KnowsQueue rule q stages (files_of new)
  looks_know = record { is = k.is; knows = knows_went kinds q stages old new looks.ms went_others (look_only looks.ms looks.quiet) k.knows }

  -- and a file that is neither the queue's nor a stage's is the same
  pub looks_same : (path : List ℕ) → IsApartFrom q path → IsPathOfNone stages path → file_at (files_of new) path ≡ file_at (files_of old) path
  looks_same path apart none = same_file kinds q stages path apart none old new looks.ms went_others (look_only looks.ms looks.quiet) k.knows

  pub empty_still : (dir : List ℕ) → IsEmptyDir q stages dir (files_of old) → IsEmptyDir q stages dir (files_of new)
  empty_still dir empty = λ path lies apart none. looks_same path apart none ∙ empty path lies apart none

-- ---- all directories

-- the stages are known, and the first n directories are empty
pub record EmptySoFar (rule : Pipeline) (q : List ℕ) (stages : List Stage) (dirs : List (List ℕ)) (n : ℕ) (files : Files) : Type 0 where
  pub knows : KnowsQueue rule q stages files
  pub empty : (k : ℕ) (dir : List ℕ) → k < n → slice_get dirs k ≡ Some dir → IsEmptyDir q stages dir files

pub none_empty : (rule : Pipeline) (q : List ℕ) (stages : List Stage) (dirs : List (List ℕ)) (files : Files) → KnowsQueue rule q stages files → EmptySoFar rule q stages dirs 0 files
none_empty rule q stages dirs files knows = record { knows = knows; empty = λ k dir below is. absurd (omega (arith, below)) }

-- one more is
pub one_more_empty : {T : Type 0} (rule now : Pipeline) (q : List ℕ) (stages : List Stage) (dirs : List (List ℕ)) (n : ℕ) (making : List Moment → Making) (next : T → List Moment → Making)
    (old new : Log) (result : Result T MakeError) (dir : List ℕ) → now ≡ rule → n < length dirs → dir ≡ get_or dirs n dir → EmptySoFar rule q stages dirs n (files_of old)
    → Looks (is_allowed now) making next old new result → (KnowsQueue now q stages (files_of old) → IsEmptyDir q stages dir (files_of new)) → EmptySoFar rule q stages dirs (n + 1) (files_of new)
one_more_empty {T = T} rule now q stages dirs n making next old new result dir same below is so looks empty =
    let here = subst (λ r. KnowsQueue r q stages (files_of old)) (sym same) so.knows in
    record {
      knows = subst (λ r. KnowsQueue r q stages (files_of new)) same (looks_know {T = T} now q stages making next old new result looks here);
      empty = λ k other under at. by_place k other at (nat_cases k n under);
    }
  where
    nat_cases : (k n : ℕ) → k < n + 1 → (k < n) ⊎ (k ≡ n)
    nat_cases k n under = grind arith

    by_place : (k : ℕ) (other : List ℕ) → slice_get dirs k ≡ Some other → (k < n) ⊎ (k ≡ n) → IsEmptyDir q stages other (files_of new)
    by_place k other at (inl under) =
        empty_still {T = T} now q stages making next old new result looks (subst (λ r. KnowsQueue r q stages (files_of old)) (sym same) so.knows) other (so.empty k other under at)
    by_place k other at (inr e) =
        let one : dir ≡ other = is ∙ get_or_from_slice_get dirs n other dir (ap (slice_get dirs) (sym e) ∙ at) in
        subst (λ d. IsEmptyDir q stages d (files_of new)) one (empty (subst (λ r. KnowsQueue r q stages (files_of old)) (sym same) so.knows))

pub all_empty : (rule : Pipeline) (q : List ℕ) (stages : List Stage) (dirs : List (List ℕ)) (n : ℕ) (files : Files) → length dirs ≤ n → EmptySoFar rule q stages dirs n files
    → AreEmptyDirs q stages dirs files
all_empty rule q stages dirs n files over so dir (k, within, is) =
    so.empty k dir (omega (arith, over, within)) (slice_get-get_or dirs k dir within ∙ ap Some is)

-- ---- the new stage

-- the info that has to be new is the stage's
is_info : (b : Bool) (own : Option InfoFile) (info : InfoFile) → info_if b own ≡ Some info → own ≡ Some info
is_info true own info is = is
is_info false own info is = let no_way : ⊥ = cc in absurd no_way

pub fresh_is : (s : Stage) (info : InfoFile) → fresh_info s ≡ Some info → s.info ≡ Some info
fresh_is s info is = is_info (needs_fresh_info s.kind) s.info info is

-- Where the info was not there and its directories are empty, its place is free.
pub is_free : {T : Type 0} (request : Request) (rule now : Pipeline) (q : List ℕ) (stages : List Stage) (s : Stage) (making : List Moment → Making) (next : T → List Moment → Making)
    (old new : Log) (result : Result T MakeError) → now ≡ rule → AreLayersApart q request → IsPlanned stages request s → CanRun s → taken_by stages s ≡ None
    → KnowsQueue rule q stages (files_of old) → Looks (is_allowed now) making next old new result → HasNoInfo s (files_of old)
    → (dirs : List (List ℕ)) → dirs ≡ output_dirs s → (KnowsQueue now q stages (files_of old) → AreEmptyDirs q stages dirs (files_of new)) → IsFree q stages s (files_of new)
is_free {T = T} request rule now q stages s making next old new result same layers planned can free k looks fresh dirs are empty = record {
  knows = (looks_know {T = T} now q stages making next old new result looks here).knows;
  no_info = λ info has.
      let own = fresh_is s info has in
      looks_same {T = T} now q stages making next old new result looks here info.path
      (info_apart q s 0 outside info own)
      (info_of_none q stages (files_of old) k.knows s free info own (named_info s can.sound info own))
      ∙ fresh info has;
  empty = λ path l.
      empty here l.dir (subst (λ (ds : List (List ℕ)). Contains ds l.dir) (sym are) l.one) path l.lies
      (λ x. no_queue_path q l.dir path x (outside.outputs l.dir l.one) l.lies)
      (output_of_none q stages (files_of old) k.knows s free l.dir path l.one l.lies);
}
  where
    here : KnowsQueue now q stages (files_of old)
    here = subst (λ r. KnowsQueue r q stages (files_of old)) (sym same) k

    outside : IsOutsideQueue q (facts_of 0 s)
    outside = outside-planned q stages request planned.bytes s 0 planned.is layers
