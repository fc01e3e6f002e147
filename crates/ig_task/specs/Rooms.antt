-- A new stage has room in a queue where no recorded stage has one of its directories.
use Rattle.std.specs.Prelude.{◌≡◌, ℕ, Bool, true, false, List, Option, None, Some, Ok, is_some, option_map, slice_get, Contains, codes, refl}
use Rattle.std.specs.List.{All}
use Rattle.std.proofs.Common.{ap, sym, subst, true≢false, ◌∙◌}
use Rattle.std.proofs.lemmas.Option.{get_or_from_slice_get, slice_get_within}
use Rattle.ig_space.specs.Path.{joined}
use Rattle.ig_defs.specs.Files.{Files, file_at}
use Rattle.ig_defs.specs.Own.{File}
use Rattle.ig_record.specs.declared.stage.InfoFile.{InfoFile}
use Rattle.ig_record.specs.declared.stage.Kind.{Kind}
use Rattle.ig_record.specs.declared.stage.Kind.TheVariants.{Remove}
use Rattle.ig_record.specs.declared.stage.Stage.{Stage}
use Rattle.ig_record.specs.Sound.{is_sound}
use Rattle.ig_record.specs.Columns.{needs_fresh_info, output_dirs, removed_by, removed_dir}
use Rattle.ig_meaning.specs.Plan.{planned}
use Rattle.ig_meaning.specs.Making.{fresh_info, info_if}
use Rattle.ig_meaning.specs.QueueApart.{AreLayersApart, outside-layers, planned-placed}
use Rattle.ig_meaning.specs.Jobs.{file_of}
use Rattle.ig_meaning.specs.Taken.{taken_by}
use Rattle.ig_meaning.specs.TakenLaws.{HasNoneOf, none_in, not_taken}
use Rattle.ig_meaning.specs.Words.{Request}
use Rattle.ig_rule.specs.Dirs.{IsOutside}
use Rattle.ig_rule.specs.DirPaths.{dir_within}
use Rattle.ig_rule.specs.Facts.{Facts, IsInfoName, LiesInOne}
use Rattle.ig_rule.specs.QueueFiles.{queue_of}
use Rattle.ig_rule.specs.Room.{AreApart, IsNotRemovedBy, IsOutsideQueue, Room}
use Rattle.ig_rule.specs.Stages.{stages_in}
use Rattle.ig_task.specs.Facts.{facts_of, stage_reader}
use Rattle.ig_task.specs.Kinds.{named_info}
use Rattle.ig_task.specs.Maker.{KnowsStages}

-- ---- the info

-- the info that the rule reads is the one that the stage puts
record IsInfoOf (o : Option InfoFile) (file : File) : Type 0 where
  info : InfoFile
  is : o ≡ Some info
  file_is : file_of info ≡ file

file_is : (a b : File) → Some a ≡ Some b → a ≡ b
file_is a b e = cc

info_of : (o : Option InfoFile) (file : File) → option_map file_of o ≡ Some file → IsInfoOf o file
info_of None file e = absurd (cc)
info_of (Some info) file e = record { info = info; is = refl; file_is = file_is (file_of info) file e }

-- ---- outside the queue

-- What is planned between layers apart from the queue's directory is outside it.
pub outside-planned : (q : List ℕ) (earlier : List Stage) (request : Request) (bytes : List ℕ) (s : Stage) (m : ℕ) → planned earlier request bytes ≡ Ok s → AreLayersApart q request
    → IsOutsideQueue q (facts_of m s)
outside-planned q earlier request bytes s m is apart =
    let p = planned-placed earlier request bytes s is in
    record {
      source = outside-layers q request s.source.dir apart p.source;
      outputs = λ dir among. outside-layers q request dir apart (p.outputs dir among);
      inputs = λ dir among. absurd (none_in dir among);
      info = λ file e.
          let i = info_of s.info file e in
          subst (λ (f : File). IsOutside q f.path) i.file_is (outside-layers q request i.info.path apart (p.info i.info i.is));
    }

-- ---- apart from an earlier stage

-- it lies in no directory of which it is not the info
lies_in_none : (info : InfoFile) (dirs : List (List ℕ)) → IsInfoName info.path → ((dir : List ℕ) → Contains dirs dir → info.path ≡ joined dir (codes "info") → ⊥) → LiesInOne dirs info.path → ⊥
lies_in_none info dirs name none l =
    none l.dir l.one (name.is ∙ ap (λ d. joined d (codes "info")) (sym (dir_within l.dir name.dir (codes "info") info.path l.lies refl name.is)))

info_in_none : (s : Stage) (dirs : List (List ℕ)) → is_sound s ≡ true → ((info : InfoFile) → s.info ≡ Some info → (dir : List ℕ) → Contains dirs dir → info.path ≡ joined dir (codes "info") → ⊥)
    → (file : File) → option_map file_of s.info ≡ Some file → LiesInOne dirs file.path → ⊥
info_in_none s dirs sound none file e lies =
    let i = info_of s.info file e in
    lies_in_none i.info dirs (named_info s sound i.info i.is) (none i.info i.is) (subst (λ (f : File). LiesInOne dirs f.path) (sym i.file_is) lies)

apart-earlier : (s t : Stage) (m n : ℕ) → is_sound s ≡ true → is_sound t ≡ true → HasNoneOf t s → AreApart (facts_of m s) (facts_of n t)
apart-earlier s t m n sound sound' h = record {
  outputs = h.outputs;
  info = info_in_none s (output_dirs t) sound h.info;
  other_info = info_in_none t (output_dirs s) sound' h.other_info;
}

removes_source : (kind : Kind) (t : Stage) → is_some (removed_by kind t) ≡ true → removed_by kind t ≡ Some t.source.dir
removes_source Remove t removes = refl
removes_source kind t removes = absurd (true≢false (sym removes))

spared-earlier : (s t : Stage) (m r : ℕ) → HasNoneOf t s → is_some (removed_dir t) ≡ true → IsNotRemovedBy (facts_of m s) (facts_of r t)
spared-earlier s t m r h removes =
    let is : removed_dir t ≡ Some t.source.dir = removes_source t.kind t removes in
    record {
      source = h.source t.source.dir is;
      outputs = λ dir among e. h.removed t.source.dir is (subst (Contains (output_dirs s)) (sym e) among);
    }

-- ---- all of them

-- the recorded stage of this number is one of those that are known
record IsKnown (stages : List Stage) (n : ℕ) (t : Facts) : Type 0 where
  stage : Stage
  is : slice_get stages n ≡ Some stage
  facts : facts_of n stage ≡ t

known_at : (stages : List Stage) (n : ℕ) (t : Facts) (o : Option Stage) → slice_get stages n ≡ o → option_map (facts_of n) o ≡ Some t → IsKnown stages n t
known_at stages n t None is e = absurd (cc)
known_at stages n t (Some stage) is e = let same : facts_of n stage ≡ t = cc in record { stage = stage; is = is; facts = same }

all_sound : (stages : List Stage) → All (λ t. is_sound t ≡ true) stages → (n : ℕ) (t : Stage) → slice_get stages n ≡ Some t → is_sound t ≡ true
all_sound stages all n t is = subst (λ u. is_sound u ≡ true) (get_or_from_slice_get stages n t t is) (all n t (slice_get_within stages n t is))

-- the info that has to be new
fresh_if : (b : Bool) (info : Option InfoFile) → b ≡ true → info_if b info ≡ info
fresh_if true info needs = refl
fresh_if false info needs = absurd (true≢false (sym needs))

-- A new stage that builds on no other has room, where its output directories hold no file and its info is not there if it has to be
-- new.
pub room-from : (q : List ℕ) (stages : List Stage) (s : Stage) (files : Files) (m : ℕ) → KnowsStages q stages files → All (λ t. is_sound t ≡ true) stages → is_sound s ≡ true → is_some (removed_dir s) ≡ false
    → taken_by stages s ≡ None → IsOutsideQueue q (facts_of m s) → ((path : List ℕ) → LiesInOne (output_dirs s) path → file_at files path ≡ None)
    → ((info : InfoFile) → fresh_info s ≡ Some info → file_at files info.path ≡ None) → Room (stages_in stage_reader q files) (queue_of q files) q files m (facts_of m s)
room-from q stages s files m k all sound makes free outside empty fresh = record {
  empty = empty;
  fresh_info = λ needs file e.
      let i = info_of s.info file e in
      subst (λ (f : File). file_at files f.path ≡ None) i.file_is (fresh i.info (fresh_if (needs_fresh_info s.kind) s.info needs ∙ i.is));
  apart = λ n t is.
      let u = known_at stages n t (slice_get stages n) refl (sym (k.recorded n) ∙ is) in
      subst (AreApart (facts_of m s)) u.facts (apart-earlier s u.stage m n sound (all_sound stages all n u.stage u.is) (not_taken stages s free n u.stage u.is));
  not_removed = λ r t is removes.
      let u = known_at stages r t (slice_get stages r) refl (sym (k.recorded r) ∙ is) in
      subst (IsNotRemovedBy (facts_of m s)) u.facts (spared-earlier s u.stage m r (not_taken stages s free r u.stage u.is) (ap (λ (f : Facts). f.removes) u.facts ∙ removes));
  outside = outside;
  pass = λ key needs. absurd (cc);
  unused = λ removes. absurd (true≢false (sym removes ∙ makes));
}
