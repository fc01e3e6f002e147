-- Puts of outputs and of infos, and removals, keep the files of the stages.
use Rattle.std.specs.Prelude.{◌≡◌, ◌⊎◌, ℕ, true, false, List, None, Some, Contains}
use Rattle.std.proofs.Common.{inl, inr, ap, sym, subst, ◌∙◌}
use Rattle.std.proofs.lemmas.Bool.{cases_eq}
use Rattle.std.proofs.lemmas.Option.{same_Some}
use Rattle.std.specs.FinMap as map
use Rattle.ig_defs.specs.Files.{Files, file_at}
use Rattle.ig_defs.specs.Puts.{cases_path, file_at-put, file_at-other}
use Rattle.ig_rule.specs.Dirs.{LiesIn}
use Rattle.ig_rule.specs.QueueFiles.{Queue}
use Rattle.ig_rule.specs.Facts.{Facts, IsPath, LiesInOne}
use Rattle.ig_rule.specs.Stages.{Records, IsSpared, Clear}
use Rattle.ig_rule.specs.Rule.{PutsOutput, PutsInfo, MayRemove}
use Rattle.ig_rule.specs.Sound.{AreSoundStages, AreSoundFiles, IsWanted}
use Rattle.ig_rule.specs.DirPaths.{dir_is}
use Rattle.ig_rule.specs.QueueSteps.{file_at-gone, file_at-kept}
use Rattle.ig_rule.specs.Keeps.{KeepLaws, Keeps, IsFileOf, one_stage, other_number, keeps_same}

-- two of a stage's output directories in which a path lies are one
same_dir : (s t : Facts) (path : List ℕ) → LiesInOne s.outputs path → (b : LiesInOne t.outputs path) → Contains s.outputs b.dir
same_dir s t path a b = subst (Contains s.outputs) (dir_is a.dir b.dir path a.lies b.lies) a.one

-- a path in output directories of two stages is of one
pub same_owner : (q : List ℕ) (records : Records) → AreSoundStages q records → (n m : ℕ) (s t : Facts) → records n ≡ Some s → records m ≡ Some t
    → (path : List ℕ) → LiesInOne s.outputs path → LiesInOne t.outputs path → s ≡ t
same_owner q records stages n m s t a b path lies other = by_number (cases_eq n m)
  where
    by_number : (n ≡ m) ⊎ (n ≡ m → ⊥) → s ≡ t
    by_number (inl e) = one_stage records n m s t e a b
    by_number (inr differ) = absurd ((stages.apart n m s t differ a b).outputs other.dir (same_dir s t path lies other) other.one)

-- ---- a put of an output

pub put_lies : (records : Records) (files : Files) (path bytes : List ℕ) → KeepLaws records → (u : PutsOutput records files path bytes) → LiesInOne u.stage.outputs path
put_lies records files path bytes laws u = (laws u.number u.stage u.is).path_in u.makes path u.path_is

-- where a file stands, it is put with the bytes that it has
pub puts_the_same : (records : Records) (queue : Queue) (files : Files) (path bytes : List ℕ) → KeepLaws records → AreSoundFiles records queue files
    → PutsOutput records files path bytes → (there : List ℕ) → file_at files path ≡ Some there → bytes ≡ there
puts_the_same records queue files path bytes laws sound u there e =
    let w = sound.outputs u.number u.stage u.is u.makes u.clear.source path there (put_lies records files path bytes laws u) e in
    same_Some bytes there (sym u.text ∙ w.text)

-- so each file stays
output_stays : (records : Records) (queue : Queue) (files : Files) (path bytes : List ℕ) → KeepLaws records → AreSoundFiles records queue files
    → PutsOutput records files path bytes → (other there : List ℕ) → file_at files other ≡ Some there → file_at (map.insert files path bytes) other ≡ Some there
output_stays records queue files path bytes laws sound u other there e = by_path (cases_path other path)
  where
    by_path : (other ≡ path) ⊎ (other ≡ path → ⊥) → file_at (map.insert files path bytes) other ≡ Some there
    by_path (inl same) = file_at-put files other path bytes same ∙ ap Some (puts_the_same records queue files path bytes laws sound u there (ap (file_at files) (sym same) ∙ e))
    by_path (inr differ) = file_at-other files other path bytes differ ∙ e

output_added : (q : List ℕ) (records : Records) (files : Files) (path bytes : List ℕ) → KeepLaws records → AreSoundStages q records
    → PutsOutput records files path bytes → (n : ℕ) (s : Facts) → records n ≡ Some s → (other there : List ℕ) → LiesInOne s.outputs other
    → file_at (map.insert files path bytes) other ≡ Some there → (file_at files other ≡ Some there) ⊎ IsWanted s files other there
output_added q records files path bytes laws stages u n s is other there lies now = by_path (cases_path other path)
  where
    put_here : other ≡ path → IsWanted s files other there
    put_here same =
        let owner : u.stage ≡ s = same_owner q records stages u.number n u.stage s u.is is path (put_lies records files path bytes laws u) (subst (LiesInOne s.outputs) same lies) in
        let text : bytes ≡ there = same_Some bytes there (sym (file_at-put files other path bytes same) ∙ now) in
        let wanted : IsWanted u.stage files path bytes = record { path_is = u.path_is; text = u.text } in
        subst (λ t. IsWanted t files other there) owner (subst (λ p. IsWanted u.stage files p there) (sym same) (subst (IsWanted u.stage files path) text wanted))

    by_path : (other ≡ path) ⊎ (other ≡ path → ⊥) → (file_at files other ≡ Some there) ⊎ IsWanted s files other there
    by_path (inl same) = inr (put_here same)
    by_path (inr differ) = inl (sym (file_at-other files other path bytes differ) ∙ now)

output_gone : (records : Records) (files : Files) (path bytes : List ℕ) → KeepLaws records → PutsOutput records files path bytes
    → (n : ℕ) (s : Facts) → records n ≡ Some s → s.removes ≡ true → (other : List ℕ) → IsPath s other → file_at files other ≡ None → file_at (map.insert files path bytes) other ≡ None
output_gone records files path bytes laws u n s is removes other path_is none = by_path (cases_path other path)
  where
    not_here : other ≡ path → ⊥
    not_here same =
        let lies = put_lies records files path bytes laws u in
        let in_source : LiesIn s.source path = subst (LiesIn s.source) same ((laws n s is).chunk_in other ((laws n s is).removed_chunk removes other path_is)) in
        u.clear.outputs lies.dir lies.one n s (other_number records n u.number s u.stage is u.is removes u.makes) is removes (dir_is s.source lies.dir path in_source lies.lies)

    by_path : (other ≡ path) ⊎ (other ≡ path → ⊥) → file_at (map.insert files path bytes) other ≡ None
    by_path (inl same) = absurd (not_here same)
    by_path (inr differ) = file_at-other files other path bytes differ ∙ none

pub keeps_output : (q : List ℕ) (records : Records) (queue : Queue) (files : Files) (path bytes : List ℕ) → KeepLaws records → AreSoundStages q records → AreSoundFiles records queue files
    → PutsOutput records files path bytes → Keeps records files (map.insert files path bytes)
keeps_output q records queue files path bytes laws stages sound u = record {
  chunks = λ n s is makes spared. record { kept = λ other there chunk e. output_stays records queue files path bytes laws sound u other there e };
  stays = λ n s is makes clear other there lies e. output_stays records queue files path bytes laws sound u other there e;
  added = λ n s is makes. output_added q records files path bytes laws stages u n s is;
  gone = output_gone records files path bytes laws u;
}

-- ---- a put of an info

pub keeps_info : (q : List ℕ) (records : Records) (queue : Queue) (files : Files) (path bytes : List ℕ) → KeepLaws records → AreSoundStages q records
    → PutsInfo records queue path bytes → Keeps records files (map.insert files path bytes)
keeps_info q records queue files path bytes laws stages u =
    keeps_same records files (map.insert files path bytes) laws
    (λ n s is other file. file_at-other files other path bytes (λ e. no_file n s is (subst (IsFileOf s) (e ∙ u.path_is) file)))
  where
    in_outputs : (n : ℕ) (s : Facts) → records n ≡ Some s → LiesInOne s.outputs u.info.path → (n ≡ u.number) ⊎ (n ≡ u.number → ⊥) → ⊥
    in_outputs n s is lies (inl e) =
        (laws u.number u.stage u.last.is).info_apart u.info u.info_is (subst (λ t. LiesInOne t.outputs u.info.path) (one_stage records n u.number s u.stage e is u.last.is) lies)
    in_outputs n s is lies (inr differ) = (stages.apart n u.number s u.stage differ is u.last.is).other_info u.info u.info_is lies

    no_file : (n : ℕ) (s : Facts) → records n ≡ Some s → IsFileOf s u.info.path → ⊥
    no_file n s is (inl chunk) = (laws n s is).chunk_name u.info.path chunk ((laws u.number u.stage u.last.is).info_name u.info u.info_is)
    no_file n s is (inr lies) = in_outputs n s is lies (cases_eq n u.number)

-- ---- a removal

pub keeps_removal : (records : Records) (files : Files) (path : List ℕ) → KeepLaws records → MayRemove records path → Keeps records files (map.remove files path)
keeps_removal records files path laws u = record {
  chunks = λ n s is makes spared. record { kept = λ other there chunk e. file_at-kept files other path (λ same. no_chunk n s is makes spared (subst (λ p. s.is_chunk p ≡ true) same chunk)) ∙ e };
  stays = λ n s is makes clear other there lies e. file_at-kept files other path (λ same. no_output n s is makes clear (subst (LiesInOne s.outputs) same lies)) ∙ e;
  added = λ n s is makes other there lies now. inl (was_there other there now (cases_path other path));
  gone = λ n s is removes other path_is none. stays_gone other none (cases_path other path);
}
  where
    removed_lies : LiesIn u.stage.source path
    removed_lies = (laws u.number u.stage u.is).chunk_in path ((laws u.number u.stage u.is).removed_chunk u.removes path u.path_is)

    no_chunk : (n : ℕ) (s : Facts) → records n ≡ Some s → s.removes ≡ false → IsSpared records n s.source → s.is_chunk path ≡ true → ⊥
    no_chunk n s is makes spared chunk =
        spared u.number u.stage (other_number records u.number n u.stage s u.is is u.removes makes) u.is u.removes (dir_is u.stage.source s.source path removed_lies ((laws n s is).chunk_in path chunk))

    no_output : (n : ℕ) (s : Facts) → records n ≡ Some s → s.removes ≡ false → Clear records n s → LiesInOne s.outputs path → ⊥
    no_output n s is makes clear lies =
        clear.outputs lies.dir lies.one u.number u.stage (other_number records u.number n u.stage s u.is is u.removes makes) u.is u.removes (dir_is u.stage.source lies.dir path removed_lies lies.lies)

    was_there : (other there : List ℕ) → file_at (map.remove files path) other ≡ Some there → (other ≡ path) ⊎ (other ≡ path → ⊥) → file_at files other ≡ Some there
    was_there other there now (inl same) = let none = file_at-gone files other path same in absurd (cc)
    was_there other there now (inr differ) = sym (file_at-kept files other path differ) ∙ now

    stays_gone : (other : List ℕ) → file_at files other ≡ None → (other ≡ path) ⊎ (other ≡ path → ⊥) → file_at (map.remove files path) other ≡ None
    stays_gone other none (inl same) = file_at-gone files other path same
    stays_gone other none (inr differ) = file_at-kept files other path differ ∙ none
