-- Each kind of stage keeps what the laws of the rule rest on.
use Rattle.std.specs.Prelude.{◌≡◌, ◌≢◌, ℕ, true, List, Option, None, Some, option_map, is_some, refl}
use Rattle.std.proofs.Common.{ap, sym, subst, ◌∙◌, true≢false}
use Rattle.std.proofs.lemmas.Option.{none-some, same_Some}
use Rattle.ig_defs.specs.Own.{File}
use Rattle.ig_record.specs.declared.stage.InfoFile.{InfoFile}
use Rattle.ig_record.specs.declared.stage.Kind.TheVariants.{Remove}
use Rattle.ig_record.specs.declared.stage.Stage.{Stage}
use Rattle.ig_record.specs.Reading.{record_in}
use Rattle.ig_record.specs.ReadingLaws.{record_in-IsRecord}
use Rattle.ig_record.specs.Sound.{is_sound}
use Rattle.ig_record.specs.SoundStages.{IsSound, IsSound-from, sound-kind}
use Rattle.ig_record.specs.SoundKinds.{IsRemoval}
use Rattle.ig_record.specs.SoundRows.{IsSoundKind, is_count, is_downsample, is_remove, is_xfer}
use Rattle.ig_meaning.specs.ChunkPlaces.{chunk-lies, chunk-not_info, is_chunk_of-from, is_chunk_of-is}
use Rattle.ig_meaning.specs.Jobs.{file_of}
use Rattle.ig_meaning.specs.Lasting.{wanted-lasts}
use Rattle.ig_rule.specs.Facts.{Facts, IsInfoName, KindLaws, Pass, StageLaws}
use Rattle.ig_task.specs.Copies.{copy-makes_files}
use Rattle.ig_task.specs.Counts.{count-makes_files}
use Rattle.ig_task.specs.Downsamples.{mips-make_files}
use Rattle.ig_task.specs.Facts.{facts_of, stage_reader}
use Rattle.ig_task.specs.KindFacts.{KindFacts, MakesFiles, makes_files, path-of, removes}
use Rattle.ig_task.specs.OwnedPaths.{one-task, path-chunk, removal-owns, removal-removes}
use Rattle.ig_task.specs.OwnWants.{removal-wants_none}

-- ---- kind by kind
facts_by : (s : Stage) → IsSound s → IsSoundKind s → KindFacts s
facts_by s h (is_xfer is none c) = makes_files (copy-makes_files s h is c)
facts_by s h (is_downsample is none layer m) = makes_files (mips-make_files s h is (record { layer = layer; mips = m }))
facts_by s h (is_count is scratch at r) = makes_files (count-makes_files s h is (record { scratch = scratch; at = at; alone = r }))
facts_by s h (is_remove is none r) = removes is r

-- What a sound stage owes by its kind.
pub kind-facts : (s : Stage) → is_sound s ≡ true → KindFacts s
kind-facts s sound = facts_by s (IsSound-from s sound) (sound-kind s sound)

files_by : (s : Stage) → s.kind ≢ Remove → KindFacts s → MakesFiles s
files_by s other (makes_files m) = m
files_by s other (removes is r) = absurd (other is)

-- Each but a removal makes files.
pub files-of : (s : Stage) → is_sound s ≡ true → s.kind ≢ Remove → MakesFiles s
files-of s sound other = files_by s other (kind-facts s sound)

-- ---- the laws
files-laws : (n : ℕ) (s : Stage) → IsSound s → MakesFiles s → StageLaws (facts_of n s)
files-laws n s h m = record {
  wanted_stays = λ old new path bytes keeps. wanted-lasts s h.fits old new path bytes keeps.kept;
  wanted_at = λ files path bytes e. path-of 0 n s path (m.wanted_at files path bytes e);
  path_in = λ makes path u. m.path_in path (path-of n 0 s path u);
  removed_chunk = λ takes path u. absurd (true≢false (sym takes ∙ ap (λ (dir : Option (List ℕ)). is_some dir) m.keeps));
  one_task = m.one_task;
  chunk_in = λ path e. chunk-lies s.source h.fits h.layers.dir path (is_chunk_of-from s.source path e);
  chunk_name = λ path e. chunk-not_info s.source h.fits h.layers.dir path (is_chunk_of-from s.source path e);
  info_name = m.info_name;
  info_apart = m.info_apart;
  scratch_stays = λ old new path bytes keeps e. absurd (none-some bytes e);
  scratch_at = λ files path bytes e. absurd (none-some bytes e);
  scratch_apart = λ path e. absurd (true≢false (sym e));
  no_scratch = λ none path e. true≢false (sym e);
  few_tasks = h.few;
}

no_info : (s : Stage) → IsRemoval s.dests s.info → (info : File) → option_map file_of s.info ≡ Some info → ⊥
no_info s r info e = none-some info (ap (option_map file_of) (sym r.no_info) ∙ e)

removal-laws : (n : ℕ) (s : Stage) → IsSound s → s.kind ≡ Remove → IsRemoval s.dests s.info → StageLaws (facts_of n s)
removal-laws n s h is r =
    let owns = removal-owns s h is in
    record {
      wanted_stays = λ old new path bytes keeps. wanted-lasts s h.fits old new path bytes keeps.kept;
      wanted_at = λ files path bytes e. absurd (removal-wants_none s is files path bytes e);
      path_in = λ makes path u. absurd (true≢false (sym (removal-removes s is) ∙ makes));
      removed_chunk = λ takes path u. is_chunk_of-is s.source h.fits path (path-chunk s s.source owns n path u);
      one_task = one-task s s.source owns;
      chunk_in = λ path e. chunk-lies s.source h.fits h.layers.dir path (is_chunk_of-from s.source path e);
      chunk_name = λ path e. chunk-not_info s.source h.fits h.layers.dir path (is_chunk_of-from s.source path e);
      info_name = λ info e. absurd (no_info s r info e);
      info_apart = λ info e within. no_info s r info e;
      scratch_stays = λ old new path bytes keeps e. absurd (none-some bytes e);
      scratch_at = λ files path bytes e. absurd (none-some bytes e);
      scratch_apart = λ path e. absurd (true≢false (sym e));
      no_scratch = λ none path e. true≢false (sym e);
      few_tasks = h.few;
    }

laws_by : (n : ℕ) (s : Stage) → IsSound s → KindFacts s → StageLaws (facts_of n s)
laws_by n s h (makes_files m) = files-laws n s h m
laws_by n s h (removes is r) = removal-laws n s h is r

-- What a sound stage keeps.
pub stage-laws : (n : ℕ) (s : Stage) → is_sound s ≡ true → StageLaws (facts_of n s)
stage-laws n s sound = laws_by n s (IsSound-from s sound) (kind-facts s sound)

-- Its info is called `info`.
pub named_info : (s : Stage) → is_sound s ≡ true → (info : InfoFile) → s.info ≡ Some info → IsInfoName info.path
named_info s sound info has = (stage-laws 0 s sound).info_name (file_of info) (ap (option_map file_of) has)

-- ---- of records
-- the facts are those of a sound stage
record IsRead (n : ℕ) (t : Facts) : Type 0 where
  stage : Stage
  sound : is_sound stage ≡ true
  is : facts_of n stage ≡ t

read_by : (n : ℕ) (text : List ℕ) (t : Facts) (o : Option Stage) → record_in n text ≡ o → option_map (facts_of n) o ≡ Some t → IsRead n t
read_by n text t None is e = absurd (none-some t e)
read_by n text t (Some s) is e = record { stage = s; sound = (record_in-IsRecord n s text is).sound; is = same_Some (facts_of n s) t e }

reader-reads : (n : ℕ) (text : List ℕ) (t : Facts) → stage_reader n text ≡ Some t → IsRead n t
unfolding stage_reader
reader-reads n text t e = read_by n text t (record_in n text) refl e

-- no kind builds on another yet
needs-none : (n : ℕ) (t : Facts) (key : Pass) → IsRead n t → t.needs ≡ Some key → ⊥
needs-none n t key r e = none-some key (ap (λ (facts : Facts). facts.needs) r.is ∙ e)

-- What all kinds keep.
pub kinds : KindLaws stage_reader
kinds = record {
  stage = λ n text t e.
      let r = reader-reads n text t e in
      subst StageLaws r.is (stage-laws n r.stage r.sound);
  pass = λ n m text other s t key read_s read_t needs serves. absurd (needs-none n s key (reader-reads n text s read_s) needs);
}
