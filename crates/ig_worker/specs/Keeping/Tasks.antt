-- What a worker knows of a task whose inputs it reads, and which it runs.
use Rattle.std.specs.Prelude.{◌≡◌, ◌⊎◌, ℕ, not, Bool, true, false, List, [], ◌∷◌, ◌++◌, length, slice_get, Option, None, Some, is_some, Contains, refl}
use Rattle.std.proofs.Common.{inl, inr, ap, sym, subst, true≢false, ◌∙◌}
use Rattle.std.proofs.lemmas.List.Elements.{All-contains}
use Rattle.std.proofs.lemmas.Option.{get_or_from_slice_get, same_Some}
use Rattle.ig_defs.specs.declared.queue_name.QueueName.{QueueName}
use Rattle.ig_defs.specs.Files.{Files, file_at}
use Rattle.ig_defs.specs.Own.{File}
use Rattle.ig_cutout.specs.declared.types.Input.{Input}
use Rattle.ig_cutout.specs.declared.types.Output.{Output}
use Rattle.ig_record.specs.declared.stage.Stage.{Stage}
use Rattle.ig_record.specs.Sound.{is_sound}
use Rattle.ig_record.specs.Columns.{inputs_of, paths_of, removed_dir}
use Rattle.ig_meaning.specs.Wants.{is_chunk_of}
use Rattle.ig_rule.specs.Known.{IsKnownLease, IsOutput, IsScratch}
use Rattle.ig_rule.specs.ScratchWanted.{scratch_wanted}
use Rattle.ig_rule.specs.Sound.{Sound}
use Rattle.ig_rule.specs.Stages.{Records, stages_in}
use Rattle.ig_task.specs.Facts.{facts_of, given_to, is_scratch, stage_reader}
use Rattle.ig_task.specs.GivenPasses.{given-chunk, given-pass, outputs-are_wanted}
use Rattle.ig_task.specs.Kinds.{kinds}
use Rattle.ig_task.specs.OwnInputs.{IsInput, inputs_are}
use Rattle.ig_task.specs.ReadPasses.{wanted-are}
use Rattle.ig_task.specs.Wanted.{AreWanted, HasWantedText, path_of}
use Rattle.ig_worker.specs.declared.notes.Notes.{Notes}
use Rattle.ig_worker.specs.declared.phase.Phase.TheVariants.{Fetching, Finishing, Running}
use Rattle.ig_worker.specs.Fit.{AreFitNotes, IsFetching, IsFinishing, IsRunning, IsStage}
use Rattle.ig_worker.specs.Keeping.Files.{file_of, finished-none, found-holds, found-more, found-sorts, made-from}
use Rattle.ig_worker.specs.Keeping.Known.{all_known, known_with, rested, try_rests}
use Rattle.ig_worker.specs.Keeping.Leases.{known_fetching, known_one, one_known}
use Rattle.ig_worker.specs.Keeping.Lists.{kept_from, kept_in, map_in, none_in, none_in_both, stage_in-among}
use Rattle.ig_worker.specs.Knows.{Knows, fetched_lease, found_files, made_lease}
use Rattle.ig_worker.specs.Moves.{IsOutcome, Makes}
use Rattle.ig_worker.specs.Places.{fetched, next_try, stands}
use Rattle.ig_worker.specs.Stages.{stage_in}

-- a stage that is known is sound
pub known_sound : (notes : Notes) → AreFitNotes notes → (n : ℕ) (s : Stage) → stage_in notes.known n ≡ Some s → is_sound s ≡ true
known_sound notes fit n s e = (All-contains IsStage notes.known (n, s) fit.known.each (stage_in-among notes.known n s e)).sound

-- ---- an input is read
more_found : (records : Records) (files : Files) (name : QueueName) (given : List Input) (s : Stage) (path bytes : List ℕ) → IsInput s path → Some bytes ≡ file_at files path
    → (is_scratch s path ≡ true → IsScratch files (facts_of name.stage s) (file_of path bytes))
    → IsKnownLease records files (fetched_lease name given s) → IsKnownLease records files (fetched_lease name (given ++ record { path = path; found = Some bytes } ∷ []) s)
more_found records files name given s path bytes input found wanted old = record {
  is = old.is;
  below = old.below;
  clear = old.clear;
  no_inputs = λ removes file among. true≢false (sym removes ∙ input.makes);
  sources = λ file among. let k = kept_from is_own more file among in source_by file k.1 (found-more given path bytes file k.0);
  scratch = λ file among. let k = kept_from is_pass more file among in scratch_by file k.1 (found-more given path bytes file k.0);
  outputs = λ makes file among. absurd (none_in file among);
  put = λ makes p among. absurd (none_in p among);
  removed = λ removes p among. absurd (none_in p among);
}
  where
    more : List File
    more = found_files (given ++ record { path = path; found = Some bytes } ∷ [])

    is_pass : File → Bool
    is_pass file = is_scratch s file.path

    is_own : File → Bool
    is_own file = not (is_scratch s file.path)

    source_by : (file : File) → is_own file ≡ true → Contains (found_files given) file ⊎ (file_of path bytes ≡ file) → (is_chunk_of s.source file.path ≡ true) × (file_at files file.path ≡ Some file.bytes)
    source_by file own (inl h) = old.sources file (kept_in is_own (found_files given) file h own)
    source_by file own (inr e) = subst (λ (f : File). (is_chunk_of s.source f.path ≡ true) × (file_at files f.path ≡ Some f.bytes)) e (by_sort input.from, sym found)
      where
        by_sort : (is_chunk_of s.source path ≡ true) ⊎ (is_scratch s path ≡ true) → is_chunk_of s.source path ≡ true
        by_sort (inl chunk) = chunk
        by_sort (inr pass) = absurd (true≢false (sym own ∙ ap is_own (sym e) ∙ ap not pass))

    scratch_by : (file : File) → is_pass file ≡ true → Contains (found_files given) file ⊎ (file_of path bytes ≡ file) → IsScratch files (facts_of name.stage s) file
    scratch_by file pass (inl h) = old.scratch file (kept_in is_pass (found_files given) file h pass)
    scratch_by file pass (inr e) = subst (IsScratch files (facts_of name.stage s)) e (wanted (ap is_pass e ∙ pass))

-- What a worker knows once it has read an input.
pub fetched_known : (notes : Notes) (name : QueueName) (paths : List (List ℕ)) (given : List Input) (names : List QueueName) (files : Files) → AreFitNotes notes → IsFetching notes name paths given names
    → Sound stage_reader notes.plan.queue files → Knows (stands notes (Fetching name paths given names)) files → (path : List ℕ) → slice_get paths (length given) ≡ Some path → (found : Option (List ℕ)) → found ≡ file_at files path
    → Knows (stands notes (fetched name paths given names path found)) files
fetched_known notes name paths given names files fit_notes fit sound h path next None is =
    rested notes (Fetching name paths given names) (next_try names) files refl refl (try_rests notes.known names) h
fetched_known notes name paths given names files fit_notes fit sound h path next (Some bytes) is =
    let records = stages_in stage_reader notes.plan.queue files in
    let s = fit.stage in
    let old = known_one records files (fetched_lease name given) (stage_in notes.known name.stage) s fit.leased.stage h.leases in
    let among : Contains (inputs_of s name.task) path = subst (λ l. Contains l path) fit.inputs (length given, fit.more, get_or_from_slice_get paths (length given) path path next) in
    let input = inputs_are s (known_sound notes fit_notes name.stage s fit.leased.stage) name.task old.below path among in
    known_fetching records files notes.known name paths (given ++ record { path = path; found = Some bytes } ∷ []) names s
    (all_known records files notes.known (Fetching name paths given names) refl refl h) fit.leased.stage
    (more_found records files name given s path bytes input is
    (λ scratch. scratch_wanted stage_reader kinds notes.plan.queue files name.stage (facts_of name.stage s) sound old.is input.makes old.clear path bytes scratch (sym is)) old)

-- ---- the task is run
output_of_task : (s : Stage) (k : ℕ) (files : Files) (outputs : List Output) (n : ℕ) → AreWanted s k (file_at files) outputs → is_some (removed_dir s) ≡ false → (file : File)
    → (output : Output) → Contains outputs output → output.path ≡ file.path → output.text ≡ Some file.bytes → IsOutput files (facts_of n s) k file
output_of_task s k files outputs n wanted makes file output among path text =
    let w = All-contains (HasWantedText s (file_at files)) outputs output (wanted.made makes) among in
    let bytes : w.bytes ≡ file.bytes = same_Some w.bytes file.bytes (sym w.text ∙ text) in
    let listed : Contains (paths_of s k) output.path = subst (λ l. Contains l output.path) wanted.paths (map_in path_of outputs output among) in
    let facts = facts_of n s in
    record {
      among = subst (λ p. Contains (paths_of s k) p) path listed;
      text = ap (λ p. facts.wanted (file_at files) p) (sym path) ∙ w.wanted ∙ ap Some bytes;
    }

ran_lease : (records : Records) (files : Files) (name : QueueName) (given : List Input) (outputs : List Output) (s : Stage) → AreWanted s name.task (file_at files) outputs
    → IsKnownLease records files (fetched_lease name given s) → IsKnownLease records files (made_lease name outputs s)
ran_lease records files name given outputs s wanted old = record {
  is = old.is;
  below = old.below;
  clear = old.clear;
  no_inputs = λ removes file among. none_in_both file among;
  sources = λ file among. absurd (none_in file among);
  scratch = λ file among. absurd (none_in file among);
  outputs = λ makes file among.
      let m = made-from outputs file among in
      output_of_task s name.task files outputs name.stage wanted makes file m.output m.among m.path_is m.text_is;
  put = λ makes path among. absurd (none_in path (subst (λ l. Contains l path) (finished-none (paths_of s name.task) outputs wanted.paths) among));
  removed = λ removes path among. absurd (none_in path (subst (λ l. Contains l path) (finished-none (paths_of s name.task) outputs wanted.paths) among));
}

-- what a worker has and knows once it has run a task
pub record HasRun (notes : Notes) (name : QueueName) (outputs : List Output) (names : List QueueName) (files : Files) : Type 0 where
  pub fit : IsFinishing notes name outputs names
  pub known : Knows (stands notes (Finishing name outputs names)) files

pub ran_known : (notes : Notes) (name : QueueName) (given : List Input) (names : List QueueName) (files : Files) → AreFitNotes notes → IsRunning notes name given names
    → Knows (stands notes (Running name given names)) files → (s : Stage) → stage_in notes.known name.stage ≡ Some s → (outputs : List Output) → IsOutcome s name.task given (Makes outputs)
    → HasRun notes name outputs names files
ran_known notes name given names files fit_notes fit h s e outputs comes =
    let records = stages_in stage_reader notes.plan.queue files in
    let old = known_one records files (fetched_lease name given) (stage_in notes.known name.stage) s e h.leases in
    let sound = known_sound notes fit_notes name.stage s e in
    let found = found_files given in
    let holds = found-holds (given_to s (file_at files)) given fit.found (found-sorts s (λ file. given_to s (file_at files) file.path ≡ Some file.bytes) found
    (λ file among. let source = old.sources file among in given-chunk s sound (file_at files) file.path source.0 ∙ source.1)
    (λ file among. given-pass s (file_at files) file.path (kept_from (λ (f : File). is_scratch s f.path) found file among).1 ∙ old.scratch file among)) in
    let wanted = outputs-are_wanted s sound name.task old.below (file_at files) outputs (comes (given_to s (file_at files)) holds) in
    record {
      fit = record {
        stage = s;
        leased = record { fits = fit.leased.fits; stage = e; below = fit.leased.below };
        done = 0;
        paths = wanted.paths;
        texts = (wanted-are s name.task (file_at files) outputs wanted).texts;
        ahead = fit.ahead;
      };
      known = known_with records files notes.known (Finishing name outputs names) (all_known records files notes.known (Running name given names) refl refl h)
          (one_known records files (made_lease name outputs) (stage_in notes.known name.stage) s e (ran_lease records files name given outputs s wanted old));
    }
