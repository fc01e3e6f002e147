-- What a process relies on while others take steps beside it.
use Rattle.std.specs.Prelude.{◌≡◌, false, List, ℕ, [], ◌∷◌, ◌++◌, None, Some, refl}
use Rattle.std.proofs.Common.{ap, sym, subst}
use Rattle.ig_defs.specs.declared.step.Act.{Act}
use Rattle.ig_defs.specs.declared.step.Act.TheVariants as act
use Rattle.ig_defs.specs.declared.step.Step.{Step}
use Rattle.ig_defs.specs.Files.{Files, file_at}
use Rattle.ig_defs.specs.Log.{Log, after, replay, files_of, own_all, ByOthers, IsQuiet}
use Rattle.ig_defs.specs.Puts.{file_at-other}
use Rattle.ig_defs.specs.Replay.{replay-keeps, AreAllowed-append}
use Rattle.ig_rule.specs.QueueFiles.{QueueFile, Record, named_task, IsApartFrom, Queue, queue_of}
use Rattle.ig_rule.specs.Facts.{Facts, Reader, IsPath, KindLaws}
use Rattle.ig_rule.specs.Stages.{stages_in}
use Rattle.ig_rule.specs.Rule.{Allowed}
use Rattle.ig_rule.specs.Sound.{Sound, AreAllowedSteps, Legal}
use Rattle.ig_rule.specs.Known.{Memory, Known, RecordsRemoval}
use Rattle.ig_rule.specs.Roles.{Allows, IsLeft}
use Rattle.ig_rule.specs.declared.role.Role.{Role}
use Rattle.ig_rule.specs.declared.role.Role.TheVariants.{Local, Maker, Worker}
use Rattle.ig_rule.specs.Keeps.{keep_laws}
use Rattle.ig_rule.specs.QueueSteps.{put_outside, remove_outside, file_at-kept}
use Rattle.ig_rule.specs.SoundMoves.{is_turn, move_only}
use Rattle.ig_rule.specs.Effects.{output_apart, removal_apart, move_is_within}
use Rattle.ig_rule.specs.SoundKept.{sound_kept}
use Rattle.ig_rule.specs.KnownKept.{known_kept}
use Rattle.ig_rule.specs.Prefixes.{legal_grown}

-- An act that changes no file is allowed.
pub quiet_allowed : (read : Reader) (q : List ℕ) (files : Files) (a : Act) → IsQuiet a → Allowed read q files a
quiet_allowed read q files (act.Read path) quiet = tt
quiet_allowed read q files (act.List dir given) quiet = tt
quiet_allowed read q files (act.Put path bytes) quiet = absurd quiet
quiet_allowed read q files (act.Move from to) quiet = absurd quiet
quiet_allowed read q files (act.Remove path) quiet = absurd quiet

quiet_records_none : (read : Reader) (q : List ℕ) (a : Act) → IsQuiet a → RecordsRemoval read q a → ⊥
quiet_records_none read q (act.Read path) quiet one = one
quiet_records_none read q (act.List dir given) quiet one = one
quiet_records_none read q (act.Put path bytes) quiet one = quiet
quiet_records_none read q (act.Move from to) quiet one = quiet
quiet_records_none read q (act.Remove path) quiet one = quiet

maker_records_none : (read : Reader) → KindLaws read → (q : List ℕ) (files : Files) (a : Act) → Sound read q files → IsLeft Maker read q files a → RecordsRemoval read q a → ⊥
maker_records_none read kinds q files (act.Put path bytes) sound left one =
    output_apart q (stages_in read q files) files path bytes (keep_laws read kinds (queue_of q files)) sound.stages left (Record one.number) one.path_is
maker_records_none read kinds q files (act.Read path) sound left one = one
maker_records_none read kinds q files (act.List dir given) sound left one = one
maker_records_none read kinds q files (act.Move from to) sound left one = one
maker_records_none read kinds q files (act.Remove path) sound left one = one

-- In no role do others record a removal.
pub others_record_none : (read : Reader) → KindLaws read → (role : Role) (q : List ℕ) (files : Files) (a : Act) → Sound read q files → Allows read role (Some q) false files a → RecordsRemoval read q a → ⊥
others_record_none read kinds Local q files a sound may one = quiet_records_none read q a may.1 one
others_record_none read kinds Maker q files a sound may one = maker_records_none read kinds q files a sound may.1 one
others_record_none read kinds Worker q files a sound may one = may.1 one

-- sound files, of which this is known
pub record SoundAndKnown (read : Reader) (q : List ℕ) (files : Files) (w : Memory) : Type 0 where
  pub sound : Sound read q files
  pub known : Known read q files w

-- Steps of others keep the files sound, and keep what a worker knows.
pub others_keep : (read : Reader) → KindLaws read → (role : Role) (q : List ℕ) (files : Files) (steps : List Step) (w : Memory) → ByOthers (Allows read role (Some q)) files steps
    → SoundAndKnown read q files w → SoundAndKnown read q (replay files steps) w
others_keep read kinds role q files steps w =
    replay-keeps (Allows read role (Some q)) (λ given. SoundAndKnown read q given w)
    (λ given a may h. record {
      sound = sound_kept read kinds q given a h.sound may.0;
      known = known_kept read kinds q given a w h.sound may.0 (others_record_none read kinds role q given a h.sound may) h.known;
    }) files steps

-- So they keep what a worker knows of sound files.
pub others_keep_known : (read : Reader) → KindLaws read → (role : Role) (q : List ℕ) (files : Files) (steps : List Step) (w : Memory) → ByOthers (Allows read role (Some q)) files steps
    → Sound read q files → Known read q files w → Known read q (replay files steps) w
others_keep_known read kinds role q files steps w by sound known = (others_keep read kinds role q files steps w by (record { sound = sound; known = known })).known

-- Steps of others keep the files sound.
pub others_keep_sound : (read : Reader) → KindLaws read → (role : Role) (q : List ℕ) (files : Files) (steps : List Step) → ByOthers (Allows read role (Some q)) files steps
    → Sound read q files → Sound read q (replay files steps)
others_keep_sound read kinds role q files steps =
    replay-keeps (Allows read role (Some q)) (Sound read q) (λ given a may h. sound_kept read kinds q given a h may.0) files steps

-- They are allowed by the queue's rule.
pub others_allowed : (read : Reader) (role : Role) (q : List ℕ) (files : Files) (steps : List Step) → ByOthers (Allows read role (Some q)) files steps → AreAllowedSteps read q files steps
others_allowed read role q files [] by = tt
others_allowed read role q files (step ∷ steps) by = (by.1.0, others_allowed read role q (after files step.act) steps by.2)

-- A legal log that grows by steps of others, and then by own acts that are allowed, stays legal.
pub others_then_own_legal : (read : Reader) (role : Role) (q : List ℕ) (old new : Log) (others : List Step) (acts : List Act) → ByOthers (Allows read role (Some q)) (files_of old) others
    → new.opening ≡ old.opening → new.steps ≡ old.steps ++ (others ++ own_all acts) → AreAllowedSteps read q (replay (files_of old) others) (own_all acts) → Legal read q old → Legal read q new
others_then_own_legal read role q old new others acts by opening grown own legal =
    legal_grown read q old new (others ++ own_all acts) legal opening grown
    (AreAllowed-append (λ mine given a. Allowed read q given a) (files_of old) others (own_all acts) (others_allowed read role q (files_of old) others by) own)

-- ---- beside a maker

-- Others change no record and no seal.
pub maker_keeps : (read : Reader) → KindLaws read → (q : List ℕ) (files : Files) (a : Act) → Sound read q files → Allows read Maker (Some q) false files a
    → (x : QueueFile) → named_task x ≡ None → queue_of q (after files a) x ≡ queue_of q files x
maker_keeps read kinds q files (act.Read path) sound may x none = refl
maker_keeps read kinds q files (act.List dir given) sound may x none = refl
maker_keeps read kinds q files (act.Put path bytes) sound may x none =
    ap (λ (queue : Queue). queue x) (put_outside q files path bytes (output_apart q (stages_in read q files) files path bytes (keep_laws read kinds (queue_of q files)) sound.stages may.1))
maker_keeps read kinds q files (act.Move from to) sound may x none =
    let u = may.0 in
    let move = move_is_within (stages_in read q files) q files from to u in
    move_only u.name u.other move.bytes (queue_of q files) (queue_of q (after files (act.Move from to)))
    (is_turn (stages_in read q files) files u.name u.other u.becomes) move.shifts x none
maker_keeps read kinds q files (act.Remove path) sound may x none =
    ap (λ (queue : Queue). queue x) (remove_outside q files path (removal_apart q (stages_in read q files) path (keep_laws read kinds (queue_of q files)) sound.stages may.0))

-- Of the files outside the queue, others change only paths of recorded stages.
pub maker_untouched : (read : Reader) (q : List ℕ) (files : Files) (a : Act) → Allows read Maker (Some q) false files a → (path : List ℕ) → IsApartFrom q path
    → ((n : ℕ) (s : Facts) → stages_in read q files n ≡ Some s → IsPath s path → ⊥) → file_at (after files a) path ≡ file_at files path
maker_untouched read q files (act.Read other) may path apart strange = refl
maker_untouched read q files (act.List dir given) may path apart strange = refl
maker_untouched read q files (act.Put other bytes) may path apart strange =
    let u = may.1 in
    file_at-other files path other bytes (λ e. strange u.number u.stage u.is (subst (IsPath u.stage) (sym e) u.path_is))
maker_untouched read q files (act.Move from to) may path apart strange = (move_is_within (stages_in read q files) q files from to may.0).same path apart
maker_untouched read q files (act.Remove other) may path apart strange =
    let u = may.0 in
    file_at-kept files path other (λ e. strange u.number u.stage u.is (subst (IsPath u.stage) (sym e) u.path_is))
