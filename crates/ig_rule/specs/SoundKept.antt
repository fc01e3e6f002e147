-- Each allowed act keeps the files sound.
use Rattle.std.specs.Prelude.{◌≡◌, ◌⊎◌, ℕ, List, refl}
use Rattle.std.proofs.Common.{inl, inr}
use Rattle.std.specs.FinMap as map
use Rattle.ig_defs.specs.declared.queue_name.QueueName.{QueueName}
use Rattle.ig_defs.specs.declared.step.Act.{Act}
use Rattle.ig_defs.specs.declared.step.Act.TheVariants as act
use Rattle.ig_defs.specs.Files.{Files}
use Rattle.ig_defs.specs.Log.{after}
use Rattle.ig_rule.specs.QueueFiles.{QueueFile, Record, Seal, Queued, queue_of}
use Rattle.ig_rule.specs.Facts.{Reader, KindLaws}
use Rattle.ig_rule.specs.Stages.{stages_in, task_id}
use Rattle.ig_rule.specs.Rule.{PutsRecord, MayPut, an_output, a_record, an_info, a_task, a_seal, MayMove, Allowed, fresh_name}
use Rattle.ig_rule.specs.Sound.{Sound}
use Rattle.ig_rule.specs.QueueSteps.{Sets, put_outside, remove_outside}
use Rattle.ig_rule.specs.Keeps.{KeepLaws, keep_laws, Keeps}
use Rattle.ig_rule.specs.Effects.{record_fit, seal_fit, task_fit, IsPutWithin, put_is_within, IsMoveWithin, move_is_within, output_apart, info_apart, removal_apart, act_keeps}
use Rattle.ig_rule.specs.SoundFiles.{files_kept, done_stand, sound_outside}
use Rattle.ig_rule.specs.SoundNames.{AreKept, records_same, sound_by_parts, put_task_kept, put_seal_kept}
use Rattle.ig_rule.specs.SoundMoves.{is_turn, move_only, move_kept}
use Rattle.ig_rule.specs.Grown.{puts_grow}
use Rattle.ig_rule.specs.SoundRecord.{stages_grown, numbered_grown}
use Rattle.ig_rule.specs.SoundGrown.{names_grown, files_grown}

-- what holds of the names and numbers of sound files
kept_now : (read : Reader) (q : List ℕ) (files : Files) → Sound read q files → AreKept (stages_in read q files) (queue_of q files) files
kept_now read q files sound = record {
  numbered = sound.numbered;
  names = sound.names;
  done = done_stand (stages_in read q files) (queue_of q files) files sound.names sound.outputs;
}

-- acts on the names of tasks and on seals
sound_within : (read : Reader) (q : List ℕ) (old new : Files) → KeepLaws (stages_in read q old) → Keeps (stages_in read q old) old new → Sound read q old
    → ((n : ℕ) → queue_of q new (Record n) ≡ queue_of q old (Record n)) → AreKept (stages_in read q old) (queue_of q new) old → Sound read q new
sound_within read q old new laws keeps sound same kept =
    let records = stages_in read q old in
    sound_by_parts read q new (stages_in read q old) (records_same read (queue_of q old) (queue_of q new) same) kept.numbered sound.stages kept.names
    (files_kept (stages_in read q old) (queue_of q new) old new laws keeps sound.outputs.outputs kept.done)

-- a file of the queue other than a record is set
record_same : (q : List ℕ) (files new : Files) (x : QueueFile) (bytes : List ℕ) → Sets x bytes (queue_of q files) (queue_of q new) → ((n : ℕ) → Record n ≡ x → ⊥)
    → (n : ℕ) → queue_of q new (Record n) ≡ queue_of q files (Record n)
record_same q files new x bytes sets other n = by_place (sets.others (Record n))
  where
    by_place : (Record n ≡ x) ⊎ (queue_of q new (Record n) ≡ queue_of q files (Record n)) → queue_of q new (Record n) ≡ queue_of q files (Record n)
    by_place (inl e) = absurd (other n e)
    by_place (inr e) = e

record_no_name : (name : QueueName) (n : ℕ) → Record n ≡ Queued name → ⊥
record_no_name name n e = absurd (cc)

record_no_seal : (m n : ℕ) → Record n ≡ Seal m → ⊥
record_no_seal m n e = absurd (cc)

sound_record : (read : Reader) (q : List ℕ) (files new : Files) (path bytes : List ℕ) → KeepLaws (stages_in read q files) → Keeps (stages_in read q files) files new → Sound read q files
    → (u : PutsRecord read (queue_of q files) q files path bytes) → IsPutWithin q files new (Record u.number) bytes → Sound read q new
sound_record read q files new path bytes laws keeps sound u put =
    let g = puts_grow read q files path bytes (queue_of q files) (queue_of q new) u put.sets in
    record {
      numbered = numbered_grown read q files path bytes (queue_of q files) (queue_of q new) u put.sets g sound.numbered;
      stages = stages_grown q (stages_in read q files) (stages_in read q new) (queue_of q files) files u.number u.stage g u.room sound.stages;
      names = names_grown read q files path bytes (queue_of q files) (queue_of q new) (stages_in read q new) u put.sets g sound.numbered sound.names;
      outputs = files_grown read q files new path bytes (queue_of q files) (queue_of q new) (stages_in read q new) u put.sets g laws keeps put.same sound.names sound.outputs;
    }

put_sound : (read : Reader) → KindLaws read → (q : List ℕ) (files : Files) (path bytes : List ℕ) → Sound read q files → MayPut read (queue_of q files) q files path bytes
    → Sound read q (map.insert files path bytes)
put_sound read kinds q files path bytes sound may = by_kind may
  where
    laws : KeepLaws (stages_in read q files)
    laws = keep_laws read kinds (queue_of q files)

    keeps : Keeps (stages_in read q files) files (map.insert files path bytes)
    keeps = act_keeps read kinds q files (act.Put path bytes) sound may

    by_kind : MayPut read (queue_of q files) q files path bytes → Sound read q (map.insert files path bytes)
    by_kind (an_output u) = sound_outside read q files (map.insert files path bytes) laws keeps
        (put_outside q files path bytes (output_apart q (stages_in read q files) files path bytes laws sound.stages u)) sound
    by_kind (an_info u) = sound_outside read q files (map.insert files path bytes) laws keeps
        (put_outside q files path bytes (info_apart q (stages_in read q files) (queue_of q files) path bytes sound.stages u)) sound
    by_kind (a_record u) = sound_record read q files (map.insert files path bytes) path bytes laws keeps sound u
        (put_is_within q files (Record u.number) path bytes u.path_is (record_fit u.number u.few))
    by_kind (a_task u) =
        let name = fresh_name (task_id u.number u.task) in
        let put = put_is_within q files (Queued name) path bytes u.path_is (task_fit read q files u.number u.task u.stage laws u.last.is u.below) in
        sound_within read q files (map.insert files path bytes) laws keeps sound (record_same q files (map.insert files path bytes) (Queued name) bytes put.sets (record_no_name name))
        (put_task_kept (stages_in read q files) q path bytes (queue_of q files) (queue_of q (map.insert files path bytes)) files u put.sets (kept_now read q files sound))
    by_kind (a_seal u) =
        let put = put_is_within q files (Seal u.number) path bytes u.path_is (seal_fit read q files u.number u.stage u.last.is) in
        sound_within read q files (map.insert files path bytes) laws keeps sound (record_same q files (map.insert files path bytes) (Seal u.number) bytes put.sets (record_no_seal u.number))
        (put_seal_kept read q path bytes (queue_of q files) (queue_of q (map.insert files path bytes)) files u put.sets (kept_now read q files sound))

move_sound : (read : Reader) (q : List ℕ) (files new : Files) (from to : List ℕ) → KeepLaws (stages_in read q files) → Keeps (stages_in read q files) files new → Sound read q files
    → (u : MayMove (stages_in read q files) (queue_of q files) q files from to) → IsMoveWithin q files new u.name u.other → Sound read q new
move_sound read q files new from to laws keeps sound u move =
    let records = stages_in read q files in
    sound_within read q files new laws keeps sound
    (λ n. move_only u.name u.other move.bytes (queue_of q files) (queue_of q new) (is_turn (stages_in read q files) files u.name u.other u.becomes) move.shifts (Record n) refl)
    (move_kept (stages_in read q files) files u.name u.other move.bytes (queue_of q files) (queue_of q new) u.becomes move.shifts (kept_now read q files sound))

-- Each allowed act keeps the files sound.
pub sound_kept : (read : Reader) → KindLaws read → (q : List ℕ) (files : Files) (a : Act) → Sound read q files → Allowed read q files a → Sound read q (after files a)
sound_kept read kinds q files (act.Read path) sound may = sound
sound_kept read kinds q files (act.List dir given) sound may = sound
sound_kept read kinds q files (act.Put path bytes) sound may = put_sound read kinds q files path bytes sound may
sound_kept read kinds q files (act.Move from to) sound may =
    move_sound read q files (after files (act.Move from to)) from to (keep_laws read kinds (queue_of q files)) (act_keeps read kinds q files (act.Move from to) sound may) sound may
    (move_is_within (stages_in read q files) q files from to may)
sound_kept read kinds q files (act.Remove path) sound may =
    let laws = keep_laws read kinds (queue_of q files) in
    sound_outside read q files (map.remove files path) laws (act_keeps read kinds q files (act.Remove path) sound may)
    (remove_outside q files path (removal_apart q (stages_in read q files) path laws sound.stages may)) sound
