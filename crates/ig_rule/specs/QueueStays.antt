-- What an allowed act leaves of a queue: records, seals and done names stay, and each task keeps a name.
use Rattle.std.specs.Prelude.{◌≡◌, ◌⊎◌, ℕ, true, List, Some, IsSome, refl}
use Rattle.std.proofs.Common.{inl, inr, ap, sym, subst, ◌∙◌}
use Rattle.std.specs.FinMap as map
use Rattle.ig_space.specs.declared.task_id.TaskId.{TaskId}
use Rattle.ig_defs.specs.declared.queue_name.QueueName.{QueueName}
use Rattle.ig_defs.specs.declared.step.Act.{Act}
use Rattle.ig_defs.specs.declared.step.Act.TheVariants as act
use Rattle.ig_defs.specs.Files.{Files}
use Rattle.ig_defs.specs.Log.{after}
use Rattle.ig_rule.specs.QueueFiles.{QueueFile, Record, Seal, Queued, Done, Queue, queue_of}
use Rattle.ig_rule.specs.Facts.{Facts, Reader, KindLaws}
use Rattle.ig_rule.specs.Stages.{Records, recorded, stages_in, task_id, Named}
use Rattle.ig_rule.specs.Rule.{PutsRecord, MayPut, an_output, a_record, an_info, a_task, a_seal, MayMove, Allowed, fresh_name}
use Rattle.ig_rule.specs.Known.{RecordsRemoval}
use Rattle.ig_rule.specs.Sound.{Sound}
use Rattle.ig_rule.specs.QueueSteps.{Sets, put_outside, remove_outside}
use Rattle.ig_rule.specs.Keeps.{KeepLaws, keep_laws}
use Rattle.ig_rule.specs.SoundNames.{OnlyNames, records_same, set_there, set_named}
use Rattle.ig_rule.specs.SoundMoves.{IsTurn, is_turn, move_only, move_named, move_done_there}
use Rattle.ig_rule.specs.Grown.{Grows, Age, is_old, is_the_new, still_recorded, age, puts_grow}
use Rattle.ig_rule.specs.Effects.{record_fit, seal_fit, task_fit, put_is_within, IsMoveWithin, move_is_within, output_apart, info_apart, removal_apart}

-- Stages stay recorded and sealed, tasks stay done, and each task that has a name keeps one. A removal that is recorded now was
-- recorded before, or the act records one.
pub record QueueStays (read : Reader) (old new : Queue) (RecordsOne : Type 0) : Type 0 where
  pub stages : (n : ℕ) (s : Facts) → recorded read old n ≡ Some s → recorded read new n ≡ Some s
  pub sealed : (n : ℕ) → IsSome (old (Seal n)) → IsSome (new (Seal n))
  pub done : (id : TaskId) → IsSome (old (Done id)) → IsSome (new (Done id))
  pub named : (id : TaskId) → Named old id → Named new id
  pub removals : (r : ℕ) (t : Facts) → recorded read new r ≡ Some t → t.removes ≡ true → (recorded read old r ≡ Some t) ⊎ RecordsOne

stays_same : (read : Reader) (old new : Queue) (R : Type 0) → new ≡ old → QueueStays read old new R
stays_same read old new R e = subst (λ queue. QueueStays read old queue R) (sym e) (record {
  stages = λ n s is. is;
  sealed = λ n there. there;
  done = λ id there. there;
  named = λ id name. name;
  removals = λ r t is removes. inl is;
})

-- a file of the queue is set, and records are as they were
stays_set : (read : Reader) (old new : Queue) (R : Type 0) (x : QueueFile) (bytes : List ℕ) → Sets x bytes old new → ((n : ℕ) → Record n ≡ x → ⊥) → QueueStays read old new R
stays_set read old new R x bytes sets other = record {
  stages = λ n s is. ap (λ (f : Records). f n) same ∙ is;
  sealed = λ n. set_there x bytes old new sets (Seal n);
  done = λ id. set_there x bytes old new sets (Done id);
  named = set_named x bytes old new sets;
  removals = λ r t is removes. inl (ap (λ (f : Records). f r) (sym same) ∙ is);
}
  where
    by_place : (n : ℕ) → (Record n ≡ x) ⊎ (new (Record n) ≡ old (Record n)) → new (Record n) ≡ old (Record n)
    by_place n (inl e) = absurd (other n e)
    by_place n (inr e) = e

    same : recorded read new ≡ recorded read old
    same = records_same read old new (λ n. by_place n (sets.others (Record n)))

stays_record : (read : Reader) (q : List ℕ) (files : Files) (path bytes : List ℕ) (new : Queue) → (u : PutsRecord read (queue_of q files) q files path bytes) → Sets (Record u.number) bytes (queue_of q files) new
    → QueueStays read (queue_of q files) new (RecordsRemoval read q (act.Put path bytes))
stays_record read q files path bytes new u sets = record {
  stages = still_recorded (stages_in read q files) (recorded read new) u.number u.stage grows;
  sealed = λ n. set_there (Record u.number) bytes (queue_of q files) new sets (Seal n);
  done = λ id. set_there (Record u.number) bytes (queue_of q files) new sets (Done id);
  named = set_named (Record u.number) bytes (queue_of q files) new sets;
  removals = λ r t is removes. by_age r t removes (age (stages_in read q files) (recorded read new) u.number u.stage grows r t is);
}
  where
    grows : Grows (stages_in read q files) (recorded read new) u.number u.stage
    grows = puts_grow read q files path bytes (queue_of q files) new u sets

    by_age : (r : ℕ) (t : Facts) → t.removes ≡ true → Age (stages_in read q files) u.number u.stage r t → (stages_in read q files r ≡ Some t) ⊎ RecordsRemoval read q (act.Put path bytes)
    by_age r t removes (is_old less is) = inl is
    by_age r t removes (is_the_new e t') =
        inr (record { number = u.number; stage = u.stage; path_is = u.path_is; text = u.text; removes = ap (λ (v : Facts). v.removes) t' ∙ removes })

record_no_name : (name : QueueName) (n : ℕ) → Record n ≡ Queued name → ⊥
record_no_name name n e = absurd (cc)

record_no_seal : (m n : ℕ) → Record n ≡ Seal m → ⊥
record_no_seal m n e = absurd (cc)

put_stays : (read : Reader) → KindLaws read → (q : List ℕ) (files : Files) (path bytes : List ℕ) → Sound read q files → MayPut read (queue_of q files) q files path bytes
    → QueueStays read (queue_of q files) (queue_of q (map.insert files path bytes)) (RecordsRemoval read q (act.Put path bytes))
put_stays read kinds q files path bytes sound may = by_kind may
  where
    laws : KeepLaws (stages_in read q files)
    laws = keep_laws read kinds (queue_of q files)

    by_kind : MayPut read (queue_of q files) q files path bytes → QueueStays read (queue_of q files) (queue_of q (map.insert files path bytes)) (RecordsRemoval read q (act.Put path bytes))
    by_kind (an_output u) = stays_same read (queue_of q files) (queue_of q (map.insert files path bytes)) _
        (put_outside q files path bytes (output_apart q (stages_in read q files) files path bytes laws sound.stages u))
    by_kind (an_info u) = stays_same read (queue_of q files) (queue_of q (map.insert files path bytes)) _
        (put_outside q files path bytes (info_apart q (stages_in read q files) (queue_of q files) path bytes sound.stages u))
    by_kind (a_record u) = stays_record read q files path bytes (queue_of q (map.insert files path bytes)) u
        (put_is_within q files (Record u.number) path bytes u.path_is (record_fit u.number u.few)).sets
    by_kind (a_task u) =
        let name = fresh_name (task_id u.number u.task) in
        stays_set read (queue_of q files) (queue_of q (map.insert files path bytes)) _ (Queued name) bytes
        (put_is_within q files (Queued name) path bytes u.path_is (task_fit read q files u.number u.task u.stage laws u.last.is u.below)).sets (record_no_name name)
    by_kind (a_seal u) = stays_set read (queue_of q files) (queue_of q (map.insert files path bytes)) _ (Seal u.number) bytes
        (put_is_within q files (Seal u.number) path bytes u.path_is (seal_fit read q files u.number u.stage u.last.is)).sets (record_no_seal u.number)

stays_move : (read : Reader) (q : List ℕ) (files new : Files) (from to : List ℕ) (R : Type 0) → (u : MayMove (stages_in read q files) (queue_of q files) q files from to)
    → IsMoveWithin q files new u.name u.other → QueueStays read (queue_of q files) (queue_of q new) R
stays_move read q files new from to R u move = record {
  stages = λ n s is. ap (λ (f : Records). f n) same ∙ is;
  sealed = λ n there. subst (λ o. IsSome o) (sym (only (Seal n) refl)) there;
  done = move_done_there u.name u.other move.bytes (queue_of q files) (queue_of q new) turn move.shifts;
  named = move_named u.name u.other move.bytes (queue_of q files) (queue_of q new) turn move.shifts;
  removals = λ r t is removes. inl (ap (λ (f : Records). f r) (sym same) ∙ is);
}
  where
    turn : IsTurn u.name u.other
    turn = is_turn (stages_in read q files) files u.name u.other u.becomes

    only : OnlyNames (queue_of q files) (queue_of q new)
    only = move_only u.name u.other move.bytes (queue_of q files) (queue_of q new) turn move.shifts

    same : stages_in read q new ≡ stages_in read q files
    same = records_same read (queue_of q files) (queue_of q new) (λ n. only (Record n) refl)

-- each allowed act leaves that of a queue
pub queue_stays : (read : Reader) → KindLaws read → (q : List ℕ) (files : Files) (a : Act) → Sound read q files → Allowed read q files a
    → QueueStays read (queue_of q files) (queue_of q (after files a)) (RecordsRemoval read q a)
queue_stays read kinds q files (act.Read path) sound may = stays_same read (queue_of q files) (queue_of q files) _ refl
queue_stays read kinds q files (act.List dir given) sound may = stays_same read (queue_of q files) (queue_of q files) _ refl
queue_stays read kinds q files (act.Put path bytes) sound may = put_stays read kinds q files path bytes sound may
queue_stays read kinds q files (act.Move from to) sound may =
    stays_move read q files (after files (act.Move from to)) from to _ may (move_is_within (stages_in read q files) q files from to may)
queue_stays read kinds q files (act.Remove path) sound may =
    stays_same read (queue_of q files) (queue_of q (map.remove files path)) _
    (remove_outside q files path (removal_apart q (stages_in read q files) path (keep_laws read kinds (queue_of q files)) sound.stages may))
