-- The put of a new stage's record, beside which others take steps.
use Rattle.std.proofs.Common.{◌≡◌, inl, inr, ℕ, false, List, None, Result, Ok, Err, IfOk, refl, subst, sym, length}
use Rattle.std.specs.Prelude.{IsSome}
use Rattle.ig_defs.specs.declared.step.Act.{Act}
use Rattle.ig_defs.specs.declared.step.Act.TheVariants as act
use Rattle.ig_defs.specs.declared.error.StoreError.{StoreError}
use Rattle.ig_defs.specs.declared.error.StoreError.TheVariants.{Failed, Memory}
use Rattle.ig_defs.specs.Files.{Files, file_at}
use Rattle.ig_defs.specs.Log.{Log, after, files_of, replay}
use Rattle.ig_defs.specs.Replay.{replay-keeps}
use Rattle.ig_meaning.specs.QueueMaking.{record_path}
use Rattle.ig_record.specs.Record.{record_text}
use Rattle.ig_record.specs.declared.stage.Stage.{Stage}
use Rattle.ig_rule.specs.Beside.{maker_keeps}
use Rattle.ig_rule.specs.QueueFiles.{IsApartFrom, Seal}
use Rattle.ig_rule.specs.QueuePaths.{no_queue_path}
use Rattle.ig_rule.specs.Rule.{Allowed, a_record}
use Rattle.ig_rule.specs.Sound.{Legal}
use Rattle.ig_rule.specs.SoundKept.{sound_kept}
use Rattle.ig_defs.specs.Turns.{Acted}
use Rattle.ig_defs.specs.TurnLaws.{files_then}
use Rattle.ig_rule.specs.Went.{WentPut}
use Rattle.ig_rule.specs.WentOn.{acted_legal, idled_legal}
use Rattle.ig_rule.specs.declared.role.Role.TheVariants.{Maker}
use Rattle.ig_task.specs.Facts.{stage_reader}
use Rattle.ig_task.specs.Kinds.{kinds, named_info}
use Rattle.ig_task.specs.Maker.{IsPathOfNone, Others}
use Rattle.ig_task.specs.MakerLaws.{file_keeps, knows_keep}
use Rattle.ig_task.specs.NewRecords.{opens_record, puts_record}
use Rattle.ig_task.specs.Pipeline.{is_allowed}
use Rattle.ig_task.specs.declared.pipeline.Pipeline.{Pipeline}
use Rattle.ig_stage.specs.Made.{CanRecord, MayRecord}
use Rattle.ig_stage.specs.Open.{IsOpen, maker_rule}
use Rattle.ig_stage.proofs.FreeLayers.{fresh_is, info_apart, info_of_none, output_of_none}

-- ---- what others keep

module _ (q : List ℕ) (stages : List Stage) (s : Stage) (files : Files) (a : Act) (may : Others q false files a) (can : CanRecord q stages s files) where
  -- no file comes to a path that is neither the queue's nor a stage's
  still_none : (path : List ℕ) → IsApartFrom q path → IsPathOfNone stages path → file_at files path ≡ None → file_at (after files a) path ≡ None
  still_none path apart none e = (file_keeps kinds q stages path None apart none files a may (record { knows = can.free.knows; holds = e })).holds

  can_still : CanRecord q stages s (after files a)
  can_still = record {
    free = record {
      knows = knows_keep kinds q stages files a may can.free.knows;
      no_info = λ info fresh.
          let has = fresh_is s info fresh in
          still_none info.path (info_apart q s (length stages) can.outside info has)
          (info_of_none q stages files can.free.knows s can.not_taken info has (named_info s can.sound info has)) (can.free.no_info info fresh);
      empty = λ path l.
          still_none path (λ x is. no_queue_path q l.dir path x (can.outside.outputs l.dir l.one) l.lies is)
          (output_of_none q stages files can.free.knows s can.not_taken l.dir path l.one l.lies) (can.free.empty path l);
    };
    sealed = λ n below. subst IsSome (sym (maker_keeps stage_reader kinds q files a can.free.knows.sound may (Seal n) refl)) (can.sealed n below);
    all_sound = can.all_sound;
    sound = can.sound;
    makes = can.makes;
    not_taken = can.not_taken;
    outside = can.outside;
    few = can.few;
  }

-- ---- the put

record_allowed : (q : List ℕ) (stages : List Stage) (s : Stage) (files : Files) → CanRecord q stages s files
    → Allowed stage_reader q files (act.Put (record_path q (length stages)) (record_text (length stages) s))
record_allowed q stages s files can =
    a_record (puts_record q stages s files can.free.knows can.all_sound can.sound can.makes can.not_taken can.outside can.free.empty can.free.no_info can.few can.sealed)

record_opens : (q : List ℕ) (stages : List Stage) (s : Stage) (files : Files) → CanRecord q stages s files
    → IsOpen q (length stages) s (after files (act.Put (record_path q (length stages)) (record_text (length stages) s)))
record_opens q stages s files can =
    let newest = opens_record q stages s files can.free.knows can.sound can.few in
    record {
      sound = sound_kept stage_reader kinds q files (act.Put (record_path q (length stages)) (record_text (length stages) s)) can.free.knows.sound (record_allowed q stages s files can);
      last = newest.last;
      unsealed = newest.unsealed;
    }

module _ (q : List ℕ) (stages : List Stage) (s : Stage) (old new : Log) (can : CanRecord q stages s (files_of old)) (legal : Legal stage_reader q old) where
  abbrev record_put : Act
  record_put = act.Put (record_path q (length stages)) (record_text (length stages) s)

  can_then : (t : Acted (Others q) old new record_put) → CanRecord q stages s (replay (files_of old) t.others)
  can_then t = replay-keeps (Others q) (CanRecord q stages s) (λ files a may here. can_still q stages s files a may here) (files_of old) t.others t.by can

  put_legal : Acted (Others q) old new record_put → Legal stage_reader q new
  put_legal t = acted_legal stage_reader Maker q old new record_put t (record_allowed q stages s (replay (files_of old) t.others) (can_then t)) legal

  put_opens : Acted (Others q) old new record_put → IsOpen q (length stages) s (files_of new)
  put_opens t = subst (IsOpen q (length stages) s) (sym (files_then t)) (record_opens q stages s (replay (files_of old) t.others) (can_then t))

  result_legal : (result : Result (Unit {0}) StoreError) → WentPut (Others q) old new (record_path q (length stages)) (record_text (length stages) s) result → Legal stage_reader q new
  result_legal (Ok done) t = put_legal t
  result_legal (Err Failed) (inl t) = idled_legal stage_reader Maker q old new t legal
  result_legal (Err Failed) (inr t) = put_legal t
  result_legal (Err Memory) t = idled_legal stage_reader Maker q old new t legal

  result_opens : (result : Result (Unit {0}) StoreError) → WentPut (Others q) old new (record_path q (length stages)) (record_text (length stages) s) result
      → IfOk result (λ done. IsOpen q (length stages) s (files_of new))
  result_opens (Ok done) t = put_opens t
  result_opens (Err e) t = tt

-- ---- by the rule of the store

-- what a put did, said of the record of these stages' next one
went_as : (rule : Pipeline) (q : List ℕ) (n m : ℕ) (s : Stage) (old new : Log) (path bytes : List ℕ) (result : Result (Unit {0}) StoreError) → rule ≡ maker_rule q → n ≡ m
    → path ≡ record_path q n → bytes ≡ record_text n s → WentPut (is_allowed rule) old new path bytes result → WentPut (Others q) old new (record_path q m) (record_text m s) result
went_as rule q n m s old new path bytes result is number path_is bytes_is t =
    subst (λ k. WentPut (Others q) old new (record_path q k) (record_text k s) result) number
    (subst (λ b. WentPut (Others q) old new (record_path q n) b result) bytes_is
    (subst (λ p. WentPut (Others q) old new p bytes result) path_is
    (subst (λ r. WentPut (is_allowed r) old new path bytes result) is t)))

module _ (rule : Pipeline) (q : List ℕ) (n : ℕ) (stages : List Stage) (s : Stage) (old new : Log) (path bytes : List ℕ) (result : Result (Unit {0}) StoreError) (may : MayRecord rule q n stages s old)
    (path_is : path ≡ record_path q n) (bytes_is : bytes ≡ record_text n s) (t : WentPut (is_allowed rule) old new path bytes result) where
  pub put_stays_legal : Legal stage_reader q new
  put_stays_legal = result_legal q stages s old new may.can may.legal result (went_as rule q n (length stages) s old new path bytes result may.is may.number path_is bytes_is t)

  pub put_opens_it : IfOk result (λ done. IsOpen q n s (files_of new))
  put_opens_it =
      subst (λ k. IfOk result (λ done. IsOpen q k s (files_of new))) (sym may.number)
      (result_opens q stages s old new may.can may.legal result (went_as rule q n (length stages) s old new path bytes result may.is may.number path_is bytes_is t))
