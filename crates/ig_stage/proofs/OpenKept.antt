-- What steps of others and own puts leave of a stage that is open.
use Rattle.std.proofs.Common.{◌≡◌, ◌⊎◌, ◌<◌, ℕ, Bool, true, false, List, Option, None, Some, is_some, IsSome, option_map, refl, ap, sym, subst, ◌∙◌, inl, inr}
use Rattle.std.specs.Option.{option_and_then}
use Rattle.std.proofs.lemmas.Bool.{cases_eq}
use Rattle.std.specs.FinMap as map
use Rattle.ig_space.specs.Path.{joined}
use Rattle.ig_space.specs.declared.task_id.TaskId.{TaskId}
use Rattle.ig_defs.specs.declared.step.Act.{Act}
use Rattle.ig_defs.specs.declared.step.Act.TheVariants as act
use Rattle.ig_defs.specs.declared.step.Step.{Step}
use Rattle.ig_defs.specs.Files.{Files, file_at}
use Rattle.ig_defs.specs.Log.{ByOthers, after, replay}
use Rattle.ig_defs.specs.Own.{File}
use Rattle.ig_defs.specs.Puts.{file_at-put}
use Rattle.ig_defs.specs.Replay.{replay-keeps}
use Rattle.ig_rule.specs.Beside.{maker_keeps, maker_untouched}
use Rattle.ig_rule.specs.Effects.{IsPutWithin, put_is_within, task_fit}
use Rattle.ig_rule.specs.Facts.{Facts, IsPath, LiesInOne}
use Rattle.ig_rule.specs.Keeps.{KeepLaws, keep_laws, one_stage}
use Rattle.ig_rule.specs.QueueFiles.{QueueFile, Record, Seal, Queued, IsApartFrom, Queue, file_name, fits, folder, named_task, path_of, queue_of}
use Rattle.ig_rule.specs.QueueStays.{queue_stays}
use Rattle.ig_rule.specs.QueueSteps.{put_outside, queue_of-fits}
use Rattle.ig_rule.specs.Rule.{Allowed, MayPut, a_seal, a_task, an_info, fresh_name, seal_text}
use Rattle.ig_rule.specs.SoundKept.{sound_kept}
use Rattle.ig_rule.specs.SoundNames.{not_a_name}
use Rattle.ig_rule.specs.Stages.{Named, stages_in, task_id}
use Rattle.ig_record.specs.declared.stage.InfoFile.{InfoFile}
use Rattle.ig_record.specs.declared.stage.Stage.{Stage}
use Rattle.ig_record.specs.Record.{task_text}
use Rattle.ig_record.specs.Stage.{task_count}
use Rattle.ig_meaning.specs.Jobs.{file_of}
use Rattle.ig_task.specs.Facts.{facts_of, stage_reader}
use Rattle.ig_task.specs.Maker.{Others}
use Rattle.ig_stage.specs.Open.{AllNamed, HasInfo, IsOpen}
use Rattle.ig_task.specs.Kinds.{kinds}

-- The stage is open, each task that had a name first has one, and its info stands if it did.
pub record KeepsOpen (q : List ℕ) (n : ℕ) (s : Stage) (first files : Files) : Type 0 where
  pub is_open : IsOpen q n s files
  pub named : (id : TaskId) → Named (queue_of q first) id → Named (queue_of q files) id
  pub info : HasInfo s first → HasInfo s files

pub keeps_first : (q : List ℕ) (n : ℕ) (s : Stage) (files : Files) → IsOpen q n s files → KeepsOpen q n s files files
keeps_first q n s files opened = record { is_open = opened; named = λ id h. h; info = λ h. h }

-- ---- its info

info_is : (n : ℕ) (s : Stage) (info : InfoFile) → s.info ≡ Some info → (facts_of n s).info ≡ Some (file_of info)
info_is n s info e = ap (option_map file_of) e

-- it is no file of the queue
info_outside : (q : List ℕ) (n : ℕ) (s : Stage) (files : Files) (info : InfoFile) → IsOpen q n s files → s.info ≡ Some info → IsApartFrom q info.path
info_outside q n s files info opened e x at =
    ((opened.sound.stages.outside n (facts_of n s) opened.last.is).info (file_of info) (info_is n s info e)).not_within (joined (folder x) (file_name x)) at

-- and no path of a stage
info_strange : (q : List ℕ) (n : ℕ) (s : Stage) (files : Files) (info : InfoFile) → IsOpen q n s files → s.info ≡ Some info
    → (m : ℕ) (t : Facts) → stages_in stage_reader q files m ≡ Some t → IsPath t info.path → ⊥
info_strange q n s files info opened e m t is one = by_kind t.removes refl
  where
    laws : KeepLaws (stages_in stage_reader q files)
    laws = keep_laws stage_reader kinds (queue_of q files)

    by_number : LiesInOne t.outputs info.path → (m ≡ n) ⊎ (m ≡ n → ⊥) → ⊥
    by_number lies (inl same) =
        (laws n (facts_of n s) opened.last.is).info_apart (file_of info) (info_is n s info e)
        (subst (λ (u : Facts). LiesInOne u.outputs info.path) (one_stage (stages_in stage_reader q files) m n t (facts_of n s) same is opened.last.is) lies)
    by_number lies (inr differ) = (opened.sound.stages.apart m n t (facts_of n s) differ is opened.last.is).other_info (file_of info) (info_is n s info e) lies

    by_kind : (b : Bool) → t.removes ≡ b → ⊥
    by_kind true removes =
        (laws m t is).chunk_name info.path ((laws m t is).removed_chunk removes info.path one)
        ((laws n (facts_of n s) opened.last.is).info_name (file_of info) (info_is n s info e))
    by_kind false makes = by_number ((laws m t is).path_in makes info.path one) (cases_eq m n)

same_info : (x y : InfoFile) → ◌≡◌ {A = Option InfoFile} (Some x) (Some y) → x ≡ y
same_info x y e = cc

-- where it was put, it stands
pub info_put : (s : Stage) (info : InfoFile) (files : Files) → s.info ≡ Some info → HasInfo s (map.insert files info.path info.text)
info_put s info files e other is =
    let same : other ≡ info = same_info other info (sym is ∙ e) in
    file_at-put files other.path info.path info.text (ap (λ (i : InfoFile). i.path) same) ∙ ap (λ (i : InfoFile). Some i.text) (sym same)

-- ---- an allowed act that leaves the records, the seals and the info

open_kept : (q : List ℕ) (n : ℕ) (s : Stage) (first files : Files) (a : Act) → Allowed stage_reader q files a
    → ((x : QueueFile) → named_task x ≡ None → queue_of q (after files a) x ≡ queue_of q files x) → (HasInfo s files → HasInfo s (after files a))
    → KeepsOpen q n s first files → KeepsOpen q n s first (after files a)
open_kept q n s first files a may same info k = record {
  is_open = record {
    sound = sound_kept stage_reader kinds q files a k.is_open.sound may;
    last = record {
      is = ap (option_and_then (stage_reader n)) (same (Record n) refl) ∙ k.is_open.last.is;
      none_after = λ m beyond. same (Record m) refl ∙ k.is_open.last.none_after m beyond;
    };
    unsealed = same (Seal n) refl ∙ k.is_open.unsealed;
  };
  named = λ id h. (queue_stays stage_reader kinds q files a k.is_open.sound may).named id (k.named id h);
  info = λ h. info (k.info h);
}

-- steps of others
others_keep_open : (q : List ℕ) (n : ℕ) (s : Stage) (first files : Files) (a : Act) → Others q false files a → KeepsOpen q n s first files → KeepsOpen q n s first (after files a)
others_keep_open q n s first files a may k =
    open_kept q n s first files a may.0 (maker_keeps stage_reader kinds q files a k.is_open.sound may)
    (λ has info e. maker_untouched stage_reader q files a may info.path (info_outside q n s files info k.is_open e) (info_strange q n s files info k.is_open e) ∙ has info e) k

pub others_stay_open : (q : List ℕ) (n : ℕ) (s : Stage) (files : Files) (others : List Step) → ByOthers (Others q) files others → IsOpen q n s files → KeepsOpen q n s files (replay files others)
others_stay_open q n s files others by opened =
    replay-keeps (Others q) (KeepsOpen q n s files) (others_keep_open q n s files) files others by (keeps_first q n s files opened)

-- ---- own puts

-- The put is allowed, and keeps the stage open.
pub record PutKeeps (q : List ℕ) (n : ℕ) (s : Stage) (first files : Files) (path bytes : List ℕ) : Type 0 where
  pub may : Allowed stage_reader q files (act.Put path bytes)
  pub kept : KeepsOpen q n s first (map.insert files path bytes)

-- the put of the info
pub info_keeps : (q : List ℕ) (n : ℕ) (s : Stage) (info : InfoFile) → s.info ≡ Some info → (first files : Files) → KeepsOpen q n s first files → PutKeeps q n s first files info.path info.text
info_keeps q n s info e first files k = record {
  may = may;
  kept = open_kept q n s first files (act.Put info.path info.text) may
      (λ x none. ap (λ (queue : Queue). queue x) (put_outside q files info.path info.text (info_outside q n s files info k.is_open e)))
      (λ has. info_put s info files e) k;
}
  where
    may : MayPut stage_reader (queue_of q files) q files info.path info.text
    may = an_info (record {
      number = n;
      stage = facts_of n s;
      last = k.is_open.last;
      unsealed = k.is_open.unsealed;
      info = file_of info;
      info_is = info_is n s info e;
      path_is = refl;
      text = refl;
    })

abbrev fresh : ℕ → ℕ → QueueFile
fresh n k = Queued (fresh_name (task_id n k))

-- the put of a task's name
pub name_keeps : (q : List ℕ) (n : ℕ) (s : Stage) (task : ℕ) → task < task_count s
    → (first files : Files) → KeepsOpen q n s first files → PutKeeps q n s first files (path_of q (fresh n task)) (task_text (task_id n task) s)
name_keeps q n s task below first files k = record {
  may = may;
  kept = open_kept q n s first files (act.Put (path_of q (fresh n task)) (task_text (task_id n task) s)) may
      (λ x none. by_place x none (put.sets.others x))
      (λ has info e. put.same info.path (info_outside q n s files info k.is_open e) ∙ has info e) k;
}
  where
    may : MayPut stage_reader (queue_of q files) q files (path_of q (fresh n task)) (task_text (task_id n task) s)
    may = a_task (record {
      number = n;
      stage = facts_of n s;
      task = task;
      last = k.is_open.last;
      unsealed = k.is_open.unsealed;
      below = below;
      path_is = refl;
      text = refl;
    })

    put : IsPutWithin q files (map.insert files (path_of q (fresh n task)) (task_text (task_id n task) s)) (fresh n task) (task_text (task_id n task) s)
    put = put_is_within q files (fresh n task) (path_of q (fresh n task)) (task_text (task_id n task) s) refl
        (task_fit stage_reader q files n task (facts_of n s) (keep_laws stage_reader kinds (queue_of q files)) k.is_open.last.is below)

    by_place : (x : QueueFile) → named_task x ≡ None
        → (x ≡ fresh n task) ⊎ (queue_of q (map.insert files (path_of q (fresh n task)) (task_text (task_id n task) s)) x ≡ queue_of q files x)
        → queue_of q (map.insert files (path_of q (fresh n task)) (task_text (task_id n task) s)) x ≡ queue_of q files x
    by_place x none (inl e) = absurd (not_a_name x (fresh n task) (task_id n task) none refl e)
    by_place x none (inr e) = e

-- a file of the queue that was put is there
pub put_there : (q : List ℕ) (x : QueueFile) (bytes : List ℕ) (files : Files) → fits x ≡ true → IsSome (queue_of q (map.insert files (path_of q x) bytes) x)
put_there q x bytes files fit =
    ap is_some (queue_of-fits q (map.insert files (path_of q x) bytes) x fit ∙ file_at-put files (path_of q x) (path_of q x) bytes refl)

-- so a task whose name was put has one
pub name_there : (q : List ℕ) (n k : ℕ) (bytes : List ℕ) (files : Files) → fits (fresh n k) ≡ true → Named (queue_of q (map.insert files (path_of q (fresh n k)) bytes)) (task_id n k)
name_there q n k bytes files fit = record { name = fresh n k; is_of = refl; there = put_there q (fresh n k) bytes files fit }

-- the put of the seal
seal_info : (n : ℕ) (s : Stage) (files : Files) (found : Option InfoFile) → s.info ≡ found → HasInfo s files
    → (info : File) → option_map file_of found ≡ Some info → file_at files info.path ≡ Some info.bytes
seal_info n s files None is has info e = absurd (cc)
seal_info n s files (Some found) is has info e =
    let same : file_of found ≡ info = cc in
    subst (λ (f : File). file_at files f.path ≡ Some f.bytes) same (has found is)

pub seal_allowed : (q : List ℕ) (n : ℕ) (s : Stage) (files : Files) → IsOpen q n s files → HasInfo s files → AllNamed q n s files → Allowed stage_reader q files (act.Put (path_of q (Seal n)) seal_text)
seal_allowed q n s files opened has named = a_seal (record {
  number = n;
  stage = facts_of n s;
  last = opened.last;
  path_is = refl;
  text = refl;
  info = seal_info n s files s.info refl has;
  named = named;
})
