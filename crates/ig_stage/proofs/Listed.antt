-- What a listing tells of a stage that is open.
use Rattle.std.proofs.Common.{◌≡◌, ◌⊎◌, ◌≤◌, ◌<◌, ℕ, Bool, true, false, List, [], ◌∷◌, length, Some, Result, Ok, Err, IfOk, codes, ap, sym, subst, ◌∙◌, inl, inr, arith, is_some}
use Rattle.std.specs.List.{slice_get}
use Rattle.std.proofs.lemmas.Option.{slice_get_within}
use Rattle.ig_space.specs.Path.{joined}
use Rattle.ig_space.specs.declared.task_id.TaskId.{TaskId}
use Rattle.ig_defs.specs.declared.step.Act.{Act}
use Rattle.ig_defs.specs.declared.step.Act.TheVariants as act
use Rattle.ig_defs.specs.declared.step.Step.{Step}
use Rattle.ig_defs.specs.declared.error.StoreError.{StoreError}
use Rattle.ig_defs.specs.Files.{Files, file_at}
use Rattle.ig_defs.specs.Log.{ByOthers, Log, after, files_of, replay}
use Rattle.ig_defs.specs.Names.{Stands, StandsOnce}
use Rattle.ig_defs.specs.Replay.{replay-keeps}
use Rattle.ig_rule.specs.QueueFiles.{queue_of}
use Rattle.ig_rule.specs.QueueStays.{queue_stays}
use Rattle.ig_rule.specs.QueueSteps.{queue_of-fits}
use Rattle.ig_rule.specs.Sound.{Sound}
use Rattle.ig_rule.specs.SoundKept.{sound_kept}
use Rattle.ig_rule.specs.Stages.{Named, task_id}
use Rattle.ig_defs.specs.Turns.{Listed}
use Rattle.ig_defs.specs.TurnLaws.{files_then}
use Rattle.ig_record.specs.declared.stage.Stage.{Stage}
use Rattle.ig_task.specs.Facts.{stage_reader}
use Rattle.ig_task.specs.Maker.{Others}
use Rattle.ig_task.specs.Pipeline.{is_allowed}
use Rattle.ig_task.specs.declared.pipeline.Pipeline.{Pipeline}
use Rattle.ig_stage.specs.Listings.{DoesList, DoesListAll}
use Rattle.ig_stage.specs.Open.{Does, Makes, StaysOpen}
use Rattle.ig_stage.specs.Shown.{IsNameOf, IsSet, Marks, ShowsTask}
use Rattle.ig_task.specs.Kinds.{kinds}
use Rattle.ig_queue.specs.FilesAt.{path_within}
use Rattle.ig_stage.proofs.Flags.{marks_then}
use Rattle.ig_stage.proofs.NamesShown.{ShowsOne, shown_by, shows_it}
use Rattle.ig_stage.proofs.OpenLogs.{does_one, does_then}

-- ---- a name that stood once is a name now

-- sound files in which the task has a name
record SoundNamed (q : List ℕ) (id : TaskId) (files : Files) : Type 0 where
  sound : Sound stage_reader q files
  named : Named (queue_of q files) id

named_keeps : (q : List ℕ) (id : TaskId) (files : Files) (a : Act) → Others q false files a → SoundNamed q id files → SoundNamed q id (after files a)
named_keeps q id files a may h = record {
  sound = sound_kept stage_reader kinds q files a h.sound may.0;
  named = (queue_stays stage_reader kinds q files a h.sound may.0).named id h.named;
}

named_there : (q dir name : List ℕ) (id : TaskId) (files : Files) → IsNameOf dir name id → Stands files (joined q dir) name → Named (queue_of q files) id
named_there q dir name id files is h = record {
  name = is.file;
  is_of = is.is_of;
  there = ap is_some (queue_of-fits q files is.file is.fit ∙ ap (file_at files) (sym (path_within q dir name is.file (sym is.within) is.is))) ∙ h.there;
}

pub named_once : (q dir name : List ℕ) (id : TaskId) (files : Files) (others : List Step) → ByOthers (Others q) files others → Sound stage_reader q files → IsNameOf dir name id
    → StandsOnce files others (joined q dir) name → Named (queue_of q (replay files others)) id
named_once q dir name id files [] by sound is here = named_there q dir name id files is here
named_once q dir name id files (step ∷ others) by sound is (inl here) =
    (replay-keeps (Others q) (SoundNamed q id) (named_keeps q id) files (step ∷ others) by (record { sound = sound; named = named_there q dir name id files is here })).named
named_once q dir name id files (step ∷ others) by sound is (inr later) =
    named_once q dir name id (after files step.act) others by.2 (sound_kept stage_reader kinds q files step.act sound by.1.0) is later

-- ---- one listing

pub does_list : (allows : Bool → Files → Act → Type 0) (q : List ℕ) (n : ℕ) (dir path : List ℕ) (given : List (List ℕ)) (flags now : List Bool) (old new : Log) → path ≡ joined q dir
    → Listed allows old new path given → Marks (ShowsTask dir given n) flags now → DoesList allows q n dir flags now old new
does_list allows q n dir path given flags now old new e t marks = record {
  given = given;
  does = subst (λ (at : List ℕ). Does allows old new (act.List at given ∷ [])) e (does_one allows old new (act.List path given) t.acted);
  marks = marks;
}

listed_once : (q : List ℕ) (n k : ℕ) (dir path : List ℕ) (given : List (List ℕ)) (old new : Log) → path ≡ joined q dir → Sound stage_reader q (files_of old)
    → Listed (Others q) old new path given → ShowsTask dir given n k → Named (queue_of q (files_of new)) (task_id n k)
listed_once q n k dir path given old new e sound t h =
    subst (λ files. Named (queue_of q files) (task_id n k)) (sym (files_then t.acted))
    (named_once q dir h.name (task_id n k) (files_of old) t.acted.others t.acted.by sound h.of_task
    (subst (λ (at : List ℕ). StandsOnce (files_of old) t.acted.others at h.name) e (t.names.only h.name h.among)))

-- each flag that is set was, or the listing showed a name of the task, which has one now
pub listed_named : (rule : Pipeline) (q : List ℕ) (n : ℕ) (s : Stage) (dir path : List ℕ) (given : List (List ℕ)) (flags now : List Bool) (old new : Log) → path ≡ joined q dir
    → Listed (is_allowed rule) old new path given → Marks (ShowsTask dir given n) flags now → Makes rule q n s old
    → (k : ℕ) → IsSet now k → IsSet flags k ⊎ Named (queue_of q (files_of new)) (task_id n k)
listed_named rule q n s dir path given flags now old new e t marks m k is = by_cases (marks.only k is)
  where
    by_cases : IsSet flags k ⊎ ShowsTask dir given n k → IsSet flags k ⊎ Named (queue_of q (files_of new)) (task_id n k)
    by_cases (inl was) = inl was
    by_cases (inr h) = inr (listed_once q n k dir path given old new e m.is_open.sound (subst (λ (r : Pipeline). Listed (is_allowed r) old new path given) m.is t) h)

-- ---- the three

pub list_as : (rule next : Pipeline) (q : List ℕ) (n : ℕ) (dir : List ℕ) (flags now : List Bool) (old new : Log) → next ≡ rule
    → DoesList (is_allowed next) q n dir flags now old new → DoesList (is_allowed rule) q n dir flags now old new
list_as rule next q n dir flags now old new same d = subst (λ (r : Pipeline). DoesList (is_allowed r) q n dir flags now old new) same d

pub not_both : (flags : List Bool) (k : ℕ) → slice_get flags k ≡ Some false → IsSet flags k → ⊥
not_both flags k none is = absurd (cc)

pub set_within : (flags : List Bool) (k : ℕ) → IsSet flags k → k < length flags
set_within flags k is = slice_get_within flags k true is

lists_all : (allows : Bool → Files → Act → Type 0) (q : List ℕ) (n : ℕ) (f0 f1 f2 f3 : List Bool) (l0 l1 l2 l3 : Log) → n < 10000 → length f0 ≤ 1000000
    → ((k : ℕ) → k < length f0 → slice_get f0 k ≡ Some false)
    → DoesList allows q n (codes "queue") f0 f1 l0 l1 → DoesList allows q n (codes "dead") f1 f2 l1 l2 → DoesList allows q n (codes "done") f2 f3 l2 l3
    → DoesListAll allows q n (length f0) f3 l0 l3
lists_all allows q n f0 f1 f2 f3 l0 l1 l2 l3 few small fresh a b c = record {
  queued = a.given;
  dead = b.given;
  done = c.given;
  does = does_then allows l0 l2 l3 _ _ (does_then allows l0 l1 l2 _ _ a.does b.does) c.does;
  set = λ k below h. all.marked k below (shows_it a.given b.given c.given n k few (omega (arith, below, small)) h);
  only = λ k below is. shown_by a.given b.given c.given n k (by_cases k below (all.only k is));
}
  where
    all : Marks (ShowsOne a.given b.given c.given n) f0 f3
    all = marks_then (λ k. ShowsTask (codes "queue") a.given n k ⊎ ShowsTask (codes "dead") b.given n k) (ShowsTask (codes "done") c.given n) f0 f2 f3
        (marks_then (ShowsTask (codes "queue") a.given n) (ShowsTask (codes "dead") b.given n) f0 f1 f2 a.marks b.marks) c.marks

    by_cases : (k : ℕ) → k < length f0 → IsSet f0 k ⊎ ShowsOne a.given b.given c.given n k → ShowsOne a.given b.given c.given n k
    by_cases k below (inl was) = absurd (not_both f0 k (fresh k below) was)
    by_cases k below (inr h) = h

-- each by its own call
pub listed_all : (rule second third : Pipeline) (q : List ℕ) (n : ℕ) (f0 f1 f2 f3 : List Bool) (l0 l1 l2 l3 : Log) (result : Result (Unit {0}) StoreError) → n < 10000 → length f0 ≤ 1000000
    → ((k : ℕ) → k < length f0 → slice_get f0 k ≡ Some false) → second ≡ rule → third ≡ second
    → DoesList (is_allowed rule) q n (codes "queue") f0 f1 l0 l1 → DoesList (is_allowed second) q n (codes "dead") f1 f2 l1 l2
    → IfOk result (λ done. DoesList (is_allowed third) q n (codes "done") f2 f3 l2 l3) → IfOk result (λ done. DoesListAll (is_allowed rule) q n (length f0) f3 l0 l3)
listed_all rule second third q n f0 f1 f2 f3 l0 l1 l2 l3 (Ok done) few small fresh same next a b c =
    lists_all (is_allowed rule) q n f0 f1 f2 f3 l0 l1 l2 l3 few small fresh a (list_as rule second q n (codes "dead") f1 f2 l1 l2 same b)
    (list_as rule third q n (codes "done") f2 f3 l2 l3 (next ∙ same) c)
listed_all rule second third q n f0 f1 f2 f3 l0 l1 l2 l3 (Err e) few small fresh same next a b c = tt

-- a flag that is set was set by one of them
pub all_listed_named : (q : List ℕ) (n : ℕ) (s : Stage) (f0 f1 f2 f3 : List Bool) (l1 l2 l3 : Log) (result : Result (Unit {0}) StoreError)
    → ((k : ℕ) → k < length f0 → slice_get f0 k ≡ Some false) → StaysOpen q n s l1 l2 → StaysOpen q n s l2 l3
    → ((k : ℕ) → IsSet f1 k → IsSet f0 k ⊎ Named (queue_of q (files_of l1)) (task_id n k))
    → ((k : ℕ) → IsSet f2 k → IsSet f1 k ⊎ Named (queue_of q (files_of l2)) (task_id n k))
    → IfOk result (λ done. (k : ℕ) → IsSet f3 k → IsSet f2 k ⊎ Named (queue_of q (files_of l3)) (task_id n k))
    → IfOk result (λ done. (k : ℕ) → IsSet f3 k → Named (queue_of q (files_of l3)) (task_id n k))
all_listed_named q n s f0 f1 f2 f3 l1 l2 l3 (Ok done) fresh stays still a b c = λ k is. third k (c k is)
  where
    first : (k : ℕ) → IsSet f0 k ⊎ Named (queue_of q (files_of l1)) (task_id n k) → Named (queue_of q (files_of l1)) (task_id n k)
    first k (inl was) = absurd (not_both f0 k (fresh k (set_within f0 k was)) was)
    first k (inr h) = h

    second : (k : ℕ) → IsSet f1 k ⊎ Named (queue_of q (files_of l2)) (task_id n k) → Named (queue_of q (files_of l2)) (task_id n k)
    second k (inl was) = stays.named (task_id n k) (first k (a k was))
    second k (inr h) = h

    third : (k : ℕ) → IsSet f2 k ⊎ Named (queue_of q (files_of l3)) (task_id n k) → Named (queue_of q (files_of l3)) (task_id n k)
    third k (inl was) = still.named (task_id n k) (second k (b k was))
    third k (inr h) = h
all_listed_named q n s f0 f1 f2 f3 l1 l2 l3 (Err e) fresh stays still a b c = tt
