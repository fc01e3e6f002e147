-- What each allowed act does to a queue and to the files of its stages.
use Rattle.std.specs.Prelude.{◌≡◌, ◌<◌, ◌^◌, ℕ, true, nat_lt, List, Some, refl}
use Rattle.std.proofs.Common.{sym, subst, ◌∙◌, arith}
use Rattle.std.proofs.lemmas.Bool.{and_from, lt-ltb}
use Rattle.std.specs.FinMap as map
use Rattle.ig_space.specs.Path.{joined}
use Rattle.ig_defs.specs.declared.step.Act.{Act}
use Rattle.ig_defs.specs.declared.step.Act.TheVariants as act
use Rattle.ig_defs.specs.Files.{Files}
use Rattle.ig_defs.specs.Log.{after, moved}
use Rattle.ig_rule.specs.QueueFiles.{QueueFile, Record, Seal, Queued, fits, folder, file_name, path_of, Queue, queue_of, IsApartFrom}
use Rattle.ig_rule.specs.Facts.{Facts, Reader, KindLaws}
use Rattle.ig_rule.specs.Stages.{Records, stages_in, task_id}
use Rattle.ig_rule.specs.Rule.{PutsOutput, PutsInfo, MayPut, an_output, a_record, an_info, a_task, a_seal, MayMove, MayRemove, Allowed, fresh_name}
use Rattle.ig_rule.specs.Sound.{AreSoundStages, Sound}
use Rattle.ig_rule.specs.QueuePaths.{no_queue_path}
use Rattle.ig_rule.specs.QueueSteps.{SameOutside, Sets, Shifts, Holds, holds, put_sets, put_within, move_shifts, move_within, moved_is}
use Rattle.ig_rule.specs.Keeps.{KeepLaws, keep_laws, Keeps, keeps_same, keeps_within}
use Rattle.ig_rule.specs.KeepsEach.{keeps_output, keeps_info, keeps_removal}
use Rattle.ig_rule.specs.SoundNames.{has_record}

-- ---- names that are put have places for their numbers

stage_fit : (read : Reader) (q : List ℕ) (files : Files) (n : ℕ) (s : Facts) → stages_in read q files n ≡ Some s → fits (Record n) ≡ true
stage_fit read q files n s is = (holds q files (Record n) (has_record read (queue_of q files) n s is)).fit

pub record_fit : (m : ℕ) → m < 10 ^ 4 → fits (Record m) ≡ true
record_fit m few = lt-ltb m (10 ^ 4) few

pub seal_fit : (read : Reader) (q : List ℕ) (files : Files) (n : ℕ) (s : Facts) → stages_in read q files n ≡ Some s → fits (Seal n) ≡ true
seal_fit read q files n s is = stage_fit read q files n s is

pub task_fit : (read : Reader) (q : List ℕ) (files : Files) (n k : ℕ) (s : Facts) → KeepLaws (stages_in read q files) → stages_in read q files n ≡ Some s → k < s.tasks
    → fits (Queued (fresh_name (task_id n k))) ≡ true
task_fit read q files n k s laws is below =
    let few : k < 10 ^ 6 = omega (arith, below, (laws n s is).few_tasks) in
    and_from (nat_lt 0 (10 ^ 10)) _ refl (and_from _ (nat_lt 0 (10 ^ 3)) (and_from (nat_lt n (10 ^ 4)) (nat_lt k (10 ^ 6)) (stage_fit read q files n s is) (lt-ltb k (10 ^ 6) few)) refl)

-- ---- acts on files of the queue

-- what the put of a file of the queue does
pub record IsPutWithin (q : List ℕ) (files new : Files) (x : QueueFile) (bytes : List ℕ) : Type 0 where
  pub sets : Sets x bytes (queue_of q files) (queue_of q new)
  pub same : SameOutside q files new

pub put_is_within : (q : List ℕ) (files : Files) (x : QueueFile) (path bytes : List ℕ) → path ≡ path_of q x → fits x ≡ true → IsPutWithin q files (map.insert files path bytes) x bytes
put_is_within q files x path bytes e fit =
    subst (λ p. IsPutWithin q files (map.insert files p bytes) x bytes) (sym e) (record { sets = put_sets q files x bytes fit; same = put_within q files x bytes })

-- what the move of one does
pub record IsMoveWithin (q : List ℕ) (files new : Files) (x y : QueueFile) : Type 0 where
  pub bytes : List ℕ
  pub shifts : Shifts x y bytes (queue_of q files) (queue_of q new)
  pub same : SameOutside q files new

move_of : (q : List ℕ) (files : Files) (x y : QueueFile) → (h : Holds q files x) → fits y ≡ true → IsMoveWithin q files (moved files (path_of q x) (path_of q y) (map.get files (path_of q x))) x y
move_of q files x y h fit =
    subst (λ new. IsMoveWithin q files new x y) (sym (moved_is q files x y h))
    (record { bytes = h.bytes; shifts = move_shifts q files x y h fit; same = move_within q files x y h.bytes })

pub move_is_within : (records : Records) (q : List ℕ) (files : Files) (from to : List ℕ) → (u : MayMove records (queue_of q files) q files from to)
    → IsMoveWithin q files (after files (act.Move from to)) u.name u.other
move_is_within records q files from to u =
    subst (λ p. IsMoveWithin q files (moved files p to (map.get files p)) u.name u.other) (sym u.from_is)
    (subst (λ p. IsMoveWithin q files (moved files (path_of q u.name) p (map.get files (path_of q u.name))) u.name u.other) (sym u.to_is)
    (move_of q files u.name u.other (holds q files u.name u.there) u.fitting))

-- ---- acts outside the queue

pub output_apart : (q : List ℕ) (records : Records) (files : Files) (path bytes : List ℕ) → KeepLaws records → AreSoundStages q records → PutsOutput records files path bytes → IsApartFrom q path
output_apart q records files path bytes laws stages u x e =
    let lies = (laws u.number u.stage u.is).path_in u.makes path u.path_is in
    no_queue_path q lies.dir path x ((stages.outside u.number u.stage u.is).outputs lies.dir lies.one) lies.lies e

pub removal_apart : (q : List ℕ) (records : Records) (path : List ℕ) → KeepLaws records → AreSoundStages q records → MayRemove records path → IsApartFrom q path
removal_apart q records path laws stages u x e =
    no_queue_path q u.stage.source path x (stages.outside u.number u.stage u.is).source
    ((laws u.number u.stage u.is).chunk_in path ((laws u.number u.stage u.is).removed_chunk u.removes path u.path_is)) e

pub info_apart : (q : List ℕ) (records : Records) (queue : Queue) (path bytes : List ℕ) → AreSoundStages q records → PutsInfo records queue path bytes → IsApartFrom q path
info_apart q records queue path bytes stages u x e =
    let outside = (stages.outside u.number u.stage u.last.is).info u.info u.info_is in
    outside.not_within (joined (folder x) (file_name x)) (sym u.path_is ∙ e)

-- ---- each act keeps the files of the stages

put_keeps : (read : Reader) → KindLaws read → (q : List ℕ) (files : Files) (path bytes : List ℕ) → Sound read q files → MayPut read (queue_of q files) q files path bytes
    → Keeps (stages_in read q files) files (map.insert files path bytes)
put_keeps read kinds q files path bytes sound may = by_kind may
  where
    laws : KeepLaws (stages_in read q files)
    laws = keep_laws read kinds (queue_of q files)

    within : (x : QueueFile) → path ≡ path_of q x → fits x ≡ true → Keeps (stages_in read q files) files (map.insert files path bytes)
    within x e fit = keeps_within q (stages_in read q files) files (map.insert files path bytes) laws sound.stages.outside (put_is_within q files x path bytes e fit).same

    by_kind : MayPut read (queue_of q files) q files path bytes → Keeps (stages_in read q files) files (map.insert files path bytes)
    by_kind (an_output u) = keeps_output q (stages_in read q files) (queue_of q files) files path bytes laws sound.stages sound.outputs u
    by_kind (a_record u) = within (Record u.number) u.path_is (record_fit u.number u.few)
    by_kind (an_info u) = keeps_info q (stages_in read q files) (queue_of q files) files path bytes laws sound.stages u
    by_kind (a_task u) = within (Queued (fresh_name (task_id u.number u.task))) u.path_is (task_fit read q files u.number u.task u.stage laws u.last.is u.below)
    by_kind (a_seal u) = within (Seal u.number) u.path_is (seal_fit read q files u.number u.stage u.last.is)

keeps_quiet : (records : Records) (files : Files) → KeepLaws records → Keeps records files files
keeps_quiet records files laws = keeps_same records files files laws (λ n s is path file. refl)

pub act_keeps : (read : Reader) → KindLaws read → (q : List ℕ) (files : Files) (a : Act) → Sound read q files → Allowed read q files a
    → Keeps (stages_in read q files) files (after files a)
act_keeps read kinds q files (act.Read path) sound may = keeps_quiet (stages_in read q files) files (keep_laws read kinds (queue_of q files))
act_keeps read kinds q files (act.List dir given) sound may = keeps_quiet (stages_in read q files) files (keep_laws read kinds (queue_of q files))
act_keeps read kinds q files (act.Put path bytes) sound may = put_keeps read kinds q files path bytes sound may
act_keeps read kinds q files (act.Move from to) sound may =
    keeps_within q (stages_in read q files) files (after files (act.Move from to)) (keep_laws read kinds (queue_of q files)) sound.stages.outside
    (move_is_within (stages_in read q files) q files from to may).same
act_keeps read kinds q files (act.Remove path) sound may =
    keeps_removal (stages_in read q files) files path (keep_laws read kinds (queue_of q files)) may
