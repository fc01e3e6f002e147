-- Acts that a wrong rule would allow, and that are refused.
use Rattle.std.specs.Prelude.{◌≡◌, ◌⊎◌, ◌<◌, ◌≤◌, ◌^◌, ℕ, true, false, nat_lt, List, Option, None, Some, Contains, refl}
use Rattle.std.proofs.Common.{inl, inr, ap, sym, subst, ◌∙◌, arith}
use Rattle.std.proofs.lemmas.Bool.{and_parts, cases_eq}
use Rattle.ig_space.specs.declared.task_id.TaskId.{TaskId}
use Rattle.ig_defs.specs.declared.queue_name.QueueName.{QueueName}
use Rattle.ig_defs.specs.declared.step.Act.TheVariants as act
use Rattle.ig_defs.specs.Files.{Files, file_at}
use Rattle.ig_defs.specs.QueueNames.{task_fits, queue_fits, task_of}
use Rattle.ig_rule.specs.QueueFiles.{QueueFile, Record, Seal, Queued, Dead, Done, fits, path_of, queue_of}
use Rattle.ig_rule.specs.Facts.{Facts, Reader, IsPath, LiesInOne, KindLaws}
use Rattle.ig_rule.specs.Stages.{Records, stages_in, task_id, Stands, Named}
use Rattle.ig_rule.specs.Rule.{PutsRecord, PutsInfo, PutsTask, PutsSeal, MayPut, an_output, a_record, an_info, a_task, a_seal, MayBecome, Allowed, fresh_name}
use Rattle.ig_rule.specs.Sound.{Sound}
use Rattle.ig_rule.specs.QueuePaths.{path_is, no_queue_path}
use Rattle.ig_rule.specs.QueueSteps.{holds}
use Rattle.ig_rule.specs.Keeps.{KeepLaws, keep_laws, one_stage}
use Rattle.ig_rule.specs.KeepsEach.{put_lies, same_owner}
use Rattle.ig_rule.specs.SoundFiles.{none_there}
use Rattle.ig_rule.specs.Effects.{record_fit, seal_fit, task_fit, output_apart, info_apart, removal_apart}

-- ---- moves

not_there : (o : Option (List ℕ)) (bytes : List ℕ) → o ≡ None → o ≡ Some bytes → ⊥
not_there o bytes none e = let both : None ≡ Some bytes = sym none ∙ e in absurd (cc)

done_fits : (name : QueueName) → queue_fits name ≡ true → task_fits (task_of name) ≡ true
done_fits name fit = (and_parts (task_fits (task_of name)) _ (and_parts (nat_lt name.visible (10 ^ 10)) _ fit).1).0

done_stands : (records : Records) (files : Files) (name : QueueName) (id : TaskId) (s : Facts) → MayBecome records files (Queued name) (Done id) → records id.stage ≡ Some s → Stands files s id.task
done_stands records files name id s h is = subst (λ t. Stands files t id.task) (one_stage records id.stage id.stage h.1.stage s refl h.1.is is) h.1.stands

becomes_as : (records : Records) (files : Files) (x y x' y' : QueueFile) → x ≡ x' → y ≡ y' → MayBecome records files x y → MayBecome records files x' y'
becomes_as records files x y x' y' e f h = subst (MayBecome records files x') f (subst (λ z. MayBecome records files z y) e h)

-- a move to the done name while one of the task's paths is absent
pub done_too_early : (read : Reader) (q : List ℕ) (files : Files) (name : QueueName) (s : Facts) (path : List ℕ) → queue_fits name ≡ true
    → stages_in read q files name.stage ≡ Some s → s.removes ≡ false → Contains (s.paths name.task) path → file_at files path ≡ None
    → Allowed read q files (act.Move (path_of q (Queued name)) (path_of q (Done (task_of name)))) → ⊥
done_too_early read q files name s path fit is makes among none may =
    let from : may.name ≡ Queued name = path_is q may.name (Queued name) (holds q files may.name may.there).fit fit (sym may.from_is) in
    let to : may.other ≡ Done (task_of name) = path_is q may.other (Done (task_of name)) may.fitting (done_fits name fit) (sym may.to_is) in
    let stands = done_stands (stages_in read q files) files name (task_of name) s
    (becomes_as (stages_in read q files) files may.name may.other (Queued name) (Done (task_of name)) from to may.becomes) is in
    let has = stands.made makes path among in
    not_there (file_at files path) has.bytes none has.stands

done_stays : (records : Records) (files : Files) (id : TaskId) (y : QueueFile) → MayBecome records files (Done id) y → ⊥
done_stays records files id (Record n) h = h
done_stays records files id (Seal n) h = h
done_stays records files id (Queued name) h = h
done_stays records files id (Dead other) h = h
done_stays records files id (Done other) h = h

-- a move of a done name
pub done_again : (read : Reader) (q : List ℕ) (files : Files) (id : TaskId) (to : List ℕ) → task_fits id ≡ true → Allowed read q files (act.Move (path_of q (Done id)) to) → ⊥
done_again read q files id to fit may =
    done_stays (stages_in read q files) files id may.other
    (becomes_as (stages_in read q files) files may.name may.other (Done id) may.other (path_is q may.name (Done id) (holds q files may.name may.there).fit fit (sym may.from_is)) refl may.becomes)

-- ---- puts of files of the queue

-- the file of the queue that such a put puts
data IsPutOf (read : Reader) (q : List ℕ) (files : Files) (bytes : List ℕ) (x : QueueFile) : Type 0 where
  of_record : (u : PutsRecord read (queue_of q files) q files (path_of q x) bytes) → Record u.number ≡ x → IsPutOf read q files bytes x
  of_task : (u : PutsTask (stages_in read q files) (queue_of q files) q (path_of q x) bytes) → Queued (fresh_name (task_id u.number u.task)) ≡ x → IsPutOf read q files bytes x
  of_seal : (u : PutsSeal (stages_in read q files) (queue_of q files) q files (path_of q x) bytes) → Seal u.number ≡ x → IsPutOf read q files bytes x

put_of : (read : Reader) → KindLaws read → (q : List ℕ) (files : Files) (bytes : List ℕ) (x : QueueFile) → Sound read q files → fits x ≡ true
    → MayPut read (queue_of q files) q files (path_of q x) bytes → IsPutOf read q files bytes x
put_of read kinds q files bytes x sound fit may = by_kind may
  where
    laws : KeepLaws (stages_in read q files)
    laws = keep_laws read kinds (queue_of q files)

    by_kind : MayPut read (queue_of q files) q files (path_of q x) bytes → IsPutOf read q files bytes x
    by_kind (an_output u) = absurd (output_apart q (stages_in read q files) files (path_of q x) bytes laws sound.stages u x refl)
    by_kind (an_info u) = absurd (info_apart q (stages_in read q files) (queue_of q files) (path_of q x) bytes sound.stages u x refl)
    by_kind (a_record u) = of_record u (path_is q (Record u.number) x (record_fit u.number u.few) fit (sym u.path_is))
    by_kind (a_task u) = of_task u (path_is q (Queued (fresh_name (task_id u.number u.task))) x (task_fit read q files u.number u.task u.stage laws u.last.is u.below) fit (sym u.path_is))
    by_kind (a_seal u) = of_seal u (path_is q (Seal u.number) x (seal_fit read q files u.number u.stage u.last.is) fit (sym u.path_is))

-- a seal while a task has no name
pub sealed_too_early : (read : Reader) → KindLaws read → (q : List ℕ) (files : Files) (bytes : List ℕ) (n k : ℕ) (s : Facts) → Sound read q files
    → stages_in read q files n ≡ Some s → k < s.tasks → (Named (queue_of q files) (task_id n k) → ⊥) → Allowed read q files (act.Put (path_of q (Seal n)) bytes) → ⊥
sealed_too_early read kinds q files bytes n k s sound is below unnamed may = by_kind (put_of read kinds q files bytes (Seal n) sound (seal_fit read q files n s is) may)
  where
    seal_is : (m : ℕ) → Seal m ≡ Seal n → m ≡ n
    seal_is m e = cc

    no_record : (m : ℕ) → Record m ≡ Seal n → ⊥
    no_record m e = absurd (cc)

    no_task : (name : QueueName) → Queued name ≡ Seal n → ⊥
    no_task name e = absurd (cc)

    by_kind : IsPutOf read q files bytes (Seal n) → ⊥
    by_kind (of_record u e) = no_record u.number e
    by_kind (of_task u e) = no_task (fresh_name (task_id u.number u.task)) e
    by_kind (of_seal u e) =
        let stage : s ≡ u.stage = one_stage (stages_in read q files) n u.number s u.stage (sym (seal_is u.number e)) is u.last.is in
        unnamed (subst (λ m. Named (queue_of q files) (task_id m k)) (seal_is u.number e) (u.named k (subst (λ (t : Facts). k < t.tasks) stage below)))

-- a record while one before it is not sealed
pub recorded_too_early : (read : Reader) → KindLaws read → (q : List ℕ) (files : Files) (bytes : List ℕ) (n m : ℕ) → Sound read q files → n < m → m < 10 ^ 4
    → queue_of q files (Seal n) ≡ None → Allowed read q files (act.Put (path_of q (Record m)) bytes) → ⊥
recorded_too_early read kinds q files bytes n m sound less few unsealed may = by_kind (put_of read kinds q files bytes (Record m) sound (record_fit m few) may)
  where
    record_is : (l : ℕ) → Record l ≡ Record m → l ≡ m
    record_is l e = cc

    no_task : (name : QueueName) → Queued name ≡ Record m → ⊥
    no_task name e = absurd (cc)

    no_seal : (l : ℕ) → Seal l ≡ Record m → ⊥
    no_seal l e = absurd (cc)

    by_kind : IsPutOf read q files bytes (Record m) → ⊥
    by_kind (of_record u e) = none_there (queue_of q files (Seal n)) (u.before n (omega (arith, less, record_is u.number e))).1 unsealed
    by_kind (of_task u e) = no_task (fresh_name (task_id u.number u.task)) e
    by_kind (of_seal u e) = no_seal u.number e

-- a lease by a copy: the put of a name that was leased before
pub leased_by_copy : (read : Reader) → KindLaws read → (q : List ℕ) (files : Files) (bytes : List ℕ) (name : QueueName) → Sound read q files → queue_fits name ≡ true → 1 ≤ name.attempt
    → Allowed read q files (act.Put (path_of q (Queued name)) bytes) → ⊥
leased_by_copy read kinds q files bytes name sound fit leased may = by_kind (put_of read kinds q files bytes (Queued name) sound fit may)
  where
    name_is : (other : QueueName) → Queued other ≡ Queued name → other.attempt ≡ name.attempt
    name_is other e = let names : other ≡ name = cc in ap (λ (x : QueueName). x.attempt) names

    no_record : (m : ℕ) → Record m ≡ Queued name → ⊥
    no_record m e = absurd (cc)

    no_seal : (m : ℕ) → Seal m ≡ Queued name → ⊥
    no_seal m e = absurd (cc)

    by_kind : IsPutOf read q files bytes (Queued name) → ⊥
    by_kind (of_record u e) = no_record u.number e
    by_kind (of_task u e) = let never : 0 ≡ name.attempt = name_is (fresh_name (task_id u.number u.task)) e in omega arith
    by_kind (of_seal u e) = no_seal u.number e

-- ---- puts of outputs, and removals

-- a text at a path of a stage that is not the wanted one
pub wrong_text : (read : Reader) → KindLaws read → (q : List ℕ) (files : Files) (path bytes : List ℕ) (n : ℕ) (s : Facts) → Sound read q files
    → stages_in read q files n ≡ Some s → s.removes ≡ false → IsPath s path → (s.wanted (file_at files) path ≡ Some bytes → ⊥) → Allowed read q files (act.Put path bytes) → ⊥
wrong_text read kinds q files path bytes n s sound is makes path_of_s unwanted may = by_kind may
  where
    laws : KeepLaws (stages_in read q files)
    laws = keep_laws read kinds (queue_of q files)

    lies : LiesInOne s.outputs path
    lies = (laws n s is).path_in makes path path_of_s

    no_queue_file : (x : QueueFile) → path ≡ path_of q x → ⊥
    no_queue_file x e = no_queue_path q lies.dir path x ((sound.stages.outside n s is).outputs lies.dir lies.one) lies.lies e

    no_info : (u : PutsInfo (stages_in read q files) (queue_of q files) path bytes) → (n ≡ u.number) ⊎ (n ≡ u.number → ⊥) → ⊥
    no_info u (inl e) = (laws u.number u.stage u.last.is).info_apart u.info u.info_is
        (subst (λ t. LiesInOne t.outputs u.info.path) (one_stage (stages_in read q files) n u.number s u.stage e is u.last.is) (subst (LiesInOne s.outputs) u.path_is lies))
    no_info u (inr differ) = (sound.stages.apart n u.number s u.stage differ is u.last.is).other_info u.info u.info_is (subst (LiesInOne s.outputs) u.path_is lies)

    by_kind : MayPut read (queue_of q files) q files path bytes → ⊥
    by_kind (an_output u) =
        let owner : u.stage ≡ s = same_owner q (stages_in read q files) sound.stages u.number n u.stage s u.is is path (put_lies (stages_in read q files) files path bytes laws u) lies in
        unwanted (subst (λ t. t.wanted (file_at files) path ≡ Some bytes) owner u.text)
    by_kind (a_record u) = no_queue_file (Record u.number) u.path_is
    by_kind (an_info u) = no_info u (cases_eq n u.number)
    by_kind (a_task u) = no_queue_file (Queued (fresh_name (task_id u.number u.task))) u.path_is
    by_kind (a_seal u) = no_queue_file (Seal u.number) u.path_is

-- the removal of a file of the queue
pub name_removed : (read : Reader) → KindLaws read → (q : List ℕ) (files : Files) (x : QueueFile) → Sound read q files → Allowed read q files (act.Remove (path_of q x)) → ⊥
name_removed read kinds q files x sound may =
    removal_apart q (stages_in read q files) (path_of q x) (keep_laws read kinds (queue_of q files)) sound.stages may x refl
