-- What a drained stage says of the files.
use Rattle.std.specs.Prelude.{◌≡◌, ℕ, false, List, Option, None, Some, IsSome, refl}
use Rattle.std.proofs.Common.{ap, sym, subst, ◌∙◌}
use Rattle.ig_space.specs.declared.task_id.TaskId.{TaskId}
use Rattle.ig_defs.specs.Files.{Files, file_at}
use Rattle.ig_defs.specs.QueueNames.{task_of}
use Rattle.ig_rule.specs.QueueFiles.{QueueFile, Record, Seal, Queued, Dead, Done, named_task, Queue, queue_of}
use Rattle.ig_rule.specs.Facts.{Facts, Reader, IsPath, LiesInOne, KindLaws}
use Rattle.ig_rule.specs.Stages.{stages_in, task_id, Clear, HasWanted, Finished, Drained}
use Rattle.ig_rule.specs.Sound.{Sound}
use Rattle.ig_rule.specs.Keeps.{keep_laws}
use Rattle.ig_rule.specs.SoundFiles.{none_there, some_there}

id_is : (x y : TaskId) → ◌≡◌ {A = Option TaskId} (Some x) (Some y) → x ≡ y
id_is x y e = cc

none_of : (id : TaskId) → ◌≡◌ {A = Option TaskId} None (Some id) → ⊥
none_of id e = absurd (cc)

-- a name of a task that is neither queued nor dead is its done name
done_name : (queue : Queue) (n k : ℕ) → Drained queue n → (name : QueueFile) → named_task name ≡ Some (task_id n k) → IsSome (queue name) → IsSome (queue (Done (task_id n k)))
done_name queue n k drained (Done id) of there = subst (λ t. IsSome (queue (Done t))) (id_is id (task_id n k) of) there
done_name queue n k drained (Queued name) of there =
    absurd (none_there (queue (Queued name)) there (drained.none_queued name (ap (λ (t : TaskId). t.stage) (id_is (task_of name) (task_id n k) of))))
done_name queue n k drained (Dead id) of there =
    absurd (none_there (queue (Dead id)) there (drained.none_dead id (ap (λ (t : TaskId). t.stage) (id_is id (task_id n k) of))))
done_name queue n k drained (Record m) of there = absurd (none_of (task_id n k) of)
done_name queue n k drained (Seal m) of there = absurd (none_of (task_id n k) of)

-- A drained stage is finished.
pub drained_finished : (read : Reader) (q : List ℕ) (files : Files) (n : ℕ) (s : Facts) → Sound read q files → stages_in read q files n ≡ Some s
    → Drained (queue_of q files) n → Finished (queue_of q files) n s
drained_finished read q files n s sound is drained k below =
    let named = sound.names.named n k s is drained.sealed below in
    done_name (queue_of q files) n k drained named.name named.is_of named.there

-- Each path of a finished stage that is not under removal has its wanted text.
pub finished_has : (read : Reader) (q : List ℕ) (files : Files) (n : ℕ) (s : Facts) → Sound read q files → stages_in read q files n ≡ Some s
    → Finished (queue_of q files) n s → Clear (stages_in read q files) n s → s.removes ≡ false → (path : List ℕ) → IsPath s path → HasWanted files s path
finished_has read q files n s sound is finished clear makes path path_is =
    (sound.outputs.done n path_is.task s is clear (finished path_is.task path_is.below)).made makes path path_is.among

-- and its output directories hold the wanted texts and nothing else
pub finished_exact : (read : Reader) → KindLaws read → (q : List ℕ) (files : Files) (n : ℕ) (s : Facts) → Sound read q files → stages_in read q files n ≡ Some s
    → Finished (queue_of q files) n s → Clear (stages_in read q files) n s → s.removes ≡ false
    → (path : List ℕ) → LiesInOne s.outputs path → file_at files path ≡ s.wanted (file_at files) path
finished_exact read kinds q files n s sound is finished clear makes path lies = by_file (file_at files path) (s.wanted (file_at files) path) refl refl
  where
    by_file : (found wanted : Option (List ℕ)) → file_at files path ≡ found → s.wanted (file_at files) path ≡ wanted → found ≡ wanted
    by_file (Some bytes) wanted a b = sym (sound.outputs.outputs n s is makes clear.source path bytes lies a).text ∙ b
    by_file None None a b = refl
    by_file None (Some bytes) a b =
        let has = finished_has read q files n s sound is finished clear makes path ((keep_laws read kinds (queue_of q files) n s is).wanted_at (file_at files) path bytes b) in
        absurd (not_both has.bytes (sym a ∙ has.stands))
      where
        not_both : (there : List ℕ) → ◌≡◌ {A = Option (List ℕ)} None (Some there) → ⊥
        not_both there e = absurd (cc)

-- The output directories of a drained stage that is not under removal hold exactly the wanted texts.
pub drained_exact : (read : Reader) → KindLaws read → (q : List ℕ) (files : Files) (n : ℕ) (s : Facts) → Sound read q files → stages_in read q files n ≡ Some s
    → Drained (queue_of q files) n → Clear (stages_in read q files) n s → s.removes ≡ false
    → (path : List ℕ) → LiesInOne s.outputs path → file_at files path ≡ s.wanted (file_at files) path
drained_exact read kinds q files n s sound is drained clear makes =
    finished_exact read kinds q files n s sound is (drained_finished read q files n s sound is drained) clear makes

-- Each of its paths has a wanted text.
pub drained_defined : (read : Reader) (q : List ℕ) (files : Files) (n : ℕ) (s : Facts) → Sound read q files → stages_in read q files n ≡ Some s
    → Drained (queue_of q files) n → Clear (stages_in read q files) n s → s.removes ≡ false → (path : List ℕ) → IsPath s path → IsSome (s.wanted (file_at files) path)
drained_defined read q files n s sound is drained clear makes path path_is =
    let has = finished_has read q files n s sound is (drained_finished read q files n s sound is drained) clear makes path path_is in
    some_there (s.wanted (file_at files) path) has.bytes has.wanted
