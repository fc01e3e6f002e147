-- The paths of the files of a queue, from their parts.
use Rattle.std.proofs.Common.{◌≡◌, ◌<◌, ◌^◌, ℕ, true, List, ◌∷◌, refl, ap, ◌∙◌, append_assoc, codes}
use Rattle.std.specs.Prelude.{nat_lt}
use Rattle.std.proofs.lemmas.Bool.{and_from, lt-ltb}
use Rattle.ig_space.specs.Path.{joined}
use Rattle.ig_space.specs.declared.task_id.TaskId.{TaskId}
use Rattle.ig_defs.specs.QueueNames.{queue_file, stage_file, task_file}
use Rattle.ig_defs.specs.declared.queue_name.QueueName.{QueueName}
use Rattle.ig_rule.specs.QueueFiles.{QueueFile, Record, Seal, Queued, Dead, Done, file_name, fits, folder, path_of}
use Rattle.ig_rule.specs.Rule.{fresh_name}
use Rattle.ig_rule.specs.Stages.{task_id}

-- the parts of the path of each sort of file
pub queued_folder : (name : QueueName) → folder (Queued name) ≡ codes "queue"
unfolding folder
queued_folder name = refl

pub queued_name : (name : QueueName) → file_name (Queued name) ≡ queue_file name
unfolding file_name
queued_name name = refl

pub dead_folder : (id : TaskId) → folder (Dead id) ≡ codes "dead"
unfolding folder
dead_folder id = refl

pub dead_name : (id : TaskId) → file_name (Dead id) ≡ task_file id
unfolding file_name
dead_name id = refl

pub done_folder : (id : TaskId) → folder (Done id) ≡ codes "done"
unfolding folder
done_folder id = refl

pub done_name : (id : TaskId) → file_name (Done id) ≡ task_file id
unfolding file_name
done_name id = refl

pub seal_folder : (n : ℕ) → folder (Seal n) ≡ codes "seals"
unfolding folder
seal_folder n = refl

pub seal_name : (n : ℕ) → file_name (Seal n) ≡ stage_file n
unfolding file_name
seal_name n = refl

-- its path is made of them
pub path_from : (q dir name : List ℕ) (x : QueueFile) → dir ≡ folder x → name ≡ file_name x → joined q (joined dir name) ≡ path_of q x
path_from q dir name x within is = ap (λ d. joined q (joined d name)) within ∙ ap (λ part. joined q (joined (folder x) part)) is

-- or its name in that directory
pub path_within : (q dir name : List ℕ) (x : QueueFile) → dir ≡ folder x → name ≡ file_name x → joined (joined q dir) name ≡ path_of q x
path_within q dir name x within is = append_assoc q (47 ∷ dir) (47 ∷ name) ∙ path_from q dir name x within is

-- so are those of each sort
pub record_path_is : (q name : List ℕ) (n : ℕ) → name ≡ stage_file n → joined (joined q (codes "stages")) name ≡ path_of q (Record n)
unfolding folder file_name
record_path_is q name n is = path_within q (codes "stages") name (Record n) refl is

pub seal_path_is : (q name : List ℕ) (n : ℕ) → name ≡ stage_file n → joined (joined q (codes "seals")) name ≡ path_of q (Seal n)
unfolding folder file_name
seal_path_is q name n is = path_within q (codes "seals") name (Seal n) refl is

pub queued_path_is : (q text : List ℕ) (name : QueueName) → text ≡ queue_file name → joined (joined q (codes "queue")) text ≡ path_of q (Queued name)
unfolding folder file_name
queued_path_is q text name is = path_within q (codes "queue") text (Queued name) refl is

pub dead_path_is : (q text : List ℕ) (id : TaskId) → text ≡ task_file id → joined (joined q (codes "dead")) text ≡ path_of q (Dead id)
unfolding folder file_name
dead_path_is q text id is = path_within q (codes "dead") text (Dead id) refl is

pub done_path_is : (q text : List ℕ) (id : TaskId) → text ≡ task_file id → joined (joined q (codes "done")) text ≡ path_of q (Done id)
unfolding folder file_name
done_path_is q text id is = path_within q (codes "done") text (Done id) refl is

-- ---- numbers with their places

pub stage_fit : (n : ℕ) → n < 10000 → nat_lt n (10 ^ 4) ≡ true
stage_fit n few = lt-ltb n (10 ^ 4) few

pub task_fit : (n k : ℕ) → n < 10000 → k < 1000000 → fits (Done (task_id n k)) ≡ true
task_fit n k few small = and_from (nat_lt n (10 ^ 4)) (nat_lt k (10 ^ 6)) (stage_fit n few) (lt-ltb k (10 ^ 6) small)

pub fresh_fit : (n k : ℕ) → n < 10000 → k < 1000000 → fits (Queued (fresh_name (task_id n k))) ≡ true
fresh_fit n k few small = and_from (nat_lt 0 (10 ^ 10)) _ refl (and_from _ (nat_lt 0 (10 ^ 3)) (task_fit n k few small) refl)
