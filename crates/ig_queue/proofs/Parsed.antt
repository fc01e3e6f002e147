-- Names that are read field by field.
use Rattle.std.proofs.Common.{◌≡◌, ◌≢◌, ◌<◌, ℕ, ◌^◌, true, List, [], ◌∷◌, ◌++◌, codes, sym, ◌∙◌}
use Rattle.std.proofs.lemmas.List.{append_cancel_left}
use Rattle.ig_space.specs.declared.task_id.TaskId.{TaskId}
use Rattle.ig_defs.specs.declared.queue_name.QueueName.{QueueName}
use Rattle.ig_defs.specs.QueueNames.{digits, task_fits, task_file, queue_fits, queue_file}
use Rattle.ig_defs.specs.QueueNameLaws.{digits-first, IsTask-fits, IsName-fits}

-- what the text says of a field it says once
pub field_same : (len v w : ℕ) (mark text a b : List ℕ) → v < 10 ^ len → w < 10 ^ len → text ≡ digits len v ++ (mark ++ a) → text ≡ digits len w ++ (mark ++ b) → a ≡ b
field_same len v w mark text a b small least is e =
    append_cancel_left mark a b (digits-first len v w (mark ++ a) (mark ++ b) small least (sym is ∙ e)).1

-- ---- a task that is done or dead
pub task_is : (text r1 r2 : List ℕ) (stage task : ℕ) → stage < 10 ^ 4 → task < 10 ^ 6
    → text ≡ digits 4 stage ++ (45 ∷ [] ++ r1) → r1 ≡ digits 6 task ++ (codes ".json" ++ r2) → r2 ≡ []
    → (id : TaskId) → task_fits id ≡ true → text ≡ task_file id → record { stage = stage; task = task } ≡ id
task_is text r1 r2 stage task small least is then ended id fits e =
    let bounds = IsTask-fits id fits in
    let first = digits-first 4 stage id.stage (45 ∷ r1) (45 ∷ (digits 6 id.task ++ codes ".json")) small bounds.stage (sym is ∙ e) in
    let next = digits-first 6 task id.task (codes ".json" ++ r2) (codes ".json") least bounds.task (sym then ∙ append_cancel_left (45 ∷ []) _ _ first.1) in
    λ i. record { stage = first.0 i; task = next.0 i }

pub task_none : (text r1 : List ℕ) (stage : ℕ) → stage < 10 ^ 4 → text ≡ digits 4 stage ++ (45 ∷ [] ++ r1)
    → ((v : ℕ) (rest : List ℕ) → r1 ≢ digits 6 v ++ (codes ".json" ++ rest)) → (id : TaskId) → task_fits id ≡ true → text ≢ task_file id
task_none text r1 stage small is none id fits e =
    none id.task [] (field_same 4 stage id.stage (45 ∷ []) text r1 (digits 6 id.task ++ codes ".json") small (IsTask-fits id fits).stage is e)

-- ---- a task in the queue
abbrev task_part : QueueName → List ℕ
task_part name = digits 6 name.task ++ 45 ∷ (digits 3 name.attempt ++ codes ".json")

abbrev stage_part : QueueName → List ℕ
stage_part name = digits 4 name.stage ++ 45 ∷ task_part name

pub queue_is : (text r1 r2 r3 r4 : List ℕ) (visible stage task attempt : ℕ) → visible < 10 ^ 10 → stage < 10 ^ 4 → task < 10 ^ 6 → attempt < 10 ^ 3
    → text ≡ digits 10 visible ++ (45 ∷ 45 ∷ [] ++ r1) → r1 ≡ digits 4 stage ++ (45 ∷ [] ++ r2) → r2 ≡ digits 6 task ++ (45 ∷ [] ++ r3)
    → r3 ≡ digits 3 attempt ++ (codes ".json" ++ r4) → r4 ≡ [] → (name : QueueName) → queue_fits name ≡ true → text ≡ queue_file name
    → record { visible = visible; stage = stage; task = task; attempt = attempt } ≡ name
queue_is text r1 r2 r3 r4 visible stage task attempt a b c d e1 e2 e3 e4 ended name fits e =
    let bounds = IsName-fits name fits in
    let first = digits-first 10 visible name.visible (45 ∷ 45 ∷ r1) (45 ∷ 45 ∷ stage_part name) a bounds.visible (sym e1 ∙ e) in
    let second = digits-first 4 stage name.stage (45 ∷ r2) (45 ∷ task_part name) b bounds.stage (sym e2 ∙ append_cancel_left (45 ∷ 45 ∷ []) _ _ first.1) in
    let third = digits-first 6 task name.task (45 ∷ r3) (45 ∷ (digits 3 name.attempt ++ codes ".json")) c bounds.task (sym e3 ∙ append_cancel_left (45 ∷ []) _ _ second.1) in
    let last = digits-first 3 attempt name.attempt (codes ".json" ++ r4) (codes ".json") d bounds.attempt (sym e4 ∙ append_cancel_left (45 ∷ []) _ _ third.1) in
    λ i. record { visible = first.0 i; stage = second.0 i; task = third.0 i; attempt = last.0 i }

pub no_visible : (text : List ℕ) → ((v : ℕ) (rest : List ℕ) → text ≢ digits 10 v ++ (45 ∷ 45 ∷ [] ++ rest)) → (name : QueueName) → text ≢ queue_file name
no_visible text none name e = none name.visible (stage_part name) e

pub no_task : (text r1 r2 : List ℕ) (visible stage : ℕ) → visible < 10 ^ 10 → stage < 10 ^ 4
    → text ≡ digits 10 visible ++ (45 ∷ 45 ∷ [] ++ r1) → r1 ≡ digits 4 stage ++ (45 ∷ [] ++ r2)
    → ((v : ℕ) (rest : List ℕ) → r2 ≢ digits 6 v ++ (45 ∷ [] ++ rest)) → (name : QueueName) → queue_fits name ≡ true → text ≢ queue_file name
no_task text r1 r2 visible stage a b e1 e2 none name fits e =
    let bounds = IsName-fits name fits in
    let after : r1 ≡ stage_part name = field_same 10 visible name.visible (45 ∷ 45 ∷ []) text r1 (stage_part name) a bounds.visible e1 e in
    none name.task (digits 3 name.attempt ++ codes ".json") (field_same 4 stage name.stage (45 ∷ []) r1 r2 (task_part name) b bounds.stage e2 after)
