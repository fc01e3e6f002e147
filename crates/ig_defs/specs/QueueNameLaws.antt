-- The names of the files of a queue are lawful, and different for different names.
use Rattle.std.specs.Prelude.{◌≡◌, ◌<◌, ℕ, zero, suc, ◌+◌, ◌/◌, ◌%◌, ◌^◌, true, not, ◌&&◌, ◌||◌, ◌==◌, nat_lt, List, [], ◌∷◌, ◌++◌, length, codes, refl}
use Rattle.std.proofs.Common.{arith, ap, sym, ◌∙◌, length-append, true≢false}
use Rattle.std.proofs.lemmas.Bool.Decides.{nat_tests}
use Rattle.std.proofs.lemmas.Bool.{and_parts, and_from, le-leb, ltb-true}
use Rattle.std.proofs.lemmas.List.{same_from_push, append_cancel_left}
use Rattle.std.proofs.lemmas.List.Folds.{list_all-append}
use Rattle.std.specs.List.{list_all}
use Rattle.ig_space.specs.declared.task_id.TaskId.{TaskId}
use Rattle.ig_space.specs.Chunk.{begins_with_digit}
use Rattle.ig_space.specs.Path.{is_segment, is_segment_byte, within}
use Rattle.ig_defs.specs.declared.queue_name.QueueName.{QueueName}
use Rattle.ig_defs.specs.QueueNames.{digits, stage_fits, stage_file, task_fits, task_file, task_of, queue_fits, queue_file}

-- ---- digits
pub length-digits : (n v : ℕ) → length (digits n v) ≡ n
length-digits zero v = refl
length-digits (suc n) v = length-append (digits n (v / 10)) ((48 + v % 10) ∷ []) ∙ omega (arith, length-digits n (v / 10))

tenth : (n v : ℕ) → v < 10 ^ suc n → v / 10 < 10 ^ n
tenth n v small = omega (arith, small)

-- digits of one length write one number
pub digits-same : (n v w : ℕ) → v < 10 ^ n → w < 10 ^ n → digits n v ≡ digits n w → v ≡ w
digits-same zero v w small least e = omega (arith, small, least)
digits-same (suc n) v w small least e =
    let parts = same_from_push (digits n (v / 10)) (digits n (w / 10)) (48 + v % 10) (48 + w % 10) e in
    let high : v / 10 ≡ w / 10 = digits-same n (v / 10) (w / 10) (tenth n v small) (tenth n w least) parts.0 in
    omega (arith, high, parts.1)

-- two texts that begin with parts of one length
pub same_parts : (xs ys us vs : List ℕ) → length xs ≡ length ys → xs ++ us ≡ ys ++ vs → (xs ≡ ys) × (us ≡ vs)
same_parts [] [] us vs long e = (refl, e)
same_parts [] (y ∷ ys) us vs long e = absurd (omega (arith, long))
same_parts (x ∷ xs) [] us vs long e = absurd (omega (arith, long))
same_parts (x ∷ xs) (y ∷ ys) us vs long e =
    let rest = same_parts xs ys us vs (omega (arith, long)) cc in
    (ap (λ t. x ∷ t) rest.0 ∙ ap (λ c. c ∷ ys) cc, rest.1)

-- two texts that begin with digits of one length
pub digits-first : (n v w : ℕ) (us vs : List ℕ) → v < 10 ^ n → w < 10 ^ n → digits n v ++ us ≡ digits n w ++ vs → (v ≡ w) × (us ≡ vs)
digits-first n v w us vs small least e =
    let parts = same_parts (digits n v) (digits n w) us vs (length-digits n v ∙ sym (length-digits n w)) e in
    (digits-same n v w small least parts.0, parts.1)

-- ---- the files of different names differ
stage_small : (stage : ℕ) → stage_fits stage ≡ true → stage < 10 ^ 4
stage_small stage fits = ltb-true stage (10 ^ 4) fits

pub stage_file-same : (v w : ℕ) → stage_fits v ≡ true → stage_fits w ≡ true → stage_file v ≡ stage_file w → v ≡ w
stage_file-same v w fits meets e = (digits-first 4 v w (codes ".json") (codes ".json") (stage_small v fits) (stage_small w meets) e).0

-- the bounds of a task's numbers
pub record IsTask (id : TaskId) : Type 0 where
  pub stage : id.stage < 10 ^ 4
  pub task : id.task < 10 ^ 6

pub IsTask-fits : (id : TaskId) → task_fits id ≡ true → IsTask id
IsTask-fits id fits =
    let parts = and_parts (stage_fits id.stage) (nat_lt id.task (10 ^ 6)) fits in
    record { stage = stage_small id.stage parts.0; task = ltb-true id.task (10 ^ 6) parts.1 }

pub task_file-same : (v w : TaskId) → task_fits v ≡ true → task_fits w ≡ true → task_file v ≡ task_file w → v ≡ w
task_file-same v w fits meets e =
    let a = IsTask-fits v fits in
    let b = IsTask-fits w meets in
    let first = digits-first 4 v.stage w.stage (45 ∷ (digits 6 v.task ++ codes ".json")) (45 ∷ (digits 6 w.task ++ codes ".json")) a.stage b.stage e in
    let next = digits-first 6 v.task w.task (codes ".json") (codes ".json") a.task b.task (append_cancel_left (45 ∷ []) _ _ first.1) in
    λ i. record { stage = first.0 i; task = next.0 i }

-- the bounds of a name's numbers
pub record IsName (name : QueueName) : Type 0 where
  pub visible : name.visible < 10 ^ 10
  pub stage : name.stage < 10 ^ 4
  pub task : name.task < 10 ^ 6
  pub attempt : name.attempt < 10 ^ 3

pub IsName-fits : (name : QueueName) → queue_fits name ≡ true → IsName name
IsName-fits name fits =
    let parts = and_parts (nat_lt name.visible (10 ^ 10)) (task_fits (task_of name) && nat_lt name.attempt (10 ^ 3)) fits in
    let later = and_parts (task_fits (task_of name)) (nat_lt name.attempt (10 ^ 3)) parts.1 in
    let task = IsTask-fits (task_of name) later.0 in
    record {
      visible = ltb-true name.visible (10 ^ 10) parts.0;
      stage = task.stage;
      task = task.task;
      attempt = ltb-true name.attempt (10 ^ 3) later.1;
    }

-- what comes after the time, after the stage and after the task
attempt_part : QueueName → List ℕ
attempt_part name = digits 3 name.attempt ++ codes ".json"

task_part : QueueName → List ℕ
task_part name = digits 6 name.task ++ 45 ∷ attempt_part name

stage_part : QueueName → List ℕ
stage_part name = digits 4 name.stage ++ 45 ∷ task_part name

pub queue_file-same : (v w : QueueName) → queue_fits v ≡ true → queue_fits w ≡ true → queue_file v ≡ queue_file w → v ≡ w
unfolding attempt_part task_part stage_part
queue_file-same v w fits meets e =
    let a = IsName-fits v fits in
    let b = IsName-fits w meets in
    let visible = digits-first 10 v.visible w.visible (45 ∷ 45 ∷ stage_part v) (45 ∷ 45 ∷ stage_part w) a.visible b.visible e in
    let stage = digits-first 4 v.stage w.stage (45 ∷ task_part v) (45 ∷ task_part w) a.stage b.stage (append_cancel_left (45 ∷ 45 ∷ []) _ _ visible.1) in
    let task = digits-first 6 v.task w.task (45 ∷ attempt_part v) (45 ∷ attempt_part w) a.task b.task (append_cancel_left (45 ∷ []) _ _ stage.1) in
    let attempt = digits-first 3 v.attempt w.attempt (codes ".json") (codes ".json") a.attempt b.attempt (append_cancel_left (45 ∷ []) _ _ task.1) in
    λ i. record { visible = visible.0 i; stage = stage.0 i; task = task.0 i; attempt = attempt.0 i }

-- ---- their lengths
pub length-stage_file : (stage : ℕ) → length (stage_file stage) ≡ 9
length-stage_file stage = length-append (digits 4 stage) (codes ".json") ∙ omega (arith, length-digits 4 stage)

pub length-task_file : (id : TaskId) → length (task_file id) ≡ 16
length-task_file id =
    let later : length (digits 6 id.task ++ codes ".json") ≡ 11 = length-append (digits 6 id.task) (codes ".json") ∙ omega (arith, length-digits 6 id.task) in
    length-append (digits 4 id.stage) (45 ∷ (digits 6 id.task ++ codes ".json")) ∙ omega (arith, later, length-digits 4 id.stage)

pub length-queue_file : (name : QueueName) → length (queue_file name) ≡ 32
unfolding attempt_part task_part stage_part
length-queue_file name =
    let attempt : length (attempt_part name) ≡ 8 = length-append (digits 3 name.attempt) (codes ".json") ∙ omega (arith, length-digits 3 name.attempt) in
    let task : length (task_part name) ≡ 15 = length-append (digits 6 name.task) (45 ∷ attempt_part name) ∙ omega (arith, attempt, length-digits 6 name.task) in
    let stage : length (stage_part name) ≡ 20 = length-append (digits 4 name.stage) (45 ∷ task_part name) ∙ omega (arith, task, length-digits 4 name.stage) in
    length-append (digits 10 name.visible) (45 ∷ 45 ∷ stage_part name) ∙ omega (arith, stage, length-digits 10 name.visible)

-- ---- they are segments of paths, which begin with a digit
is_digit : (d : ℕ) → d < 10 → within 48 57 (48 + d) ≡ true
is_digit d small = and_from _ _ (le-leb 48 (48 + d) (omega arith)) (le-leb (48 + d) 57 (omega (arith, small)))

is_byte : (c : ℕ) → within 48 57 c ≡ true → is_segment_byte c ≡ true
is_byte c digit = grind (arith, nat_tests)

last_digit : (v : ℕ) → v % 10 < 10
last_digit v = omega arith

-- each byte may stand in a segment
pub are_bytes : List ℕ → Type 0
are_bytes text = list_all is_segment_byte text ≡ true

pub are_bytes-from : (text : List ℕ) → list_all is_segment_byte text ≡ true → are_bytes text
unfolding are_bytes
are_bytes-from text h = h

are_bytes-append : (xs ys : List ℕ) → are_bytes xs → are_bytes ys → are_bytes (xs ++ ys)
unfolding are_bytes
are_bytes-append xs ys first rest = list_all-append is_segment_byte xs ys ∙ and_from _ _ first rest

are_bytes-digits : (n v : ℕ) → are_bytes (digits n v)
unfolding are_bytes
are_bytes-digits zero v = refl
are_bytes-digits (suc n) v =
    are_bytes-append (digits n (v / 10)) ((48 + v % 10) ∷ []) (are_bytes-digits n (v / 10))
    (and_from _ _ (is_byte (48 + v % 10) (is_digit (v % 10) (last_digit v))) refl)

begins-append : (xs ys : List ℕ) → begins_with_digit xs ≡ true → begins_with_digit (xs ++ ys) ≡ true
begins-append [] ys begins = absurd (true≢false (sym begins))
begins-append (x ∷ xs) ys begins = begins

begins-digits : (n v : ℕ) → begins_with_digit (digits (suc n) v) ≡ true
begins-digits zero v = is_digit (v % 10) (last_digit v)
begins-digits (suc n) v = begins-append (digits (suc n) (v / 10)) ((48 + v % 10) ∷ []) (begins-digits n (v / 10))

opens : (c : ℕ) → within 48 57 c ≡ true → not (c == 46 || c == 45) ≡ true
opens c digit = grind (arith, nat_tests)

is_segment-from : (text : List ℕ) → begins_with_digit text ≡ true → are_bytes text → is_segment text ≡ true
unfolding are_bytes
is_segment-from [] begins bytes = absurd (true≢false (sym begins))
is_segment-from (c ∷ cs) begins bytes = and_from _ _ (opens c begins) bytes

pub is_segment-digits : (n v : ℕ) (rest : List ℕ) → are_bytes rest → is_segment (digits (suc n) v ++ rest) ≡ true
is_segment-digits n v rest bytes =
    is_segment-from (digits (suc n) v ++ rest) (begins-append (digits (suc n) v) rest (begins-digits n v))
    (are_bytes-append (digits (suc n) v) rest (are_bytes-digits (suc n) v) bytes)

-- digits and then bytes of names
field : (n v : ℕ) (rest : List ℕ) → are_bytes rest → are_bytes (digits n v ++ rest)
field n v rest bytes = are_bytes-append (digits n v) rest (are_bytes-digits n v) bytes

ending : are_bytes (codes ".json")
unfolding are_bytes
ending = refl

after_mark : (rest : List ℕ) → are_bytes rest → are_bytes (45 ∷ rest)
unfolding are_bytes
after_mark rest bytes = bytes

pub is_segment-stage_file : (stage : ℕ) → is_segment (stage_file stage) ≡ true
is_segment-stage_file stage = is_segment-digits 3 stage (codes ".json") ending

pub is_segment-task_file : (id : TaskId) → is_segment (task_file id) ≡ true
is_segment-task_file id = is_segment-digits 3 id.stage _ (after_mark _ (field 6 id.task _ ending))

pub is_segment-queue_file : (name : QueueName) → is_segment (queue_file name) ≡ true
is_segment-queue_file name =
    is_segment-digits 9 name.visible _
    (after_mark _ (after_mark _ (field 4 name.stage _ (after_mark _ (field 6 name.task _ (after_mark _ (field 3 name.attempt _ ending)))))))
