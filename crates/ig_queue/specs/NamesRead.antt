-- A text that is read as a name of a task writes it.
use Rattle.std.proofs.Common.{arith, ◌≡◌, ◌≢◌, ◌<◌, ◌+◌, ◌-◌, ◌*◌, ◌/◌, ◌%◌, ◌^◌, ◌&&◌, ℕ, zero, suc, Bool, true, false, if◌then◌else◌, List, [], ◌∷◌, ◌++◌, Option, None, Some, IfSome, IsNone, codes, drop, take, refl, ap, sym, ◌∙◌}
use Rattle.std.proofs.Math.Seq.{drop-append-add, take-append_seam}
use Rattle.std.proofs.lemmas.Bool.{and_parts, and_from}
use Rattle.std.proofs.lemmas.List.Sums.{fold-append}
use Rattle.std.proofs.lemmas.Slice.Eq.{bytes_eq-Decides}
use Rattle.std.specs.Str.{bytes_eq}
use Rattle.ig_space.specs.declared.task_id.TaskId.{TaskId}
use Rattle.ig_defs.specs.declared.queue_name.QueueName.{QueueName}
use Rattle.ig_defs.specs.QueueNames.{digits, queue_file, queue_fits, task_file, task_fits}
use Rattle.ig_defs.specs.QueueNameLaws.{IsName-fits, IsTask-fits, length-digits}
use Rattle.ig_queue.specs.Progress.{fields, name_in, number}
use Rattle.ig_queue.specs.TaskNames.{task_fields, task_in}

-- digits of a number write it
number-digits : (n v : ℕ) → v < 10 ^ n → number (digits n v) ≡ v
number-digits zero v small = omega (arith, small)
number-digits (suc n) v small =
    let high : number (digits n (v / 10)) ≡ v / 10 = number-digits n (v / 10) (omega (arith, small)) in
    fold-append _ 0 (digits n (v / 10)) ((48 + v % 10) ∷ []) ∙ ap (λ u. u * 10 + (48 + v % 10 - 48)) high ∙ omega arith

-- ---- a text that begins with digits
first_number : (n v : ℕ) (rest : List ℕ) → v < 10 ^ n → number (take n (digits n v ++ rest)) ≡ v
first_number n v rest small =
    ap (λ k. number (take k (digits n v ++ rest))) (sym (length-digits n v)) ∙ ap number (take-append_seam (digits n v) rest) ∙ number-digits n v small

past_digits : (n v k : ℕ) (rest : List ℕ) → drop (n + k) (digits n v ++ rest) ≡ drop k rest
past_digits n v k rest = ap (λ m. drop (m + k) (digits n v ++ rest)) (sym (length-digits n v)) ∙ drop-append-add (digits n v) rest k

-- ---- the name of a file
fields-written : (name : QueueName) → queue_fits name ≡ true → fields (queue_file name) ≡ name
fields-written name fits =
    let small = IsName-fits name fits in
    let last : List ℕ = digits 3 name.attempt ++ codes ".json" in
    let later : List ℕ = digits 6 name.task ++ 45 ∷ last in
    let rest : List ℕ = digits 4 name.stage ++ 45 ∷ later in
    let visible : number (take 10 (queue_file name)) ≡ name.visible = first_number 10 name.visible (45 ∷ 45 ∷ rest) small.visible in
    let after_visible : drop 12 (queue_file name) ≡ rest = past_digits 10 name.visible 2 (45 ∷ 45 ∷ rest) in
    let after_stage : drop 17 (queue_file name) ≡ later = past_digits 10 name.visible 7 (45 ∷ 45 ∷ rest) ∙ past_digits 4 name.stage 1 (45 ∷ later) in
    let after_task : drop 24 (queue_file name) ≡ last =
    past_digits 10 name.visible 14 (45 ∷ 45 ∷ rest) ∙ past_digits 4 name.stage 8 (45 ∷ later) ∙ past_digits 6 name.task 1 (45 ∷ last) in
    let stage : number (take 4 (drop 12 (queue_file name))) ≡ name.stage = ap (λ text. number (take 4 text)) after_visible ∙ first_number 4 name.stage (45 ∷ later) small.stage in
    let task : number (take 6 (drop 17 (queue_file name))) ≡ name.task = ap (λ text. number (take 6 text)) after_stage ∙ first_number 6 name.task (45 ∷ last) small.task in
    let attempt : number (take 3 (drop 24 (queue_file name))) ≡ name.attempt = ap (λ text. number (take 3 text)) after_task ∙ first_number 3 name.attempt (codes ".json") small.attempt in
    λ i. record { visible = visible i; stage = stage i; task = task i; attempt = attempt i }

-- ---- what a reader found
-- By the reader's answer: a text of which the numbers at their places write a thing that fits, and then that thing.
none_by : {A : Type 0} (fits : A → Bool) (file : A → List ℕ) (a : A) (text : List ℕ) (b : Bool) → (fits a && bytes_eq (file a) text) ≡ b → ((x : A) → fits x ≡ true → text ≢ file x)
    → None ≡ (if b then Some a else None)
none_by fits file a text true is none =
    let parts = and_parts (fits a) _ is in
    absurd (none a parts.0 (sym ((bytes_eq-Decides (file a) text).0 parts.1)))
none_by fits file a text false is none = refl

some_by : {A : Type 0} (fits : A → Bool) (file : A → List ℕ) (a x : A) (text : List ℕ) → a ≡ x → fits x ≡ true → text ≡ file x
    → (if fits a && bytes_eq (file a) text then Some a else None) ≡ Some x
some_by fits file a x text same fitting is =
    ap (λ b. if b then Some a else None)
    (and_from (fits a) _ (ap fits same ∙ fitting) ((bytes_eq-Decides (file a) text).1 (ap file same ∙ sym is))) ∙ ap Some same

-- What a reader found is the name that the text writes.
pub name_in-found : (text : List ℕ) (found : Option QueueName) → IfSome found (λ name. (queue_fits name ≡ true) × (text ≡ queue_file name))
    → (IsNone found → (name : QueueName) → queue_fits name ≡ true → text ≢ queue_file name) → found ≡ name_in text
unfolding name_in
name_in-found text (Some name) some none = sym (some_by queue_fits queue_file (fields text) name text (ap fields some.1 ∙ fields-written name some.0) some.0 some.1)
name_in-found text None some none = none_by queue_fits queue_file (fields text) text _ refl (none refl)

-- ---- the name of a task that is done or dead
task_fields-written : (id : TaskId) → task_fits id ≡ true → task_fields (task_file id) ≡ id
task_fields-written id fits =
    let small = IsTask-fits id fits in
    let last : List ℕ = digits 6 id.task ++ codes ".json" in
    let after_stage : drop 5 (task_file id) ≡ last = past_digits 4 id.stage 1 (45 ∷ last) in
    let stage : number (take 4 (task_file id)) ≡ id.stage = first_number 4 id.stage (45 ∷ last) small.stage in
    let task : number (take 6 (drop 5 (task_file id))) ≡ id.task = ap (λ text. number (take 6 text)) after_stage ∙ first_number 6 id.task (codes ".json") small.task in
    λ i. record { stage = stage i; task = task i }

pub task_in-found : (text : List ℕ) (found : Option TaskId) → IfSome found (λ id. (task_fits id ≡ true) × (text ≡ task_file id))
    → (IsNone found → (id : TaskId) → task_fits id ≡ true → text ≢ task_file id) → found ≡ task_in text
unfolding task_in
task_in-found text (Some id) some none = sym (some_by task_fits task_file (task_fields text) id text (ap task_fields some.1 ∙ task_fields-written id some.0) some.0 some.1)
task_in-found text None some none = none_by task_fits task_file (task_fields text) text _ refl (none refl)
