-- The name that a file of the queue has, as a function of its text.
use Rattle.std.proofs.Common.{◌≡◌, ◌<◌, ◌^◌, ℕ, Bool, true, false, List, Option, None, Some, refl, ap, sym, subst, ◌∙◌}
use Rattle.std.proofs.lemmas.Slice.Eq.{bytes_eq-Decides}
use Rattle.std.specs.Str.{bytes_eq}
use Rattle.ig_defs.specs.declared.queue_name.QueueName.{QueueName}
use Rattle.ig_defs.specs.QueueNames.{queue_file, queue_fits}
use Rattle.ig_defs.specs.QueueNameLaws.{IsName-fits, queue_file-same}
use Rattle.ig_layer.specs.Faults.{first_of}
use Rattle.ig_meaning.specs.Lists.{first_of-from, first_of-is}

-- this name has the text
pub record IsNameOf (text : List ℕ) (name : QueueName) : Type 0 where
  pub fits : queue_fits name ≡ true
  pub is : queue_file name ≡ text

one_name : (text : List ℕ) (x y : QueueName) → IsNameOf text x → IsNameOf text y → y ≡ x
one_name text x y a b = queue_file-same y x b.fits a.fits (b.is ∙ sym a.is)

abbrev by_tests : Bool → Bool → QueueName → Option QueueName
by_tests true true name = Some name
by_tests fits same name = None

abbrev name_if : List ℕ → QueueName → Option QueueName
name_if text name = by_tests (queue_fits name) (bytes_eq (queue_file name) text) name

gives_by : (text : List ℕ) (name y : QueueName) (fits same : Bool) → queue_fits name ≡ fits → bytes_eq (queue_file name) text ≡ same → by_tests fits same name ≡ Some y → IsNameOf text y
gives_by text name y true true f e is = subst (IsNameOf text) (let so : name ≡ y = cc in so) (record { fits = f; is = (bytes_eq-Decides (queue_file name) text).0 e })
gives_by text name y true false f e is = let no_way : ⊥ = cc in absurd no_way
gives_by text name y false same f e is = let no_way : ⊥ = cc in absurd no_way

name_if-gives : (text : List ℕ) (name y : QueueName) → name_if text name ≡ Some y → IsNameOf text y
name_if-gives text name y is = gives_by text name y (queue_fits name) (bytes_eq (queue_file name) text) refl refl is

name_if-is : (text : List ℕ) (name : QueueName) → IsNameOf text name → name_if text name ≡ Some name
name_if-is text name w =
    ap (λ fits. by_tests fits (bytes_eq (queue_file name) text) name) w.fits ∙ ap (λ same. by_tests true same name) ((bytes_eq-Decides (queue_file name) text).1 w.is)

-- ---- the first number at which there is one
-- what is found at each number is a name of the text
abbrev FindsNames : List ℕ → (ℕ → Option QueueName) → Type 0
FindsNames text f = (i : ℕ) (y : QueueName) → f i ≡ Some y → IsNameOf text y

first-gives : (text : List ℕ) (f : ℕ → Option QueueName) (n : ℕ) (y : QueueName) → FindsNames text f → first_of f n ≡ Some y → IsNameOf text y
first-gives text f n y finds is = let v = first_of-from f n y is in finds v.number y v.is

first-is : (text : List ℕ) (f : ℕ → Option QueueName) (n k : ℕ) (name : QueueName) → FindsNames text f → IsNameOf text name → k < n → f k ≡ Some name → first_of f n ≡ Some name
first-is text f n k name finds w below is = first_of-is f n k name below is (λ i y few e. one_name text name y w (finds i y e))

-- ---- all four numbers
abbrev name_at : ℕ → ℕ → ℕ → ℕ → QueueName
name_at v s t a = record { visible = v; stage = s; task = t; attempt = a }

by_attempt : List ℕ → ℕ → ℕ → ℕ → Option QueueName
by_attempt text v s t = first_of (λ a. name_if text (name_at v s t a)) (10 ^ 3)

by_task : List ℕ → ℕ → ℕ → Option QueueName
by_task text v s = first_of (by_attempt text v s) (10 ^ 6)

by_stage : List ℕ → ℕ → Option QueueName
by_stage text v = first_of (by_task text v) (10 ^ 4)

-- the name whose file has this text
pub queued_name : List ℕ → Option QueueName
queued_name text = first_of (by_stage text) (10 ^ 10)

attempt-gives : (text : List ℕ) (v s t : ℕ) (y : QueueName) → by_attempt text v s t ≡ Some y → IsNameOf text y
unfolding by_attempt
attempt-gives text v s t y is = first-gives text (λ a. name_if text (name_at v s t a)) (10 ^ 3) y (λ a z e. name_if-gives text (name_at v s t a) z e) is

task-gives : (text : List ℕ) (v s : ℕ) (y : QueueName) → by_task text v s ≡ Some y → IsNameOf text y
unfolding by_task
task-gives text v s y is = first-gives text (by_attempt text v s) (10 ^ 6) y (attempt-gives text v s) is

stage-gives : (text : List ℕ) (v : ℕ) (y : QueueName) → by_stage text v ≡ Some y → IsNameOf text y
unfolding by_stage
stage-gives text v y is = first-gives text (by_task text v) (10 ^ 4) y (task-gives text v) is

pub queued_name-gives : (text : List ℕ) (y : QueueName) → queued_name text ≡ Some y → IsNameOf text y
unfolding queued_name
queued_name-gives text y is = first-gives text (by_stage text) (10 ^ 10) y (stage-gives text) is

attempt-is : (text : List ℕ) (name : QueueName) → IsNameOf text name → by_attempt text name.visible name.stage name.task ≡ Some name
unfolding by_attempt
attempt-is text name w =
    let so = IsName-fits name w.fits in
    first-is text (λ a. name_if text (name_at name.visible name.stage name.task a)) (10 ^ 3) name.attempt name
    (λ a z e. name_if-gives text (name_at name.visible name.stage name.task a) z e) w so.attempt (name_if-is text name w)

task-is : (text : List ℕ) (name : QueueName) → IsNameOf text name → by_task text name.visible name.stage ≡ Some name
unfolding by_task
task-is text name w =
    let so = IsName-fits name w.fits in
    first-is text (by_attempt text name.visible name.stage) (10 ^ 6) name.task name (attempt-gives text name.visible name.stage) w so.task (attempt-is text name w)

stage-is : (text : List ℕ) (name : QueueName) → IsNameOf text name → by_stage text name.visible ≡ Some name
unfolding by_stage
stage-is text name w =
    let so = IsName-fits name w.fits in
    first-is text (by_task text name.visible) (10 ^ 4) name.stage name (task-gives text name.visible) w so.stage (task-is text name w)

pub queued_name-is : (text : List ℕ) (name : QueueName) → IsNameOf text name → queued_name text ≡ Some name
unfolding queued_name
queued_name-is text name w =
    let so = IsName-fits name w.fits in
    first-is text (by_stage text) (10 ^ 10) name.visible name (stage-gives text) w so.visible (stage-is text name w)
