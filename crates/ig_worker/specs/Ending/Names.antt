-- The names of tasks that listings show.
use Rattle.std.specs.Prelude.{◌≡◌, ◌⊎◌, ◌<◌, ◌^◌, ℕ, Bool, true, false, if◌then◌else◌, List, [], ◌∷◌, Option, None, Some, Contains, refl}
use Rattle.std.specs.List.{list_any}
use Rattle.std.specs.Str.{bytes_eq}
use Rattle.std.proofs.Common.{inl, inr, ap, sym, subst, true≢false, ◌∙◌}
use Rattle.std.proofs.lemmas.Bool.{and_from, cases_Bool, lt-ltb}
use Rattle.std.proofs.lemmas.Option.{none-some, same_Some}
use Rattle.std.proofs.lemmas.Slice.Eq.{bytes_eq-Decides}
use Rattle.ig_space.specs.declared.task_id.TaskId.{TaskId}
use Rattle.ig_defs.specs.QueueNames.{stage_fits, task_file, task_fits}
use Rattle.ig_defs.specs.QueueNameLaws.{IsTask-fits, task_file-same}
use Rattle.ig_layer.specs.Faults.{first_of}
use Rattle.ig_rule.specs.Stages.{task_id}
use Rattle.ig_meaning.specs.Lists.{first_of-from, first_of-is}
use Rattle.ig_worker.specs.Keeping.Lists.{any_false, first_in, in_cases, later_in, none_in}
use Rattle.ig_worker.specs.Stages.{task_named, tasks_listed, with_letter}

-- ---- one name
-- the name of a task that is done or dead
pub record IsTaskName (name : List ℕ) (id : TaskId) : Type 0 where
  pub fits : task_fits id ≡ true
  pub is : task_file id ≡ name

abbrev named_at : List ℕ → ℕ → ℕ → Option TaskId
named_at name n k = if bytes_eq (task_file (task_id n k)) name then Some (task_id n k) else None

abbrev named_in : List ℕ → ℕ → Option TaskId
named_in name n = first_of (named_at name n) 1000000

named_by : (name : List ℕ) (n k : ℕ) (id : TaskId) (b : Bool) → bytes_eq (task_file (task_id n k)) name ≡ b → n < 10000 → k < 1000000 → (if b then Some (task_id n k) else None) ≡ Some id → IsTaskName name id
named_by name n k id true e few small is =
    let same : task_id n k ≡ id = same_Some (task_id n k) id is in
    subst (IsTaskName name) same (record {
      fits = and_from (stage_fits n) _ (lt-ltb n (10 ^ 4) few) (lt-ltb k (10 ^ 6) small);
      is = (bytes_eq-Decides (task_file (task_id n k)) name).0 e;
    })
named_by name n k id false e few small is = absurd (none-some id is)

in_stage : (name : List ℕ) (n : ℕ) (id : TaskId) → n < 10000 → named_in name n ≡ Some id → IsTaskName name id
in_stage name n id few is =
    let v = first_of-from (named_at name n) 1000000 id is in
    named_by name n v.number id (bytes_eq (task_file (task_id n v.number)) name) refl few v.below v.is

-- a task that is named so has this name,
pub named_from : (name : List ℕ) (id : TaskId) → task_named name ≡ Some id → IsTaskName name id
unfolding task_named
named_from name id is =
    let v = first_of-from (named_in name) 10000 id is in
    in_stage name v.number id v.below v.is

one_task : (id other : TaskId) → task_fits id ≡ true → IsTaskName (task_file id) other → other ≡ id
one_task id other fit h = task_file-same other id h.fits fit h.is

-- and the name is that of its task
pub named_is : (id : TaskId) → task_fits id ≡ true → task_named (task_file id) ≡ Some id
unfolding task_named
named_is id fit =
    let name = task_file id in
    let small = IsTask-fits id fit in
    let here : named_at name id.stage id.task ≡ Some id = ap (λ b. if b then Some id else None) ((bytes_eq-Decides name name).1 refl) in
    let inner : named_in name id.stage ≡ Some id
    = first_of-is (named_at name id.stage) 1000000 id.task id small.task here
    (λ i y few e. one_task id y fit (named_by name id.stage i y (bytes_eq (task_file (task_id id.stage i)) name) refl small.stage few e)) in
    first_of-is (named_in name) 10000 id.stage id small.stage inner (λ i y few e. one_task id y fit (in_stage name i y few e))

-- ---- a listing
later_letter : (o : Option TaskId) (ids : List TaskId) (id : TaskId) → Contains ids id → Contains (with_letter o ids) id
later_letter None ids id among = among
later_letter (Some first) ids id among = later_in first ids id among

shown_by : (name : List ℕ) (names : List (List ℕ)) (id : TaskId) → task_fits id ≡ true → (Contains names (task_file id) → Contains (tasks_listed names) id) → (name ≡ task_file id) ⊎ Contains names (task_file id)
    → Contains (tasks_listed (name ∷ names)) id
shown_by name names id fit later (inl e) =
    subst (λ o. Contains (with_letter o (tasks_listed names)) id) (sym (ap task_named e ∙ named_is id fit)) (first_in id (tasks_listed names))
shown_by name names id fit later (inr among) = later_letter (task_named name) (tasks_listed names) id (later among)

-- a task whose name was given is shown
pub shown_is : (names : List (List ℕ)) (id : TaskId) → task_fits id ≡ true → Contains names (task_file id) → Contains (tasks_listed names) id
shown_is [] id fit among = absurd (none_in (task_file id) among)
shown_is (name ∷ names) id fit among = shown_by name names id fit (shown_is names id fit) (in_cases name names (task_file id) among)

-- A task whose name was given.
pub record IsShown (names : List (List ℕ)) (id : TaskId) : Type 0 where
  pub fits : task_fits id ≡ true
  pub given : Contains names (task_file id)

first_shown : (name : List ℕ) (names : List (List ℕ)) (id : TaskId) → IsTaskName name id → IsShown (name ∷ names) id
first_shown name names id h = record { fits = h.fits; given = subst (λ n. Contains (n ∷ names) (task_file id)) h.is (first_in (task_file id) names) }

later_shown : (name : List ℕ) (names : List (List ℕ)) (id : TaskId) → IsShown names id → IsShown (name ∷ names) id
later_shown name names id h = record { fits = h.fits; given = later_in name names (task_file id) h.given }

from_by : (name : List ℕ) (names : List (List ℕ)) (id : TaskId) (o : Option TaskId) → task_named name ≡ o → (Contains (tasks_listed names) id → IsShown names id) → Contains (with_letter o (tasks_listed names)) id → IsShown (name ∷ names) id
from_by name names id None e later among = later_shown name names id (later among)
from_by name names id (Some first) e later among = by_place (in_cases first (tasks_listed names) id among)
  where
    by_place : (first ≡ id) ⊎ Contains (tasks_listed names) id → IsShown (name ∷ names) id
    by_place (inl is) = first_shown name names id (named_from name id (e ∙ ap Some is))
    by_place (inr more) = later_shown name names id (later more)

-- and each that is shown was given
pub shown_from : (names : List (List ℕ)) (id : TaskId) → Contains (tasks_listed names) id → IsShown names id
shown_from [] id among = absurd (none_in id among)
shown_from (name ∷ names) id among = from_by name names id (task_named name) refl (shown_from names id) among

-- a text that is given passes the test for it
pub among_listed : (given : List (List ℕ)) (text : List ℕ) → Contains given text → list_any (bytes_eq text) given ≡ true
among_listed given text among = by_test (cases_Bool (list_any (bytes_eq text) given))
  where
    by_test : (list_any (bytes_eq text) given ≡ true) ⊎ (list_any (bytes_eq text) given ≡ false) → list_any (bytes_eq text) given ≡ true
    by_test (inl some) = some
    by_test (inr none) = absurd (true≢false (sym ((bytes_eq-Decides text text).1 refl) ∙ any_false (bytes_eq text) given text none among))
