-- The tasks that files name.
use Rattle.std.proofs.Common.{◌≡◌, ◌<◌, ◌+◌, ◌^◌, ◌++◌, ◌==◌, arith, ℕ, suc, Bool, true, false, if◌then◌else◌, List, [], Option, None, Some, IfSome, IsNone, length, drop, get_or, append_assoc, refl, ap, sym, ◌∙◌, true≢false}
use Rattle.std.proofs.Math.Seq.{drop-cons}
use Rattle.std.proofs.lemmas.Bool.{and_from, eq-eqb, lt-ltb, ne_eqb}
use Rattle.std.proofs.lemmas.Slice.Eq.{bytes_eq-Decides}
use Rattle.std.specs.Str.{bytes_eq}
use Rattle.ig_space.specs.declared.task_id.TaskId.{TaskId}
use Rattle.ig_defs.specs.QueueNames.{stage_fits, task_file, task_fits}
use Rattle.ig_defs.specs.QueueNameLaws.{IsTask-fits, task_file-same}
use Rattle.ig_layer.specs.Faults.{first_of}
use Rattle.ig_rule.specs.Stages.{task_id}
use Rattle.ig_meaning.specs.Lists.{first_of-from, first_of-is}
use Rattle.ig_worker.specs.Counting.{Names, place_of}
use Rattle.ig_worker.specs.Stages.{task_named, tasks_listed, with_letter}

abbrev one_if : List ℕ → ℕ → ℕ → Option TaskId
one_if name n k = if bytes_eq (task_file (task_id n k)) name then Some (task_id n k) else None

abbrev first_in : List ℕ → ℕ → Option TaskId
first_in name n = first_of (one_if name n) 1000000

-- the task of these numbers is this one, and its file has the name
record IsTaskOf (name : List ℕ) (n k : ℕ) (id : TaskId) : Type 0 where
  pub same : task_id n k ≡ id
  pub is : task_file (task_id n k) ≡ name

gives_by : (name : List ℕ) (n k : ℕ) (id : TaskId) (b : Bool) → bytes_eq (task_file (task_id n k)) name ≡ b → (if b then Some (task_id n k) else None) ≡ Some id → IsTaskOf name n k id
gives_by name n k id true e is = record { same = let same : task_id n k ≡ id = cc in same; is = (bytes_eq-Decides (task_file (task_id n k)) name).0 e }
gives_by name n k id false e is = let no_way : ⊥ = cc in absurd no_way

gives : (name : List ℕ) (n k : ℕ) (id : TaskId) → one_if name n k ≡ Some id → IsTaskOf name n k id
gives name n k id is = gives_by name n k id (bytes_eq (task_file (task_id n k)) name) refl is

pub small_fits : (n k : ℕ) → n < 10000 → k < 1000000 → task_fits (task_id n k) ≡ true
small_fits n k few less = and_from (stage_fits n) _ (lt-ltb n (10 ^ 4) few) (lt-ltb k (10 ^ 6) less)

one_only : (name : List ℕ) (id : TaskId) → task_fits id ≡ true → name ≡ task_file id → (n k : ℕ) (y : TaskId) → n < 10000 → k < 1000000 → one_if name n k ≡ Some y → y ≡ id
one_only name id fits is n k y few less e =
    let g = gives name n k y e in sym g.same ∙ task_file-same (task_id n k) id (small_fits n k few less) fits (g.is ∙ is)

named_is : (name : List ℕ) (id : TaskId) → task_fits id ≡ true → name ≡ task_file id → first_of (first_in name) 10000 ≡ Some id
named_is name id fits is =
    let small = IsTask-fits id fits in
    first_of-is (first_in name) 10000 id.stage id small.stage
    (first_of-is (one_if name id.stage) 1000000 id.task id small.task (ap (λ b. if b then Some id else None) ((bytes_eq-Decides (task_file id) name).1 (sym is)))
    (λ k y less e. one_only name id fits is id.stage k y small.stage less e))
    (λ n y few e. let v = first_of-from (one_if name n) 1000000 y e in one_only name id fits is n v.number y few v.below v.is)

none_named : (name : List ℕ) (found : Option TaskId) → first_of (first_in name) 10000 ≡ found → ((id : TaskId) → task_fits id ≡ true → name ≡ task_file id → ⊥) → None ≡ found
none_named name None is none = refl
none_named name (Some id) is none =
    let v = first_of-from (first_in name) 10000 id is in
    let w = first_of-from (one_if name v.number) 1000000 id v.is in
    absurd (none (task_id v.number w.number) (small_fits v.number w.number v.below w.below) (sym (gives name v.number w.number id w.is).is))

-- the task that is read from a name
pub named_found : (name : List ℕ) (result : Option TaskId) → IfSome result (λ id. (task_fits id ≡ true) × (name ≡ task_file id))
    → (IsNone result → (id : TaskId) → task_fits id ≡ true → name ≡ task_file id → ⊥) → result ≡ task_named name
unfolding task_named
named_found name (Some id) some none = sym (named_is name id some.0 some.1)
named_found name None some none = none_named name (first_of (first_in name) 10000) refl (none refl)

-- ---- by places
same_place : (v w : TaskId) → task_fits v ≡ true → task_fits w ≡ true → place_of v ≡ place_of w → v ≡ w
same_place v w fits meets e =
    let a = IsTask-fits v fits in
    let b = IsTask-fits w meets in
    let stage : v.stage ≡ w.stage = omega (arith, e, a.task, b.task) in
    let task : v.task ≡ w.task = omega (arith, e, stage) in
    λ i. record { stage = stage i; task = task i }

tells_by : (name : List ℕ) (found id : TaskId) → task_fits found ≡ true → name ≡ task_file found → task_fits id ≡ true → (b : Bool) → bytes_eq (task_file id) name ≡ b → b ≡ (place_of found == place_of id)
tells_by name found id fits is meets true e = sym (eq-eqb (place_of found) (place_of id) (ap place_of (task_file-same found id fits meets (sym is ∙ sym ((bytes_eq-Decides (task_file id) name).0 e)))))
tells_by name found id fits is meets false e =
    sym (ne_eqb (place_of found) (place_of id)
    (λ same. true≢false (sym ((bytes_eq-Decides (task_file id) name).1 (ap task_file (sym (same_place found id fits meets same)) ∙ sym is)) ∙ e)))

not_equal : (xs ys : List ℕ) → (xs ≡ ys → ⊥) → (b : Bool) → bytes_eq xs ys ≡ b → b ≡ false
not_equal xs ys differ true e = absurd (differ ((bytes_eq-Decides xs ys).0 e))
not_equal xs ys differ false e = refl

pub tells_found : (name : List ℕ) (result : Option TaskId) → IfSome result (λ id. (task_fits id ≡ true) × (name ≡ task_file id))
    → (IsNone result → (id : TaskId) → task_fits id ≡ true → name ≡ task_file id → ⊥) → Names name result
tells_found name (Some found) some none id meets = tells_by name found id some.0 some.1 meets (bytes_eq (task_file id) name) refl
tells_found name None some none id meets = not_equal (task_file id) name (λ e. none refl id meets (sym e)) (bytes_eq (task_file id) name) refl

-- ---- the tasks that a listing shows
letter_first : (id : Option TaskId) (rest : List TaskId) → with_letter id rest ≡ with_letter id [] ++ rest
letter_first None rest = refl
letter_first (Some id) rest = refl

-- one name more
pub listed_more : (names : List (List ℕ)) (k : ℕ) (name : List ℕ) (all so more : List TaskId) → k < length names → name ≡ get_or names k name → all ≡ so ++ tasks_listed (drop k names)
    → more ≡ so ++ with_letter (task_named name) [] → all ≡ more ++ tasks_listed (drop (k + 1) names)
listed_more names k name all so more below is before grown =
    let next : k + 1 ≡ suc k = omega arith in
    let rest : List TaskId = tasks_listed (drop (suc k) names) in
    before ∙ ap (λ others. so ++ tasks_listed others) (drop-cons names k name below)
    ∙ ap (λ first. so ++ with_letter (task_named first) rest) (sym is)
    ∙ ap (λ added. so ++ added) (letter_first (task_named name) rest)
    ∙ sym (append_assoc so (with_letter (task_named name) []) rest)
    ∙ ap (λ added. added ++ rest) (sym grown)
    ∙ ap (λ m. more ++ tasks_listed (drop m names)) (sym next)
