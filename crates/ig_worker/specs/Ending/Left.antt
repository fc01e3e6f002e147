-- The tasks that are left where a worker waits: as many as it says, all of them different, and none of them done.
use Rattle.std.specs.Prelude.{◌≡◌, ◌≢◌, ◌⊎◌, ◌<◌, ◌+◌, ℕ, zero, suc, Bool, true, false, List, [], ◌∷◌, length, Contains, refl}
use Rattle.std.specs.List.Sorted.{IsStrictlySortedBy}
use Rattle.std.proofs.Common.{arith, inl, inr, ap, sym, subst}
use Rattle.ig_space.specs.declared.task_id.TaskId.{TaskId}
use Rattle.ig_record.specs.declared.stage.Stage.{Stage}
use Rattle.ig_record.specs.Stage.{task_count}
use Rattle.ig_rule.specs.Stages.{task_id}
use Rattle.ig_worker.specs.Ending.AtEnd.{AreDifferent}
use Rattle.ig_worker.specs.Ending.Stages.{AreAbove, AreAscending, is_below}
use Rattle.ig_worker.specs.Keeping.Lists.{first_in, in_cases, later_in, none_in}
use Rattle.ig_worker.specs.Stages.{Known, all_unlisted, is_listed, one_unless, unlisted}

-- ---- the tasks that a listing doesn't show
abbrev pub with_unlisted : Bool → TaskId → List TaskId → List TaskId
with_unlisted true id ids = ids
with_unlisted false id ids = id ∷ ids

-- of the first k tasks of stage n, before these
abbrev pub tasks_left : List (List ℕ) → ℕ → ℕ → List TaskId → List TaskId
tasks_left given n zero ids = ids
tasks_left given n (suc k) ids = with_unlisted (is_listed given (task_id n k)) (task_id n k) (tasks_left given n k ids)

-- of all these stages
abbrev pub all_left : List (List ℕ) → Known → List TaskId
all_left given [] = []
all_left given (r ∷ rest) = tasks_left given r.0 (task_count r.1) (all_left given rest)

-- ---- there are so many
long_by : (b : Bool) (id : TaskId) (ids : List TaskId) → length (with_unlisted b id ids) ≡ one_unless b + length ids
long_by true id ids = omega arith
long_by false id ids = omega arith

long_left : (given : List (List ℕ)) (n k : ℕ) (ids : List TaskId) → length (tasks_left given n k ids) ≡ unlisted given n k + length ids
long_left given n zero ids = omega arith
long_left given n (suc k) ids =
    let one = long_by (is_listed given (task_id n k)) (task_id n k) (tasks_left given n k ids) in
    let rest = long_left given n k ids in
    omega (arith, one, rest)

pub length-all_left : (given : List (List ℕ)) (known : Known) → length (all_left given known) ≡ all_unlisted given known
length-all_left given [] = refl
length-all_left given (r ∷ rest) =
    let first = long_left given r.0 (task_count r.1) (all_left given rest) in
    let more = length-all_left given rest in
    omega (arith, first, more)

-- ---- which they are
-- one of the first k tasks of stage n, which the listing doesn't show
pub record IsTaskLeft (given : List (List ℕ)) (n k : ℕ) (id : TaskId) : Type 0 where
  pub stage : id.stage ≡ n
  pub below : id.task < k
  pub unlisted : is_listed given id ≡ false

more_below : (given : List (List ℕ)) (n k : ℕ) (ids : List TaskId) (id : TaskId) → IsTaskLeft given n k id ⊎ Contains ids id → IsTaskLeft given n (suc k) id ⊎ Contains ids id
more_below given n k ids id (inl h) = let below = h.below in inl (record { stage = h.stage; below = omega (arith, below); unlisted = h.unlisted })
more_below given n k ids id (inr h) = inr h

first_left : (given : List (List ℕ)) (n k : ℕ) (id : TaskId) → is_listed given (task_id n k) ≡ false → task_id n k ≡ id → IsTaskLeft given n (suc k) id
first_left given n k id e is =
    subst (λ (i : TaskId). IsTaskLeft given n (suc k) i) is (record { stage = refl; below = omega arith; unlisted = e })

left_by : (given : List (List ℕ)) (n k : ℕ) (ids more : List TaskId) (id : TaskId) (b : Bool) → is_listed given (task_id n k) ≡ b → (Contains more id → IsTaskLeft given n k id ⊎ Contains ids id)
    → Contains (with_unlisted b (task_id n k) more) id → IsTaskLeft given n (suc k) id ⊎ Contains ids id
left_by given n k ids more id true e later among = more_below given n k ids id (later among)
left_by given n k ids more id false e later among = by_place (in_cases (task_id n k) more id among)
  where
    by_place : (task_id n k ≡ id) ⊎ Contains more id → IsTaskLeft given n (suc k) id ⊎ Contains ids id
    by_place (inl is) = inl (first_left given n k id e is)
    by_place (inr h) = more_below given n k ids id (later h)

left_cases : (given : List (List ℕ)) (n k : ℕ) (ids : List TaskId) (id : TaskId) → Contains (tasks_left given n k ids) id → IsTaskLeft given n k id ⊎ Contains ids id
left_cases given n zero ids id among = inr among
left_cases given n (suc k) ids id among = left_by given n k ids (tasks_left given n k ids) id (is_listed given (task_id n k)) refl (left_cases given n k ids id) among

-- a task of one of these stages, which the listing doesn't show
pub record IsLeft (given : List (List ℕ)) (known : Known) (id : TaskId) : Type 0 where
  pub stage : Stage
  pub among : Contains known (id.stage, stage)
  pub below : id.task < task_count stage
  pub unlisted : is_listed given id ≡ false

stage_left : (given : List (List ℕ)) (r : ℕ × Stage) (rest : Known) (id : TaskId) → (Contains (all_left given rest) id → IsLeft given rest id) → IsTaskLeft given r.0 (task_count r.1) id ⊎ Contains (all_left given rest) id
    → IsLeft given (r ∷ rest) id
stage_left given r rest id later (inl h) =
    let same : r ≡ (id.stage, r.1) = λ i. (sym h.stage i, r.1) in
    record { stage = r.1; among = subst (λ (x : ℕ × Stage). Contains (r ∷ rest) x) same (first_in r rest); below = h.below; unlisted = h.unlisted }
stage_left given r rest id later (inr among) = let h = later among in record { stage = h.stage; among = later_in r rest (id.stage, h.stage) h.among; below = h.below; unlisted = h.unlisted }

pub left_is : (given : List (List ℕ)) (known : Known) (id : TaskId) → Contains (all_left given known) id → IsLeft given known id
left_is given [] id among = absurd (none_in id among)
left_is given (r ∷ rest) id among = stage_left given r rest id (left_is given rest id) (left_cases given r.0 (task_count r.1) (all_left given rest) id among)

-- ---- they are different
different_by : (b : Bool) (id : TaskId) (ids : List TaskId) → ((other : TaskId) → Contains ids other → id ≢ other) → AreDifferent ids → AreDifferent (with_unlisted b id ids)
different_by true id ids first rest = rest
different_by false id ids first rest = (first, rest)

-- another task of the stage, or one of a stage after it
other_task : (given : List (List ℕ)) (n k : ℕ) (ids : List TaskId) (other : TaskId) → ((id : TaskId) → Contains ids id → n < id.stage) → IsTaskLeft given n k other ⊎ Contains ids other → task_id n k ≢ other
other_task given n k ids other above (inl h) is = let task : k ≡ other.task = ap (λ (i : TaskId). i.task) is in let below = h.below in absurd (omega (arith, task, below))
other_task given n k ids other above (inr h) is = let stage : n ≡ other.stage = ap (λ (i : TaskId). i.stage) is in let more = above other h in absurd (omega (arith, stage, more))

different_left : (given : List (List ℕ)) (n k : ℕ) (ids : List TaskId) → ((id : TaskId) → Contains ids id → n < id.stage) → AreDifferent ids → AreDifferent (tasks_left given n k ids)
different_left given n zero ids above rest = rest
different_left given n (suc k) ids above rest =
    different_by (is_listed given (task_id n k)) (task_id n k) (tasks_left given n k ids)
    (λ other among. other_task given n k ids other above (left_cases given n k ids other among)) (different_left given n k ids above rest)

above_cases : (n : ℕ) (r : ℕ × Stage) (rest : Known) (x : ℕ × Stage) → AreAbove n (r ∷ rest) → (Contains rest x → n < x.0) → (r ≡ x) ⊎ Contains rest x → n < x.0
above_cases n r rest x all later (inl e) = subst (λ (y : ℕ × Stage). n < y.0) e (is_below n r.0 all.0)
above_cases n r rest x all later (inr among) = later among

above_in : (n : ℕ) (known : Known) (x : ℕ × Stage) → AreAbove n known → Contains known x → n < x.0
above_in n [] x all among = absurd (none_in x among)
above_in n (r ∷ rest) x all among = above_cases n r rest x all (above_in n rest x all.1) (in_cases r rest x among)

pub different-all_left : (given : List (List ℕ)) (known : Known) → AreAscending known → AreDifferent (all_left given known)
unfolding IsStrictlySortedBy
different-all_left given [] ascending = tt
different-all_left given (r ∷ rest) ascending =
    different_left given r.0 (task_count r.1) (all_left given rest)
    (λ id among. let h = left_is given rest id among in above_in r.0 rest (id.stage, h.stage) ascending.0 h.among)
    (different-all_left given rest ascending.1)
