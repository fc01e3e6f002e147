-- Flags that were set, and the numbers of those that were not.
use Rattle.std.proofs.Common.{◌≡◌, ◌⊎◌, ◌<◌, ◌+◌, ℕ, Bool, List, [], ◌∷◌, ◌++◌, length, take, get_or, Option, None, Some, refl, ap, sym, subst, ◌∙◌, inl, inr, arith, add-one}
use Rattle.std.proofs.Math.Seq.{take-suc}
use Rattle.ig_space.specs.declared.task_id.TaskId.{TaskId}
use Rattle.ig_rule.specs.Stages.{task_id}
use Rattle.ig_stage.specs.Shown.{IsNameOf, IsSet, Marks, ShowsTask}
use Rattle.ig_stage.proofs.NamesShown.{same_id, shows_before, shows_cases, shows_last}

-- ---- what was marked

-- a property that says the same
pub marks_as : (P Q : ℕ → Type 0) (old new : List Bool) → ((k : ℕ) → P k → Q k) → ((k : ℕ) → Q k → P k) → Marks P old new → Marks Q old new
marks_as P Q old new to from m = record {
  same = m.same;
  kept = m.kept;
  marked = λ k below h. m.marked k below (from k h);
  only = λ k is. by_cases k (m.only k is);
}
  where
    by_cases : (k : ℕ) → IsSet old k ⊎ P k → IsSet old k ⊎ Q k
    by_cases k (inl was) = inl was
    by_cases k (inr h) = inr (to k h)

-- no number has it
pub marks_none : (P : ℕ → Type 0) (flags : List Bool) → ((k : ℕ) → P k → ⊥) → Marks P flags flags
marks_none P flags none = record { same = refl; kept = λ k is. is; marked = λ k below h. absurd (none k h); only = λ k is. inl is }

-- one property after the other
pub marks_then : (P Q : ℕ → Type 0) (old mid new : List Bool) → Marks P old mid → Marks Q mid new → Marks (λ k. P k ⊎ Q k) old new
marks_then P Q old mid new a b = record {
  same = b.same ∙ a.same;
  kept = λ k is. b.kept k (a.kept k is);
  marked = λ k below h. marked k below h;
  only = λ k is. by_cases k (b.only k is);
}
  where
    marked : (k : ℕ) → k < length old → P k ⊎ Q k → IsSet new k
    marked k below (inl h) = b.kept k (a.marked k below h)
    marked k below (inr h) = b.marked k (subst (λ m. k < m) (sym a.same) below) h

    first : (k : ℕ) → IsSet old k ⊎ P k → IsSet old k ⊎ (P k ⊎ Q k)
    first k (inl was) = inl was
    first k (inr h) = inr (inl h)

    by_cases : (k : ℕ) → IsSet mid k ⊎ Q k → IsSet old k ⊎ (P k ⊎ Q k)
    by_cases k (inl is) = first k (a.only k is)
    by_cases k (inr h) = inr (inr h)

-- ---- one name after the other

pub marks_begin : (dir : List ℕ) (n : ℕ) (flags : List Bool) → Marks (ShowsTask dir [] n) flags flags
marks_begin dir n flags = marks_none (ShowsTask dir [] n) flags (λ k h. absurd (omega (arith, h.among.1)))

pub take_more : (names : List (List ℕ)) (i : ℕ) (name : List ℕ) → i < length names → name ≡ get_or names i name → take (i + 1) names ≡ take i names ++ name ∷ []
take_more names i name below is =
    ap (λ m. take m names) (add-one i) ∙ take-suc names i name below ∙ ap (λ x. take i names ++ x ∷ []) (sym is)

pub marks_more : (dir : List ℕ) (n : ℕ) (names : List (List ℕ)) (i : ℕ) (name : List ℕ) (old mid new : List Bool) → i < length names → name ≡ get_or names i name
    → Marks (ShowsTask dir (take i names) n) old mid → Marks (λ k. IsNameOf dir name (task_id n k)) mid new → Marks (ShowsTask dir (take (i + 1) names) n) old new
marks_more dir n names i name old mid new below is a b =
    subst (λ (some : List (List ℕ)). Marks (ShowsTask dir some n) old new) (sym (take_more names i name below is))
    (marks_as (λ k. ShowsTask dir (take i names) n k ⊎ IsNameOf dir name (task_id n k)) (ShowsTask dir (take i names ++ name ∷ []) n) old new
    to (λ k h. shows_cases dir (take i names) name n k h)
    (marks_then (ShowsTask dir (take i names) n) (λ k. IsNameOf dir name (task_id n k)) old mid new a b))
  where
    to : (k : ℕ) → ShowsTask dir (take i names) n k ⊎ IsNameOf dir name (task_id n k) → ShowsTask dir (take i names ++ name ∷ []) n k
    to k (inl h) = shows_before dir (take i names) name n k h
    to k (inr h) = shows_last dir (take i names) name n k h

-- ---- one name

-- it is this task's
pub marks_found : (dir name : List ℕ) (n : ℕ) (id : TaskId) (old new : List Bool) → IsNameOf dir name id → ((other : TaskId) → IsNameOf dir name other → ◌≡◌ {A = Option TaskId} (Some id) (Some other))
    → Marks (λ k. task_id n k ≡ id) old new → Marks (λ k. IsNameOf dir name (task_id n k)) old new
marks_found dir name n id old new is only m =
    marks_as (λ k. task_id n k ≡ id) (λ k. IsNameOf dir name (task_id n k)) old new
    (λ k same. subst (IsNameOf dir name) (sym same) is) (λ k h. sym (same_id id (task_id n k) (only (task_id n k) h))) m

-- or no task's
pub marks_unfound : (dir name : List ℕ) (n : ℕ) (flags : List Bool) → ((other : TaskId) → IsNameOf dir name other → ◌≡◌ {A = Option TaskId} None (Some other))
    → Marks (λ k. IsNameOf dir name (task_id n k)) flags flags
marks_unfound dir name n flags none = marks_none (λ k. IsNameOf dir name (task_id n k)) flags (λ k h. is_nothing (task_id n k) (none (task_id n k) h))
  where
    is_nothing : (id : TaskId) → ◌≡◌ {A = Option TaskId} None (Some id) → ⊥
    is_nothing id e = absurd (cc)
