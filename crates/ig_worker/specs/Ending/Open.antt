-- Which names a worker may try, and that a stage none of whose tasks it may run is under removal.
use Rattle.std.specs.Prelude.{◌≡◌, ◌⊎◌, ◌<◌, ◌==◌, ◌||◌, not, nat_lt, ℕ, Bool, true, false, if◌then◌else◌, List, [], ◌∷◌, filter, map, Option, None, Some, Contains, is_some, refl}
use Rattle.std.specs.List.{list_any}
use Rattle.std.proofs.Common.{inl, inr, ap, sym, subst, true≢false, ◌∙◌}
use Rattle.std.proofs.lemmas.Bool.{and_parts, eq-eqb, eqb-true, lt-ltb}
use Rattle.std.proofs.lemmas.Option.{same_Some}
use Rattle.std.proofs.lemmas.Slice.Eq.{bytes_eq-Decides}
use Rattle.ig_defs.specs.declared.queue_name.QueueName.{QueueName}
use Rattle.ig_record.specs.declared.stage.Stage.{Stage}
use Rattle.ig_record.specs.Columns.{output_dirs, removed_dir}
use Rattle.ig_record.specs.Stage.{task_count}
use Rattle.ig_rule.specs.Known.{KeptStage}
use Rattle.ig_rule.specs.Stages.{Records, Clear, IsSpared}
use Rattle.ig_task.specs.Facts.{facts_of}
use Rattle.ig_task.specs.OwnedPaths.{removes_source}
use Rattle.ig_worker.specs.Keeping.Lists.{first_in, in_cases, later_in, map_in, none_in}
use Rattle.ig_worker.specs.Knows.{kept_of}
use Rattle.ig_worker.specs.Stages.{Known, is_dir, is_last, is_removed, is_under_removal, may_run, open_names, removes_dir, stage_in, tasks_by, unknown_after}
use Rattle.ig_worker.specs.Ending.Standing.{IsKnown}

-- ---- lists
-- an element that passes
pub record IsPassed {A : Type 0} (p : A → Bool) (xs : List A) : Type 0 where
  pub item : A
  pub among : Contains xs item
  pub passes : p item ≡ true

passed_by : {A : Type 0} (p : A → Bool) (x : A) (xs : List A) (b : Bool) → p x ≡ b → (list_any p xs ≡ true → IsPassed p xs) → (b || list_any p xs) ≡ true → IsPassed p (x ∷ xs)
passed_by p x xs true e later some = record { item = x; among = first_in x xs; passes = e }
passed_by p x xs false e later some = let h = later some in record { item = h.item; among = later_in x xs h.item h.among; passes = h.passes }

any_true : {A : Type 0} (p : A → Bool) (xs : List A) → list_any p xs ≡ true → IsPassed p xs
any_true p [] some = absurd (true≢false (sym some))
any_true p (x ∷ xs) some = passed_by p x xs (p x) refl (any_true p xs) some

or_cases : (a b : Bool) → (a || b) ≡ true → (a ≡ true) ⊎ (b ≡ true)
or_cases true b e = inl refl
or_cases false b e = inr e

-- a list whose filter leaves nothing has no element that passes
filtered_by : {A : Type 0} (p : A → Bool) (x : A) (xs : List A) (y : A) (b : Bool) → p x ≡ b → (filter p xs ≡ [] → Contains xs y → p y ≡ false) → (if b then x ∷ filter p xs else filter p xs) ≡ [] → (x ≡ y) ⊎ Contains xs y → p y ≡ false
filtered_by p x xs y true e later none among = absurd (cc)
filtered_by p x xs y false e later none (inl is) = ap p (sym is) ∙ e
filtered_by p x xs y false e later none (inr among) = later none among

none_passes : {A : Type 0} (p : A → Bool) (xs : List A) (y : A) → filter p xs ≡ [] → Contains xs y → p y ≡ false
none_passes p [] y none among = absurd (none_in y among)
none_passes p (x ∷ xs) y none among = filtered_by p x xs y (p x) refl (none_passes p xs y) none (in_cases x xs y among)

-- ---- the stages of names
-- Of the stage of a name: it is known, or among those to be read, or was just named.
abbrev IsNamed : Known → Option ℕ → List ℕ → ℕ → Type 0
IsNamed known last unread n = (IsKnown known n ⊎ Contains unread n) ⊎ (is_last last n ≡ true)

just_named : (known : Known) (n m : ℕ) (rest : List ℕ) → IsNamed known (Some n) rest m → IsKnown known m ⊎ Contains (n ∷ rest) m
just_named known n m rest (inl (inl is)) = inl is
just_named known n m rest (inl (inr among)) = inr (later_in n rest m among)
just_named known n m rest (inr same) = inr (subst (Contains (n ∷ rest)) (eqb-true n m same) (first_in n rest))

first_named : (known : Known) (last : Option ℕ) (rest : List ℕ) (n m : ℕ) → (is_some (stage_in known n) ≡ true) ⊎ (is_last last n ≡ true) → n ≡ m → IsNamed known last rest m
first_named known last rest n m (inl is) e = inl (inl (subst (IsKnown known) e is))
first_named known last rest n m (inr same) e = inr (subst (λ k. is_last last k ≡ true) e same)

named_by : (known : Known) (last : Option ℕ) (n m : ℕ) (same more : List ℕ) (b : Bool) → (is_some (stage_in known n) || is_last last n) ≡ b → (n ≡ m) ⊎ IsNamed known last same m → (n ≡ m) ⊎ IsNamed known (Some n) more m
    → IsNamed known last (if b then same else n ∷ more) m
named_by known last n m same more true e (inl is) there = first_named known last same n m (or_cases (is_some (stage_in known n)) (is_last last n) e) is
named_by known last n m same more true e (inr named) there = named
named_by known last n m same more false e here (inl is) = inl (inr (subst (Contains (n ∷ more)) is (first_in n more)))
named_by known last n m same more false e here (inr named) = inl (just_named known n m more named)

by_name : {B : Type 0} (x name : QueueName) (names : List QueueName) → (Contains names name → B) → (x ≡ name) ⊎ Contains names name → (x.stage ≡ name.stage) ⊎ B
by_name x name names later (inl e) = inl (ap (λ (n : QueueName). n.stage) e)
by_name x name names later (inr among) = inr (later among)

named_after : (known : Known) (last : Option ℕ) (names : List QueueName) (name : QueueName) → Contains names name → IsNamed known last (unknown_after known last names) name.stage
named_after known last [] name among = absurd (none_in name among)
named_after known last (x ∷ names) name among =
    let place = in_cases x names name among in
    named_by known last x.stage name.stage (unknown_after known last names) (unknown_after known (Some x.stage) names) (is_some (stage_in known x.stage) || is_last last x.stage) refl
    (by_name x name names (named_after known last names name) place) (by_name x name names (named_after known (Some x.stage) names name) place)

-- the stage of each name is known, or is still to be read
pub named_or_known : (known : Known) (names : List QueueName) (name : QueueName) → Contains names name → IsKnown known name.stage ⊎ Contains (unknown_after known None names) name.stage
named_or_known known names name among = by_place (named_after known None names name among)
  where
    by_place : IsNamed known None (unknown_after known None names) name.stage → IsKnown known name.stage ⊎ Contains (unknown_after known None names) name.stage
    by_place (inl h) = h
    by_place (inr same) = absurd (true≢false (sym same))

-- ---- under removal
removed_by : (o : Option (List ℕ)) (dir source : List ℕ) → (is_some o ≡ true → o ≡ Some source) → is_dir o dir ≡ true → (is_some o ≡ true) × (source ≡ dir)
removed_by None dir source from e = absurd (true≢false (sym e))
removed_by (Some removed) dir source from e =
    let same = same_Some removed source (from refl) in
    (refl, sym same ∙ (bytes_eq-Decides removed dir).0 e)

not_true : (b : Bool) → not b ≡ true → b ≡ false
not_true true e = absurd (true≢false (sym e))
not_true false e = refl

module _ (records : Records) (known : Known) (stages : (k : KeptStage) → Contains (map kept_of known) k → records k.number ≡ Some k.stage) where
  not_spared : (n : ℕ) (dir : List ℕ) → is_removed known n dir ≡ true → IsSpared records n dir → ⊥
  not_spared n dir some spared =
      let h = any_true (removes_dir n dir) known some in
      let parts = and_parts (not (h.item.0 == n)) (is_dir (removed_dir h.item.1) dir) h.passes in
      let removed = removed_by (removed_dir h.item.1) dir h.item.1.source.dir (removes_source h.item.1) parts.1 in
      let other = not_true (h.item.0 == n) parts.0 in
      spared h.item.0 (facts_of h.item.0 h.item.1) (λ same. true≢false (sym (eq-eqb h.item.0 n same) ∙ other)) (stages (kept_of h.item) (map_in kept_of known h.item h.among)) removed.0 removed.1

  removed_not_clear : (n : ℕ) (s : Stage) → is_under_removal known n s ≡ true → Clear records n (facts_of n s) → ⊥
  removed_not_clear n s under clear = by_place (or_cases (is_removed known n s.source.dir) (list_any (is_removed known n) (output_dirs s)) under)
    where
      by_place : (is_removed known n s.source.dir ≡ true) ⊎ (list_any (is_removed known n) (output_dirs s) ≡ true) → ⊥
      by_place (inl some) = not_spared n s.source.dir some clear.source
      by_place (inr some) = let h = any_true (is_removed known n) (output_dirs s) some in not_spared n h.item h.passes (clear.outputs h.item h.among)

  closed_by : (n k : ℕ) (s : Stage) (b : Bool) → is_under_removal known n s ≡ b → k < task_count s → nat_lt k (if b then 0 else task_count s) ≡ false → is_under_removal known n s ≡ true
  closed_by n k s true under below closed = under
  closed_by n k s false under below closed = absurd (true≢false (sym (lt-ltb k (task_count s) below) ∙ closed))

  -- a stage one of whose tasks may not be run is under removal
  pub closed_not_clear : (name : QueueName) (s : Stage) → stage_in known name.stage ≡ Some s → name.task < task_count s → may_run known name ≡ false → Clear records name.stage (facts_of name.stage s) → ⊥
  closed_not_clear name s is below closed =
      let mine : nat_lt name.task (if is_under_removal known name.stage s then 0 else task_count s) ≡ false = subst (λ o. nat_lt name.task (tasks_by known name.stage o) ≡ false) is closed in
      removed_not_clear name.stage s (closed_by name.stage name.task s (is_under_removal known name.stage s) refl below mine)

-- a name of which no more than these may be tried
pub none_open : (known : Known) (names : List QueueName) (name : QueueName) → open_names known names ≡ [] → Contains names name → may_run known name ≡ false
none_open known names name none among = none_passes (may_run known) names name none among
