-- The names ahead of a worker by itself, once one of them is leased, is done, or was gone.
use Rattle.std.specs.Prelude.{◌≡◌, ◌⊎◌, ◌≤◌, ◌<◌, ◌+◌, ℕ, List, ◌∷◌, Option, None, Some, IsSome, Contains, refl}
use Rattle.std.specs.Cmp.Lexicographic.{slice_cmp, nat_list_cmp_total}
use Rattle.std.specs.Ordering.{nat_cmp, ordering_reverse}
use Rattle.std.specs.declared.cmp.Ordering.TheVariants.{Less, Greater}
use Rattle.std.proofs.Common.{arith, inl, inr, ap, sym, subst, ◌∙◌}
use Rattle.std.proofs.lemmas.List.Elements.{All-contains, All-tail}
use Rattle.std.proofs.lemmas.Map.Keys.{sorted_tail}
use Rattle.std.proofs.lemmas.Map.Views.{All-after_first}
use Rattle.std.proofs.lemmas.Option.{none-some, same_Some}
use Rattle.ig_defs.specs.declared.queue_name.QueueName.{QueueName}
use Rattle.ig_defs.specs.Files.{Files}
use Rattle.ig_defs.specs.QueueNames.{task_of}
use Rattle.ig_queue.specs.Candidates.{rank}
use Rattle.ig_rule.specs.QueueFiles.{Done, Queue, Queued, queue_of}
use Rattle.ig_rule.specs.SoundFiles.{none_there, some_there}
use Rattle.ig_worker.specs.declared.plan.Plan.{Plan}
use Rattle.ig_worker.specs.Finishing.Going.{AreLeft, IsRun}
use Rattle.ig_worker.specs.Finishing.Kept.{IsTurned, ahead_on, kept_back, queue_kept, run_from, run_on, some_name, turned_each, turned_kept, turned_only, turned_run}
use Rattle.ig_worker.specs.Finishing.CanFinish.{AreInOrder, IsAhead}
use Rattle.ig_worker.specs.Keeping.Lists.{in_cases, later_in}

-- ---- the queue is as it was
-- a name is ahead, or its task is done
abbrev IsLeft : Plan → Files → QueueName → Type 0
IsLeft plan files name = IsAhead plan.queue files name ⊎ IsRun plan.queue files name

is_left_on : (plan : Plan) (old new : Files) → queue_of plan.queue new ≡ queue_of plan.queue old → (name : QueueName) → IsLeft plan old name → IsLeft plan new name
is_left_on plan old new same name (inl h) =
    inl (ahead_on plan.queue old new (queue_kept plan.queue old new same) name (subst (λ (u : Queue). IsSome (u (Queued name))) (sym same) h.there) h)
is_left_on plan old new same name (inr h) =
    inr (run_on plan.queue old new (queue_kept plan.queue old new same) name (ap (λ (u : Queue). u (Queued name)) same ∙ h.gone)
    (subst (λ (u : Queue). IsSome (u (Done (task_of name)))) (sym same) h.done) h)

-- Where the queue is as it was, the same names are left.
pub left_on : (plan : Plan) (at tried : ℕ) (old new : Files) (held : Option QueueName) (names : List QueueName) → queue_of plan.queue new ≡ queue_of plan.queue old
    → AreLeft plan at tried old held names → AreLeft plan at tried new held names
left_on plan at tried old new held names same h =
    let q = plan.queue in
    let back = kept_back q old new (queue_kept q old new same) in
    record {
      in_order = h.in_order;
      only = λ x among. is_left_on plan old new same x (h.only x among);
      each = λ x is. h.each x (ahead_on q new old back x (subst (λ (u : Queue). IsSome (u (Queued x))) same is.there) is);
      due = h.due;
      tries = h.tries;
      turns = h.turns;
    }

-- ---- the first name
not_below_itself : (x : QueueName) → slice_cmp nat_cmp (rank x) (rank x) ≡ Less → ⊥
not_below_itself x less = let both : Less ≡ Greater = sym less ∙ nat_list_cmp_total.antisymm (rank x) (rank x) ∙ ap ordering_reverse less in absurd (cc)

-- the first of names in order is none of the others
not_later : (name : QueueName) (names : List QueueName) → AreInOrder (name ∷ names) → (x : QueueName) → Contains names x → x ≡ name → ⊥
not_later name names sorted x among e =
    let below = All-contains (λ (z : QueueName). slice_cmp nat_cmp (rank name) (rank z) ≡ Less) names x
    (All-after_first (λ (a b : QueueName). slice_cmp nat_cmp (rank a) (rank b)) name names sorted) among in
    not_below_itself name (subst (λ (z : QueueName). slice_cmp nat_cmp (rank name) (rank z) ≡ Less) e below)

-- another that is left is one of the others
among_by : (name : QueueName) (names : List QueueName) (x : QueueName) → (name ≡ x → ⊥) → (name ≡ x) ⊎ Contains names x → Contains names x
among_by name names x differ (inl e) = absurd (differ e)
among_by name names x differ (inr among) = among

among_others : (name : QueueName) (names : List QueueName) (x : QueueName) → (name ≡ x → ⊥) → Contains (name ∷ names) x ⊎ ◌≡◌ {A = Option QueueName} None (Some x) → Contains names x
among_others name names x differ (inl among) = among_by name names x differ (in_cases name names x among)
among_others name names x differ (inr e) = absurd (none-some x e)

-- Once the first one was found gone, the others are left.
pub left_gone : (plan : Plan) (at tried : ℕ) (now : Files) (name : QueueName) (names : List QueueName) → queue_of plan.queue now (Queued name) ≡ None
    → AreLeft plan at tried now None (name ∷ names) → AreLeft plan at (tried + 1) now None names
left_gone plan at tried now name names gone h = record {
  in_order = sorted_tail (λ (a b : QueueName). slice_cmp nat_cmp (rank a) (rank b)) name names h.in_order;
  only = λ x among. h.only x (later_in name names x among);
  each = λ x is. inl (among_others name names x (differs x is) (h.each x is));
  due = All-tail (λ (n : QueueName). n.visible ≤ at) name names h.due;
  tries = All-tail (λ (n : QueueName). n.attempt < plan.tries) name names h.tries;
  turns = let turns = h.turns in omega (arith, turns);
}
  where
    differs : (x : QueueName) → IsAhead plan.queue now x → name ≡ x → ⊥
    differs x is same = none_there (queue_of plan.queue now (Queued x)) is.there (ap (λ (n : QueueName). queue_of plan.queue now (Queued n)) (sym same) ∙ gone)

-- Once it is leased under another name, which may be one of the others, that one is held.
pub left_leased : (plan : Plan) (at tried : ℕ) (old new : Files) (name other : QueueName) (names : List QueueName) → IsTurned plan.queue old new name (Queued other)
    → AreLeft plan at tried old None (name ∷ names) → AreLeft plan at (tried + 1) new (Some other) names
left_leased plan at tried old new name other names t h = record {
  in_order = sorted_tail (λ (a b : QueueName). slice_cmp nat_cmp (rank a) (rank b)) name names h.in_order;
  only = λ x among. left_by x (not_later name names h.in_order x among) (h.only x (later_in name names x among));
  each = λ x is. by_place x (turned_each plan.queue old new name (Queued other) refl t x is);
  due = All-tail (λ (n : QueueName). n.visible ≤ at) name names h.due;
  tries = All-tail (λ (n : QueueName). n.attempt < plan.tries) name names h.tries;
  turns = let turns = h.turns in omega (arith, turns);
}
  where
    ahead_by : (x : QueueName) → (x ≡ name → ⊥) → IsAhead plan.queue new x ⊎ ((x ≡ name) × (queue_of plan.queue new (Queued x) ≡ None)) → IsLeft plan new x
    ahead_by x differ (inl is) = inl is
    ahead_by x differ (inr gone) = absurd (differ gone.0)

    left_by : (x : QueueName) → (x ≡ name → ⊥) → IsLeft plan old x → IsLeft plan new x
    left_by x differ (inl was) = ahead_by x differ (turned_only plan.queue old new name (Queued other) refl t x was)
    left_by x differ (inr was) = turned_run plan.queue old new name (Queued other) refl t x was

    by_place : (x : QueueName) → (Queued other ≡ Queued x) ⊎ (IsAhead plan.queue old x × (name ≡ x → ⊥)) → Contains names x ⊎ (Some other ≡ Some x)
    by_place x (inl e) = inr (ap Some (some_name other x e))
    by_place x (inr was) = inl (among_others name names x was.1 (h.each x was.0))

-- ---- the name that is held
-- Once its task is done, none is held; where it is one of the others, it is gone.
pub left_done : (plan : Plan) (at tried : ℕ) (old new : Files) (name : QueueName) (names : List QueueName) → IsTurned plan.queue old new name (Done (task_of name))
    → AreLeft plan at tried old (Some name) names → AreLeft plan at tried new None names
left_done plan at tried old new name names t h = record {
  in_order = h.in_order;
  only = λ x among. left_by x (h.only x among);
  each = λ x is. by_place x (turned_each plan.queue old new name (Done (task_of name)) refl t x is);
  due = h.due;
  tries = h.tries;
  turns = h.turns;
}
  where
    done_now : IsSome (queue_of plan.queue new (Done (task_of name)))
    done_now = some_there (queue_of plan.queue new (Done (task_of name))) t.bytes t.shifts.at

    run_by : (x : QueueName) → IsAhead plan.queue old x → x ≡ name → queue_of plan.queue new (Queued x) ≡ None → IsRun plan.queue new x
    run_by x was same gone =
        run_from plan.queue old new (turned_kept plan.queue old new name (Done (task_of name)) refl t) x gone (subst (λ (n : QueueName). IsSome (queue_of plan.queue new (Done (task_of n)))) (sym same) done_now) was

    ahead_by : (x : QueueName) → IsAhead plan.queue old x → IsAhead plan.queue new x ⊎ ((x ≡ name) × (queue_of plan.queue new (Queued x) ≡ None)) → IsLeft plan new x
    ahead_by x was (inl is) = inl is
    ahead_by x was (inr gone) = inr (run_by x was gone.0 gone.1)

    left_by : (x : QueueName) → IsLeft plan old x → IsLeft plan new x
    left_by x (inl was) = ahead_by x was (turned_only plan.queue old new name (Done (task_of name)) refl t x was)
    left_by x (inr was) = turned_run plan.queue old new name (Done (task_of name)) refl t x was

    not_held : (x : QueueName) → (name ≡ x → ⊥) → Contains names x ⊎ (Some name ≡ Some x) → Contains names x
    not_held x differ (inl among) = among
    not_held x differ (inr e) = absurd (differ (same_Some name x e))

    by_place : (x : QueueName) → (Done (task_of name) ≡ Queued x) ⊎ (IsAhead plan.queue old x × (name ≡ x → ⊥)) → Contains names x ⊎ (None ≡ Some x)
    by_place x (inl e) = absurd (cc)
    by_place x (inr was) = inl (not_held x was.1 (h.each x was.0))
