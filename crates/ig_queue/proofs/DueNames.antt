-- Names that may be leased, as they are read from a listing, and in order.
use Rattle.std.proofs.Common.{arith, ◌≡◌, ◌≤◌, ◌<◌, ◌+◌, ℕ, true, List, [], ◌∷◌, ◌++◌, ◌⊎◌, inl, inr, All, Contains, length, take, get_or, sym, ap, subst, ◌∙◌}
use Rattle.std.proofs.lemmas.List.{take_all, take_more}
use Rattle.std.proofs.lemmas.List.Elements.{All-push, Contains-append_left, Contains-push, Contains-push_cases}
use Rattle.ig_defs.specs.declared.queue_name.QueueName.{QueueName}
use Rattle.ig_defs.specs.QueueNames.{queue_file, queue_fits}
use Rattle.ig_queue.specs.Candidates.{IsCandidate}

-- these are the names that may be leased among those listed
pub record AreDue (names : List (List ℕ)) (now : ℕ) (due : List QueueName) : Type 0 where
  pub only : All (IsCandidate names now) due
  pub each : (name : QueueName) → IsCandidate names now name → Contains due name

pub none_due : (now : ℕ) → AreDue [] now []
none_due now = record { only = λ k d below. absurd (omega (arith, below)); each = λ name is. absurd (omega (arith, is.listed.1)) }

still : (names : List (List ℕ)) (text : List ℕ) (now : ℕ) (name : QueueName) → IsCandidate names now name → IsCandidate (names ++ text ∷ []) now name
still names text now name is = record { fits = is.fits; listed = Contains-append_left names (text ∷ []) (queue_file name) is.listed; due = is.due }

all_still : (names : List (List ℕ)) (text : List ℕ) (now : ℕ) (due : List QueueName) → All (IsCandidate names now) due → All (IsCandidate (names ++ text ∷ []) now) due
all_still names text now due all = λ k d below. still names text now (get_or due k d) (all k d below)

-- one name more that may be leased
pub due_more : (names : List (List ℕ)) (text : List ℕ) (now : ℕ) (due : List QueueName) (name : QueueName) (more : List QueueName) → more ≡ due ++ name ∷ [] → queue_fits name ≡ true → text ≡ queue_file name → name.visible ≤ now
    → ((other : QueueName) → queue_fits other ≡ true → text ≡ queue_file other → other.visible ≤ now → name ≡ other)
    → AreDue names now due → AreDue (names ++ text ∷ []) now more
due_more names text now due name more grown fitting is soon same so_far = subst (AreDue (names ++ text ∷ []) now) (sym grown) (record {
  only = All-push (IsCandidate (names ++ text ∷ []) now) due name (all_still names text now due so_far.only)
      (record { fits = fitting; listed = subst (Contains (names ++ text ∷ [])) is (Contains-push names text); due = soon });
  each = λ other candidate. by_place other candidate (Contains-push_cases names text (queue_file other) candidate.listed);
})
  where
    by_place : (other : QueueName) → IsCandidate (names ++ text ∷ []) now other → Contains names (queue_file other) ⊎ (text ≡ queue_file other) → Contains (due ++ name ∷ []) other
    by_place other candidate (inl before) =
        Contains-append_left due (name ∷ []) other (so_far.each other (record { fits = candidate.fits; listed = before; due = candidate.due }))
    by_place other candidate (inr last) =
        subst (Contains (due ++ name ∷ [])) (same other candidate.fits last candidate.due) (Contains-push due name)

-- one name more that may not
pub due_same : (names : List (List ℕ)) (text : List ℕ) (now : ℕ) (due same : List QueueName) → same ≡ due
    → ((other : QueueName) → queue_fits other ≡ true → text ≡ queue_file other → other.visible ≤ now → ⊥)
    → AreDue names now due → AreDue (names ++ text ∷ []) now same
due_same names text now due same kept none so_far = subst (AreDue (names ++ text ∷ []) now) (sym kept) (record {
  only = all_still names text now due so_far.only;
  each = λ other candidate. by_place other candidate (Contains-push_cases names text (queue_file other) candidate.listed);
})
  where
    by_place : (other : QueueName) → IsCandidate (names ++ text ∷ []) now other → Contains names (queue_file other) ⊎ (text ≡ queue_file other) → Contains due other
    by_place other candidate (inl before) = so_far.each other (record { fits = candidate.fits; listed = before; due = candidate.due })
    by_place other candidate (inr last) = absurd (none other candidate.fits last candidate.due)

pub first_more : (names : List (List ℕ)) (k now : ℕ) (due : List QueueName) (text : List ℕ) → k < length names → text ≡ get_or names k text
    → AreDue (take k names ++ text ∷ []) now due → AreDue (take (k + 1) names) now due
first_more names k now due text below is so =
    subst (λ first. AreDue first now due) (ap (λ last. take k names ++ last ∷ []) is ∙ sym (take_more names k text below)) so

-- all of them
pub all_due : (names : List (List ℕ)) (k now : ℕ) (due : List QueueName) → length names ≤ k → AreDue (take k names) now due → AreDue names now due
all_due names k now due past so = subst (λ first. AreDue first now due) (take_all k names past) so
