-- The tasks of a queue that may be leased.
use Rattle.std.specs.Prelude.{◌≡◌, ◌≤◌, ℕ, true, List, [], ◌∷◌, All, Contains}
use Rattle.std.specs.Cmp.Lexicographic.{slice_cmp}
use Rattle.std.specs.List.Sorted.{IsStrictlySortedBy}
use Rattle.std.specs.Ordering.{nat_cmp}
use Rattle.ig_defs.specs.declared.queue_name.QueueName.{QueueName}
use Rattle.ig_defs.specs.QueueNames.{queue_file, queue_fits}

-- by what names come in order: the stage, the task, how often it was leased, and the second from which on it may be leased
abbrev pub rank : QueueName → List ℕ
rank name = name.stage ∷ name.task ∷ name.attempt ∷ name.visible ∷ []

-- The name is listed, and may be leased at this second.
pub record IsCandidate (names : List (List ℕ)) (now : ℕ) (name : QueueName) : Type 0 where
  pub fits : queue_fits name ≡ true
  pub listed : Contains names (queue_file name)
  pub due : name.visible ≤ now

-- These are all of them, in order, each once.
pub record AreCandidates (names : List (List ℕ)) (now : ℕ) (list : List QueueName) : Type 0 where
  pub sorted : IsStrictlySortedBy (λ a b. slice_cmp nat_cmp (rank a) (rank b)) list
  pub only : All (IsCandidate names now) list
  pub each : (name : QueueName) → IsCandidate names now name → Contains list name
