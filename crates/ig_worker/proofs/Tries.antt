-- A name is tried.
use Rattle.std.proofs.lemmas.Bool.{le-leb, lt-leb}
use Rattle.std.proofs.lemmas.List.Elements.{All-head, All-tail}
use Rattle.std.proofs.Common.{arith, nat_le, ◌≡◌, ◌≤◌, ◌<◌, ℕ, Bool, true, false, List, [], ◌∷◌, Option, None, Some, is_some, Ok, IfSome, IsNone, refl, sym, ap, subst, ◌∙◌}
use Rattle.ig_defs.specs.declared.queue_name.QueueName.{QueueName}
use Rattle.ig_defs.specs.QueueNames.{queue_fits}
use Rattle.ig_record.specs.declared.stage.Stage.{Stage}
use Rattle.ig_record.specs.Columns.{inputs_of}
use Rattle.ig_worker.specs.declared.notes.Notes.{Notes}
use Rattle.ig_worker.specs.declared.phase.Phase.{Phase}
use Rattle.ig_worker.specs.declared.turn.Turn.TheVariants.{On}
use Rattle.ig_worker.specs.Acting.{BuriesSpent, TakesLease}
use Rattle.ig_worker.specs.Fit.{AreOpen, IsFitPhase, IsOpen}
use Rattle.ig_worker.specs.Keeping.Names.{leased_fits}
use Rattle.ig_worker.specs.Moves.{Move, TriesBy, TriesName, leased}
use Rattle.ig_worker.specs.Places.{asked, begun, begun_by, leased_or_gone, next_try, tried_one}
use Rattle.ig_worker.specs.Plans.{HasLimits}
use Rattle.ig_worker.specs.Stages.{open_tasks, stage_in}
use Rattle.ig_worker.specs.Steps.{turn_at}
use Rattle.ig_worker.proofs.Fetches.{fetching-fits, fetching-on, next_try-fits, next_try-on}

-- ---- the place once a task is leased
module _ (notes : Notes) (name : QueueName) (names : List QueueName) where
  begun_by-fits : queue_fits name ≡ true → name.task < open_tasks notes.known name.stage → AreOpen notes names → (o : Option Stage) → stage_in notes.known name.stage ≡ o
      → IsFitPhase notes (begun_by o name names)
  begun_by-fits fits below ahead None e = next_try-fits notes names ahead
  begun_by-fits fits below ahead (Some s) e =
      fetching-fits notes name (inputs_of s name.task) [] names
      (record {
        stage = s;
        leased = record { fits = fits; stage = e; below = below };
        inputs = refl;
        read = refl;
        found = λ i d few. absurd (omega (arith, few));
        fewer = omega arith;
        ahead = ahead;
      })

  pub begun-fits : queue_fits name ≡ true → name.task < open_tasks notes.known name.stage → AreOpen notes names → (there : Bool) → IsFitPhase notes (leased_or_gone there notes.known name names)
  begun-fits fits below ahead true = begun_by-fits fits below ahead (stage_in notes.known name.stage) refl
  begun-fits fits below ahead false = next_try-fits notes names ahead

  begun_by-on : (o : Option Stage) → turn_at (begun_by o name names) ≡ Ok On
  begun_by-on None = next_try-on names
  begun_by-on (Some s) = fetching-on notes name (inputs_of s name.task) [] names

  pub begun-on : (there : Bool) → turn_at (leased_or_gone there notes.known name names) ≡ Ok On
  begun-on true = begun_by-on (stage_in notes.known name.stage)
  begun-on false = next_try-on names

  -- by what the lease answers
  pub begun-is : (given : Option QueueName) (phase : Phase) → IfSome given (λ leased. leased ≡ name) → IfSome given (λ leased. phase ≡ begun notes.known leased names)
      → (IsNone given → phase ≡ next_try names) → phase ≡ leased_or_gone (is_some given) notes.known name names
  begun-is (Some leased) phase same is gone = is ∙ ap (λ (n : QueueName). begun notes.known n names) same
  begun-is None phase same is gone = gone refl

-- the name of a lease fits
pub still_fits : (notes : Notes) (name : QueueName) → HasLimits notes.plan → queue_fits name ≡ true → name.attempt < notes.plan.tries → queue_fits (leased notes notes.at name) ≡ true
still_fits notes name limits fits few =
    let most = limits.tries.1 in leased_fits notes.at notes.plan.lease name fits (omega (arith, few, most))

-- ---- names that may be leased may be leased later too
pub open_later : (notes : Notes) (at tried : ℕ) → notes.at ≤ at → (name : QueueName) → IsOpen notes name → IsOpen (record { plan = notes.plan; known = notes.known; at = at; tried = tried }) name
open_later notes at tried later name one =
    let due = one.due.due in record { due = record { fits = one.due.fits; due = omega (arith, due, later) }; below = one.below }

pub all_open_later : (notes : Notes) (at tried : ℕ) → notes.at ≤ at → (names : List QueueName) → AreOpen notes names → AreOpen (record { plan = notes.plan; known = notes.known; at = at; tried = tried }) names
all_open_later notes at tried later names are = λ i d below. open_later notes at tried later _ (are i d below)

-- ---- the first name is tried
module _ (from to : ℕ) (notes : Notes) (names : List QueueName) (name : QueueName) (rest : List QueueName) (are : names ≡ name ∷ rest) where
  pub first_open : AreOpen notes names → IsOpen notes name
  first_open all = All-head (IsOpen notes) name rest (subst (λ ns. AreOpen notes ns) are all)

  pub rest_open : AreOpen notes names → AreOpen notes rest
  rest_open all = All-tail (IsOpen notes) name rest (subst (λ ns. AreOpen notes ns) are all)

  tries_by : notes.tried < notes.plan.turns → (b : Bool) → nat_le notes.plan.tries name.attempt ≡ b → (m : Move) → TriesBy b from to notes name rest m → TriesName from to notes names m
  tries_by turn b test m h = subst (λ ns. TriesName from to notes ns m) (sym are) (turn, subst (λ t. TriesBy t from to notes name rest m) (sym test) h)

  pub buries_as : notes.tried < notes.plan.turns → notes.plan.tries ≤ name.attempt → (m : Move) → BuriesSpent (tried_one notes) name rest m → TriesName from to notes names m
  buries_as turn many m b = tries_by turn true (le-leb notes.plan.tries name.attempt many) m b

  pub leases_as : notes.tried < notes.plan.turns → name.attempt < notes.plan.tries → (now : ℕ) → from ≤ now → now ≤ to → (m : Move) → TakesLease (tried_one (asked notes now)) name rest m
      → TriesName from to notes names m
  leases_as turn few now after before m (there, is) =
      tries_by turn false (lt-leb notes.plan.tries name.attempt few) m (record { now = now; after = after; before = before; there = there; is = is })
