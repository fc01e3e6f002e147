-- Where a worker goes on while records are read, and once all are.
use Rattle.std.proofs.Common.{arith, ◌≡◌, ◌<◌, ◌^◌, ℕ, Bool, true, false, cond, List, [], ◌∷◌, length, All, Result, Ok, Err, IfOk, refl, ap, sym, subst, ◌∙◌}
use Rattle.std.proofs.lemmas.Bool.{ltb-true}
use Rattle.std.proofs.lemmas.List.Elements.{All-cons, All-head, All-nil, All-tail}
use Rattle.ig_defs.specs.declared.queue_name.QueueName.{QueueName}
use Rattle.ig_worker.specs.declared.notes.Notes.{Notes}
use Rattle.ig_worker.specs.declared.phase.Phase.{Phase}
use Rattle.ig_worker.specs.declared.phase.Then.{Then}
use Rattle.ig_worker.specs.declared.phase.Then.TheVariants.{Ask, Try, Count}
use Rattle.ig_worker.specs.declared.turn.Turn.TheVariants.{On}
use Rattle.ig_worker.specs.Fit.{IsDue, IsFitPhase, IsFitThen, IsOpen}
use Rattle.ig_worker.specs.Places.{learning, round_of}
use Rattle.ig_worker.specs.Stages.{Known, may_run, open_names}
use Rattle.ig_worker.specs.Steps.{turn_at}

-- ---- it goes on
turn_round : (names : List QueueName) → turn_at (round_of names) ≡ Ok On
turn_round [] = refl
turn_round (name ∷ names) = refl

pub turn_learning : (known : Known) (unread : List ℕ) (after : Then) → turn_at (learning known unread after) ≡ Ok On
turn_learning known [] Ask = refl
turn_learning known [] (Try names) = turn_round (open_names known names)
turn_learning known [] Count = refl
turn_learning known (n ∷ unread) after = refl

-- ---- and its place fits
open_by : (notes : Notes) (name : QueueName) (rest : List QueueName) (may : Bool) → may_run notes.known name ≡ may → IsDue notes.at name → All (IsOpen notes) rest
    → All (IsOpen notes) (cond may (name ∷ rest) rest)
open_by notes name rest true e due all = All-cons (IsOpen notes) name rest (record { due = due; below = ltb-true _ _ e }) all
open_by notes name rest false e due all = all

pub all_open : (notes : Notes) (names : List QueueName) → All (IsDue notes.at) names → All (IsOpen notes) (open_names notes.known names)
all_open notes [] all = All-nil (IsOpen notes)
all_open notes (name ∷ names) all =
    open_by notes name (open_names notes.known names) (may_run notes.known name) refl (All-head (IsDue notes.at) name names all) (all_open notes names (All-tail (IsDue notes.at) name names all))

fit_round : (notes : Notes) (names : List QueueName) → All (IsOpen notes) names → IsFitPhase notes (round_of names)
fit_round notes [] all = tt
fit_round notes (name ∷ names) all = (some name names, all)
  where
    some : (first : QueueName) (rest : List QueueName) → 0 < length (first ∷ rest)
    some first rest = omega arith

pub fit_learning : (notes : Notes) (unread : List ℕ) (after : Then) → All (λ n. n < 10 ^ 4) unread → IsFitThen notes.at after → IsFitPhase notes (learning notes.known unread after)
fit_learning notes [] Ask few fit = tt
fit_learning notes [] (Try names) few fit = fit_round notes (open_names notes.known names) (all_open notes names fit)
fit_learning notes [] Count few fit = tt
fit_learning notes (n ∷ unread) after few fit = (omega arith, few, fit)

-- the same of a result
pub fit_learnt : {E : Type 0} (notes : Notes) (known : Known) (unread : List ℕ) (after : Then) (result : Result Phase E) → All (λ n. n < 10 ^ 4) unread
    → IfOk result (λ phase. phase ≡ learning known unread after) → notes.known ≡ known → IsFitThen notes.at after → IfOk result (IsFitPhase notes)
fit_learnt notes known unread after (Ok phase) few is same fit =
    subst (IsFitPhase notes) (ap (λ (k : Known). learning k unread after) same ∙ sym is) (fit_learning notes unread after few fit)
fit_learnt notes known unread after (Err e) few is same fit = tt
