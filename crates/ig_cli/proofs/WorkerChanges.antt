-- What a worker has to say of a call that changed the files.
use Rattle.std.proofs.Common.{◌≡◌, ◌⊎◌, ◌<◌, nat_le, ℕ, Bool, true, false, List, [], ◌∷◌, sym, ap, subst, inl, inr}
use Rattle.ig_cutout.specs.declared.types.Output.{Output}
use Rattle.ig_defs.specs.Answers.{IsChange}
use Rattle.ig_defs.specs.declared.queue_name.QueueName.{QueueName}
use Rattle.ig_worker.specs.declared.notes.Notes.{Notes}
use Rattle.ig_worker.specs.declared.phase.Phase.{Phase}
use Rattle.ig_worker.specs.declared.phase.Phase.TheVariants.{Starting, Learning, Asking, Trying, Fetching, Running, Finishing, Closing, ListingDead, ListingDone, Telling, Over, Broken}
use Rattle.ig_worker.specs.declared.phase.Then.{Then}
use Rattle.ig_worker.specs.Moves.{ActsOn, HandsOver, Leads, Makes, Move, Outcome, ReadsRecord, Refuses, TriesBy, TriesName}
use Rattle.ig_cli.specs.Worked.{MovesFile}

-- it moved a file, or it has nothing to say
abbrev pub IsTold : Move → Type 0
IsTold m = MovesFile m.call m.answer ⊎ (m.said ≡ [])

abbrev Changes : Move → Type 0
Changes m = IsChange m.call m.answer

abbrev IsMoved : Move → Type 0
IsMoved m = MovesFile m.call m.answer

-- ---- by what the call was
none : (m made : Move) → m ≡ made → (Changes made → ⊥) → Changes m → IsTold m
none m made is looks changes = absurd (looks (subst Changes is changes))

moved : (m made : Move) → m ≡ made → (Changes made → IsMoved made) → Changes m → IsTold m
moved m made is moves changes = inl (subst IsMoved (sym is) (moves (subst Changes is changes)))

reads : (notes : Notes) (unread : List ℕ) (later : Then) (m : Move) → ReadsRecord notes unread later m → Changes m → IsTold m
reads notes [] later m leads changes = absurd leads
reads notes (n ∷ unread) later m leads changes = none m _ leads.1 (λ c. c) changes

tries_by : (b : Bool) (from to : ℕ) (notes : Notes) (name : QueueName) (names : List QueueName) (m : Move) → TriesBy b from to notes name names m → Changes m → IsTold m
tries_by true from to notes name names m leads changes = moved m _ leads.1 (λ c. c) changes
tries_by false from to notes name names m leads changes = moved m _ leads.is (λ c. c) changes

tries : (from to : ℕ) (notes : Notes) (names : List QueueName) (m : Move) → TriesName from to notes names m → Changes m → IsTold m
tries from to notes [] m leads changes = absurd leads
tries from to notes (name ∷ names) m leads changes = tries_by (nat_le notes.plan.tries name.attempt) from to notes name names m leads.1 changes

hands : (notes : Notes) (name : QueueName) (outputs : List Output) (names : List QueueName) (m : Move) → HandsOver notes name outputs names m → Changes m → IsTold m
hands notes name [] names m leads changes = moved m _ leads.1 (λ c. c) changes
hands notes name (output ∷ outputs) names m leads changes = inr (ap (λ (v : Move). v.said) leads.1)

acts : (notes : Notes) (name : QueueName) (outcome : Outcome) (names : List QueueName) (m : Move) → ActsOn notes name outcome names m → Changes m → IsTold m
acts notes name (Makes outputs) names m leads changes = hands notes name outputs names m leads changes
acts notes name (Refuses cause) names m leads changes = moved m _ leads.1 (λ c. c) changes

-- ---- from each place
pub changes_say : (from to : ℕ) (notes : Notes) (phase : Phase) (m : Move) → Leads from to notes phase m → Changes m → IsTold m
changes_say from to notes Starting m leads changes = none m _ leads.1 (λ c. c) changes
changes_say from to notes (Learning unread later) m leads changes = reads notes unread later m leads changes
changes_say from to notes Asking m leads changes = none m _ leads.is (λ c. c) changes
changes_say from to notes (Trying names) m leads changes = tries from to notes names m leads changes
changes_say from to notes (Fetching name paths given names) m leads changes = none m _ leads.is (λ c. c) changes
changes_say from to notes (Running name given names) m leads changes = acts notes name leads.outcome names m leads.acts changes
changes_say from to notes (Finishing name outputs names) m leads changes = hands notes name outputs names m leads changes
changes_say from to notes Closing m leads changes = none m _ leads.1 (λ c. c) changes
changes_say from to notes ListingDead m leads changes = none m _ leads.1 (λ c. c) changes
changes_say from to notes (ListingDone letters) m leads changes = none m _ leads.1 (λ c. c) changes
changes_say from to notes (Telling letters count) m leads changes = absurd leads
changes_say from to notes (Over end) m leads changes = absurd leads
changes_say from to notes (Broken error) m leads changes = absurd leads
