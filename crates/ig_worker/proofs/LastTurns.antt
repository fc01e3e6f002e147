-- A step gives an end or an error exactly where the worker is over then.
use Rattle.std.specs.Prelude.{◌≡◌, ℕ, Bool, true, false, List, [], ◌∷◌, map, nat_le, Option, None, Some, Result, Ok, Err, IfOk, refl}
use Rattle.std.proofs.Common.{inl, inr, ap, sym, subst, ◌∙◌, true≢false}
use Rattle.ig_space.specs.declared.task_id.TaskId.{TaskId}
use Rattle.ig_defs.specs.declared.queue_name.QueueName.{QueueName}
use Rattle.ig_cutout.specs.declared.types.Input.{Input}
use Rattle.ig_cutout.specs.declared.types.Output.{Output}
use Rattle.ig_worker.specs.declared.error.WorkerError.{WorkerError}
use Rattle.ig_worker.specs.declared.next.Next.{Next}
use Rattle.ig_worker.specs.declared.notes.Notes.{Notes}
use Rattle.ig_worker.specs.declared.phase.Phase.{Phase}
use Rattle.ig_worker.specs.declared.phase.Phase.TheVariants.{Starting, Learning, Asking, Trying, Fetching, Running, Finishing, Closing, ListingDead, ListingDone, Telling, Over, Broken}
use Rattle.ig_worker.specs.declared.turn.Line.{Line}
use Rattle.ig_worker.specs.declared.turn.Line.TheVariants as line
use Rattle.ig_worker.specs.declared.turn.Turn.{Turn}
use Rattle.ig_defs.specs.Answers.{Answer, Call}
use Rattle.ig_worker.specs.Going.{GoesTo, IsSettled}
use Rattle.ig_worker.specs.Left.{is_over}
use Rattle.ig_worker.specs.Moves.{ActsOn, HandsOver, Leads, Makes, Move, Outcome, Refuses, TriesBy, moves, said_of_input}
use Rattle.ig_worker.specs.Places.{State, stands, counted, fetched, next_try}
use Rattle.ig_worker.specs.Stages.{Known}
use Rattle.ig_worker.specs.Steps.{Rests, answer_of, is_last, turn_at}

-- what is said leaves the worker in its work
abbrev SaysOnly : List Line → Phase → Type 0
SaysOnly [] phase = Unit {0}
SaysOnly (l ∷ lines) phase = is_over phase ≡ false

last_at : (phase : Phase) → is_over phase ≡ is_last (turn_at phase)
last_at Starting = refl
last_at (Learning unread then) = refl
last_at Asking = refl
last_at (Trying names) = refl
last_at (Fetching name paths given names) = refl
last_at (Running name given names) = refl
last_at (Finishing name outputs names) = refl
last_at Closing = refl
last_at ListingDead = refl
last_at (ListingDone letters) = refl
last_at (Telling letters count) = refl
last_at (Over end) = refl
last_at (Broken error) = refl

last_answer : (said : List Line) (phase : Phase) → SaysOnly said phase → is_over phase ≡ is_last (answer_of said phase)
last_answer [] phase only = last_at phase
last_answer (l ∷ lines) phase only = only

-- ---- what each move says
only_at_try : (said : List Line) (names : List QueueName) → SaysOnly said (next_try names)
only_at_try [] names = tt
only_at_try (l ∷ lines) [] = refl
only_at_try (l ∷ lines) (name ∷ names) = refl

only_fetched : (name : QueueName) (paths : List (List ℕ)) (given : List Input) (names : List QueueName) (path : List ℕ) (found : Option (List ℕ))
    → SaysOnly (said_of_input name path found) (fetched name paths given names path found)
only_fetched name paths given names path None = only_at_try (said_of_input name path None) names
only_fetched name paths given names path (Some bytes) = tt

only_counted : (known : Known) (letters : List TaskId) (given : List (List ℕ)) → SaysOnly (map line.Letter letters) (counted known letters given)
only_counted known [] given = tt
only_counted known (id ∷ letters) given = refl

abbrev Says : Move → Type 0
Says m = SaysOnly m.said m.next.phase

says_as : (m n : Move) → m ≡ n → Says n → Says m
says_as m n same says = subst Says (sym same) says

says_at_try : (m : Move) (call : Call) (answer : Answer) (notes : Notes) (names : List QueueName) (said : List Line) → m ≡ moves call answer (stands notes (next_try names)) said → Says m
says_at_try m call answer notes names said is = says_as m _ is (only_at_try said names)

only_over : (notes : Notes) (name : QueueName) (outputs : List Output) (names : List QueueName) (m : Move) → HandsOver notes name outputs names m → Says m
only_over notes name [] names m leads = says_at_try m _ _ _ _ _ leads.1
only_over notes name (output ∷ outputs) names m leads = says_as m _ leads.1 tt

only_acts : (notes : Notes) (name : QueueName) (outcome : Outcome) (names : List QueueName) (m : Move) → ActsOn notes name outcome names m → Says m
only_acts notes name (Makes outputs) names m leads = only_over notes name outputs names m leads
only_acts notes name (Refuses cause) names m leads = says_at_try m _ _ _ _ _ leads.1

only_tries : (often : Bool) (from to : ℕ) (notes : Notes) (name : QueueName) (names : List QueueName) (m : Move) → TriesBy often from to notes name names m → Says m
only_tries true from to notes name names m leads = says_at_try m _ _ _ _ _ leads.1
only_tries false from to notes name names m leads = says_as m _ leads.is tt

move_says : (from to : ℕ) (notes : Notes) (phase : Phase) (m : Move) → Leads from to notes phase m → Says m
move_says from to notes Starting m leads = says_as m _ leads.1 tt
move_says from to notes (Learning [] then) m leads = absurd leads
move_says from to notes (Learning (n ∷ unread) then) m leads = says_as m _ leads.1 tt
move_says from to notes Asking m leads = says_as m _ leads.is tt
move_says from to notes (Trying []) m leads = absurd leads
move_says from to notes (Trying (name ∷ names)) m leads = only_tries (nat_le notes.plan.tries name.attempt) from to notes name names m leads.1
move_says from to notes (Fetching name paths given names) m leads = says_as m _ leads.is (only_fetched name paths given names leads.path leads.found)
move_says from to notes (Running name given names) m leads = only_acts notes name leads.outcome names m leads.acts
move_says from to notes (Finishing name outputs names) m leads = only_over notes name outputs names m leads
move_says from to notes Closing m leads = says_as m _ leads.1 tt
move_says from to notes ListingDead m leads = says_as m _ leads.1 tt
move_says from to notes (ListingDone letters) m leads = says_as m _ leads.1 (only_counted notes.known letters leads.0)
move_says from to notes (Telling letters count) m leads = absurd leads
move_says from to notes (Over end) m leads = absurd leads
move_says from to notes (Broken error) m leads = absurd leads

-- ---- a step
rest_last : (notes : Notes) (phase : Phase) (next : State) (result : Result Turn WorkerError) → is_over phase ≡ false → Rests notes phase next result → is_over next.phase ≡ is_last result
rest_last notes (Trying names) next result going rests = ap (λ s. is_over s.phase) rests.1 ∙ sym (ap is_last rests.2)
rest_last notes (Telling [] count) next result going rests = ap (λ s. is_over s.phase) rests.0 ∙ sym (ap is_last rests.1)
rest_last notes (Telling (id ∷ letters) count) next result going rests = ap (λ s. is_over s.phase) rests.0 ∙ sym (ap is_last rests.1)
rest_last notes (Over end) next result going rests = absurd (true≢false going)
rest_last notes (Broken error) next result going rests = absurd (true≢false going)
rest_last notes Starting next result going rests = absurd rests
rest_last notes (Learning unread then) next result going rests = absurd rests
rest_last notes Asking next result going rests = absurd rests
rest_last notes (Fetching name paths given names) next result going rests = absurd rests
rest_last notes (Running name given names) next result going rests = absurd rests
rest_last notes (Finishing name outputs names) next result going rests = absurd rests
rest_last notes Closing next result going rests = absurd rests
rest_last notes ListingDead next result going rests = absurd rests
rest_last notes (ListingDone letters) next result going rests = absurd rests

goes_last : (from to : ℕ) (before : Notes) (phase : Phase) (now : Notes) (next : Next) → is_over phase ≡ false → GoesTo from to before phase now next → is_over next.phase ≡ is_last (Ok next.turn)
goes_last from to before phase now next going (inl goes) =
    last_answer goes.move.said next.phase (subst (λ (s : State). SaysOnly goes.move.said s.phase) goes.next (move_says from to before phase goes.move goes.leads)) ∙ ap is_last goes.turn
goes_last from to before phase now next going (inr rests) = rest_last before phase (stands now next.phase) (Ok next.turn) going rests

pub settled_last : (from to : ℕ) (before now : Notes) (phase : Phase) (came : Result Next WorkerError) (place : Phase) (result : Result Turn WorkerError)
    → is_over phase ≡ false → IfOk came (GoesTo from to before phase now) → IsSettled came place result → is_over place ≡ is_last result
settled_last from to before now phase (Ok next) place result going goes settled =
    ap is_over settled.1 ∙ goes_last from to before phase now next going goes ∙ sym (ap is_last settled.2)
settled_last from to before now phase (Err e) place result going goes settled = ap is_over settled.0.is ∙ sym (ap is_last settled.1)
