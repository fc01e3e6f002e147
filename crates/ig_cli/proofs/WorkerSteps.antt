-- One step of a worker more.
use Rattle.std.proofs.Common.{◌≡◌, ℕ, Bool, true, false, List, [], ◌∷◌, ◌++◌, Option, None, Some, Result, Ok, Err, refl, ap, sym, ◌∙◌, append_assoc, true≢false}
use Rattle.ig_space.specs.declared.task_id.TaskId.{TaskId}
use Rattle.ig_worker.specs.declared.error.WorkerError.{WorkerError}
use Rattle.ig_worker.specs.declared.notes.Notes.{Notes}
use Rattle.ig_worker.specs.declared.phase.Phase.{Phase}
use Rattle.ig_worker.specs.declared.phase.Phase.TheVariants.{Starting, Learning, Asking, Trying, Fetching, Running, Finishing, Closing, ListingDead, ListingDone, Telling, Over, Broken}
use Rattle.ig_worker.specs.declared.turn.End.{End}
use Rattle.ig_worker.specs.declared.turn.Line.{Line}
use Rattle.ig_worker.specs.declared.turn.Turn.{Turn}
use Rattle.ig_worker.specs.declared.turn.Turn.TheVariants.{On, Said, Ended}
use Rattle.ig_worker.specs.Course.{end_at, said_of}
use Rattle.ig_worker.specs.Moves.{Leads, Move}
use Rattle.ig_worker.specs.Places.{State}
use Rattle.ig_worker.specs.Steps.{answer_of, turn_at}
use Rattle.ig_cli.specs.Worked.{but_last}
use Rattle.ig_cli.proofs.WorkerSpeaks.{Quiet, Says, Speaks, unsaid}

-- ---- lists
pub said_of-append : (ms ns : List Move) → said_of (ms ++ ns) ≡ said_of ms ++ said_of ns
said_of-append [] ns = refl
said_of-append (m ∷ ms) ns = ap (λ ls. m.said ++ ls) (said_of-append ms ns) ∙ sym (append_assoc m.said (said_of ms) (said_of ns))

pub but_last-append : (ms : List Move) (m : Move) → but_last (ms ++ m ∷ []) ≡ ms
but_last-append [] m = refl
but_last-append (first ∷ []) m = refl
but_last-append (first ∷ next ∷ ms) m = ap (λ ns. first ∷ ns) (but_last-append (next ∷ ms) m)

-- ---- where the worker stands
-- The place that the moves have led to is the worker's own, or both only tell letters.
pub data IsAt (w place : State) : Type 0 where
  Same : w ≡ place → IsAt w place
  Tells : (letters first : List TaskId) (count : ℕ) → w.phase ≡ Telling letters count → place.phase ≡ Telling first count → IsAt w place

-- where it doesn't tell, it is its own
abbrev pub is_telling : Phase → Bool
is_telling (Telling letters count) = true
is_telling phase = false

pub own_place : (w place : State) → IsAt w place → is_telling w.phase ≡ false → w ≡ place
own_place w place (Same same) quiet = same
own_place w place (Tells letters first count is there) quiet = absurd (true≢false (sym (ap is_telling is) ∙ quiet))

pub leads_quiet : (from to : ℕ) (notes : Notes) (phase : Phase) (m : Move) → Leads from to notes phase m → is_telling phase ≡ false
leads_quiet from to notes (Telling letters count) m h = absurd h
leads_quiet from to notes Starting m h = refl
leads_quiet from to notes (Learning unread later) m h = refl
leads_quiet from to notes Asking m h = refl
leads_quiet from to notes (Trying names) m h = refl
leads_quiet from to notes (Fetching name paths given names) m h = refl
leads_quiet from to notes (Running name given names) m h = refl
leads_quiet from to notes (Finishing name outputs names) m h = refl
leads_quiet from to notes Closing m h = refl
leads_quiet from to notes ListingDead m h = refl
leads_quiet from to notes (ListingDone letters) m h = refl
leads_quiet from to notes (Over end) m h = refl
leads_quiet from to notes (Broken error) m h = refl

-- ---- what a step answers
abbrev pub said_by : Turn → List Line
said_by On = []
said_by (Said l) = l ∷ []
said_by (Ended end) = []

abbrev said_in : Result Turn WorkerError → List Line
said_in (Ok turn) = said_by turn
said_in (Err e) = []

abbrev end_in : Result Turn WorkerError → Option End
end_in (Ok On) = None
end_in (Ok (Said l)) = None
end_in (Ok (Ended e)) = Some e
end_in (Err e) = None

turn_says : (phase : Phase) → said_in (turn_at phase) ≡ []
turn_says (Over end) = refl
turn_says phase = refl

turn_ends : (notes : Notes) (phase : Phase) (e : End) → end_in (turn_at phase) ≡ Some e → end_at notes phase ≡ Some e
turn_ends notes (Over end) e is = is
turn_ends notes phase e is = absurd cc

-- at once but for what is still to be told
pub said_at_once : (m : Move) (turn : Turn) → Speaks m → answer_of m.said m.next.phase ≡ Ok turn → said_by turn ++ unsaid m.next.phase ≡ m.said
said_at_once m turn (Quiet nothing none) is =
    let quiet : said_by turn ≡ [] = sym (ap said_in (sym (ap (λ ls. answer_of ls m.next.phase) nothing) ∙ is)) ∙ turn_says m.next.phase in
    ap (λ ls. ls ++ unsaid m.next.phase) quiet ∙ none ∙ sym nothing
said_at_once m turn (Says l says more) is =
    let told : said_by turn ≡ l ∷ [] = sym (ap said_in (sym (ap (λ ls. answer_of ls m.next.phase) says) ∙ is)) in
    ap (λ ls. ls ++ unsaid m.next.phase) told ∙ sym says

pub ends_at_once : (m : Move) (turn : Turn) → Speaks m → answer_of m.said m.next.phase ≡ Ok turn → (e : End) → turn ≡ Ended e
    → (end_at m.next.notes m.next.phase ≡ Some e) × (unsaid m.next.phase ≡ [])
ends_at_once m turn (Quiet nothing none) is e ends =
    (turn_ends m.next.notes m.next.phase e (ap end_in (sym (ap (λ ls. answer_of ls m.next.phase) nothing) ∙ is) ∙ ap (λ t. end_in (Ok t)) ends), none)
ends_at_once m turn (Says l says more) is e ends =
    let other : None ≡ Some e = ap end_in (sym (ap (λ ls. answer_of ls m.next.phase) says) ∙ is) ∙ ap (λ t. end_in (Ok t)) ends in
    absurd cc
