-- A worker tells no dead letter before it has listed the done tasks.
use Rattle.std.specs.Prelude.{◌≡◌, ◌⊎◌, nat_le, ℕ, Bool, true, false, List, [], ◌∷◌, ◌++◌, Option, None, Some, refl}
use Rattle.std.proofs.Common.{inl, inr, ap, sym, subst, true≢false, ◌∙◌}
use Rattle.std.proofs.lemmas.Bool.{cases_Bool}
use Rattle.ig_space.specs.declared.task_id.TaskId.{TaskId}
use Rattle.ig_defs.specs.declared.queue_name.QueueName.{QueueName}
use Rattle.ig_defs.specs.declared.step.Act.{Act}
use Rattle.ig_defs.specs.Files.{Files}
use Rattle.ig_defs.specs.Log.{Log}
use Rattle.ig_cutout.specs.declared.types.Output.{Output}
use Rattle.ig_record.specs.declared.stage.Stage.{Stage}
use Rattle.ig_record.specs.Reading.{record_in}
use Rattle.ig_worker.specs.declared.notes.Notes.{Notes}
use Rattle.ig_worker.specs.declared.phase.Phase.{Phase}
use Rattle.ig_worker.specs.declared.phase.Phase.TheVariants.{Starting, Learning, Asking, Trying, Fetching, Running, Finishing, Closing, ListingDead, ListingDone, Telling, Over, Broken}
use Rattle.ig_worker.specs.declared.phase.Then.TheVariants.{Ask, Try, Count}
use Rattle.ig_worker.specs.declared.turn.Line.{Line}
use Rattle.ig_worker.specs.Ending.AtEnd.{TellsNone, is_letter}
use Rattle.ig_worker.specs.Course.{Course, said_of}
use Rattle.ig_worker.specs.Ending.Sorts.{not_both}
use Rattle.ig_worker.specs.Ending.LastTimes.{is_ending}
use Rattle.ig_worker.specs.Moves.{ActsOn, HandsOver, Leads, Makes, Move, Outcome, Refuses, TriesBy, by_presence, said_if, said_of_input}
use Rattle.ig_worker.specs.Places.{State, counted, learning, learnt, learnt_by}
use Rattle.ig_worker.specs.Stages.{Known}

none_then : (xs ys : List Line) → TellsNone xs → TellsNone ys → TellsNone (xs ++ ys)
none_then [] ys a b = b
none_then (x ∷ xs) ys a b = (a.0, none_then xs ys a.1 b)

-- ---- from the end no move leads back
abbrev pub is_late : Phase → Bool
is_late (Broken error) = true
is_late phase = is_ending phase

count_late : (known : Known) (unread : List ℕ) → is_late (learning known unread Count) ≡ true
count_late known [] = refl
count_late known (n ∷ unread) = refl

learnt_by_late : (notes : Notes) (n : ℕ) (unread text : List ℕ) (o : Option Stage) → is_late (learnt_by notes n unread Count text o).phase ≡ true
learnt_by_late notes n unread text None = refl
learnt_by_late notes n unread text (Some s) = count_late _ unread

learnt_late : (notes : Notes) (n : ℕ) (unread : List ℕ) (found : Option (List ℕ)) → is_late (learnt notes n unread Count found).phase ≡ true
learnt_late notes n unread None = refl
learnt_late notes n unread (Some text) = learnt_by_late notes n unread text (record_in n text)

counted_late : (known : Known) (letters : List TaskId) (given : List (List ℕ)) → is_late (counted known letters given) ≡ true
counted_late known [] given = refl
counted_late known (id ∷ letters) given = refl

late_on : (from to : ℕ) (notes : Notes) (phase : Phase) (m : Move) → Leads from to notes phase m → is_late phase ≡ true → is_late m.next.phase ≡ true
late_on from to notes (Learning [] goal) m h e = absurd h
late_on from to notes (Learning (n ∷ unread) Count) m h e = ap (λ (v : Move). is_late v.next.phase) h.1 ∙ learnt_late notes n unread h.0
late_on from to notes (Learning (n ∷ unread) Ask) m h e = absurd (true≢false (sym e))
late_on from to notes (Learning (n ∷ unread) (Try names)) m h e = absurd (true≢false (sym e))
late_on from to notes ListingDead m h e = ap (λ (v : Move). is_late v.next.phase) h.1
late_on from to notes (ListingDone letters) m h e = ap (λ (v : Move). is_late v.next.phase) h.1 ∙ counted_late notes.known letters h.0
late_on from to notes (Telling letters count) m h e = absurd h
late_on from to notes (Over end) m h e = absurd h
late_on from to notes (Broken error) m h e = absurd h
late_on from to notes phase m h e = absurd (true≢false (sym e))

stays_late : (allows : Bool → Files → Act → Type 0) (from : ℕ) (s : State) (old : Log) (ms : List Move) (to : ℕ) (next : State) (new : Log) → Course allows from s old ms to next new → is_late s.phase ≡ true → is_late next.phase ≡ true
stays_late allows from s old [] to next new c e = ap (λ (t : State). is_late t.phase) c.1 ∙ e
stays_late allows from s old (m ∷ ms) to next new c e = stays_late allows c.0 m.next c.1 ms to next new c.4 (late_on from c.0 s.notes s.phase m c.3.leads e)

-- ---- what a move says
abbrev Silent : Move → Type 0
Silent m = TellsNone m.said

presence_none : (b : Bool) (there gone : Line) → is_letter there ≡ false → is_letter gone ≡ false → TellsNone (by_presence b there gone ∷ [])
presence_none true there gone a c = (a, tt)
presence_none false there gone a c = (c, tt)

said_none : (b : Bool) (l : Line) → is_letter l ≡ false → TellsNone (said_if b l)
said_none true l e = (e, tt)
said_none false l e = tt

input_none : (name : QueueName) (path : List ℕ) (found : Option (List ℕ)) → TellsNone (said_of_input name path found)
input_none name path None = (refl, tt)
input_none name path (Some bytes) = tt

tries_none : (from to : ℕ) (notes : Notes) (name : QueueName) (names : List QueueName) (m : Move) (b : Bool) → TriesBy b from to notes name names m → Silent m
tries_none from to notes name names m true h = subst Silent (sym h.1) (said_none h.0 _ refl)
tries_none from to notes name names m false h = subst Silent (sym h.is) tt

names_none : (from to : ℕ) (notes : Notes) (names : List QueueName) (m : Move) → Leads from to notes (Trying names) m → Silent m
names_none from to notes [] m h = absurd h
names_none from to notes (name ∷ names) m h = tries_none from to notes name names m (nat_le notes.plan.tries name.attempt) h.1

hands_none : (notes : Notes) (name : QueueName) (outputs : List Output) (names : List QueueName) (m : Move) → HandsOver notes name outputs names m → Silent m
hands_none notes name [] names m h = subst Silent (sym h.1) (presence_none h.0 _ _ refl refl)
hands_none notes name (output ∷ outputs) names m h = subst Silent (sym h.1) tt

runs_none : (notes : Notes) (name : QueueName) (names : List QueueName) (m : Move) (outcome : Outcome) → ActsOn notes name outcome names m → Silent m
runs_none notes name names m (Makes outputs) h = hands_none notes name outputs names m h
runs_none notes name names m (Refuses cause) h = subst Silent (sym h.1) (presence_none h.0 _ _ refl refl)

leads_none : (from to : ℕ) (notes : Notes) (phase : Phase) (m : Move) → Leads from to notes phase m → is_late m.next.phase ≡ false → Silent m
leads_none from to notes Starting m h e = subst Silent (sym h.1) tt
leads_none from to notes (Learning [] goal) m h e = absurd h
leads_none from to notes (Learning (n ∷ unread) goal) m h e = subst Silent (sym h.1) tt
leads_none from to notes Asking m h e = subst Silent (sym h.is) tt
leads_none from to notes (Trying names) m h e = names_none from to notes names m h
leads_none from to notes (Fetching name paths given names) m h e = subst Silent (sym h.is) (input_none name h.path h.found)
leads_none from to notes (Running name given names) m h e = runs_none notes name names m h.outcome h.acts
leads_none from to notes (Finishing name outputs names) m h e = hands_none notes name outputs names m h
leads_none from to notes Closing m h e = subst Silent (sym h.1) tt
leads_none from to notes ListingDead m h e = subst Silent (sym h.1) tt
leads_none from to notes (ListingDone letters) m h e = not_both (is_late m.next.phase) (ap (λ (v : Move). is_late v.next.phase) h.1 ∙ counted_late notes.known letters h.0) e
leads_none from to notes (Telling letters count) m h e = absurd h
leads_none from to notes (Over end) m h e = absurd h
leads_none from to notes (Broken error) m h e = absurd h

-- A course to a place before the end tells no dead letter.
pub course_none : (allows : Bool → Files → Act → Type 0) (from : ℕ) (s : State) (old : Log) (ms : List Move) (to : ℕ) (next : State) (new : Log) → Course allows from s old ms to next new → is_late next.phase ≡ false
    → TellsNone (said_of ms)
course_none allows from s old [] to next new c e = tt
course_none allows from s old (m ∷ ms) to next new c e =
    none_then m.said (said_of ms) (by_place (cases_Bool (is_late m.next.phase))) (course_none allows c.0 m.next c.1 ms to next new c.4 e)
  where
    by_place : (is_late m.next.phase ≡ true) ⊎ (is_late m.next.phase ≡ false) → Silent m
    by_place (inl late) = not_both (is_late next.phase) (stays_late allows c.0 m.next c.1 ms to next new c.4 late) e
    by_place (inr other) = leads_none from c.0 s.notes s.phase m c.3.leads other
