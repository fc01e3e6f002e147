-- What a move says is told at once, but for dead letters after the first.
use Rattle.std.proofs.Common.{◌≡◌, ◌==◌, if◌then◌else◌, ℕ, Bool, true, false, nat_le, List, [], ◌∷◌, map, length, Option, None, Some, refl, sym, subst}
use Rattle.ig_space.specs.declared.task_id.TaskId.{TaskId}
use Rattle.ig_defs.specs.declared.queue_name.QueueName.{QueueName}
use Rattle.ig_defs.specs.QueueNames.{task_of}
use Rattle.ig_cutout.specs.declared.types.Input.{Input}
use Rattle.ig_cutout.specs.declared.types.Output.{Output}
use Rattle.ig_record.specs.declared.stage.Stage.{Stage}
use Rattle.ig_record.specs.Reading.{record_in}
use Rattle.ig_record.specs.Columns.{inputs_of}
use Rattle.ig_worker.specs.declared.notes.Notes.{Notes}
use Rattle.ig_worker.specs.declared.phase.Phase.{Phase}
use Rattle.ig_worker.specs.declared.phase.Phase.TheVariants.{Starting, Learning, Asking, Trying, Fetching, Running, Finishing, Closing, ListingDead, ListingDone, Telling, Over, Broken}
use Rattle.ig_worker.specs.declared.phase.Then.{Then}
use Rattle.ig_worker.specs.declared.phase.Then.TheVariants.{Ask, Try, Count}
use Rattle.ig_worker.specs.declared.turn.Line.{Line}
use Rattle.ig_worker.specs.declared.turn.Line.TheVariants as line
use Rattle.ig_defs.specs.Answers.{Answer, Call}
use Rattle.ig_worker.specs.Left.{is_over}
use Rattle.ig_worker.specs.Moves.{ActsOn, HandsOver, Leads, Makes, Move, Outcome, Refuses, TriesBy, TriesName, moves, said_if, said_of_input}
use Rattle.ig_worker.specs.Places.{State, begun_by, counted, fetched, fetching, learning, learnt, learnt_all, learnt_by, leased_or_gone, next_try, round_of, stands}
use Rattle.ig_worker.specs.Stages.{Known, open_names, stage_in, unknown_listed, unknown_named}

-- the lines that a worker has still to tell that stands here
abbrev pub unsaid : Phase → List Line
unsaid (Telling letters count) = map line.Letter letters
unsaid phase = []

pub data Speaks (m : Move) : Type 0 where
  Quiet : m.said ≡ [] → unsaid m.next.phase ≡ [] → Speaks m
  Says : (l : Line) → m.said ≡ l ∷ unsaid m.next.phase → is_over m.next.phase ≡ false → Speaks m

quiet : (m : Move) (call : Call) (answer : Answer) (next : State) → m ≡ moves call answer next [] → unsaid next.phase ≡ [] → Speaks m
quiet m call answer next is none = subst Speaks (sym is) (Quiet refl none)

-- a place where it goes on, and tells nothing
record Goes (phase : Phase) : Type 0 where
  none : unsaid phase ≡ []
  more : is_over phase ≡ false

says : (m : Move) (call : Call) (answer : Answer) (next : State) (l : Line) → m ≡ moves call answer next (l ∷ []) → Goes next.phase → Speaks m
says m call answer next l is goes =
    subst Speaks (sym is) (Says l (subst (λ ls. (l ∷ []) ≡ (l ∷ ls)) (sym goes.none) refl) goes.more)

-- ---- where no letters are to be told
round_goes : (names : List QueueName) → unsaid (round_of names) ≡ []
round_goes [] = refl
round_goes (name ∷ names) = refl

learnt_all_goes : (known : Known) (later : Then) → unsaid (learnt_all known later) ≡ []
learnt_all_goes known Ask = refl
learnt_all_goes known (Try names) = round_goes (open_names known names)
learnt_all_goes known Count = refl

learning_goes : (known : Known) (unread : List ℕ) (later : Then) → unsaid (learning known unread later) ≡ []
learning_goes known [] later = learnt_all_goes known later
learning_goes known (n ∷ unread) later = refl

learnt_by_goes : (notes : Notes) (n : ℕ) (unread : List ℕ) (later : Then) (text : List ℕ) (s : Option Stage) → unsaid (learnt_by notes n unread later text s).phase ≡ []
learnt_by_goes notes n unread later text None = refl
learnt_by_goes notes n unread later text (Some s) = learning_goes _ unread later

learnt_goes : (notes : Notes) (n : ℕ) (unread : List ℕ) (later : Then) (found : Option (List ℕ)) → unsaid (learnt notes n unread later found).phase ≡ []
learnt_goes notes n unread later None = refl
learnt_goes notes n unread later (Some text) = learnt_by_goes notes n unread later text (record_in n text)

next_goes : (names : List QueueName) → Goes (next_try names)
next_goes [] = record { none = refl; more = refl }
next_goes (name ∷ names) = record { none = refl; more = refl }

choice_goes : (b : Bool) (one other : Phase) → unsaid one ≡ [] → unsaid other ≡ [] → unsaid (if b then one else other) ≡ []
choice_goes true one other a b = a
choice_goes false one other a b = b

fetching_goes : (name : QueueName) (paths : List (List ℕ)) (given : List Input) (names : List QueueName) → unsaid (fetching name paths given names) ≡ []
fetching_goes name paths given names = choice_goes (length given == length paths) (Running name given names) (Fetching name paths given names) refl refl

begun_by_goes : (s : Option Stage) (name : QueueName) (names : List QueueName) → unsaid (begun_by s name names) ≡ []
begun_by_goes None name names = (next_goes names).none
begun_by_goes (Some s) name names = fetching_goes name (inputs_of s name.task) [] names

leased_goes : (there : Bool) (known : Known) (name : QueueName) (names : List QueueName) → unsaid (leased_or_gone there known name names) ≡ []
leased_goes true known name names = begun_by_goes (stage_in known name.stage) name names
leased_goes false known name names = (next_goes names).none

-- ---- each move
module _ (from to : ℕ) (notes : Notes) (m : Move) where
  buries : (there : Bool) (call : Call) (answer : Answer) (next : Notes) (names : List QueueName) (l : Line)
      → m ≡ moves call answer (stands next (next_try names)) (said_if there l) → Speaks m
  buries true call answer next names l is = says m call answer (stands next (next_try names)) l is (next_goes names)
  buries false call answer next names l is = quiet m call answer (stands next (next_try names)) is (next_goes names).none

  tries_by : (often : Bool) (name : QueueName) (names : List QueueName) → TriesBy often from to notes name names m → Speaks m
  tries_by true name names h = buries h.0 _ _ _ names _ h.1
  tries_by false name names h = quiet m _ _ _ h.is (leased_goes h.there notes.known _ names)

  tries : (names : List QueueName) → TriesName from to notes names m → Speaks m
  tries [] h = absurd h
  tries (name ∷ names) h = tries_by (nat_le notes.plan.tries name.attempt) name names h.1

  reads : (call : Call) (answer : Answer) (name : QueueName) (paths : List (List ℕ)) (given : List Input) (names : List QueueName) (path : List ℕ) (found : Option (List ℕ))
      → m ≡ moves call answer (stands notes (fetched name paths given names path found)) (said_of_input name path found) → Speaks m
  reads call answer name paths given names path None is = says m call answer (stands notes (next_try names)) (line.Missing (task_of name) path) is (next_goes names)
  reads call answer name paths given names path (Some bytes) is = quiet m call answer _ is (fetching_goes name paths _ names)

  hands_over : (name : QueueName) (outputs : List Output) (names : List QueueName) → HandsOver notes name outputs names m → Speaks m
  hands_over name [] names h = says m _ _ _ _ h.1 (next_goes names)
  hands_over name (output ∷ outputs) names h = quiet m _ _ _ h.1 refl

  acts_on : (name : QueueName) (outcome : Outcome) (names : List QueueName) → ActsOn notes name outcome names m → Speaks m
  acts_on name (Makes outputs) names h = hands_over name outputs names h
  acts_on name (Refuses cause) names h = says m _ _ _ _ h.1 (next_goes names)

  counts : (call : Call) (answer : Answer) (letters : List TaskId) (given : List (List ℕ))
      → m ≡ moves call answer (stands notes (counted notes.known letters given)) (map line.Letter letters) → Speaks m
  counts call answer [] given is = quiet m call answer _ is refl
  counts call answer (id ∷ letters) given is = subst Speaks (sym is) (Says (line.Letter id) refl refl)

  pub leads_speak : (phase : Phase) → Leads from to notes phase m → Speaks m
  leads_speak Starting h = quiet m _ _ _ h.1 (learning_goes notes.known (unknown_listed notes.known h.0) Ask)
  leads_speak (Learning [] later) h = absurd h
  leads_speak (Learning (n ∷ unread) later) h = quiet m _ _ _ h.1 (learnt_goes notes n unread later h.0)
  leads_speak Asking h = quiet m _ _ _ h.is (learning_goes notes.known (unknown_named notes.known h.names) (Try h.names))
  leads_speak (Trying names) h = tries names h
  leads_speak (Fetching name paths given names) h = reads _ _ name paths given names h.path h.found h.is
  leads_speak (Running name given names) h = acts_on name h.outcome names h.acts
  leads_speak (Finishing name outputs names) h = hands_over name outputs names h
  leads_speak Closing h = quiet m _ _ _ h.1 (learning_goes notes.known (unknown_listed notes.known h.0) Count)
  leads_speak ListingDead h = quiet m _ _ _ h.1 refl
  leads_speak (ListingDone letters) h = counts _ _ letters h.0 h.1
  leads_speak (Telling letters count) h = absurd h
  leads_speak (Over end) h = absurd h
  leads_speak (Broken error) h = absurd h

  -- where a call is made, nothing is to be told
  pub leads_unsaid : (phase : Phase) → Leads from to notes phase m → unsaid phase ≡ []
  leads_unsaid (Telling letters count) h = absurd h
  leads_unsaid Starting h = refl
  leads_unsaid (Learning unread later) h = refl
  leads_unsaid Asking h = refl
  leads_unsaid (Trying names) h = refl
  leads_unsaid (Fetching name paths given names) h = refl
  leads_unsaid (Running name given names) h = refl
  leads_unsaid (Finishing name outputs names) h = refl
  leads_unsaid Closing h = refl
  leads_unsaid ListingDead h = refl
  leads_unsaid (ListingDone letters) h = refl
  leads_unsaid (Over end) h = refl
  leads_unsaid (Broken error) h = refl
