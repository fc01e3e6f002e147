-- How a course comes to the places of a round without a task, and to those of the end.
use Rattle.std.specs.Prelude.{◌≡◌, ◌⊎◌, ◌==◌, ℕ, Bool, true, false, if◌then◌else◌, List, [], ◌∷◌, ◌++◌, length, Option, None, Some, refl}
use Rattle.std.proofs.Common.{inl, inr, ap, sym, true≢false, ◌∙◌}
use Rattle.ig_space.specs.declared.task_id.TaskId.{TaskId}
use Rattle.ig_defs.specs.declared.queue_name.QueueName.{QueueName}
use Rattle.ig_cutout.specs.declared.types.Input.{Input}
use Rattle.ig_cutout.specs.declared.types.Output.{Output}
use Rattle.ig_record.specs.declared.stage.Stage.{Stage}
use Rattle.ig_record.specs.Reading.{record_in}
use Rattle.ig_record.specs.Columns.{inputs_of}
use Rattle.ig_worker.specs.declared.error.WorkerError.{WorkerError}
use Rattle.ig_worker.specs.declared.notes.Notes.{Notes}
use Rattle.ig_worker.specs.declared.phase.Phase.{Phase}
use Rattle.ig_worker.specs.declared.phase.Phase.TheVariants.{Starting, Learning, Asking, Trying, Fetching, Running, Finishing, Closing, ListingDead, ListingDone, Telling, Over, Broken}
use Rattle.ig_worker.specs.declared.phase.Then.{Then}
use Rattle.ig_worker.specs.declared.phase.Then.TheVariants.{Ask, Try, Count}
use Rattle.ig_worker.specs.Ending.LastTimes.{is_ending, is_round}
use Rattle.ig_worker.specs.Moves.{ActsOn, HandsOver, Leads, Makes, Move, Outcome, Refuses, TriesBy, leased}
use Rattle.ig_worker.specs.Places.{begun_by, fetched, counted, learning, learnt, learnt_by, leased_or_gone, next_try, round_of}
use Rattle.ig_worker.specs.Stages.{Known, open_names, stage_in, unknown_listed, unknown_named, with_stage}

-- ---- places of a sort to which tries and tasks don't belong
pub record IsApart (P : Phase → Bool) : Type 0 where
  pub asks : P Asking ≡ false
  pub tries : (names : List QueueName) → P (Trying names) ≡ false
  pub fetches : (name : QueueName) (paths : List (List ℕ)) (given : List Input) (names : List QueueName) → P (Fetching name paths given names) ≡ false
  pub runs : (name : QueueName) (given : List Input) (names : List QueueName) → P (Running name given names) ≡ false
  pub finishes : (name : QueueName) (outputs : List Output) (names : List QueueName) → P (Finishing name outputs names) ≡ false
  pub breaks : (error : WorkerError) → P (Broken error) ≡ false

-- no move of a try or a task leads there
module _ (P : Phase → Bool) (apart : IsApart P) where
  abbrev OnAt : Move → Type 0
  OnAt m = P m.next.phase ≡ false

  try_apart : (names : List QueueName) → P (next_try names) ≡ false
  try_apart [] = apart.asks
  try_apart (name ∷ names) = apart.tries (name ∷ names)

  fetching_by : (name : QueueName) (paths : List (List ℕ)) (given : List Input) (names : List QueueName) (b : Bool) → P (if b then Running name given names else Fetching name paths given names) ≡ false
  fetching_by name paths given names true = apart.runs name given names
  fetching_by name paths given names false = apart.fetches name paths given names

  begun_apart : (o : Option Stage) (name : QueueName) (names : List QueueName) → P (begun_by o name names) ≡ false
  begun_apart None name names = try_apart names
  begun_apart (Some s) name names = let none : List Input = [] in let paths = inputs_of s name.task in fetching_by name paths none names (length none == length paths)

  leased_apart : (there : Bool) (known : Known) (name : QueueName) (names : List QueueName) → P (leased_or_gone there known name names) ≡ false
  leased_apart true known name names = begun_apart (stage_in known name.stage) name names
  leased_apart false known name names = try_apart names

  fetched_apart : (name : QueueName) (paths : List (List ℕ)) (given : List Input) (names : List QueueName) (path : List ℕ) (found : Option (List ℕ)) → P (fetched name paths given names path found) ≡ false
  fetched_apart name paths given names path None = try_apart names
  fetched_apart name paths given names path (Some bytes) =
      let more : List Input = given ++ record { path = path; found = Some bytes } ∷ [] in
      fetching_by name paths more names (length more == length paths)

  learnt_by_apart : (notes : Notes) (n : ℕ) (unread : List ℕ) (goal : Then) → ((known : Known) → P (learning known unread goal) ≡ false) → (text : List ℕ) (o : Option Stage) → P (learnt_by notes n unread goal text o).phase ≡ false
  learnt_by_apart notes n unread goal other text None = apart.breaks _
  learnt_by_apart notes n unread goal other text (Some s) = other (with_stage n s notes.known)

  learnt_apart : (notes : Notes) (n : ℕ) (unread : List ℕ) (goal : Then) → ((known : Known) → P (learning known unread goal) ≡ false) → (found : Option (List ℕ)) → P (learnt notes n unread goal found).phase ≡ false
  learnt_apart notes n unread goal other None = apart.breaks _
  learnt_apart notes n unread goal other (Some text) = learnt_by_apart notes n unread goal other text (record_in n text)

  tries_by_apart : (from to : ℕ) (notes : Notes) (name : QueueName) (names : List QueueName) (m : Move) (b : Bool) → TriesBy b from to notes name names m → OnAt m
  tries_by_apart from to notes name names m true h = ap (λ (v : Move). P v.next.phase) h.1 ∙ try_apart names
  tries_by_apart from to notes name names m false h = ap (λ (v : Move). P v.next.phase) h.is ∙ leased_apart h.there notes.known (leased notes h.now name) names

  tries_apart : (from to : ℕ) (notes : Notes) (names : List QueueName) (m : Move) → Leads from to notes (Trying names) m → OnAt m
  tries_apart from to notes [] m h = absurd h
  tries_apart from to notes (name ∷ names) m h = tries_by_apart from to notes name names m _ h.1

  hands_apart : (notes : Notes) (name : QueueName) (outputs : List Output) (names : List QueueName) (m : Move) → HandsOver notes name outputs names m → OnAt m
  hands_apart notes name [] names m h = ap (λ (v : Move). P v.next.phase) h.1 ∙ try_apart names
  hands_apart notes name (output ∷ outputs) names m h = ap (λ (v : Move). P v.next.phase) h.1 ∙ apart.finishes name outputs names

  runs_apart : (notes : Notes) (name : QueueName) (names : List QueueName) (m : Move) (outcome : Outcome) → ActsOn notes name outcome names m → OnAt m
  runs_apart notes name names m (Makes outputs) h = hands_apart notes name outputs names m h
  runs_apart notes name names m (Refuses cause) h = ap (λ (v : Move). P v.next.phase) h.1 ∙ try_apart names

-- ---- both sorts
ending_apart : IsApart is_ending
ending_apart = record {
  asks = refl;
  tries = λ names. refl;
  fetches = λ name paths given names. refl;
  runs = λ name given names. refl;
  finishes = λ name outputs names. refl;
  breaks = λ error. refl;
}

round_apart : IsApart is_round
round_apart = record {
  asks = refl;
  tries = λ names. refl;
  fetches = λ name paths given names. refl;
  runs = λ name given names. refl;
  finishes = λ name outputs names. refl;
  breaks = λ error. refl;
}

round_no_end : (names : List QueueName) → is_ending (round_of names) ≡ false
round_no_end [] = refl
round_no_end (name ∷ names) = refl

ask_no_end : (known : Known) (unread : List ℕ) → is_ending (learning known unread Ask) ≡ false
ask_no_end known [] = refl
ask_no_end known (n ∷ unread) = refl

try_no_end : (known : Known) (unread : List ℕ) (names : List QueueName) → is_ending (learning known unread (Try names)) ≡ false
try_no_end known [] names = round_no_end (open_names known names)
try_no_end known (n ∷ unread) names = refl

ask_no_round : (known : Known) (unread : List ℕ) → is_round (learning known unread Ask) ≡ false
ask_no_round known [] = refl
ask_no_round known (n ∷ unread) = refl

pub count_no_round : (known : Known) (unread : List ℕ) → is_round (learning known unread Count) ≡ false
count_no_round known [] = refl
count_no_round known (n ∷ unread) = refl

counted_no_round : (known : Known) (letters : List TaskId) (given : List (List ℕ)) → is_round (counted known letters given) ≡ false
counted_no_round known [] given = refl
counted_no_round known (id ∷ letters) given = refl

abbrev ends_at : Move → Bool
ends_at m = is_ending m.next.phase

abbrev rounds_at : Move → Bool
rounds_at m = is_round m.next.phase

pub not_both : {A : Type 0} (b : Bool) → b ≡ true → b ≡ false → A
not_both b yes_so no_so = absurd (true≢false (sym yes_so ∙ no_so))

-- Only the listing of the stages at the close leads to the end.
pub leads_ending : (from to : ℕ) (notes : Notes) (phase : Phase) (m : Move) → Leads from to notes phase m → ends_at m ≡ true → (phase ≡ Closing) ⊎ (is_ending phase ≡ true)
leads_ending from to notes Starting m h e = not_both (ends_at m) e (ap ends_at h.1 ∙ ask_no_end notes.known (unknown_listed notes.known h.0))
leads_ending from to notes (Learning [] goal) m h e = absurd h
leads_ending from to notes (Learning (n ∷ unread) Ask) m h e = not_both (ends_at m) e (ap ends_at h.1 ∙ learnt_apart is_ending ending_apart notes n unread Ask (λ known. ask_no_end known unread) h.0)
leads_ending from to notes (Learning (n ∷ unread) (Try names)) m h e =
    not_both (ends_at m) e (ap ends_at h.1 ∙ learnt_apart is_ending ending_apart notes n unread (Try names) (λ known. try_no_end known unread names) h.0)
leads_ending from to notes (Learning (n ∷ unread) Count) m h e = inr refl
leads_ending from to notes Asking m h e = not_both (ends_at m) e (ap ends_at h.is ∙ try_no_end notes.known (unknown_named notes.known h.names) h.names)
leads_ending from to notes (Trying names) m h e = not_both (ends_at m) e (tries_apart is_ending ending_apart from to notes names m h)
leads_ending from to notes (Fetching name paths given names) m h e = not_both (ends_at m) e (ap ends_at h.is ∙ fetched_apart is_ending ending_apart name paths given names h.path h.found)
leads_ending from to notes (Running name given names) m h e = not_both (ends_at m) e (runs_apart is_ending ending_apart notes name names m h.outcome h.acts)
leads_ending from to notes (Finishing name outputs names) m h e = not_both (ends_at m) e (hands_apart is_ending ending_apart notes name outputs names m h)
leads_ending from to notes Closing m h e = inl refl
leads_ending from to notes ListingDead m h e = inr refl
leads_ending from to notes (ListingDone letters) m h e = inr refl
leads_ending from to notes (Telling letters count) m h e = absurd h
leads_ending from to notes (Over end) m h e = absurd h
leads_ending from to notes (Broken error) m h e = absurd h

-- Only a listing of the queue leads to a round without a task.
pub leads_round : (from to : ℕ) (notes : Notes) (phase : Phase) (m : Move) → Leads from to notes phase m → rounds_at m ≡ true → (phase ≡ Asking) ⊎ (is_round phase ≡ true)
leads_round from to notes Starting m h e = not_both (rounds_at m) e (ap rounds_at h.1 ∙ ask_no_round notes.known (unknown_listed notes.known h.0))
leads_round from to notes (Learning [] goal) m h e = absurd h
leads_round from to notes (Learning (n ∷ unread) Ask) m h e = not_both (rounds_at m) e (ap rounds_at h.1 ∙ learnt_apart is_round round_apart notes n unread Ask (λ known. ask_no_round known unread) h.0)
leads_round from to notes (Learning (n ∷ unread) (Try names)) m h e = inr refl
leads_round from to notes (Learning (n ∷ unread) Count) m h e =
    not_both (rounds_at m) e (ap rounds_at h.1 ∙ learnt_apart is_round round_apart notes n unread Count (λ known. count_no_round known unread) h.0)
leads_round from to notes Asking m h e = inl refl
leads_round from to notes (Trying names) m h e = not_both (rounds_at m) e (tries_apart is_round round_apart from to notes names m h)
leads_round from to notes (Fetching name paths given names) m h e = not_both (rounds_at m) e (ap rounds_at h.is ∙ fetched_apart is_round round_apart name paths given names h.path h.found)
leads_round from to notes (Running name given names) m h e = not_both (rounds_at m) e (runs_apart is_round round_apart notes name names m h.outcome h.acts)
leads_round from to notes (Finishing name outputs names) m h e = not_both (rounds_at m) e (hands_apart is_round round_apart notes name outputs names m h)
leads_round from to notes Closing m h e = inr refl
leads_round from to notes ListingDead m h e = not_both (rounds_at m) e (ap rounds_at h.1)
leads_round from to notes (ListingDone letters) m h e = not_both (rounds_at m) e (ap rounds_at h.1 ∙ counted_no_round notes.known letters h.0)
leads_round from to notes (Telling letters count) m h e = absurd h
leads_round from to notes (Over end) m h e = absurd h
leads_round from to notes (Broken error) m h e = absurd h
