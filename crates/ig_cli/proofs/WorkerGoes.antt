-- The moves of a worker so far, and one step more.
use Rattle.std.proofs.Common.{◌≡◌, ◌≤◌, ◌==◌, if◌then◌else◌, ℕ, Bool, true, false, List, [], ◌∷◌, ◌++◌, length, None, Some, Ok, refl, ap, sym, subst, ◌∙◌, append_assoc, append-nil, length-append, arith, true≢false}
use Rattle.std.proofs.lemmas.Bool.Decides.{nat_tests}
use Rattle.ig_space.specs.declared.task_id.TaskId.{TaskId}
use Rattle.ig_defs.specs.declared.queue_name.QueueName.{QueueName}
use Rattle.ig_defs.specs.declared.step.Act.{Act}
use Rattle.ig_defs.specs.Files.{Files}
use Rattle.ig_defs.specs.Log.{Log}
use Rattle.ig_worker.specs.declared.notes.Notes.{Notes}
use Rattle.ig_worker.specs.declared.phase.Phase.{Phase}
use Rattle.ig_worker.specs.declared.phase.Phase.TheVariants.{Starting, Learning, Asking, Trying, Fetching, Running, Finishing, Closing, ListingDead, ListingDone, Telling, Over, Broken}
use Rattle.ig_worker.specs.declared.plan.Plan.{Plan}
use Rattle.ig_worker.specs.declared.turn.End.{End}
use Rattle.ig_worker.specs.declared.turn.End.TheVariants as end
use Rattle.ig_worker.specs.declared.turn.Line.{Line}
use Rattle.ig_worker.specs.declared.turn.Line.TheVariants as line
use Rattle.ig_worker.specs.declared.turn.Turn.{Turn}
use Rattle.ig_worker.specs.declared.turn.Turn.TheVariants.{Said, Ended}
use Rattle.ig_worker.specs.Course.{Course, end_at, fresh, said_of}
use Rattle.ig_worker.specs.Left.{is_over}
use Rattle.ig_worker.specs.Moves.{Move}
use Rattle.ig_worker.specs.Places.{State, stands}
use Rattle.ig_worker.specs.Steps.{Called, Rests, Stepped, answer_of, calls, is_last, rests, stops}
use Rattle.ig_cli.specs.Worked.{but_last}
use Rattle.ig_cli.proofs.WorkerCourses.{course_later, course_then}
use Rattle.ig_cli.proofs.WorkerSpeaks.{Speaks, leads_speak, leads_unsaid, unsaid}
use Rattle.ig_cli.proofs.WorkerSteps.{IsAt, Same, Tells, but_last-append, ends_at_once, leads_quiet, own_place, said_at_once, said_by, said_of-append}

-- The worker's moves led to this place, and of what they say these lines were told.
pub record Stands (allows : Bool → Files → Act → Type 0) (plan : Plan) (from to : ℕ) (old new : Log) (w : State) (ms : List Move) (place : State) (said : List Line) : Type 0 where
  pub course : Course allows from (fresh plan) old ms to place new
  pub at : IsAt w place
  pub is : said ++ unsaid w.phase ≡ said_of ms
  pub most : length (said_of (but_last ms)) ≤ length said

-- after a step that answered so
pub record Advances (allows : Bool → Files → Act → Type 0) (plan : Plan) (from to : ℕ) (old new : Log) (next : State) (said : List Line) (turn : Turn) : Type 0 where
  pub ms : List Move
  pub place : State
  pub course : Course allows from (fresh plan) old ms to place new
  pub at : is_last (Ok turn) ≡ false → IsAt next place
  pub is : (said ++ said_by turn) ++ unsaid next.phase ≡ said_of ms
  pub most : length (said_of (but_last ms)) ≤ length said
  pub ended : (e : End) → turn ≡ Ended e → (end_at place.notes place.phase ≡ Some e) × (unsaid next.phase ≡ [])

pub more_said : (n : ℕ) (said more : List Line) → n ≤ length said → n ≤ length (said ++ more)
more_said n said more h = let long = length-append said more in omega (arith, h, long)

pub same_length : (ms : List Move) (said : List Line) → said ≡ said_of ms → length (said_of ms) ≤ length said
same_length ms said is = let e = ap length is in omega (arith, e)

-- what was told, once a move was made
told_all : (said : List Line) (ms : List Move) (turn : Turn) (m : Move) → said ≡ said_of ms → said_by turn ++ unsaid m.next.phase ≡ m.said
    → (said ++ said_by turn) ++ unsaid m.next.phase ≡ said_of (ms ++ m ∷ [])
told_all said ms turn m all now =
    append_assoc said (said_by turn) (unsaid m.next.phase)
    ∙ ap (λ ls. said ++ ls) now
    ∙ ap (λ ls. ls ++ m.said) all
    ∙ ap (λ ls. said_of ms ++ ls) (sym (append-nil m.said))
    ∙ sym (said_of-append ms (m ∷ []))

-- ---- where a worker ends
same_numbers : (n m : ℕ) → n ≡ m → (n == m) ≡ true
same_numbers n m same = grind (arith, nat_tests)

same_count : (letters now : List TaskId) (count n : ℕ) → Telling letters count ≡ Telling now n → count ≡ n
same_count letters now count n is = cc

spent_at : (notes : Notes) (names : List QueueName) → notes.tried ≡ notes.plan.turns → end_at notes (Trying names) ≡ Some (end.Spent notes.plan.turns)
spent_at notes names all = ap (λ b. if b then Some (end.Spent notes.plan.turns) else None) (same_numbers notes.tried notes.plan.turns all)

letters_at : (notes : Notes) (letters : List TaskId) (count : ℕ) (place : State) → IsAt (stands notes (Telling letters count)) place → end_at place.notes place.phase ≡ Some (end.Letters count)
letters_at notes letters count place (Same same) = ap (λ p. end_at p.notes p.phase) (sym same)
letters_at notes letters count place (Tells now first n is there) =
    ap (λ p. end_at place.notes p) there ∙ ap (λ k. Some (end.Letters k)) (sym (same_count letters now count n is))

telling_at : (notes : Notes) (letters : List TaskId) (count : ℕ) (place : State) → IsAt (stands notes (Telling letters count)) place
    → (first : List TaskId) × (place.phase ≡ Telling first count)
telling_at notes letters count place (Same same) = (letters, ap (λ p. p.phase) (sym same))
telling_at notes letters count place (Tells now first n is there) = (first, there ∙ ap (Telling first) (sym (same_count letters now count n is)))

ended_not_more : (turn : Turn) (e : End) (A : Type 0) → turn ≡ Ended e → is_last (Ok turn) ≡ false → A
ended_not_more turn e A is more = absurd (true≢false (sym (ap (λ t. is_last (Ok t)) is) ∙ more))

same_end : (turn : Turn) (e f : End) → turn ≡ Ended e → turn ≡ Ended f → e ≡ f
same_end turn e f a b = cc

module _ (allows : Bool → Files → Act → Type 0) (plan : Plan) (from to later : ℕ) (after : to ≤ later) (old mid new : Log) (ms : List Move) (place : State) (said : List Line) where
  -- ---- a call
  pub course_on : (w : State) (m : Move) → Stands allows plan from to old mid w ms place said → Called allows to later w mid new m
      → Course allows from (fresh plan) old (ms ++ m ∷ []) later m.next new
  course_on w m h called =
      let own : w ≡ place = own_place w place h.at (leads_quiet to later w.notes w.phase m called.leads) in
      course_then allows from (fresh plan) old ms to later place mid new m after h.course (subst (λ p. Called allows to later p mid new m) own called)

  pub all_told : (w : State) (m : Move) → Stands allows plan from to old mid w ms place said → Called allows to later w mid new m → said ≡ said_of ms
  all_told w m h called =
      sym (append-nil said) ∙ ap (λ ls. said ++ ls) (sym (leads_unsaid to later w.notes m w.phase called.leads)) ∙ h.is

  by_call : (w : State) (m : Move) (turn : Turn) → Stands allows plan from to old mid w ms place said → Called allows to later w mid new m
      → answer_of m.said m.next.phase ≡ Ok turn → Advances allows plan from later old new m.next said turn
  by_call w m turn h called answered =
      let speaks : Speaks m = leads_speak to later w.notes m w.phase called.leads in
      let all = all_told w m h called in
      record {
        ms = ms ++ m ∷ [];
        place = m.next;
        course = course_on w m h called;
        at = λ more. Same refl;
        is = told_all said ms turn m all (said_at_once m turn speaks answered);
        most = subst (λ ns. length (said_of ns) ≤ length said) (sym (but_last-append ms m)) (same_length ms said all);
        ended = ends_at_once m turn speaks answered;
      }

  -- ---- without a call
  still : (w next : State) (turn : Turn) → Stands allows plan from to old mid w ms place said → (is_last (Ok turn) ≡ false → IsAt next place)
      → said_by turn ++ unsaid next.phase ≡ unsaid w.phase → ((e : End) → turn ≡ Ended e → (end_at place.notes place.phase ≡ Some e) × (unsaid next.phase ≡ []))
      → Advances allows plan from later old mid next said turn
  still w next turn h at same ended = record {
    ms = ms;
    place = place;
    course = course_later allows from (fresh plan) old ms to later place mid after h.course;
    at = at;
    is = append_assoc said (said_by turn) (unsaid next.phase) ∙ ap (λ ls. said ++ ls) same ∙ h.is;
    most = h.most;
    ended = ended;
  }

  rests_spent : (notes : Notes) (names : List QueueName) (next : State) (turn : Turn) → Stands allows plan from to old mid (stands notes (Trying names)) ms place said
      → Rests notes (Trying names) next (Ok turn) → Advances allows plan from later old mid next said turn
  rests_spent notes names next turn h rested =
      let last : turn ≡ Ended (end.Spent notes.plan.turns) = cc in
      let own : stands notes (Trying names) ≡ place = own_place (stands notes (Trying names)) place h.at refl in
      let nothing : unsaid next.phase ≡ [] = ap (λ n. unsaid n.phase) rested.1 in
      still (stands notes (Trying names)) next turn h (ended_not_more turn (end.Spent notes.plan.turns) (IsAt next place) last)
      (ap (λ t. said_by t ++ unsaid next.phase) last ∙ nothing)
      (λ e ends. (ap (λ p. end_at p.notes p.phase) (sym own) ∙ spent_at notes names rested.0 ∙ ap Some (same_end turn _ e last ends), nothing))

  rests_last : (notes : Notes) (count : ℕ) (next : State) (turn : Turn) → Stands allows plan from to old mid (stands notes (Telling [] count)) ms place said
      → Rests notes (Telling [] count) next (Ok turn) → Advances allows plan from later old mid next said turn
  rests_last notes count next turn h rested =
      let last : turn ≡ Ended (end.Letters count) = cc in
      let nothing : unsaid next.phase ≡ [] = ap (λ n. unsaid n.phase) rested.0 in
      still (stands notes (Telling [] count)) next turn h (ended_not_more turn (end.Letters count) (IsAt next place) last)
      (ap (λ t. said_by t ++ unsaid next.phase) last ∙ nothing)
      (λ e ends. (letters_at notes [] count place h.at ∙ ap Some (same_end turn _ e last ends), nothing))

  rests_letter : (notes : Notes) (id : TaskId) (letters : List TaskId) (count : ℕ) (next : State) (turn : Turn)
      → Stands allows plan from to old mid (stands notes (Telling (id ∷ letters) count)) ms place said
      → Rests notes (Telling (id ∷ letters) count) next (Ok turn) → Advances allows plan from later old mid next said turn
  rests_letter notes id letters count next turn h rested =
      let one : turn ≡ Said (line.Letter id) = cc in
      still (stands notes (Telling (id ∷ letters) count)) next turn h
      (λ more. let there = telling_at notes (id ∷ letters) count place h.at in Tells letters there.0 count (ap (λ n. n.phase) rested.0) there.1)
      (ap (λ t. said_by t ++ unsaid next.phase) one ∙ ap (λ n. line.Letter id ∷ unsaid n.phase) rested.0)
      (λ e ends. absurd cc)

  by_rest : (notes : Notes) (phase : Phase) (next : State) (turn : Turn) → Stands allows plan from to old mid (stands notes phase) ms place said → is_over phase ≡ false
      → Rests notes phase next (Ok turn) → Advances allows plan from later old mid next said turn
  by_rest notes (Trying names) next turn h going rested = rests_spent notes names next turn h rested
  by_rest notes (Telling [] count) next turn h going rested = rests_last notes count next turn h rested
  by_rest notes (Telling (id ∷ letters) count) next turn h going rested = rests_letter notes id letters count next turn h rested
  by_rest notes (Over e) next turn h going rested = absurd (true≢false going)
  by_rest notes (Broken error) next turn h going rested = absurd (true≢false going)
  by_rest notes Starting next turn h going rested = absurd rested
  by_rest notes (Learning unread later) next turn h going rested = absurd rested
  by_rest notes Asking next turn h going rested = absurd rested
  by_rest notes (Fetching name paths given names) next turn h going rested = absurd rested
  by_rest notes (Running name given names) next turn h going rested = absurd rested
  by_rest notes (Finishing name outputs names) next turn h going rested = absurd rested
  by_rest notes Closing next turn h going rested = absurd rested
  by_rest notes ListingDead next turn h going rested = absurd rested
  by_rest notes (ListingDone letters) next turn h going rested = absurd rested

  -- ---- a step that answered so
  pub steps_on : (w next : State) (turn : Turn) → Stands allows plan from to old mid w ms place said → is_over w.phase ≡ false → Stepped allows to later w mid new next (Ok turn)
      → Advances allows plan from later old new next said turn
  steps_on w next turn h going (calls m called is answer ok answered) =
      subst (λ n. Advances allows plan from later old new n said turn) (sym is) (by_call w m turn h called (answered ∙ sym ok))
  steps_on w next turn h going (rests same rested) =
      subst (λ log. Advances allows plan from later old log next said turn) (sym same) (by_rest w.notes w.phase next turn h going rested)
  steps_on w next turn h going (stops e is by stopped) = absurd cc
