-- Each step leads nearer to the end.
use Rattle.std.specs.Prelude.{◌≡◌, ◌+◌, ◌*◌, ◌-◌, ◌^◌, ◌<◌, ◌≤◌, ◌==◌, ◌++◌, if◌then◌else◌, ℕ, suc, Bool, true, false, List, [], ◌∷◌, length, nat_le, Option, None, Some, Result, Ok, Err, IfOk, refl}
use Rattle.std.proofs.Common.{inl, inr, ap, sym, subst, ◌∙◌, arith, length-append, true≢false}
use Rattle.ig_space.specs.declared.task_id.TaskId.{TaskId}
use Rattle.ig_defs.specs.declared.queue_name.QueueName.{QueueName}
use Rattle.ig_cutout.specs.declared.types.Input.{Input}
use Rattle.ig_cutout.specs.declared.types.Output.{Output}
use Rattle.ig_record.specs.declared.stage.Stage.{Stage}
use Rattle.ig_record.specs.Answers.{record_fault}
use Rattle.ig_record.specs.Reading.{record_in}
use Rattle.ig_record.specs.Columns.{inputs_of}
use Rattle.ig_meaning.specs.QueueMaking.{record_path}
use Rattle.ig_worker.specs.declared.error.WorkerError.{WorkerError}
use Rattle.ig_worker.specs.declared.error.WorkerError.TheVariants.{Absent, BadRecord}
use Rattle.ig_worker.specs.declared.next.Next.{Next}
use Rattle.ig_worker.specs.declared.notes.Notes.{Notes}
use Rattle.ig_worker.specs.declared.phase.Phase.{Phase}
use Rattle.ig_worker.specs.declared.phase.Phase.TheVariants.{Starting, Learning, Asking, Trying, Fetching, Running, Finishing, Closing, ListingDead, ListingDone, Telling, Over, Broken}
use Rattle.ig_worker.specs.declared.phase.Then.{Then}
use Rattle.ig_worker.specs.declared.phase.Then.TheVariants.{Ask, Try, Count}
use Rattle.ig_worker.specs.declared.turn.End.{End}
use Rattle.ig_worker.specs.declared.turn.End.TheVariants.{Letters, Spent}
use Rattle.ig_worker.specs.declared.turn.Turn.{Turn}
use Rattle.ig_worker.specs.Fit.{IsFitPhase}
use Rattle.ig_worker.specs.Going.{GoesTo, IsSettled}
use Rattle.ig_worker.specs.Left.{IsShort, is_over, left_at, left_of, rank_of_then, ranked}
use Rattle.ig_worker.specs.Moves.{ActsOn, HandsOver, Leads, Makes, Move, Outcome, Refuses, TriesBy, leased}
use Rattle.ig_worker.specs.Places.{State, stands, asked, begun_by, counted, fetched, learning, learnt, learnt_all, learnt_by, leased_or_gone, next_try, noted, round_of, tried_one}
use Rattle.ig_worker.specs.Stages.{Known, open_names, stage_in}
use Rattle.ig_worker.specs.Steps.{Rests}

-- ---- the ranks of places
-- with its lists in memory, the place is nearer to the end than this
abbrev IsBelow : ℕ → Phase → Type 0
IsBelow n phase = IsShort phase → left_at phase < n

below_round : (names : List QueueName) → IsBelow (ranked 6 0) (round_of names)
below_round [] short = omega arith
below_round (name ∷ names) short = omega arith

below_learnt : (known : Known) (after : Then) → IsBelow (ranked (rank_of_then after) 0) (learnt_all known after)
below_learnt known Ask short = omega arith
below_learnt known (Try names) short = below_round (open_names known names) short
below_learnt known Count short = omega arith

abbrev more_ranked : (rank m n : ℕ) → m < n → ranked rank m < ranked rank n
more_ranked rank m n less = omega (arith, less)

abbrev next_ranked : (rank m : ℕ) → m < 2 ^ 64 → ranked rank m < ranked (rank + 1) 0
next_ranked rank m less = omega (arith, less)

below_more : (rank m : ℕ) (phase : Phase) → IsBelow (ranked rank 0) phase → IsBelow (ranked rank m) phase
below_more rank m phase below short = omega (arith, below short)

below_next : (rank : ℕ) (phase : Phase) → IsBelow (ranked rank 0) phase → IsBelow (ranked (rank + 1) 0) phase
below_next rank phase below short = omega (arith, below short)

-- with these records still to be read, after one more
below_learning : (known : Known) (unread : List ℕ) (after : Then) → IsBelow (ranked (rank_of_then after) (suc (length unread))) (learning known unread after)
below_learning known [] after = below_more (rank_of_then after) 1 (learnt_all known after) (below_learnt known after)
below_learning known (n ∷ unread) after = λ short. more_ranked (rank_of_then after) (length (n ∷ unread)) (suc (length (n ∷ unread))) (omega arith)

-- after a listing
below_listed : (known : Known) (unread : List ℕ) (after : Then) → IsBelow (ranked (rank_of_then after + 1) 0) (learning known unread after)
below_listed known [] after = below_next (rank_of_then after) (learnt_all known after) (below_learnt known after)
below_listed known (n ∷ unread) after = λ short. next_ranked (rank_of_then after) (length (n ∷ unread)) short

below_try : (names : List QueueName) → IsBelow (ranked 8 0) (next_try names)
below_try [] short = omega arith
below_try (name ∷ names) short = omega arith

-- with so many of its inputs found
below_fetching_by : (b : Bool) (name : QueueName) (paths : List (List ℕ)) (given : List Input) (names : List QueueName) (m : ℕ)
    → length paths - length given < m → IsBelow (ranked 10 m) (if b then Running name given names else Fetching name paths given names)
below_fetching_by true name paths given names m less short = omega arith
below_fetching_by false name paths given names m less short = more_ranked 10 (length paths - length given) m less

below_begun_by : (b : Bool) (name : QueueName) (paths : List (List ℕ)) (names : List QueueName) → IsBelow (ranked 11 0) (if b then Running name [] names else Fetching name paths [] names)
below_begun_by true name paths names short = omega arith
below_begun_by false name paths names short = omega (arith, short)

below_begun : (s : Option Stage) (name : QueueName) (names : List QueueName) → IsBelow (ranked 11 0) (begun_by s name names)
below_begun None name names short = omega (arith, below_try names short)
below_begun (Some s) name names short = below_begun_by (0 == length (inputs_of s name.task)) name (inputs_of s name.task) names short

below_leased : (there : Bool) (known : Known) (name : QueueName) (names : List QueueName) → IsBelow (ranked 11 0) (leased_or_gone there known name names)
below_leased true known name names = below_begun (stage_in known name.stage) name names
below_leased false known name names = λ short. omega (arith, below_try names short)

one_fewer : (n m k : ℕ) → m < n → k ≡ m + 1 → n - k < n - m
one_fewer n m k less same = grind (arith, less, same)

below_fetched : (name : QueueName) (paths : List (List ℕ)) (given : List Input) (names : List QueueName) (path : List ℕ) (found : Option (List ℕ))
    → length given < length paths → IsBelow (ranked 10 (length paths - length given)) (fetched name paths given names path found)
below_fetched name paths given names path None more = λ short. omega (arith, below_try names short)
below_fetched name paths given names path (Some bytes) more =
    let now : List Input = given ++ record { path = path; found = Some bytes } ∷ [] in
    below_fetching_by (length now == length paths) name paths now names (length paths - length given)
    (one_fewer (length paths) (length given) (length now) more (length-append given (record { path = path; found = Some bytes } ∷ [])))

below_counted : (known : Known) (letters : List TaskId) (given : List (List ℕ)) → IsBelow (ranked 1 (length letters + 2)) (counted known letters given)
below_counted known [] given short = omega arith
below_counted known (id ∷ letters) given short = omega arith

-- ---- moves
abbrev IsNearer : State → State → Type 0
IsNearer s next = IsShort next.phase → left_of next < left_of s

nearer_by : (n x y : ℕ) → x < y → n * 2 ^ 70 + x < n * 2 ^ 70 + y
nearer_by n x y less = omega (arith, less)

-- ---- an end or an error
some_left : (phase : Phase) → is_over phase ≡ false → 0 < left_at phase
some_left Starting going = omega arith
some_left (Learning unread Ask) going = omega arith
some_left (Learning unread (Try names)) going = omega arith
some_left (Learning unread Count) going = omega arith
some_left Asking going = omega arith
some_left (Trying names) going = omega arith
some_left (Fetching name paths given names) going = omega arith
some_left (Running name given names) going = omega arith
some_left (Finishing name outputs names) going = omega arith
some_left Closing going = omega arith
some_left ListingDead going = omega arith
some_left (ListingDone letters) going = omega arith
some_left (Telling letters count) going = omega arith
some_left (Over end) going = absurd (true≢false going)
some_left (Broken error) going = absurd (true≢false going)

nearer_broken : (before : Notes) (phase : Phase) (e : WorkerError) → is_over phase ≡ false → IsNearer (stands before phase) (stands before (Broken e))
nearer_broken before phase e going short = nearer_by (before.plan.turns - before.tried) 0 (left_at phase) (some_left phase going)

nearer_ended : (before : Notes) (phase : Phase) (end : End) → is_over phase ≡ false → IsNearer (stands before phase) (stands before (Over end))
nearer_ended before phase end going short = nearer_by (before.plan.turns - before.tried) 0 (left_at phase) (some_left phase going)

-- ---- moves
-- with as many turns left
nearer_same : (before now : Notes) (phase place : Phase) → now.plan.turns - now.tried ≡ before.plan.turns - before.tried → IsBelow (left_at phase) place → IsNearer (stands before phase) (stands now place)
nearer_same before now phase place same below short =
    subst (λ n. n * 2 ^ 70 + left_at place < (before.plan.turns - before.tried) * 2 ^ 70 + left_at phase) (sym same)
    (nearer_by (before.plan.turns - before.tried) (left_at place) (left_at phase) (below short))

one_turn : (turns tried : ℕ) → tried < turns → turns - tried ≡ turns - (tried + 1) + 1
one_turn turns tried less = grind (arith, less)

nearer_by_turn : (m n x y : ℕ) → n ≡ m + 1 → x < ranked 11 0 → m * 2 ^ 70 + x < n * 2 ^ 70 + y
nearer_by_turn m n x y one less = omega (arith, one, less)

nearer_try : (before now : Notes) (phase place : Phase) → before.tried < before.plan.turns → now.plan.turns ≡ before.plan.turns → now.tried ≡ before.tried + 1
    → IsBelow (ranked 11 0) place → IsNearer (stands before phase) (stands now place)
nearer_try before now phase place less turns tried below short =
    nearer_by_turn (now.plan.turns - now.tried) (before.plan.turns - before.tried) (left_at place) (left_at phase)
    (one_turn before.plan.turns before.tried less ∙ ap (λ n. n + 1) (ap (λ t. t - (before.tried + 1)) (sym turns) ∙ ap (λ t. now.plan.turns - t) (sym tried)))
    (below short)

nearer_to : (s : State) (m n : Move) → m ≡ n → IsNearer s n.next → IsNearer s m.next
nearer_to s m n same = subst (λ (next : State). IsNearer s next) (sym (ap (λ (m : Move). m.next) same))

-- the row of a call from this place, with the notes as they are but for the clock and the known stages
nearer_row : (before : Notes) (phase : Phase) (m n : Move) → m ≡ n → n.next.notes.plan.turns - n.next.notes.tried ≡ before.plan.turns - before.tried → IsBelow (left_at phase) n.next.phase → IsNearer (stands before phase) m.next
nearer_row before phase m n is same below = nearer_to (stands before phase) m n is (nearer_same before n.next.notes phase n.next.phase same below)

nearer_over : (notes : Notes) (name : QueueName) (outputs : List Output) (names : List QueueName) (m : Move) → HandsOver notes name outputs names m → IsNearer (stands notes (Finishing name outputs names)) m.next
nearer_over notes name [] names m leads = nearer_row notes (Finishing name [] names) m _ leads.1 refl (below_try names)
nearer_over notes name (output ∷ outputs) names m leads =
    nearer_row notes (Finishing name (output ∷ outputs) names) m _ leads.1 refl (λ short. more_ranked 8 (length outputs) (length (output ∷ outputs)) (omega arith))

nearer_run_over : (notes : Notes) (name : QueueName) (given : List Input) (outputs : List Output) (names : List QueueName) (m : Move)
    → HandsOver notes name outputs names m → IsNearer (stands notes (Running name given names)) m.next
nearer_run_over notes name given [] names m leads = nearer_row notes (Running name given names) m _ leads.1 refl (below_next 8 (next_try names) (below_try names))
nearer_run_over notes name given (output ∷ outputs) names m leads =
    nearer_row notes (Running name given names) m _ leads.1 refl (λ short. next_ranked 8 (length outputs) short)

nearer_run : (notes : Notes) (name : QueueName) (given : List Input) (outcome : Outcome) (names : List QueueName) (m : Move)
    → ActsOn notes name outcome names m → IsNearer (stands notes (Running name given names)) m.next
nearer_run notes name given (Makes outputs) names m leads = nearer_run_over notes name given outputs names m leads
nearer_run notes name given (Refuses cause) names m leads = nearer_row notes (Running name given names) m _ leads.1 refl (below_next 8 (next_try names) (below_try names))

nearer_tries : (often : Bool) (from to : ℕ) (notes : Notes) (name : QueueName) (names ahead : List QueueName) (m : Move) → notes.tried < notes.plan.turns
    → TriesBy often from to notes name names m → IsNearer (stands notes (Trying ahead)) m.next
nearer_tries true from to notes name names ahead m turns leads =
    nearer_to (stands notes (Trying ahead)) m _ leads.1 (nearer_try notes (tried_one notes) (Trying ahead) (next_try names) turns refl refl (λ short. omega (arith, below_try names short)))
nearer_tries false from to notes name names ahead m turns leads =
    nearer_to (stands notes (Trying ahead)) m _ leads.is (nearer_try notes (tried_one (asked notes leads.now)) (Trying ahead) (leased_or_gone leads.there notes.known (leased notes leads.now name) names) turns refl refl (below_leased leads.there notes.known (leased notes leads.now name) names))

nearer_learnt_by : (notes : Notes) (n : ℕ) (unread : List ℕ) (after : Then) (text : List ℕ) (s : Option Stage) → IsNearer (stands notes (Learning (n ∷ unread) after)) (learnt_by notes n unread after text s)
nearer_learnt_by notes n unread after text None = nearer_broken notes (Learning (n ∷ unread) after) (BadRecord (record_path notes.plan.queue n) (record_fault n text)) refl
nearer_learnt_by notes n unread after text (Some s) = nearer_same notes (noted notes n s) (Learning (n ∷ unread) after) _ refl (below_learning _ unread after)

nearer_learnt : (notes : Notes) (n : ℕ) (unread : List ℕ) (after : Then) (found : Option (List ℕ)) → IsNearer (stands notes (Learning (n ∷ unread) after)) (learnt notes n unread after found)
nearer_learnt notes n unread after None = nearer_broken notes (Learning (n ∷ unread) after) (Absent (record_path notes.plan.queue n)) refl
nearer_learnt notes n unread after (Some text) = nearer_learnt_by notes n unread after text (record_in n text)

move_nearer : (from to : ℕ) (notes : Notes) (phase : Phase) (m : Move) → IsFitPhase notes phase → Leads from to notes phase m → IsNearer (stands notes phase) m.next
move_nearer from to notes Starting m fits leads = nearer_row notes Starting m _ leads.1 refl (below_listed notes.known _ Ask)
move_nearer from to notes (Learning [] after) m fits leads = absurd leads
move_nearer from to notes (Learning (n ∷ unread) after) m fits leads = nearer_to (stands notes (Learning (n ∷ unread) after)) m _ leads.1 (nearer_learnt notes n unread after leads.0)
move_nearer from to notes Asking m fits leads = nearer_row notes Asking m _ leads.is refl (below_listed notes.known _ (Try leads.names))
move_nearer from to notes (Trying []) m fits leads = absurd leads
move_nearer from to notes (Trying (name ∷ names)) m fits leads = nearer_tries (nat_le notes.plan.tries name.attempt) from to notes name names (name ∷ names) m leads.0 leads.1
move_nearer from to notes (Fetching name paths given names) m fits leads =
    nearer_row notes (Fetching name paths given names) m _ leads.is refl (below_fetched name paths given names leads.path leads.found fits.more)
move_nearer from to notes (Running name given names) m fits leads = nearer_run notes name given leads.outcome names m leads.acts
move_nearer from to notes (Finishing name outputs names) m fits leads = nearer_over notes name outputs names m leads
move_nearer from to notes Closing m fits leads = nearer_row notes Closing m _ leads.1 refl (below_listed notes.known _ Count)
move_nearer from to notes ListingDead m fits leads = nearer_row notes ListingDead m _ leads.1 refl (λ short. omega (arith, short))
move_nearer from to notes (ListingDone letters) m fits leads = nearer_row notes (ListingDone letters) m _ leads.1 refl (below_counted notes.known letters leads.0)
move_nearer from to notes (Telling letters count) m fits leads = absurd leads
move_nearer from to notes (Over end) m fits leads = absurd leads
move_nearer from to notes (Broken error) m fits leads = absurd leads

-- ---- a step
rest_nearer : (notes : Notes) (phase : Phase) (next : State) (result : Result Turn WorkerError) → is_over phase ≡ false → Rests notes phase next result → IsNearer (stands notes phase) next
rest_nearer notes (Trying names) next result going rests = subst (λ (s : State). IsNearer (stands notes (Trying names)) s) (sym rests.1) (nearer_ended notes (Trying names) (Spent notes.plan.turns) refl)
rest_nearer notes (Telling [] count) next result going rests = subst (λ (s : State). IsNearer (stands notes (Telling [] count)) s) (sym rests.0) (nearer_ended notes (Telling [] count) (Letters count) refl)
rest_nearer notes (Telling (id ∷ letters) count) next result going rests =
    subst (λ (s : State). IsNearer (stands notes (Telling (id ∷ letters) count)) s) (sym rests.0) (nearer_same notes notes (Telling (id ∷ letters) count) (Telling letters count) refl (λ short. omega arith))
rest_nearer notes (Over end) next result going rests = absurd (true≢false going)
rest_nearer notes (Broken error) next result going rests = absurd (true≢false going)
rest_nearer notes Starting next result going rests = absurd rests
rest_nearer notes (Learning unread after) next result going rests = absurd rests
rest_nearer notes Asking next result going rests = absurd rests
rest_nearer notes (Fetching name paths given names) next result going rests = absurd rests
rest_nearer notes (Running name given names) next result going rests = absurd rests
rest_nearer notes (Finishing name outputs names) next result going rests = absurd rests
rest_nearer notes Closing next result going rests = absurd rests
rest_nearer notes ListingDead next result going rests = absurd rests
rest_nearer notes (ListingDone letters) next result going rests = absurd rests

goes_nearer : (from to : ℕ) (before : Notes) (phase : Phase) (now : Notes) (next : Next) → is_over phase ≡ false → IsFitPhase before phase → GoesTo from to before phase now next
    → IsNearer (stands before phase) (stands now next.phase)
goes_nearer from to before phase now next going fits (inl goes) = subst (λ (s : State). IsNearer (stands before phase) s) goes.next (move_nearer from to before phase goes.move fits goes.leads)
goes_nearer from to before phase now next going fits (inr rests) = rest_nearer before phase (stands now next.phase) (Ok next.turn) going rests

-- at an error
fewer_left : (turns a b x : ℕ) → a ≤ b → 0 < x → (turns - b) * 2 ^ 70 + 0 < (turns - a) * 2 ^ 70 + x
fewer_left turns a b x less some = let fewer : turns - b ≤ turns - a = grind (arith, less) in omega (arith, fewer, some)

broken_nearer : (before now : Notes) (phase : Phase) (kept : WorkerError) → is_over phase ≡ false → now.plan ≡ before.plan → before.tried ≤ now.tried → left_of (stands now (Broken kept)) < left_of (stands before phase)
broken_nearer before now phase kept going plan tried =
    subst (λ turns. (turns - now.tried) * 2 ^ 70 + 0 < (before.plan.turns - before.tried) * 2 ^ 70 + left_at phase) (sym (ap (λ p. p.turns) plan))
    (fewer_left before.plan.turns before.tried now.tried (left_at phase) tried (some_left phase going))

pub settled_nearer : (from to : ℕ) (before now : Notes) (phase : Phase) (came : Result Next WorkerError) (place : Phase) (result : Result Turn WorkerError)
    → is_over phase ≡ false → IsFitPhase before phase → now.plan ≡ before.plan → before.tried ≤ now.tried → IfOk came (GoesTo from to before phase now) → IsSettled came place result
    → left_of (stands now place) < left_of (stands before phase)
settled_nearer from to before now phase (Ok next) place result going fits plan tried goes settled =
    subst (λ p. left_of (stands now p) < left_of (stands before phase)) (sym settled.1)
    (goes_nearer from to before phase now next going fits goes (subst IsShort settled.1 settled.0))
settled_nearer from to before now phase (Err e) place result going fits plan tried goes settled =
    subst (λ p. left_of (stands now p) < left_of (stands before phase)) (sym settled.0.is) (broken_nearer before now phase settled.0.kept going plan tried)
