-- The next input of a leased task is read.
use Rattle.std.proofs.Common.{arith, ◌≡◌, ◌≤◌, ◌<◌, ◌+◌, ◌==◌, ℕ, suc, Bool, true, false, if◌then◌else◌, List, [], ◌∷◌, ◌++◌, length, take, get_or, slice_get, Option, Some, Ok, Err, refl, sym, ap, subst, ◌∙◌, inl, inr}
use Rattle.std.specs.List.{All}
use Rattle.std.proofs.lemmas.Bool.{eqb-false, eqb-true}
use Rattle.std.proofs.lemmas.List.{map-append}
use Rattle.std.proofs.Common.{length-append}
use Rattle.std.proofs.Math.Seq.{take-length, take-suc}
use Rattle.std.proofs.lemmas.List.Elements.{All-push}
use Rattle.std.proofs.lemmas.Option.{get_or_from_slice_get, slice_get-get_or}
use Rattle.ig_defs.specs.declared.error.StoreError.{StoreError}
use Rattle.ig_defs.specs.declared.error.StoreError.TheVariants as store
use Rattle.ig_defs.specs.declared.step.Act.{Act}
use Rattle.ig_defs.specs.Files.{Files}
use Rattle.ig_defs.specs.Log.{Log}
use Rattle.ig_defs.specs.declared.queue_name.QueueName.{QueueName}
use Rattle.ig_cutout.specs.declared.types.Input.{Input}
use Rattle.ig_cutout.specs.Inputs.{path_of, paths_of}
use Rattle.ig_record.specs.declared.stage.Stage.{Stage}
use Rattle.ig_record.specs.Columns.{inputs_of}
use Rattle.ig_worker.specs.declared.next.Next.{Next}
use Rattle.ig_worker.specs.declared.notes.Notes.{Notes}
use Rattle.ig_worker.specs.declared.phase.Phase.{Phase}
use Rattle.ig_worker.specs.declared.phase.Phase.TheVariants.{Fetching, Running}
use Rattle.ig_worker.specs.declared.turn.Line.{Line}
use Rattle.ig_worker.specs.declared.turn.Turn.TheVariants.{On}
use Rattle.ig_defs.specs.Answers.{Answer, Answered, Found, IsAnswered, Reads}
use Rattle.ig_worker.specs.Errors.{worker_error_of}
use Rattle.ig_worker.specs.Fit.{AreOpen, IsFetching, IsFitPhase, IsFound, IsLeased}
use Rattle.ig_worker.specs.Steps.{answer_of, Made, turn_at}
use Rattle.ig_worker.specs.Led.{Goes, Led}
use Rattle.ig_worker.specs.Moves.{Move, ReadsInput, moves, said_of_input}
use Rattle.ig_worker.specs.Places.{State, fetched, fetching, next_try, stands}
use Rattle.ig_worker.proofs.Leading.{led_on, read_made}

-- ---- the next try
pub next_try-fits : (notes : Notes) (names : List QueueName) → AreOpen notes names → IsFitPhase notes (next_try names)
next_try-fits notes [] are = tt
next_try-fits notes (name ∷ names) are = (omega arith, are)

pub next_try-on : (names : List QueueName) → turn_at (next_try names) ≡ Ok On
next_try-on [] = refl
next_try-on (name ∷ names) = refl

-- ---- a task of whose inputs some were found
pub record IsFetched (notes : Notes) (name : QueueName) (paths : List (List ℕ)) (given : List Input) (names : List QueueName) : Type 0 where
  pub stage : Stage
  pub leased : IsLeased notes name stage
  pub inputs : paths ≡ inputs_of stage name.task
  pub read : paths_of given ≡ take (length given) paths
  pub found : All IsFound given
  pub fewer : length given ≤ length paths
  pub ahead : AreOpen notes names

module _ (notes : Notes) (name : QueueName) (paths : List (List ℕ)) (given : List Input) (names : List QueueName) where
  abbrev place_by : Bool → Phase
  place_by b = if b then Running name given names else Fetching name paths given names

  fits_by : IsFetched notes name paths given names → (b : Bool) → (length given == length paths) ≡ b → IsFitPhase notes (place_by b)
  fits_by f true test = record {
    stage = f.stage;
    leased = f.leased;
    read = f.read ∙ ap (λ n. take n paths) (eqb-true (length given) (length paths) test) ∙ take-length paths ∙ f.inputs;
    found = f.found;
    ahead = f.ahead;
  }
  fits_by f false test = record {
    stage = f.stage;
    leased = f.leased;
    inputs = f.inputs;
    read = f.read;
    found = f.found;
    more = let differ = eqb-false (length given) (length paths) test in let fewer = f.fewer in grind arith;
    ahead = f.ahead;
  }

  pub fetching-fits : IsFetched notes name paths given names → IsFitPhase notes (fetching name paths given names)
  fetching-fits f = fits_by f (length given == length paths) refl

  on_by : (b : Bool) → turn_at (place_by b) ≡ Ok On
  on_by true = refl
  on_by false = refl

  pub fetching-on : turn_at (fetching name paths given names) ≡ Ok On
  fetching-on = on_by (length given == length paths)

-- ---- the next input
module _ (notes : Notes) (name : QueueName) (paths : List (List ℕ)) (given : List Input) (names : List QueueName) (path : List ℕ) (next : slice_get paths (length given) ≡ Some path) where
  pub reads_input : (found : Option (List ℕ)) → (to : State) × (said : List Line) × ReadsInput notes name paths given names (moves (Reads path) (Found found) to said)
  reads_input found =
      (stands notes (fetched name paths given names path found), said_of_input name path found, record { path = path; next = next; found = found; is = refl })

  -- it leads there
  pub goes_fetching : (found : Option (List ℕ)) (to : Next) → to.phase ≡ fetched name paths given names path found → answer_of (said_of_input name path found) (fetched name paths given names path found) ≡ Ok to.turn
      → Goes (λ m. ReadsInput notes name paths given names m) notes to
  goes_fetching found to there says = record {
    move = moves (Reads path) (Found found) (stands notes (fetched name paths given names path found)) (said_of_input name path found);
    leads = record { path = path; next = next; found = found; is = refl };
    next = ap (stands notes) (sym there);
    turn = subst (λ phase. answer_of (said_of_input name path found) phase ≡ Ok to.turn) (sym there) says;
  }

  -- one more was found
  pub one_more : (bytes : List ℕ) → (f : IsFetching notes name paths given names) → IsFetched notes name paths (given ++ record { path = path; found = Some bytes } ∷ []) names
  one_more bytes f =
      let long : length (given ++ record { path = path; found = Some bytes } ∷ []) ≡ length given + 1 = length-append given (record { path = path; found = Some bytes } ∷ []) in
      let more : suc (length given) ≡ length (given ++ record { path = path; found = Some bytes } ∷ []) = omega (arith, long) in
      record {
        stage = f.stage;
        leased = f.leased;
        inputs = f.inputs;
        read = map-append path_of given (record { path = path; found = Some bytes } ∷ []) ∙ ap (λ ps. ps ++ path ∷ []) f.read
            ∙ ap (λ p. take (length given) paths ++ p ∷ []) (sym (get_or_from_slice_get paths (length given) path path next))
            ∙ sym (take-suc paths (length given) path f.more) ∙ ap (λ n. take n paths) more;
        found = All-push IsFound given (record { path = path; found = Some bytes }) f.found refl;
        fewer = omega (arith, long, f.more);
        ahead = f.ahead;
      }

  -- ---- what the read comes to
  pub led_fetching : (allows : Bool → Files → Act → Type 0) (old new : Log) (found used : Option (List ℕ)) (to : Next) → found ≡ used → IsAnswered allows old new (Reads path) (Found found)
      → to.phase ≡ fetched name paths given names path used → answer_of (said_of_input name path used) (fetched name paths given names path used) ≡ Ok to.turn
      → Led allows old new (λ m. ReadsInput notes name paths given names m) notes notes (Ok to)
  unfolding goes_fetching
  led_fetching allows old new found used to same a there says =
      led_on allows old new (λ m. ReadsInput notes name paths given names m) notes notes to (goes_fetching used to there says)
      (subst (λ f. IsAnswered allows old new (Reads path) (Found f)) same a)

  pub moves_fetching : (allows : Bool → Files → Act → Type 0) (old new : Log) (answer : Answer) → IsAnswered allows old new (Reads path) answer
      → (m : Move) × Made allows old new (λ m. ReadsInput notes name paths given names m) m
  moves_fetching allows old new answer a = read_made allows old new (λ m. ReadsInput notes name paths given names m) path reads_input answer a

  pub led_unread : (allows : Bool → Files → Act → Type 0) (old new : Log) (e : StoreError) → Answered allows old new (Reads path) (Err e)
      → Led allows old new (λ m. ReadsInput notes name paths given names m) notes notes (Err (worker_error_of e))
  led_unread allows old new store.Failed (inl idled) = inl idled
  led_unread allows old new store.Failed (inr made) = absurd made.changes
  led_unread allows old new store.Memory idled = inl idled

-- the next path, as the code finds it
pub next_is : (paths items : List (List ℕ)) (n at : ℕ) (path item : List ℕ) → items ≡ paths → at ≡ n → item ≡ get_or items at item → path ≡ item → n < length paths → slice_get paths n ≡ Some path
next_is paths items n at path item same here is copy below =
    slice_get-get_or paths n item below ∙ ap Some (sym (copy ∙ is ∙ ap (λ ys. get_or ys at item) same ∙ ap (λ i. get_or paths i item) here))
