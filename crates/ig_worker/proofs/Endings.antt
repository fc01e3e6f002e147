-- What the listings at the end lead to.
use Rattle.std.proofs.Common.{◌≡◌, ℕ, Bool, List, [], ◌∷◌, Ok, map, codes, refl, ap, sym, subst}
use Rattle.ig_space.specs.Path.{joined}
use Rattle.ig_space.specs.declared.task_id.TaskId.{TaskId}
use Rattle.ig_defs.specs.declared.step.Act.{Act}
use Rattle.ig_defs.specs.Files.{Files}
use Rattle.ig_defs.specs.Log.{Log}
use Rattle.ig_worker.specs.declared.next.Next.{Next}
use Rattle.ig_worker.specs.declared.notes.Notes.{Notes}
use Rattle.ig_worker.specs.declared.phase.Phase.{Phase}
use Rattle.ig_worker.specs.declared.phase.Phase.TheVariants.{ListingDone}
use Rattle.ig_worker.specs.declared.turn.Line.TheVariants as line
use Rattle.ig_worker.specs.declared.turn.Turn.TheVariants.{On}
use Rattle.ig_defs.specs.Answers.{IsAnswered, Lists, Names}
use Rattle.ig_worker.specs.Fit.{IsFitPhase}
use Rattle.ig_worker.specs.Steps.{answer_of, Made}
use Rattle.ig_worker.specs.Led.{Goes, Led}
use Rattle.ig_worker.specs.Moves.{ListsDead, ListsDone, Move, moves}
use Rattle.ig_worker.specs.Places.{counted, stands}
use Rattle.ig_worker.specs.Stages.{tasks_listed}
use Rattle.ig_worker.proofs.Exits.{Moves}
use Rattle.ig_worker.proofs.Listings.{listed}

abbrev dead_dir : List ℕ → List ℕ
dead_dir q = joined q (codes "dead")

abbrev done_dir : List ℕ → List ℕ
done_dir q = joined q (codes "done")

abbrev dead_move : Notes → List (List ℕ) → Move
dead_move notes given = moves (Lists (dead_dir notes.plan.queue)) (Names given) (stands notes (ListingDone (tasks_listed given))) []

abbrev done_move : Notes → List TaskId → List (List ℕ) → Move
done_move notes letters given = moves (Lists (done_dir notes.plan.queue)) (Names given) (stands notes (counted notes.known letters given)) (map line.Letter letters)

pub goes_to_letters : (notes : Notes) (given : List (List ℕ)) (letters : List TaskId) → letters ≡ tasks_listed given → Goes (ListsDead notes) notes (record { phase = ListingDone letters; turn = On })
goes_to_letters notes given letters are =
    record { move = dead_move notes given; leads = (given, refl); next = ap (λ ids. stands notes (ListingDone ids)) (sym are); turn = refl }

pub goes_to_end : (notes : Notes) (letters : List TaskId) (given : List (List ℕ)) (next : Next) → next.phase ≡ counted notes.known letters given → answer_of (map line.Letter letters) next.phase ≡ Ok next.turn
    → Goes (ListsDone notes letters) notes next
goes_to_end notes letters given next is says = record { move = done_move notes letters given; leads = (given, refl); next = ap (stands notes) (sym is); turn = says }

fit_counted : (notes : Notes) (letters : List TaskId) (given : List (List ℕ)) → IsFitPhase notes (counted notes.known letters given)
fit_counted notes [] given = tt
fit_counted notes (id ∷ letters) given = tt

pub fit_end : (notes : Notes) (letters : List TaskId) (given : List (List ℕ)) (phase : Phase) → phase ≡ counted notes.known letters given → IsFitPhase notes phase
fit_end notes letters given phase is = subst (IsFitPhase notes) (sym is) (fit_counted notes letters given)

module _ (allows : Bool → Files → Act → Type 0) (old new : Log) where
  dead_made : (notes : Notes) (dir : List ℕ) → dir ≡ dead_dir notes.plan.queue → (given : List (List ℕ)) → IsAnswered allows old new (Lists dir) (Names given) → Made allows old new (ListsDead notes) (dead_move notes given)
  dead_made notes dir is given a = record { answered = subst (λ d. IsAnswered allows old new (Lists d) (Names given)) is a; leads = (given, refl) }

  pub dead_listed : (notes : Notes) (dir : List ℕ) → dir ≡ dead_dir notes.plan.queue → Moves allows old new (Lists dir) (ListsDead notes)
  dead_listed notes dir is = listed allows old new dir (ListsDead notes) (λ given a. (dead_move notes given, dead_made notes dir is given a))

  pub led_to_letters : (notes : Notes) (dir : List ℕ) (given : List (List ℕ)) (letters : List TaskId) → dir ≡ dead_dir notes.plan.queue → IsAnswered allows old new (Lists dir) (Names given) → letters ≡ tasks_listed given
      → Led allows old new (ListsDead notes) notes notes (Ok (record { phase = ListingDone letters; turn = On }))
  led_to_letters notes dir given letters is a are = (dead_move notes given, dead_made notes dir is given a, ap (λ ids. stands notes (ListingDone ids)) (sym are), refl)

  done_made : (notes : Notes) (letters : List TaskId) (dir : List ℕ) → dir ≡ done_dir notes.plan.queue → (given : List (List ℕ)) → IsAnswered allows old new (Lists dir) (Names given) → Made allows old new (ListsDone notes letters) (done_move notes letters given)
  done_made notes letters dir is given a = record { answered = subst (λ d. IsAnswered allows old new (Lists d) (Names given)) is a; leads = (given, refl) }

  pub done_listed : (notes : Notes) (letters : List TaskId) (dir : List ℕ) → dir ≡ done_dir notes.plan.queue → Moves allows old new (Lists dir) (ListsDone notes letters)
  done_listed notes letters dir is = listed allows old new dir (ListsDone notes letters) (λ given a. (done_move notes letters given, done_made notes letters dir is given a))

  pub led_to_end : (notes : Notes) (letters : List TaskId) (dir : List ℕ) (given : List (List ℕ)) (next : Next) → dir ≡ done_dir notes.plan.queue → IsAnswered allows old new (Lists dir) (Names given)
      → next.phase ≡ counted notes.known letters given → answer_of (map line.Letter letters) next.phase ≡ Ok next.turn → Led allows old new (ListsDone notes letters) notes notes (Ok next)
  led_to_end notes letters dir given next is a phase says = (done_move notes letters given, done_made notes letters dir is given a, ap (stands notes) (sym phase), says)
