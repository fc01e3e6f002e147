-- What a listing of the stages, or of the queue, leads to.
use Rattle.std.proofs.Common.{◌≡◌, ◌≤◌, ◌<◌, ◌^◌, ℕ, Bool, List, [], All, None, Ok, refl, ap, sym, subst, ◌∙◌, codes}
use Rattle.std.proofs.lemmas.List.Elements.{All-weaker}
use Rattle.ig_space.specs.Path.{joined}
use Rattle.ig_defs.specs.declared.queue_name.QueueName.{QueueName}
use Rattle.ig_defs.specs.declared.step.Act.{Act}
use Rattle.ig_defs.specs.Files.{Files}
use Rattle.ig_defs.specs.Log.{Log}
use Rattle.ig_defs.specs.QueueNameLaws.{IsName-fits}
use Rattle.ig_meaning.specs.QueueMaking.{stages_dir}
use Rattle.ig_queue.specs.Candidates.{AreCandidates, IsCandidate}
use Rattle.ig_worker.specs.declared.notes.Notes.{Notes}
use Rattle.ig_worker.specs.declared.phase.Phase.{Phase}
use Rattle.ig_worker.specs.declared.phase.Then.{Then}
use Rattle.ig_worker.specs.declared.phase.Then.TheVariants.{Try}
use Rattle.ig_worker.specs.declared.turn.Turn.TheVariants.{On}
use Rattle.ig_defs.specs.Answers.{Found, IsAnswered, Lists, Names, Put, WasThere}
use Rattle.ig_worker.specs.Fit.{IsDue}
use Rattle.ig_worker.specs.Steps.{Made, turn_at}
use Rattle.ig_worker.specs.Led.{Goes, Led}
use Rattle.ig_worker.specs.Moves.{ListsQueue, ListsStages, Move, moves}
use Rattle.ig_worker.specs.Places.{asked, learning, stands}
use Rattle.ig_worker.specs.Stages.{Known, unknown_listed, unknown_named}
use Rattle.ig_worker.proofs.AnyCandidates.{any_candidates}
use Rattle.ig_worker.proofs.Exits.{Moves}
use Rattle.ig_worker.proofs.Learns.{turn_learning}
use Rattle.ig_worker.proofs.ListedStages.{few_named}

abbrev queue_dir : List ℕ → List ℕ
queue_dir q = joined q (codes "queue")

abbrev stages_move : Notes → Then → List (List ℕ) → Move
stages_move notes after given = moves (Lists (stages_dir notes.plan.queue)) (Names given) (stands notes (learning notes.known (unknown_listed notes.known given) after)) []

abbrev queue_move : ℕ → Notes → List (List ℕ) → List QueueName → Move
queue_move now notes given names = moves (Lists (queue_dir notes.plan.queue)) (Names given) (stands (asked notes now) (learning notes.known (unknown_named notes.known names) (Try names))) []

-- the place that is next, by equations
next_learning : (known : Known) (unread numbers : List ℕ) (after : Then) (phase : Phase) → unread ≡ numbers → phase ≡ learning known unread after → phase ≡ learning known numbers after
next_learning known unread numbers after phase some next = next ∙ ap (λ ns. learning known ns after) some

pub goes_to_records : (notes : Notes) (after : Then) (given : List (List ℕ)) (unread : List ℕ) (phase : Phase) → unread ≡ unknown_listed notes.known given → phase ≡ learning notes.known unread after
    → Goes (ListsStages notes after) notes (record { phase = phase; turn = On })
goes_to_records notes after given unread phase some next = record {
  move = stages_move notes after given;
  leads = (given, refl);
  next = ap (stands notes) (sym (next_learning notes.known unread (unknown_listed notes.known given) after phase some next));
  turn = ap turn_at next ∙ turn_learning notes.known unread after;
}

pub goes_to_round : (from to now : ℕ) → from ≤ now → now ≤ to → (notes : Notes) (given : List (List ℕ)) (names : List QueueName) (unread : List ℕ) (phase : Phase) → AreCandidates given now names
    → unread ≡ unknown_named notes.known names → phase ≡ learning notes.known unread (Try names) → Goes (ListsQueue from to notes) (asked notes now) (record { phase = phase; turn = On })
goes_to_round from to now later sooner notes given names unread phase are some next = record {
  move = queue_move now notes given names;
  leads = record { now = now; after = later; before = sooner; given = given; names = names; are = are; is = refl };
  next = ap (stands (asked notes now)) (sym (next_learning notes.known unread (unknown_named notes.known names) (Try names) phase some next));
  turn = ap turn_at next ∙ turn_learning notes.known unread (Try names);
}

module _ (allows : Bool → Files → Act → Type 0) (old new : Log) where
  -- a move by the names that a listing gave
  abbrev pub by_names : (dir : List ℕ) (sort : Move → Type 0) → Type 0
  by_names dir sort = (given : List (List ℕ)) → IsAnswered allows old new (Lists dir) (Names given) → (m : Move) × Made allows old new sort m

  pub listed : (dir : List ℕ) (sort : Move → Type 0) → by_names dir sort → Moves allows old new (Lists dir) sort
  listed dir sort gives (Names given) a = gives given a
  listed dir sort gives (Found bytes) a = absurd a.takes
  listed dir sort gives Put a = absurd a.takes
  listed dir sort gives (WasThere there) a = absurd a.takes

  -- ---- the stages
  stages_made : (notes : Notes) (after : Then) (dir : List ℕ) → dir ≡ stages_dir notes.plan.queue → (given : List (List ℕ)) → IsAnswered allows old new (Lists dir) (Names given)
      → Made allows old new (ListsStages notes after) (stages_move notes after given)
  stages_made notes after dir is given a = record {
    answered = subst (λ d. IsAnswered allows old new (Lists d) (Names given)) is a;
    leads = (given, refl);
  }

  pub stages_listed : (notes : Notes) (after : Then) (dir : List ℕ) → dir ≡ stages_dir notes.plan.queue → Moves allows old new (Lists dir) (ListsStages notes after)
  stages_listed notes after dir is = listed dir (ListsStages notes after) (λ given a. (stages_move notes after given, stages_made notes after dir is given a))

  pub led_to_records : (notes : Notes) (after : Then) (dir : List ℕ) (given : List (List ℕ)) (unread : List ℕ) (phase : Phase) → dir ≡ stages_dir notes.plan.queue → IsAnswered allows old new (Lists dir) (Names given)
      → unread ≡ unknown_listed notes.known given → phase ≡ learning notes.known unread after → Led allows old new (ListsStages notes after) notes notes (Ok (record { phase = phase; turn = On }))
  led_to_records notes after dir given unread phase is a some next = (
    stages_move notes after given,
    stages_made notes after dir is given a,
    ap (stands notes) (sym (next_learning notes.known unread (unknown_listed notes.known given) after phase some next)),
    ap turn_at next ∙ turn_learning notes.known unread after,
  )

  -- ---- the queue
  module _ (from to now : ℕ) (later : from ≤ now) (sooner : now ≤ to) (notes : Notes) where
    queue_made : (dir : List ℕ) → dir ≡ queue_dir notes.plan.queue → (given : List (List ℕ)) (names : List QueueName) → AreCandidates given now names → IsAnswered allows old new (Lists dir) (Names given)
        → Made allows old new (ListsQueue from to notes) (queue_move now notes given names)
    queue_made dir is given names are a = record {
      answered = subst (λ d. IsAnswered allows old new (Lists d) (Names given)) is a;
      leads = record { now = now; after = later; before = sooner; given = given; names = names; are = are; is = refl };
    }

    pub queue_listed : (dir : List ℕ) → dir ≡ queue_dir notes.plan.queue → Moves allows old new (Lists dir) (ListsQueue from to notes)
    queue_listed dir is = listed dir (ListsQueue from to notes) (λ given a. let any = any_candidates given now in (queue_move now notes given any.list, queue_made dir is given any.list any.are a))

    pub led_to_round : (dir : List ℕ) (given : List (List ℕ)) (names : List QueueName) (unread : List ℕ) (phase : Phase) → dir ≡ queue_dir notes.plan.queue → IsAnswered allows old new (Lists dir) (Names given)
        → AreCandidates given now names → unread ≡ unknown_named notes.known names → phase ≡ learning notes.known unread (Try names)
        → Led allows old new (ListsQueue from to notes) notes (asked notes now) (Ok (record { phase = phase; turn = On }))
    led_to_round dir given names unread phase is a are some next = (
      queue_move now notes given names,
      queue_made dir is given names are a,
      ap (stands (asked notes now)) (sym (next_learning notes.known unread (unknown_named notes.known names) (Try names) phase some next)),
      ap turn_at next ∙ turn_learning notes.known unread (Try names),
    )

-- what is so of candidates
pub all_due : (given : List (List ℕ)) (now : ℕ) (names : List QueueName) → AreCandidates given now names → All (IsDue now) names
all_due given now names are = All-weaker (IsCandidate given now) (IsDue now) (λ name is. record { fits = is.fits; due = is.due }) names are.only

pub few_unknown : (known : Known) (given : List (List ℕ)) (now : ℕ) (names : List QueueName) (unread : List ℕ) → AreCandidates given now names → unread ≡ unknown_named known names → All (λ n. n < 10 ^ 4) unread
few_unknown known given now names unread are some =
    subst (All (λ n. n < 10 ^ 4)) (sym some)
    (few_named known None names (All-weaker (IsCandidate given now) (λ (name : QueueName). name.stage < 10 ^ 4) (λ name is. (IsName-fits name is.fits).stage) names are.only))
