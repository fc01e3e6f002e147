-- What a worker knows of the stages, whatever place it stands at.
use Rattle.std.specs.Prelude.{◌≡◌, ◌⊎◌, ℕ, true, List, [], ◌∷◌, map, Some, Contains, refl}
use Rattle.std.proofs.Common.{inl, inr, subst, sym, true≢false}
use Rattle.ig_defs.specs.declared.queue_name.QueueName.{QueueName}
use Rattle.ig_defs.specs.declared.step.Act.{Act}
use Rattle.ig_defs.specs.Files.{Files}
use Rattle.ig_defs.specs.Log.{after}
use Rattle.ig_rule.specs.Facts.{Facts}
use Rattle.ig_rule.specs.Known.{KeptStage, Lease, Memory, IsKnownLease, IsKnownOf, RecordsRemoval}
use Rattle.ig_rule.specs.KnownKept.{known_kept}
use Rattle.ig_rule.specs.Rule.{Allowed}
use Rattle.ig_rule.specs.Sound.{Sound}
use Rattle.ig_rule.specs.Stages.{Records, stages_in}
use Rattle.ig_task.specs.Facts.{stage_reader}
use Rattle.ig_task.specs.Kinds.{kinds}
use Rattle.ig_worker.specs.declared.error.WorkerError.{WorkerError}
use Rattle.ig_worker.specs.declared.notes.Notes.{Notes}
use Rattle.ig_worker.specs.declared.phase.Phase.{Phase}
use Rattle.ig_worker.specs.declared.phase.Phase.TheVariants.{Broken}
use Rattle.ig_worker.specs.declared.phase.Then.{Then}
use Rattle.ig_worker.specs.declared.phase.Then.TheVariants.{Ask, Try, Count}
use Rattle.ig_worker.specs.Keeping.Lists.{none_in}
use Rattle.ig_worker.specs.Knows.{Knows, has_listed, kept_of, leases_at, unread_at}
use Rattle.ig_worker.specs.Places.{State, learning, learnt_all, next_try, round_of, stands}
use Rattle.ig_worker.specs.Stages.{Known, open_names}

-- what is kept at a place
abbrev pub memory_at : Known → Phase → Memory
memory_at known phase = record { stages = map kept_of known; has_listed = has_listed phase; unread = unread_at phase; leases = leases_at known phase }

abbrev pub kept : ℕ → Facts → KeptStage
kept n s = record { number = n; stage = s }

-- The known stages are recorded, and of the removals at most those with these numbers are not known.
pub record KnowsStages (records : Records) (known : Known) (unread : List ℕ) : Type 0 where
  pub stages : (k : KeptStage) → Contains (map kept_of known) k → records k.number ≡ Some k.stage
  pub removals : (r : ℕ) (t : Facts) → records r ≡ Some t → t.removes ≡ true → Contains (map kept_of known) (kept r t) ⊎ Contains unread r

-- It knows all removals.
pub record KnowsAll (records : Records) (known : Known) : Type 0 where
  pub stages : (k : KeptStage) → Contains (map kept_of known) k → records k.number ≡ Some k.stage
  pub removals : (r : ℕ) (t : Facts) → records r ≡ Some t → t.removes ≡ true → Contains (map kept_of known) (kept r t)

-- what is known of stages once all are read
pub knows_all : (records : Records) (known : Known) (unread : List ℕ) → unread ≡ [] → KnowsStages records known unread → KnowsAll records known
knows_all records known unread none h = record { stages = h.stages; removals = λ r t is removes. by_place r t (h.removals r t is removes) }
  where
    by_place : (r : ℕ) (t : Facts) → Contains (map kept_of known) (kept r t) ⊎ Contains unread r → Contains (map kept_of known) (kept r t)
    by_place r t (inl among) = among
    by_place r t (inr left) = absurd (none_in r (subst (λ l. Contains l r) none left))

-- where the stages were listed, and all are read
pub all_known : (records : Records) (files : Files) (known : Known) (phase : Phase) → has_listed phase ≡ true → unread_at phase ≡ [] → IsKnownOf records files (memory_at known phase) → KnowsAll records known
all_known records files known phase listed none h =
    knows_all records known (unread_at phase) none (record { stages = h.stages; removals = h.removals listed })

-- ---- places without a lease
no_lease : (records : Records) (files : Files) (leases : List Lease) → leases ≡ [] → (l : Lease) → Contains leases l → IsKnownLease records files l
no_lease records files leases none l among = absurd (none_in l (subst (λ ls. Contains ls l) none among))

-- with these leases
pub known_with : (records : Records) (files : Files) (known : Known) (phase : Phase) → KnowsAll records known → ((l : Lease) → Contains (leases_at known phase) l → IsKnownLease records files l)
    → IsKnownOf records files (memory_at known phase)
known_with records files known phase h leases = record { stages = h.stages; removals = λ listed r t is removes. inl (h.removals r t is removes); leases = leases }

pub known_resting : (records : Records) (files : Files) (known : Known) (phase : Phase) → leases_at known phase ≡ [] → KnowsAll records known → IsKnownOf records files (memory_at known phase)
known_resting records files known phase none h = known_with records files known phase h (no_lease records files (leases_at known phase) none)

-- a place without a lease, after one at which all records were read
pub rested : (notes : Notes) (phase next : Phase) (files : Files) → has_listed phase ≡ true → unread_at phase ≡ [] → leases_at notes.known next ≡ [] → Knows (stands notes phase) files → Knows (stands notes next) files
rested notes phase next files listed none rests h =
    let records = stages_in stage_reader notes.plan.queue files in
    known_resting records files notes.known next rests (all_known records files notes.known phase listed none h)

-- a worker that has stopped at an error
pub known_stopped : (records : Records) (files : Files) (known : Known) (phase : Phase) (error : WorkerError) → IsKnownOf records files (memory_at known phase) → IsKnownOf records files (memory_at known (Broken error))
known_stopped records files known phase error h = record {
  stages = h.stages;
  removals = λ listed. absurd (true≢false (sym listed));
  leases = no_lease records files [] refl;
}

-- ---- places while it learns
round_unread : (names : List QueueName) → unread_at (round_of names) ≡ []
round_unread [] = refl
round_unread (name ∷ names) = refl

round_rests : (known : Known) (names : List QueueName) → leases_at known (round_of names) ≡ []
round_rests known [] = refl
round_rests known (name ∷ names) = refl

pub try_rests : (known : Known) (names : List QueueName) → leases_at known (next_try names) ≡ []
try_rests known [] = refl
try_rests known (name ∷ names) = refl

learnt_unread : (known : Known) (goal : Then) → unread_at (learnt_all known goal) ≡ []
learnt_unread known Ask = refl
learnt_unread known (Try names) = round_unread (open_names known names)
learnt_unread known Count = refl

learnt_rests : (known : Known) (goal : Then) → leases_at known (learnt_all known goal) ≡ []
learnt_rests known Ask = refl
learnt_rests known (Try names) = round_rests known (open_names known names)
learnt_rests known Count = refl

learning_unread : (known : Known) (unread : List ℕ) (goal : Then) → unread_at (learning known unread goal) ≡ unread
learning_unread known [] goal = learnt_unread known goal
learning_unread known (n ∷ unread) goal = refl

learning_rests : (known : Known) (unread : List ℕ) (goal : Then) → leases_at known (learning known unread goal) ≡ []
learning_rests known [] goal = learnt_rests known goal
learning_rests known (n ∷ unread) goal = refl

-- it learns of these stages
pub known_learning : (records : Records) (files : Files) (known : Known) (unread : List ℕ) (goal : Then) → KnowsStages records known unread → IsKnownOf records files (memory_at known (learning known unread goal))
known_learning records files known unread goal h = record {
  stages = h.stages;
  removals = λ listed. subst (λ l. (r : ℕ) (t : Facts) → records r ≡ Some t → t.removes ≡ true → Contains (map kept_of known) (kept r t) ⊎ Contains l r) (sym (learning_unread known unread goal)) h.removals;
  leases = no_lease records files (leases_at known (learning known unread goal)) (learning_rests known unread goal);
}

-- ---- a step
-- The act is allowed in these files, and after it this is known.
pub record Carries (q : List ℕ) (now : Files) (a : Act) (next : State) : Type 0 where
  pub may : Allowed stage_reader q now a
  pub known : Knows next (after now a)

-- an act that records no removal, and after which what was known leads to more
pub carries : (s next : State) (now : Files) (a : Act) → Sound stage_reader s.notes.plan.queue now → Knows s now → Allowed stage_reader s.notes.plan.queue now a
    → (RecordsRemoval stage_reader s.notes.plan.queue a → ⊥) → (Knows s (after now a) → Knows next (after now a)) → Carries s.notes.plan.queue now a next
carries s next now a sound known may none on =
    record { may = may; known = on (known_kept stage_reader kinds s.notes.plan.queue now a _ sound may none known) }
