-- Moves of task names keep the files of a queue sound.
use Rattle.std.specs.Prelude.{◌≡◌, ◌<◌, ℕ, List, Option, None, Some, IsSome, refl}
use Rattle.std.proofs.Common.{ap, sym, subst, ◌∙◌}
use Rattle.std.proofs.lemmas.Option.{same_Some}
use Rattle.ig_space.specs.declared.task_id.TaskId.{TaskId}
use Rattle.ig_defs.specs.Files.{Files}
use Rattle.ig_defs.specs.QueueNames.{task_of}
use Rattle.ig_rule.specs.QueueFiles.{QueueFile, Record, Seal, Queued, Dead, Done, named_task, Queue}
use Rattle.ig_rule.specs.Facts.{Facts}
use Rattle.ig_rule.specs.Stages.{Records, task_id, Stands, Named}
use Rattle.ig_rule.specs.Rule.{MayBeDone, MayBecome}
use Rattle.ig_rule.specs.Sound.{AreSoundNames, IsTask}
use Rattle.ig_rule.specs.QueueSteps.{Shifts, IsShifted, is_new, is_gone, is_same}
use Rattle.ig_rule.specs.Keeps.{one_stage}
use Rattle.ig_rule.specs.SoundFiles.{some_there, none_there, IsDoneIn, DoneStand}
use Rattle.ig_rule.specs.SoundNames.{AreKept, OnlyNames, not_a_name, numbered_same, names_kept}

-- both are names of one task, and the first is not its done name
pub record IsTurn (x y : QueueFile) : Type 0 where
  pub id : TaskId
  pub before : named_task x ≡ Some id
  pub after : named_task y ≡ Some id
  pub not_done : (done : TaskId) → Done done ≡ x → ⊥

pub is_turn : (records : Records) (files : Files) (x y : QueueFile) → MayBecome records files x y → IsTurn x y
is_turn records files (Queued name) (Queued other) h = record { id = task_of name; before = refl; after = ap Some h; not_done = λ done e. absurd (cc) }
is_turn records files (Queued name) (Dead id) h = record { id = task_of name; before = refl; after = ap Some h; not_done = λ done e. absurd (cc) }
is_turn records files (Queued name) (Done id) h = record { id = task_of name; before = refl; after = ap Some h.0; not_done = λ done e. absurd (cc) }
is_turn records files (Dead id) (Queued name) h = record { id = id; before = refl; after = ap Some h; not_done = λ done e. absurd (cc) }
is_turn records files x y h = absurd h

-- a task that becomes done may be called done
done_by : (records : Records) (files : Files) (x : QueueFile) (id : TaskId) → MayBecome records files x (Done id) → MayBeDone records files id
done_by records files (Queued name) id h = h.1
done_by records files (Record n) id h = absurd h
done_by records files (Seal n) id h = absurd h
done_by records files (Dead other) id h = absurd h
done_by records files (Done other) id h = absurd h

id_is : (x y : TaskId) → ◌≡◌ {A = Option TaskId} (Some x) (Some y) → x ≡ y
id_is x y e = cc

-- two names of one task
same_id : (x y : QueueFile) (a b : TaskId) → x ≡ y → named_task x ≡ Some a → named_task y ≡ Some b → a ≡ b
same_id x y a b e of of' = id_is a b (sym of ∙ ap named_task e ∙ of')

pub move_only : (x y : QueueFile) (bytes : List ℕ) (old new : Queue) → IsTurn x y → Shifts x y bytes old new → OnlyNames old new
move_only x y bytes old new turn shifts z none = by_place (shifts.others z)
  where
    by_place : IsShifted x y z old new → new z ≡ old z
    by_place (is_new e) = absurd (not_a_name z y turn.id none turn.after e)
    by_place (is_gone e gone) = absurd (not_a_name z x turn.id none turn.before e)
    by_place (is_same e) = e

-- the task keeps a name, and so do the others
pub move_named : (x y : QueueFile) (bytes : List ℕ) (old new : Queue) → IsTurn x y → Shifts x y bytes old new → (id : TaskId) → Named old id → Named new id
move_named x y bytes old new turn shifts id h = by_place (shifts.others h.name)
  where
    renamed : turn.id ≡ id → Named new id
    renamed e = record { name = y; is_of = turn.after ∙ ap Some e; there = some_there (new y) bytes shifts.at }

    by_place : IsShifted x y h.name old new → Named new id
    by_place (is_new e) = renamed (sym (same_id h.name y id turn.id e h.is_of turn.after))
    by_place (is_gone e gone) = renamed (sym (same_id h.name x id turn.id e h.is_of turn.before))
    by_place (is_same e) = record { name = h.name; is_of = h.is_of; there = subst (λ o. IsSome o) (sym e) h.there }

move_tasks : (records : Records) (x y : QueueFile) (bytes : List ℕ) (old new : Queue) → IsTurn x y → Shifts x y bytes old new → AreSoundNames records old
    → (z : QueueFile) (id : TaskId) (held : List ℕ) → named_task z ≡ Some id → new z ≡ Some held → IsTask records id held
move_tasks records x y bytes old new turn shifts h z id held of there = by_place (shifts.others z)
  where
    by_place : IsShifted x y z old new → IsTask records id held
    by_place (is_new e) =
        let was : IsTask records turn.id bytes = h.tasks x turn.id bytes turn.before shifts.before in
        let text : bytes ≡ held = same_Some bytes held (sym shifts.at ∙ ap new (sym e) ∙ there) in
        subst (λ b. IsTask records id b) text (subst (λ t. IsTask records t bytes) (sym (same_id z y id turn.id e of turn.after)) was)
    by_place (is_gone e gone) = let both : None ≡ Some held = sym gone ∙ there in absurd (cc)
    by_place (is_same e) = h.tasks z id held of (sym e ∙ there)

pub move_done_there : (x y : QueueFile) (bytes : List ℕ) (old new : Queue) → IsTurn x y → Shifts x y bytes old new → (id : TaskId) → IsSome (old (Done id)) → IsSome (new (Done id))
move_done_there x y bytes old new turn shifts id there = by_place (shifts.others (Done id))
  where
    by_place : IsShifted x y (Done id) old new → IsSome (new (Done id))
    by_place (is_new e) = some_there (new (Done id)) bytes (ap new e ∙ shifts.at)
    by_place (is_gone e gone) = absurd (turn.not_done id e)
    by_place (is_same e) = subst (λ o. IsSome o) (sym e) there

-- what may be called done, of a stage that is recorded
may_be_done : (records : Records) (files : Files) (n k : ℕ) (s : Facts) (held : List ℕ) → records n ≡ Some s → MayBeDone records files (task_id n k) → IsTask records (task_id n k) held → IsDoneIn files s k
may_be_done records files n k s held is d t = record {
  below = subst (λ (u : Facts). k < u.tasks) (one_stage records n n t.stage s refl t.is is) t.below;
  stands = subst (λ u. Stands files u k) (one_stage records n n d.stage s refl d.is is) d.stands;
}

move_done : (records : Records) (files : Files) (x y : QueueFile) (bytes : List ℕ) (old new : Queue) → MayBecome records files x y → Shifts x y bytes old new
    → AreSoundNames records old → DoneStand records old files → DoneStand records new files
move_done records files x y bytes old new may shifts h done n k s is clear there = by_place (shifts.others (Done (task_id n k)))
  where
    turned : MayBecome records files x (Done (task_id n k)) → IsDoneIn files s k
    turned may' =
        let turn = is_turn records files x (Done (task_id n k)) may' in
        may_be_done records files n k s bytes is (done_by records files x (task_id n k) may')
        (subst (λ t. IsTask records t bytes) (sym (id_is (task_id n k) turn.id turn.after)) (h.tasks x turn.id bytes turn.before shifts.before))

    by_place : IsShifted x y (Done (task_id n k)) old new → IsDoneIn files s k
    by_place (is_new e) = turned (subst (MayBecome records files x) (sym e) may)
    by_place (is_gone e gone) = absurd (none_there (new (Done (task_id n k))) there gone)
    by_place (is_same e) = done n k s is clear (subst (λ o. IsSome o) e there)

pub move_kept : (records : Records) (files : Files) (x y : QueueFile) (bytes : List ℕ) (old new : Queue) → MayBecome records files x y → Shifts x y bytes old new
    → AreKept records old files → AreKept records new files
move_kept records files x y bytes old new may shifts h =
    let turn = is_turn records files x y may in
    let only = move_only x y bytes old new turn shifts in
    record {
      numbered = numbered_same records old new only h.numbered;
      names = names_kept records old new only (move_tasks records x y bytes old new turn shifts h.names) (move_named x y bytes old new turn shifts)
          (move_done_there x y bytes old new turn shifts) h.names;
      done = move_done records files x y bytes old new may shifts h.names h.done;
    }
