-- A move of a name in the queue: what is said of it where it wasn't begun, and that it leaves a legal log.
use Rattle.std.proofs.Common.{arith, ◌≡◌, ◌<◌, ◌+◌, ◌^◌, ℕ, min, Bool, true, false, if◌then◌else◌, ◌&&◌, nat_lt, List, [], ◌∷◌, None, Some, is_some, IsErrAnd, Result, Ok, Err, inl, inr, refl, ap, sym, subst, ◌∙◌}
use Rattle.std.proofs.lemmas.Bool.{and_parts, and_from, lt-ltb}
use Rattle.ig_space.specs.declared.task_id.TaskId.{TaskId}
use Rattle.ig_defs.specs.declared.error.StoreError.{StoreError}
use Rattle.ig_defs.specs.declared.error.StoreError.TheVariants.{Failed, Memory}
use Rattle.ig_defs.specs.declared.queue_name.QueueName.{QueueName}
use Rattle.ig_defs.specs.declared.step.Act.{Act}
use Rattle.ig_defs.specs.declared.step.Act.TheVariants as act
use Rattle.ig_defs.specs.declared.step.Step.{Step}
use Rattle.ig_defs.specs.Answers.{Answer, answer_by, Answered, Found, IsAnswered, Names, Put, Shifts, Takes, WasThere}
use Rattle.ig_defs.specs.Files.{Files, file_at}
use Rattle.ig_defs.specs.Log.{Log, ByOthers, after, files_of, replay}
use Rattle.ig_defs.specs.QueueNames.{queue_fits, task_fits, task_of}
use Rattle.ig_defs.specs.TurnLaws.{idled_nothing}
use Rattle.ig_defs.specs.Turns.{Idled}
use Rattle.ig_rule.specs.Beside.{others_then_own_legal}
use Rattle.ig_rule.specs.Facts.{Reader}
use Rattle.ig_rule.specs.QueueFiles.{QueueFile, fits, path_of, queue_of}
use Rattle.ig_rule.specs.Roles.{Allows}
use Rattle.ig_rule.specs.Rule.{Allowed, MayBecome, MayMove, fresh_name}
use Rattle.ig_rule.specs.Sound.{Legal}
use Rattle.ig_rule.specs.Stages.{stages_in}
use Rattle.ig_rule.specs.declared.role.Role.{Role}
use Rattle.ig_queue.specs.Moves.{OthersKeep, close_made, lease_made, leased_name}
use Rattle.ig_queue.specs.Requeued.{released_name}
use Rattle.ig_queue.specs.declared.types.Closed.{Closed}
use Rattle.ig_queue.specs.declared.types.Lease.{Lease}

-- ---- nothing was done

pub not_leased : (allows : Bool → Files → Act → Type 0) (log : Log) (from to : List ℕ) (result : Result Lease StoreError) → IsErrAnd result (λ e. e ≡ Memory)
    → Answered allows log log (Shifts from to) (answer_by WasThere (lease_made result))
not_leased allows log from to (Ok lease) wants = absurd wants
not_leased allows log from to (Err Memory) wants = idled_nothing allows log
not_leased allows log from to (Err Failed) wants = absurd (cc)

pub not_closed : (allows : Bool → Files → Act → Type 0) (log : Log) (from to : List ℕ) (result : Result Closed StoreError) → IsErrAnd result (λ e. e ≡ Memory)
    → Answered allows log log (Shifts from to) (answer_by WasThere (close_made result))
not_closed allows log from to (Ok closed) wants = absurd wants
not_closed allows log from to (Err Memory) wants = idled_nothing allows log
not_closed allows log from to (Err Failed) wants = absurd (cc)

-- a move is of these paths, and found this
pub shifted : (allows : Bool → Files → Act → Type 0) (old new : Log) (from to first last : List ℕ) (found there : Bool) → from ≡ first → to ≡ last → found ≡ there
    → IsAnswered allows old new (Shifts from to) (WasThere found) → IsAnswered allows old new (Shifts first last) (WasThere there)
shifted allows old new from to first last found there e f g t =
    subst (λ p. IsAnswered allows old new (Shifts p last) (WasThere there)) e (subst (λ p. IsAnswered allows old new (Shifts from p) (WasThere there)) f
    (subst (λ b. IsAnswered allows old new (Shifts from to) (WasThere b)) g t))

-- ---- the log stays legal

by_others_as : (allows : Bool → Files → Act → Type 0) (read : Reader) (role : Role) (q : List ℕ) → OthersKeep allows read role q → (files : Files) (steps : List Step)
    → ByOthers allows files steps → ByOthers (Allows read role (Some q)) files steps
by_others_as allows read role q keep files [] by = tt
by_others_as allows read role q keep files (step ∷ steps) by = (by.0, keep files step.act by.1, by_others_as allows read role q keep (after files step.act) steps by.2)

-- the own act of a move is allowed, where the move of a file that is there is
own_allowed : (read : Reader) (q from to : List ℕ) (files : Files) (others : List Step) (answer : Answer) (a : Act) → Takes files others (Shifts from to) answer a
    → (is_some (file_at (replay files others) from) ≡ true → Allowed read q (replay files others) (act.Move from to)) → Allowed read q (replay files others) a
own_allowed read q from to files others (WasThere true) a takes may = subst (Allowed read q (replay files others)) (sym takes.0) (may (sym takes.1))
own_allowed read q from to files others (WasThere false) a takes may = subst (Allowed read q (replay files others)) (sym takes.0) tt
own_allowed read q from to files others (Names given) a takes may = absurd takes
own_allowed read q from to files others (Found bytes) a takes may = absurd takes
own_allowed read q from to files others Put a takes may = absurd takes

may_move : (read : Reader) (q : List ℕ) (files : Files) (x other : QueueFile) → fits x ≡ true → fits other ≡ true → MayBecome (stages_in read q files) files x other
    → is_some (file_at files (path_of q x)) ≡ true → MayMove (stages_in read q files) (queue_of q files) q files (path_of q x) (path_of q other)
may_move read q files x other fitting fits becomes there = record {
  name = x;
  other = other;
  from_is = refl;
  to_is = refl;
  there = ap (λ b. is_some (if b then file_at files (path_of q x) else None)) fitting ∙ there;
  fitting = fits;
  becomes = becomes;
}

-- a name of a task that becomes another of it
abbrev pub BecomesBeside : (Bool → Files → Act → Type 0) → Reader → List ℕ → Files → QueueFile → QueueFile → Type 0
BecomesBeside allows read q files x other =
    (others : List Step) → ByOthers allows files others → MayBecome (stages_in read q (replay files others)) (replay files others) x other

module _ (allows : Bool → Files → Act → Type 0) (read : Reader) (role : Role) (q : List ℕ) (old new : Log) (x other : QueueFile) (fitting : fits x ≡ true) (fit : fits other ≡ true)
    (keep : OthersKeep allows read role q) (becomes : BecomesBeside allows read q (files_of old) x other) (legal : Legal read q old) where
  idle_legal : Idled allows old new → Legal read q new
  idle_legal t = others_then_own_legal read role q old new t.others [] (by_others_as allows read role q keep (files_of old) t.others t.by) t.opening t.grown tt legal

  answered_legal : (answer : Answer) → IsAnswered allows old new (Shifts (path_of q x) (path_of q other)) answer → Legal read q new
  answered_legal answer t =
      others_then_own_legal read role q old new t.acted.others (t.act ∷ []) (by_others_as allows read role q keep (files_of old) t.acted.others t.acted.by) t.acted.opening t.acted.grown (
        own_allowed read q (path_of q x) (path_of q other) (files_of old) t.acted.others answer t.act t.takes
            (may_move read q (replay (files_of old) t.acted.others) x other fitting fit (becomes t.acted.others t.acted.by)),
        tt,
      ) legal

  moved_legal : (result : Result Bool StoreError) → Answered allows old new (Shifts (path_of q x) (path_of q other)) (answer_by WasThere result) → Legal read q new
  moved_legal (Ok there) t = answered_legal (WasThere there) t
  moved_legal (Err Failed) (inl t) = idle_legal t
  moved_legal (Err Failed) (inr made) = answered_legal made.answer made.answered
  moved_legal (Err Memory) t = idle_legal t

pub move_legal : (allows : Bool → Files → Act → Type 0) (read : Reader) (role : Role) (q : List ℕ) (old new : Log) (x other : QueueFile) (from to : List ℕ)
    (result : Result Bool StoreError) → fits x ≡ true → fits other ≡ true → from ≡ path_of q x → to ≡ path_of q other
    → Answered allows old new (Shifts from to) (answer_by WasThere result)
    → OthersKeep allows read role q → BecomesBeside allows read q (files_of old) x other → Legal read q old → Legal read q new
move_legal allows read role q old new x other from to result fitting fits from_is to_is t keep becomes legal =
    moved_legal allows read role q old new x other fitting fits keep becomes legal result
    (subst (λ path. Answered allows old new (Shifts (path_of q x) path) (answer_by WasThere result)) to_is
    (subst (λ path. Answered allows old new (Shifts path to) (answer_by WasThere result)) from_is t))

-- ---- numbers have their places

pub leased_fits : (now seconds : ℕ) (name : QueueName) → queue_fits name ≡ true → name.attempt < 999 → queue_fits (leased_name now seconds name) ≡ true
leased_fits now seconds name fitting few =
    let parts = and_parts (nat_lt name.visible (10 ^ 10)) (task_fits (task_of name) && nat_lt name.attempt (10 ^ 3)) fitting in
    let later = and_parts (task_fits (task_of name)) (nat_lt name.attempt (10 ^ 3)) parts.1 in
    and_from (nat_lt (min (now + seconds) 9999999999) (10 ^ 10)) (task_fits (task_of name) && nat_lt (name.attempt + 1) (10 ^ 3))
    (lt-ltb (min (now + seconds) 9999999999) (10 ^ 10) (omega arith))
    (and_from (task_fits (task_of name)) (nat_lt (name.attempt + 1) (10 ^ 3)) later.0 (lt-ltb (name.attempt + 1) (10 ^ 3) (omega (arith, few))))

pub task_fits_of : (name : QueueName) → queue_fits name ≡ true → task_fits (task_of name) ≡ true
task_fits_of name fitting =
    let parts = and_parts (nat_lt name.visible (10 ^ 10)) (task_fits (task_of name) && nat_lt name.attempt (10 ^ 3)) fitting in
    (and_parts (task_fits (task_of name)) (nat_lt name.attempt (10 ^ 3)) parts.1).0

pub released_fits : (name : QueueName) → queue_fits name ≡ true → queue_fits (released_name name) ≡ true
released_fits name fitting =
    let parts = and_parts (nat_lt name.visible (10 ^ 10)) (task_fits (task_of name) && nat_lt name.attempt (10 ^ 3)) fitting in
    and_from (nat_lt 0 (10 ^ 10)) (task_fits (task_of name) && nat_lt name.attempt (10 ^ 3)) refl parts.1

pub fresh_fits : (id : TaskId) → task_fits id ≡ true → queue_fits (fresh_name id) ≡ true
fresh_fits id fitting = and_from (nat_lt 0 (10 ^ 10)) (task_fits id && nat_lt 0 (10 ^ 3)) refl (and_from (task_fits id) (nat_lt 0 (10 ^ 3)) fitting refl)
