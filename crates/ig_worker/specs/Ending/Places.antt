-- What is so at each place of a worker's course: the log is legal, and what the worker knows is so.
use Rattle.std.specs.Prelude.{◌≤◌, ◌<◌, ◌^◌, ℕ, List, [], ◌∷◌, refl}
use Rattle.std.specs.List.Sorted.{IsStrictlySortedBy}
use Rattle.std.proofs.Common.{arith, sym, subst, true≢false}
use Rattle.std.proofs.lemmas.List.Elements.{All-nil}
use Rattle.ig_defs.specs.Files.{Files}
use Rattle.ig_defs.specs.Log.{Log, files_of, replay}
use Rattle.ig_rule.specs.Beside.{others_keep_known}
use Rattle.ig_rule.specs.Prefixes.{legal_sound}
use Rattle.ig_rule.specs.declared.role.Role.{Role}
use Rattle.ig_rule.specs.Sound.{Legal}
use Rattle.ig_task.specs.Facts.{stage_reader}
use Rattle.ig_task.specs.Kinds.{kinds}
use Rattle.ig_worker.specs.declared.notes.Notes.{Notes}
use Rattle.ig_worker.specs.declared.phase.Phase.{Phase}
use Rattle.ig_worker.specs.declared.phase.Phase.TheVariants.{Starting, Learning, Asking, Trying, Fetching, Running, Finishing, Closing, ListingDead, ListingDone, Telling, Over, Broken}
use Rattle.ig_worker.specs.declared.plan.Plan.{Plan}
use Rattle.ig_worker.specs.Course.{Course, fresh}
use Rattle.ig_worker.specs.Ending.Course.{course_later}
use Rattle.ig_worker.specs.Ending.Fit.{HasMade, leads_fit}
use Rattle.ig_worker.specs.Fit.{AreFitNotes, AreStages, IsFitPhase, IsStage}
use Rattle.ig_worker.specs.Keeping.Keeps.{move_keeps}
use Rattle.ig_worker.specs.Keeping.Lists.{none_in}
use Rattle.ig_worker.specs.Keeping.Tasks.{ran_known}
use Rattle.ig_worker.specs.Knows.{Knows, memory_of}
use Rattle.ig_worker.specs.Moves.{Move}
use Rattle.ig_worker.specs.Places.{State, stands}
use Rattle.ig_worker.specs.Plans.{HasLimits}
use Rattle.ig_worker.specs.Ending.Standing.{AllowsFor, Fits, Stays}
use Rattle.ig_worker.specs.Steps.{Called}

-- ---- a fresh worker
no_stages : AreStages []
unfolding IsStrictlySortedBy
no_stages = record { each = All-nil IsStage; ascending = tt }

-- A fresh worker knows nothing, which is so in any files.
pub fresh_knows : (plan : Plan) (files : Files) → Knows (fresh plan) files
fresh_knows plan files = record {
  stages = λ kept among. absurd (none_in kept among);
  removals = λ listed. absurd (true≢false (sym listed));
  leases = λ l among. absurd (none_in l among);
}

pub fresh_fits : (plan : Plan) (now : ℕ) → HasLimits plan → Fits plan now (fresh plan)
fresh_fits plan now limits = record { of_plan = refl; fit = record { notes = record { plan = limits; known = no_stages; at = omega arith; tried = omega arith }; phase = tt }; later = omega arith }

pub fresh_stays : (plan : Plan) (now : ℕ) (log : Log) → HasLimits plan → Legal stage_reader plan.queue log → Stays plan now (fresh plan) log
fresh_stays plan now log limits legal = record {
  place = fresh_fits plan now limits;
  legal = legal;
  known = fresh_knows plan (files_of log);
}

-- ---- a move
made_by : (notes : Notes) (files : Files) (phase : Phase) → AreFitNotes notes → IsFitPhase notes phase → Knows (stands notes phase) files → HasMade notes phase
made_by notes files (Running name given names) fit ready known = λ stage is outputs comes. (ran_known notes name given names files fit ready known stage is outputs comes).fit
made_by notes files Starting fit ready known = tt
made_by notes files (Learning unread goal) fit ready known = tt
made_by notes files Asking fit ready known = tt
made_by notes files (Trying names) fit ready known = tt
made_by notes files (Fetching name paths given names) fit ready known = tt
made_by notes files (Finishing name outputs names) fit ready known = tt
made_by notes files Closing fit ready known = tt
made_by notes files ListingDead fit ready known = tt
made_by notes files (ListingDone letters) fit ready known = tt
made_by notes files (Telling letters count) fit ready known = tt
made_by notes files (Over end) fit ready known = tt
made_by notes files (Broken error) fit ready known = tt

same_plan : (role : Role) (from to : ℕ) (s : State) (old new : Log) (m : Move) → from ≤ to → to < 10 ^ 10 → Stays s.notes.plan from s old → Called (AllowsFor role s.notes.plan) from to s old new m → Stays s.notes.plan to m.next new
same_plan role from to s old new m before small stays called =
    let fit = stays.place.fit in
    let kept = move_keeps role from to s old new m fit called stays.legal stays.known in
    let sound = legal_sound stage_reader kinds s.notes.plan.queue old stays.legal in
    let now = replay (files_of old) called.answered.acted.others in
    let known : Knows s now = others_keep_known stage_reader kinds role s.notes.plan.queue (files_of old) called.answered.acted.others (memory_of s) called.answered.acted.by sound stays.known in
    record {
      place = leads_fit from to s.notes fit.notes stays.place.later before small s.phase m fit.phase (made_by s.notes now s.phase fit.notes fit.phase known) called.leads;
      legal = kept.legal;
      known = kept.known;
    }

-- Each move keeps it so.
pub call_stays : (role : Role) (plan : Plan) (from to : ℕ) (s : State) (old new : Log) (m : Move) → from ≤ to → to < 10 ^ 10 → Stays plan from s old → Called (AllowsFor role plan) from to s old new m → Stays plan to m.next new
call_stays role plan from to s old new m before small stays called =
    let P = λ (p : Plan). Stays p from s old → Called (AllowsFor role p) from to s old new m → Stays p to m.next new in
    subst P stays.place.of_plan (same_plan role from to s old new m before small) stays called

-- ---- a course
-- It is so at each place of a course that begins with it.
pub course_stays : (role : Role) (plan : Plan) (from : ℕ) (s : State) (old : Log) (ms : List Move) (to : ℕ) (next : State) (new : Log) → to < 10 ^ 10 → Stays plan from s old
    → Course (AllowsFor role plan) from s old ms to next new → Stays plan to next new
course_stays role plan from s old [] to next new small stays c =
    let place = stays.place in
    let later = c.0 in
    let at = place.later in
    let here : Stays plan to s old = record { place = record { of_plan = place.of_plan; fit = place.fit; later = omega (arith, later, at) }; legal = stays.legal; known = stays.known } in
    subst (λ log. Stays plan to next log) (sym c.2) (subst (λ t. Stays plan to t old) (sym c.1) here)
course_stays role plan from s old (m ∷ ms) to next new small stays c =
    let rest = course_later (AllowsFor role plan) c.0 m.next c.1 ms to next new c.4 in
    course_stays role plan c.0 m.next c.1 ms to next new small (call_stays role plan from c.0 s old c.1 m c.2 (omega (arith, rest, small)) stays c.3) c.4

-- Along the course of a fresh worker, in a legal log, the log stays legal, and what the worker knows is so at each place.
pub course_keeps : (role : Role) (plan : Plan) (from : ℕ) (old : Log) (ms : List Move) (to : ℕ) (next : State) (new : Log) → HasLimits plan → to < 10 ^ 10 → Legal stage_reader plan.queue old
    → Course (AllowsFor role plan) from (fresh plan) old ms to next new → Stays plan to next new
course_keeps role plan from old ms to next new limits small legal c =
    course_stays role plan from (fresh plan) old ms to next new small (fresh_stays plan from old limits legal) c
