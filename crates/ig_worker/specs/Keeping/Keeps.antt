-- What a worker's moves keep: the log stays legal, and what the worker knows stays so.
use Rattle.std.specs.Prelude.{◌≡◌, ℕ, [], ◌∷◌, Some, Result, refl}
use Rattle.std.proofs.Common.{sym, subst}
use Rattle.ig_defs.specs.Files.{Files}
use Rattle.ig_defs.specs.Log.{Log, files_of, replay}
use Rattle.ig_rule.specs.Beside.{others_keep}
use Rattle.ig_rule.specs.Known.{IsKnownOf}
use Rattle.ig_rule.specs.Prefixes.{legal_sound}
use Rattle.ig_rule.specs.Roles.{Allows}
use Rattle.ig_rule.specs.Rule.{Allowed}
use Rattle.ig_rule.specs.declared.role.Role.{Role}
use Rattle.ig_rule.specs.Sound.{Legal}
use Rattle.ig_rule.specs.Stages.{stages_in}
use Rattle.ig_defs.specs.Turns.{Idled}
use Rattle.ig_defs.specs.TurnLaws.{files_then}
use Rattle.ig_rule.specs.WentOn.{acted_legal, idled_legal}
use Rattle.ig_task.specs.Facts.{stage_reader}
use Rattle.ig_task.specs.Kinds.{kinds}
use Rattle.ig_worker.specs.declared.error.WorkerError.{WorkerError}
use Rattle.ig_worker.specs.declared.notes.Notes.{Notes}
use Rattle.ig_worker.specs.declared.phase.Phase.{Phase}
use Rattle.ig_worker.specs.declared.phase.Phase.TheVariants.{Starting, Learning, Asking, Trying, Fetching, Running, Finishing, Closing, ListingDead, ListingDone, Telling, Over, Broken}
use Rattle.ig_worker.specs.declared.plan.Plan.{Plan}
use Rattle.ig_worker.specs.declared.turn.End.TheVariants as end
use Rattle.ig_worker.specs.declared.turn.Turn.{Turn}
use Rattle.ig_worker.specs.Fit.{IsFit}
use Rattle.ig_worker.specs.Keeping.Known.{Carries, known_stopped, memory_at, rested}
use Rattle.ig_worker.specs.Keeping.Moves.{move_carries}
use Rattle.ig_worker.specs.Knows.{Knows, memory_of}
use Rattle.ig_worker.specs.Moves.{Move}
use Rattle.ig_worker.specs.Places.{State, stands}
use Rattle.ig_worker.specs.Stages.{Known}
use Rattle.ig_worker.specs.Steps.{Called, Rests}

-- The log is legal, and what the worker keeps now is so in its files.
pub record Keeps (s next : State) (new : Log) : Type 0 where
  pub legal : Legal stage_reader s.notes.plan.queue new
  pub known : Knows next (files_of new)

-- In a legal log, whose files a worker knows, its move is allowed at its moment, and carries what it knows on.
move_carried : (role : Role) (from to : ℕ) (s : State) (old new : Log) (m : Move) → IsFit s → (called : Called (Allows stage_reader role (Some s.notes.plan.queue)) from to s old new m)
    → Legal stage_reader s.notes.plan.queue old → Knows s (files_of old) → Carries s.notes.plan.queue (replay (files_of old) called.answered.acted.others) called.answered.act m.next
move_carried role from to s old new m fit called legal known =
    let q = s.notes.plan.queue in
    let sound = legal_sound stage_reader kinds q old legal in
    let beside = others_keep stage_reader kinds role q (files_of old) called.answered.acted.others (memory_of s) called.answered.acted.by (record { sound = sound; known = known }) in
    move_carries role from to s.notes (files_of old) called.answered.acted.others called.answered.acted.by sound beside.sound fit.notes called.answered.act m s.phase fit.phase beside.known called.leads called.answered.takes

-- So its own act is allowed,
pub move_allowed : (role : Role) (from to : ℕ) (s : State) (old new : Log) (m : Move) → IsFit s → (called : Called (Allows stage_reader role (Some s.notes.plan.queue)) from to s old new m)
    → Legal stage_reader s.notes.plan.queue old → Knows s (files_of old) → Allowed stage_reader s.notes.plan.queue (replay (files_of old) called.answered.acted.others) called.answered.act
move_allowed role from to s old new m fit called legal known = (move_carried role from to s old new m fit called legal known).may

-- and it leads to a legal log whose files it knows.
pub move_keeps : (role : Role) (from to : ℕ) (s : State) (old new : Log) (m : Move) → IsFit s → Called (Allows stage_reader role (Some s.notes.plan.queue)) from to s old new m
    → Legal stage_reader s.notes.plan.queue old → Knows s (files_of old) → Keeps s m.next new
move_keeps role from to s old new m fit called legal known =
    let carried = move_carried role from to s old new m fit called legal known in
    record {
      legal = acted_legal stage_reader role s.notes.plan.queue old new called.answered.act called.answered.acted carried.may legal;
      known = subst (λ files. Knows m.next files) (sym (files_then called.answered.acted)) carried.known;
    }

-- Steps of others alone keep both.
pub idle_keeps : (role : Role) (s : State) (old new : Log) → Idled (Allows stage_reader role (Some s.notes.plan.queue)) old new → Legal stage_reader s.notes.plan.queue old → Knows s (files_of old)
    → Keeps s s new
idle_keeps role s old new idled legal known =
    let q = s.notes.plan.queue in
    let sound = legal_sound stage_reader kinds q old legal in
    let beside = others_keep stage_reader kinds role q (files_of old) idled.others (memory_of s) idled.by (record { sound = sound; known = known }) in
    record {
      legal = idled_legal stage_reader role q old new idled legal;
      known = subst (λ files. Knows s files) (sym (files_then idled)) beside.known;
    }

-- A worker that has stopped at an error knows the same stages, and has no lease.
pub stopped_knows : (s next : State) (files : Files) (error : WorkerError) → next.notes.plan ≡ s.notes.plan → next.notes.known ≡ s.notes.known → next.phase ≡ Broken error → Knows s files → Knows next files
stopped_knows s next files error plan known phase h =
    subst (λ (p : Plan). IsKnownOf (stages_in stage_reader p.queue files) files (memory_at next.notes.known next.phase)) (sym plan)
    (subst (λ (k : Known). IsKnownOf (stages_in stage_reader s.notes.plan.queue files) files (memory_at k next.phase)) (sym known)
    (subst (λ (p : Phase). IsKnownOf (stages_in stage_reader s.notes.plan.queue files) files (memory_at s.notes.known p)) (sym phase)
    (known_stopped (stages_in stage_reader s.notes.plan.queue files) files s.notes.known s.phase error h)))

-- A step without a call leaves it with what it knows.
resting_knows : (notes : Notes) (phase : Phase) (next : State) (result : Result Turn WorkerError) (files : Files) → Rests notes phase next result → Knows (stands notes phase) files → Knows next files
resting_knows notes (Trying names) next result files rests h =
    subst (λ n. Knows n files) (sym rests.1) (rested notes (Trying names) (Over (end.Spent notes.plan.turns)) files refl refl refl h)
resting_knows notes (Telling [] count) next result files rests h =
    subst (λ n. Knows n files) (sym rests.0) (rested notes (Telling [] count) (Over (end.Letters count)) files refl refl refl h)
resting_knows notes (Telling (id ∷ letters) count) next result files rests h =
    subst (λ n. Knows n files) (sym rests.0) (rested notes (Telling (id ∷ letters) count) (Telling letters count) files refl refl refl h)
resting_knows notes (Over e) next result files rests h = subst (λ n. Knows n files) (sym rests.0) h
resting_knows notes (Broken error) next result files rests h = subst (λ n. Knows n files) (sym rests.0) h
resting_knows notes Starting next result files rests h = absurd rests
resting_knows notes (Learning unread goal) next result files rests h = absurd rests
resting_knows notes Asking next result files rests h = absurd rests
resting_knows notes (Fetching name paths given names) next result files rests h = absurd rests
resting_knows notes (Running name given names) next result files rests h = absurd rests
resting_knows notes (Finishing name outputs names) next result files rests h = absurd rests
resting_knows notes Closing next result files rests h = absurd rests
resting_knows notes ListingDead next result files rests h = absurd rests
resting_knows notes (ListingDone letters) next result files rests h = absurd rests

pub rests_knows : (s next : State) (result : Result Turn WorkerError) (files : Files) → Rests s.notes s.phase next result → Knows s files → Knows next files
rests_knows s next result files rests h = resting_knows s.notes s.phase next result files rests h
