-- What a worker has under a lease at each place of its course.
use Rattle.std.specs.Prelude.{◌≡◌, ℕ, Bool, true, false, if◌then◌else◌, List, [], ◌∷◌, ◌++◌, map, Some, Contains, refl}
use Rattle.std.proofs.Common.{ap, sym, append_assoc, append-nil, ◌∙◌}
use Rattle.std.proofs.lemmas.List.{map-append}
use Rattle.std.proofs.lemmas.List.Elements.{Contains-append_left}
use Rattle.ig_space.specs.declared.task_id.TaskId.{TaskId}
use Rattle.ig_defs.specs.declared.queue_name.QueueName.{QueueName}
use Rattle.ig_defs.specs.declared.step.Act.TheVariants as act
use Rattle.ig_defs.specs.QueueNames.{task_of}
use Rattle.ig_cutout.specs.declared.types.Input.{Input}
use Rattle.ig_cutout.specs.declared.types.Output.{Output}
use Rattle.ig_cutout.specs.Inputs.{paths_of as input_paths}
use Rattle.ig_record.specs.declared.stage.Stage.{Stage}
use Rattle.ig_record.specs.Columns.{inputs_of, paths_of}
use Rattle.ig_task.specs.Wanted.{path_of}
use Rattle.ig_worker.specs.declared.notes.Notes.{Notes}
use Rattle.ig_worker.specs.declared.phase.Phase.{Phase}
use Rattle.ig_worker.specs.declared.phase.Phase.TheVariants.{Starting, Learning, Asking, Trying, Fetching, Running, Finishing, Closing, ListingDead, ListingDone, Telling, Over, Broken}
use Rattle.ig_worker.specs.declared.phase.Then.{Then}
use Rattle.ig_worker.specs.declared.phase.Then.TheVariants.{Ask, Try, Count}
use Rattle.ig_worker.specs.declared.plan.Plan.{Plan}
use Rattle.ig_worker.specs.Leasing.Leases.{HasRead, OwnStep, SettleAll, Settles, UnderLease, act_of, is_removal}
use Rattle.ig_worker.specs.Places.{State, counted, learning, next_try, round_of}
use Rattle.ig_worker.specs.Stages.{Known, open_names, stage_in}

-- ---- what was read
-- the record of each known stage was read
abbrev pub AreRead : List ℕ → List OwnStep → Known → Type 0
AreRead q steps known = (r : ℕ × Stage) → Contains known r → HasRead q steps r.0 r.1

pub more_read : (q : List ℕ) (steps : List OwnStep) (step : OwnStep) (n : ℕ) (s : Stage) → HasRead q steps n s → HasRead q (steps ++ step ∷ []) n s
more_read q steps step n s h = record { step = h.step; among = Contains-append_left steps (step ∷ []) h.step h.among; reads = h.reads; text = h.text; found = h.found; says = h.says }

-- ---- one step more under a lease
push_settled : (removal : Bool) (paths : List (List ℕ)) (steps : List OwnStep) (path : List ℕ) (step : OwnStep) → SettleAll removal paths steps → Settles removal path step
    → SettleAll removal (paths ++ path ∷ []) (steps ++ step ∷ [])
push_settled removal [] [] path step all last = (last, tt)
push_settled removal [] (other ∷ steps) path step all last = absurd all
push_settled removal (other ∷ paths) [] path step all last = absurd all
push_settled removal (other ∷ paths) (first ∷ steps) path step all last = (all.0, push_settled removal paths steps path step all.1 last)

none_settled : (removal : Bool) (steps : List OwnStep) → SettleAll removal [] steps → steps ≡ []
none_settled removal [] all = refl
none_settled removal (step ∷ steps) all = absurd all

-- an input was read
pub under_read : (plan : Plan) (steps : List OwnStep) (step : OwnStep) (id : TaskId) (s : Stage) (read : List (List ℕ)) (path : List ℕ) → act_of step ≡ act.Read path → UnderLease plan steps id s read []
    → UnderLease plan (steps ++ step ∷ []) id s (read ++ path ∷ []) []
under_read plan steps step id s read path is u =
    let none = none_settled (is_removal s) u.settles u.outputs in
    let all : u.reads ++ u.settles ≡ u.reads = ap (λ more. u.reads ++ more) none ∙ append-nil u.reads in
    record {
      before = u.before;
      lease = u.lease;
      reads = u.reads ++ step ∷ [];
      settles = [];
      together = ap (λ own. own ++ step ∷ []) u.together ∙ append_assoc u.before (u.lease ∷ (u.reads ++ u.settles)) (step ∷ [])
          ∙ ap (λ own. u.before ++ u.lease ∷ (own ++ step ∷ [])) all ∙ ap (λ own. u.before ++ u.lease ∷ own) (sym (append-nil (u.reads ++ step ∷ [])));
      name = u.name;
      of_task = u.of_task;
      leases = u.leases;
      stage = u.stage;
      inputs = map-append act_of u.reads (step ∷ []) ∙ ap (λ acts. acts ++ act_of step ∷ []) u.inputs ∙ ap (λ last. map act.Read read ++ last ∷ []) is ∙ sym (map-append act.Read read (path ∷ []));
      outputs = tt;
    }

-- a path was settled
pub under_settled : (plan : Plan) (steps : List OwnStep) (step : OwnStep) (id : TaskId) (s : Stage) (read settled : List (List ℕ)) (path : List ℕ) → Settles (is_removal s) path step
    → UnderLease plan steps id s read settled → UnderLease plan (steps ++ step ∷ []) id s read (settled ++ path ∷ [])
under_settled plan steps step id s read settled path is u = record {
  before = u.before;
  lease = u.lease;
  reads = u.reads;
  settles = u.settles ++ step ∷ [];
  together = ap (λ own. own ++ step ∷ []) u.together ∙ append_assoc u.before (u.lease ∷ (u.reads ++ u.settles)) (step ∷ [])
      ∙ ap (λ own. u.before ++ u.lease ∷ own) (append_assoc u.reads u.settles (step ∷ []));
  name = u.name;
  of_task = u.of_task;
  leases = u.leases;
  stage = u.stage;
  inputs = u.inputs;
  outputs = push_settled (is_removal s) settled u.settles path step u.outputs is;
}

-- ---- places
-- the task of this name is under a lease, and these were read
abbrev pub IsUnder : Notes → List OwnStep → QueueName → List (List ℕ) → Type 0
IsUnder notes steps name read = (s : Stage) → stage_in notes.known name.stage ≡ Some s → UnderLease notes.plan steps (task_of name) s read []

-- of the task's paths these are left, and the others were settled
pub record HandsOn (plan : Plan) (steps : List OwnStep) (id : TaskId) (s : Stage) (left : List (List ℕ)) : Type 0 where
  pub settled : List (List ℕ)
  pub paths : paths_of s id.task ≡ settled ++ left
  pub lease : UnderLease plan steps id s (inputs_of s id.task) settled

abbrev pub IsHanding : Notes → List OwnStep → QueueName → List Output → Type 0
IsHanding notes steps name outputs = (s : Stage) → stage_in notes.known name.stage ≡ Some s → HandsOn notes.plan steps (task_of name) s (map path_of outputs)

abbrev pub IsLeasedAt : Notes → List OwnStep → Phase → Type 0
IsLeasedAt notes steps (Fetching name paths given names) = IsUnder notes steps name (input_paths given)
IsLeasedAt notes steps (Running name given names) = IsUnder notes steps name (input_paths given)
IsLeasedAt notes steps (Finishing name outputs names) = IsHanding notes steps name outputs
IsLeasedAt notes steps Starting = Unit {0}
IsLeasedAt notes steps (Learning unread goal) = Unit {0}
IsLeasedAt notes steps Asking = Unit {0}
IsLeasedAt notes steps (Trying names) = Unit {0}
IsLeasedAt notes steps Closing = Unit {0}
IsLeasedAt notes steps ListingDead = Unit {0}
IsLeasedAt notes steps (ListingDone letters) = Unit {0}
IsLeasedAt notes steps (Telling letters count) = Unit {0}
IsLeasedAt notes steps (Over end) = Unit {0}
IsLeasedAt notes steps (Broken error) = Unit {0}

-- What a worker that stands here knows was read by these own steps, and they end with the lease of its task, if it has one.
pub record Follows (steps : List OwnStep) (s : State) : Type 0 where
  pub read : AreRead s.notes.plan.queue steps s.notes.known
  pub place : IsLeasedAt s.notes steps s.phase

-- ---- places without a lease
module _ (notes : Notes) (steps : List OwnStep) where
  pub try_under : (names : List QueueName) → IsLeasedAt notes steps (next_try names)
  try_under [] = tt
  try_under (name ∷ names) = tt

  round_under : (names : List QueueName) → IsLeasedAt notes steps (round_of names)
  round_under [] = tt
  round_under (name ∷ names) = tt

  pub learning_under : (known : Known) (unread : List ℕ) (goal : Then) → IsLeasedAt notes steps (learning known unread goal)
  learning_under known [] Ask = tt
  learning_under known [] (Try names) = round_under (open_names known names)
  learning_under known [] Count = tt
  learning_under known (n ∷ unread) goal = tt

  pub counted_under : (known : Known) (letters : List TaskId) (given : List (List ℕ)) → IsLeasedAt notes steps (counted known letters given)
  counted_under known [] given = tt
  counted_under known (id ∷ letters) given = tt

  -- ---- and with one
  pub fetching_under : (name : QueueName) (paths : List (List ℕ)) (given : List Input) (names : List QueueName) (all : Bool) → IsUnder notes steps name (input_paths given)
      → IsLeasedAt notes steps (if all then Running name given names else Fetching name paths given names)
  fetching_under name paths given names true under = under
  fetching_under name paths given names false under = under
