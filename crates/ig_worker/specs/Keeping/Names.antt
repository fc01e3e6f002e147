-- What a worker's moves of names keep.
use Rattle.std.specs.Prelude.{◌≡◌, ◌<◌, ◌+◌, ◌^◌, ◌&&◌, min, nat_lt, ℕ, Bool, true, false, List, ◌∷◌, is_some, refl}
use Rattle.std.proofs.Common.{arith, ap, sym, subst, ◌∙◌}
use Rattle.std.proofs.lemmas.Bool.{and_from, lt-ltb}
use Rattle.ig_defs.specs.declared.queue_name.QueueName.{QueueName}
use Rattle.ig_defs.specs.declared.step.Act.{Act}
use Rattle.ig_defs.specs.declared.step.Act.TheVariants as act
use Rattle.ig_defs.specs.Files.{Files, file_at}
use Rattle.ig_defs.specs.Log.{after}
use Rattle.ig_defs.specs.QueueNames.{queue_fits, task_fits, task_of}
use Rattle.ig_defs.specs.QueueNameLaws.{IsName-fits}
use Rattle.ig_rule.specs.QueueFiles.{QueueFile, Queued, Dead, fits, path_of}
use Rattle.ig_rule.specs.QueueSteps.{queue_of-fits}
use Rattle.ig_rule.specs.Rule.{MayBecome}
use Rattle.ig_rule.specs.Sound.{Sound}
use Rattle.ig_rule.specs.Stages.{stages_in}
use Rattle.ig_queue.specs.Moves.{leased_name}
use Rattle.ig_task.specs.Facts.{stage_reader}
use Rattle.ig_worker.specs.declared.notes.Notes.{Notes}
use Rattle.ig_worker.specs.declared.phase.Phase.TheVariants.{Trying}
use Rattle.ig_defs.specs.Answers.{act_if}
use Rattle.ig_worker.specs.Fit.{IsOpen}
use Rattle.ig_worker.specs.Keeping.Known.{Carries, all_known, carries, rested, try_rests}
use Rattle.ig_worker.specs.Keeping.Leases.{leased_known}
use Rattle.ig_worker.specs.Knows.{Knows}
use Rattle.ig_worker.specs.Moves.{dead_path, leased, queued_path}
use Rattle.ig_worker.specs.Places.{State, asked, leased_or_gone, next_try, stands, tried_one}

-- ---- names that fit
pub task_fits-queue : (name : QueueName) → queue_fits name ≡ true → task_fits (task_of name) ≡ true
task_fits-queue name fit =
    let h = IsName-fits name fit in
    and_from (nat_lt name.stage (10 ^ 4)) (nat_lt name.task (10 ^ 6)) (lt-ltb name.stage (10 ^ 4) h.stage) (lt-ltb name.task (10 ^ 6) h.task)

pub leased_fits : (now seconds : ℕ) (name : QueueName) → queue_fits name ≡ true → name.attempt < 100 → queue_fits (leased_name now seconds name) ≡ true
leased_fits now seconds name fit few =
    and_from (nat_lt (min (now + seconds) 9999999999) (10 ^ 10)) (task_fits (task_of name) && nat_lt (name.attempt + 1) (10 ^ 3))
    (lt-ltb (min (now + seconds) 9999999999) (10 ^ 10) (omega arith))
    (and_from (task_fits (task_of name)) (nat_lt (name.attempt + 1) (10 ^ 3)) (task_fits-queue name fit) (lt-ltb (name.attempt + 1) (10 ^ 3) (omega (arith, few))))

-- ---- moves
-- The move of a name, or the look where it is gone, is allowed where the name may become the other, and leads on from what is known.
pub moved_by : (s : State) (now : Files) → Sound stage_reader s.notes.plan.queue now → Knows s now → (name : QueueName) (other : QueueFile) → queue_fits name ≡ true → fits other ≡ true
    → MayBecome (stages_in stage_reader s.notes.plan.queue now) now (Queued name) other → (next : State) (there : Bool) → there ≡ is_some (file_at now (path_of s.notes.plan.queue (Queued name)))
    → ((files : Files) → Knows s files → Knows next files)
    → Carries s.notes.plan.queue now (act_if there (act.Move (path_of s.notes.plan.queue (Queued name)) (path_of s.notes.plan.queue other)) (path_of s.notes.plan.queue (Queued name))) next
moved_by s now sound known name other fit fitting becomes next true is on =
    let a = act.Move (path_of s.notes.plan.queue (Queued name)) (path_of s.notes.plan.queue other) in
    carries s next now a sound known
    (record {
      name = Queued name;
      other = other;
      from_is = refl;
      to_is = refl;
      there = ap is_some (queue_of-fits s.notes.plan.queue now (Queued name) fit) ∙ sym is;
      fitting = fitting;
      becomes = becomes;
    })
    (λ one. one) (on (after now a))
moved_by s now sound known name other fit fitting becomes next false is on =
    carries s next now (act.Read (path_of s.notes.plan.queue (Queued name))) sound known tt (λ one. one) (on now)

-- ---- a try
module _ (notes : Notes) (name : QueueName) (names : List QueueName) (now : Files) (sound : Sound stage_reader notes.plan.queue now) (known : Knows (stands notes (Trying (name ∷ names))) now)
    (open_name : IsOpen notes name) where
  pub buries_carries : (there : Bool) (a : Act) → (a ≡ act_if there (act.Move (queued_path notes name) (dead_path notes name)) (queued_path notes name)) → there ≡ is_some (file_at now (queued_path notes name))
      → Carries notes.plan.queue now a (stands (tried_one notes) (next_try names))
  buries_carries there a is_act is =
      subst (λ v. Carries notes.plan.queue now v (stands (tried_one notes) (next_try names))) (sym is_act)
      (moved_by (stands notes (Trying (name ∷ names))) now sound known name (Dead (task_of name)) open_name.due.fits (task_fits-queue name open_name.due.fits) refl (stands (tried_one notes) (next_try names)) there is
      (λ files h. rested notes (Trying (name ∷ names)) (next_try names) files refl refl (try_rests notes.known names) h))

  pub leases_carries : (second : ℕ) (there : Bool) (a : Act) → name.attempt < 100
      → (a ≡ act_if there (act.Move (queued_path notes name) (queued_path notes (leased notes second name))) (queued_path notes name)) → there ≡ is_some (file_at now (queued_path notes name))
      → Carries notes.plan.queue now a (stands (tried_one (asked notes second)) (leased_or_gone there notes.known (leased notes second name) names))
  leases_carries second there a few is_act is =
      let next = stands (tried_one (asked notes second)) (leased_or_gone there notes.known (leased notes second name) names) in
      subst (λ v. Carries notes.plan.queue now v next) (sym is_act)
      (moved_by (stands notes (Trying (name ∷ names))) now sound known name (Queued (leased notes second name)) open_name.due.fits
      (leased_fits second notes.plan.lease name open_name.due.fits few) refl next there is
      (λ files h. leased_known (stages_in stage_reader notes.plan.queue files) files notes.known there (leased notes second name) names
      (all_known (stages_in stage_reader notes.plan.queue files) files notes.known (Trying (name ∷ names)) refl refl h) open_name.below))
