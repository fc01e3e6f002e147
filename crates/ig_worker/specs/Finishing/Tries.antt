-- A worker by itself leases the first of the names that it tries, or finds it gone since its task is done.
use Rattle.std.specs.Prelude.{◌≡◌, ◌⊎◌, ◌<◌, ◌==◌, ℕ, Bool, true, false, if◌then◌else◌, List, [], ◌∷◌, length, Option, None, Some, is_some, refl}
use Rattle.std.proofs.Common.{arith, inl, inr, ap, sym, subst, true≢false, ◌∙◌}
use Rattle.std.proofs.lemmas.Bool.{lt-leb}
use Rattle.std.proofs.lemmas.List.Elements.{All-head}
use Rattle.ig_defs.specs.declared.queue_name.QueueName.{QueueName}
use Rattle.ig_defs.specs.declared.step.Act.{Act}
use Rattle.ig_defs.specs.declared.step.Act.TheVariants as act
use Rattle.ig_defs.specs.Files.{Files, file_at}
use Rattle.ig_defs.specs.Log.{after}
use Rattle.ig_defs.specs.QueueNames.{queue_fits}
use Rattle.ig_cutout.specs.declared.types.Input.{Input}
use Rattle.ig_record.specs.declared.stage.Stage.{Stage}
use Rattle.ig_record.specs.Columns.{inputs_of}
use Rattle.ig_rule.specs.QueueFiles.{Queued, queue_of}
use Rattle.ig_rule.specs.QueueSteps.{SameOutside, holds, queue_of-fits}
use Rattle.ig_rule.specs.Sound.{Sound}
use Rattle.ig_rule.specs.SoundFiles.{some_there}
use Rattle.ig_task.specs.Facts.{stage_reader}
use Rattle.ig_worker.specs.declared.notes.Notes.{Notes}
use Rattle.ig_worker.specs.declared.phase.Phase.TheVariants.{Fetching, Running, Trying}
use Rattle.ig_worker.specs.Finishing.Going.{AllKnown, AreTried, CanRun, GoesOn, GoesOnAt, IsHolding, IsKept, IsRun, StaysGoing}
use Rattle.ig_worker.specs.Finishing.Kept.{IsTurned, ahead_as, all_on, kept_on, moved_on, some_name, turned_kept}
use Rattle.ig_worker.specs.Finishing.Left.{left_gone, left_leased}
use Rattle.ig_worker.specs.Finishing.Runs.{can_after}
use Rattle.ig_defs.specs.Answers.{Takes, act_if}
use Rattle.ig_worker.specs.Finishing.CanFinish.{IsAhead, stage_at}
use Rattle.ig_worker.specs.Fit.{AreFitNotes}
use Rattle.ig_worker.specs.Keeping.Lists.{first_in, none_in}
use Rattle.ig_worker.specs.Keeping.Names.{leased_fits}
use Rattle.ig_worker.specs.Knows.{Knows}
use Rattle.ig_worker.specs.Moves.{LeasesName, Move, TriesBy, leased, queued_path}
use Rattle.ig_worker.specs.Places.{asked, begun_by, fetching, leased_or_gone, next_try, stands, tried_one}
use Rattle.ig_worker.specs.Stages.{stage_in}

-- The files where no queue file is are as they were, so the tasks can be run still.
pub can_on : (q : List ℕ) (first old new : Files) (names : List QueueName) → SameOutside q old new → CanRun q (stage_at q first) old names → CanRun q (stage_at q first) new names
can_on q first old new names same h = record { files = h.files; agree = λ path apart. same path apart ∙ h.agree path apart; run = h.run }

-- ---- places
-- with a task held, its inputs are read,
pub goes_fetching : (at : ℕ) (first now : Files) (notes : Notes) (name : QueueName) (paths : List (List ℕ)) (given : List Input) (names : List QueueName) → IsHolding at first now notes name names
    → GoesOnAt at first now notes (fetching name paths given names)
goes_fetching at first now notes name paths given names h = by_test (length given == length paths)
  where
    by_test : (b : Bool) → GoesOnAt at first now notes (if b then Running name given names else Fetching name paths given names)
    by_test true = h
    by_test false = h

-- and with none held the next one is tried, or the queue is listed
pub goes_trying : (at : ℕ) (first now : Files) (notes : Notes) (names : List QueueName) → AllKnown notes.plan.queue now notes.known → AreTried at first now notes names → GoesOnAt at first now notes (next_try names)
goes_trying at first now notes [] all tried = (all, ([], record { only = λ name among. absurd (none_in name among); left = tried.left; can = tried.can }))
goes_trying at first now notes (name ∷ names) all tried = (all, tried)

goes_begun : (at : ℕ) (first now : Files) (notes : Notes) (name : QueueName) (names : List QueueName) (o : Option Stage) → is_some o ≡ true → IsHolding at first now notes name names
    → GoesOnAt at first now notes (begun_by o name names)
goes_begun at first now notes name names None known h = absurd (true≢false (sym known))
goes_begun at first now notes name names (Some s) known h = goes_fetching at first now notes name (inputs_of s name.task) [] names h

-- ---- a lease
module _ (at now : ℕ) (first old : Files) (notes : Notes) (name : QueueName) (names : List QueueName) (fit : AreFitNotes notes)
    (kept : IsKept notes.plan.queue first old notes.known) (all : AllKnown notes.plan.queue old notes.known) (tried : AreTried at first old notes (name ∷ names)) where
  abbrev lease : QueueName
  lease = leased notes now name

  abbrev later_notes : Notes
  later_notes = tried_one (asked notes now)

  -- another name, with one attempt more
  other_name : Queued name ≡ Queued lease → ⊥
  other_name e =
      let same : name.attempt ≡ lease.attempt = ap (λ (n : QueueName). n.attempt) (some_name name lease e) in
      absurd (omega (arith, same))

  lease_fits : queue_fits name ≡ true → queue_fits lease ≡ true
  lease_fits fits =
      let tries = All-head (λ (n : QueueName). n.attempt < notes.plan.tries) name names tried.left.tries in
      let most = fit.plan.tries.1 in
      leased_fits now notes.plan.lease name fits (omega (arith, tries, most))

  holding : (new : Files) → IsAhead notes.plan.queue old name → IsTurned notes.plan.queue old new name (Queued lease) → IsHolding at first new later_notes lease names
  holding new was t =
      let q = notes.plan.queue in
      let same = turned_kept q old new name (Queued lease) refl t in
      let can = can_on q first old new (name ∷ names) t.same tried.can in
      let run = can.run.0 in
      record {
        all = all_on q old new notes.known same all;
        held = ahead_as q old new same name lease refl (some_there (queue_of q new (Queued lease)) t.bytes t.shifts.at) was;
        left = left_leased notes.plan at notes.tried old new name lease names t tried.left;
        can = record { files = can.files; agree = can.agree; run = (record { stage = run.stage; is = run.is; outputs = run.outputs; makes = run.makes }, can.run.1) };
      }

  goes_leased : (new : Files) (b : Bool) → b ≡ true → IsAhead notes.plan.queue old name → IsTurned notes.plan.queue old new name (Queued lease)
      → GoesOn at first (stands later_notes (leased_or_gone b notes.known lease names)) new
  goes_leased new false stood was t = absurd (true≢false (sym stood))
  goes_leased new true stood was t =
      let q = notes.plan.queue in
      record {
        kept = kept_on q first old new notes.known (turned_kept q old new name (Queued lease) refl t) kept;
        goes = goes_begun at first new later_notes lease names (stage_in notes.known name.stage) (all name.stage was.stage was.is) (holding new was t);
      }

  goes_gone : (new : Files) (b : Bool) → b ≡ false → new ≡ old → AreTried at first old later_notes names → GoesOn at first (stands later_notes (leased_or_gone b notes.known lease names)) new
  goes_gone new true gone same others = absurd (true≢false gone)
  goes_gone new false gone same others =
      subst (λ (files : Files). GoesOn at first (stands later_notes (next_try names)) files) (sym same) (record { kept = kept; goes = goes_trying at first old later_notes names all others })

  -- the call for it, and where that leads
  module _ (sound : Sound stage_reader notes.plan.queue old) (knows : Knows (stands notes (Trying (name ∷ names))) old) (new : Files) (a : Act) (b : Bool)
      (is_act : a ≡ act_if b (act.Move (queued_path notes name) (queued_path notes lease)) (queued_path notes name)) (is : b ≡ is_some (file_at old (queued_path notes name))) (files : new ≡ after old a) where
    -- where the name is ahead, it is leased
    leased_goes : IsAhead notes.plan.queue old name → GoesOn at first (stands later_notes (leased_or_gone b notes.known lease names)) new
    leased_goes was =
        let q = notes.plan.queue in
        let m = moved_on q old new name (Queued lease) a b was.there (lease_fits (holds q old (Queued name) was.there).fit) other_name is_act is files in
        goes_leased new b m.1 was m.0

    -- where its task is done, it is gone
    gone_goes : IsRun notes.plan.queue old name → GoesOn at first (stands later_notes (leased_or_gone b notes.known lease names)) new
    gone_goes run =
        let q = notes.plan.queue in
        let from = queued_path notes name in
        let none : file_at old from ≡ None = sym (queue_of-fits q old (Queued name) run.fits) ∙ run.gone in
        let gone : b ≡ false = is ∙ ap (λ (o : Option (List ℕ)). is_some o) none in
        let reads : a ≡ act.Read from = is_act ∙ ap (λ (there : Bool). act_if there (act.Move from (queued_path notes lease)) from) gone in
        goes_gone new b gone (files ∙ ap (after old) reads) (record {
          left = left_gone notes.plan at notes.tried old name names run.gone tried.left;
          can = can_after notes first old (Trying (name ∷ names)) name names fit sound knows kept all run tried.can;
        })

    tries_first : IsAhead notes.plan.queue old name ⊎ IsRun notes.plan.queue old name → GoesOn at first (stands later_notes (leased_or_gone b notes.known lease names)) new
    tries_first (inl was) = leased_goes was
    tries_first (inr run) = gone_goes run

trying_by : (notes : Notes) (name : QueueName) (names : List QueueName) (at from to : ℕ) (first old new : Files) (m : Move) → AreFitNotes notes → Sound stage_reader notes.plan.queue old
    → Knows (stands notes (Trying (name ∷ names))) old → IsKept notes.plan.queue first old notes.known → AllKnown notes.plan.queue old notes.known → AreTried at first old notes (name ∷ names)
    → (a : Act) → new ≡ after old a → Takes old [] m.call m.answer a → LeasesName from to notes name names m → GoesOn at first m.next new
trying_by notes name names at from to first old new m fit sound knows kept all tried a files takes leads =
    subst (λ (v : Move). Takes old [] v.call v.answer a → GoesOn at first v.next new) (sym leads.is)
    (λ taken. tries_first at leads.now first old notes name names fit kept all tried sound knows new a leads.there taken.0 taken.1 files (tried.left.only name (first_in name names))) takes

-- A worker by itself that tries names goes on: the first of them is leased, or is gone since its task is done.
pub trying_goes : (notes : Notes) (names : List QueueName) → StaysGoing (stands notes (Trying names))
trying_goes notes [] at from to first old new m early fit sound known called goes = absurd called.leads
trying_goes notes (name ∷ names) at from to first old new m early fit sound known called goes =
    let tried = goes.goes.1 in
    let few = All-head (λ (n : QueueName). n.attempt < notes.plan.tries) name names tried.left.tries in
    let leads = subst (λ (b : Bool). TriesBy b from to notes name names m) (lt-leb notes.plan.tries name.attempt few) called.leads.1 in
    trying_by notes name names at from to first old new m fit.notes sound known goes.kept goes.goes.0 tried called.act called.files called.takes leads
