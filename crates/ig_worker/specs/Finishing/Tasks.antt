-- A worker by itself that holds a task finds its inputs, runs it, hands over what it makes, and calls it done.
use Rattle.std.specs.Prelude.{◌≡◌, ℕ, Bool, true, false, List, [], ◌∷◌, ◌++◌, length, Option, None, Some, IsSome, is_some, Contains, refl}
use Rattle.std.specs.FinMap as maps
use Rattle.std.proofs.Common.{ap, sym, subst, ◌∙◌}
use Rattle.std.proofs.lemmas.Option.{get_or_from_slice_get, same_Some}
use Rattle.ig_defs.specs.declared.queue_name.QueueName.{QueueName}
use Rattle.ig_defs.specs.declared.step.Act.{Act}
use Rattle.ig_defs.specs.declared.step.Act.TheVariants as act
use Rattle.ig_defs.specs.Files.{Files, file_at}
use Rattle.ig_defs.specs.Log.{after}
use Rattle.ig_defs.specs.Own.{File}
use Rattle.ig_defs.specs.QueueNames.{task_of}
use Rattle.ig_cutout.specs.declared.types.Input.{Input}
use Rattle.ig_cutout.specs.declared.types.Output.{Output}
use Rattle.ig_cutout.specs.Inputs.{HoldsAll}
use Rattle.ig_record.specs.declared.stage.Stage.{Stage}
use Rattle.ig_record.specs.Columns.{inputs_of, paths_of}
use Rattle.ig_record.specs.Sound.{is_sound}
use Rattle.ig_meaning.specs.Agreeing.{made-fine}
use Rattle.ig_meaning.specs.Jobs.{with_outputs, with_text}
use Rattle.ig_meaning.specs.Refusal.{Refusal}
use Rattle.ig_meaning.specs.Task.{task_outputs, task_refusal}
use Rattle.ig_rule.specs.KeptInputs.{kept_stands}
use Rattle.ig_rule.specs.Known.{IsKnownLease}
use Rattle.ig_rule.specs.QueueFiles.{Done, Queue, Queued, queue_of}
use Rattle.ig_rule.specs.Sound.{Sound}
use Rattle.ig_rule.specs.SoundFiles.{none_there}
use Rattle.ig_rule.specs.Stages.{stages_in}
use Rattle.ig_task.specs.Facts.{is_scratch, stage_reader}
use Rattle.ig_task.specs.Kinds.{kinds}
use Rattle.ig_worker.specs.declared.notes.Notes.{Notes}
use Rattle.ig_worker.specs.declared.phase.Phase.TheVariants.{Fetching, Finishing, Running}
use Rattle.ig_worker.specs.declared.turn.Why.{Why}
use Rattle.ig_worker.specs.declared.turn.Why.TheVariants as why
use Rattle.ig_worker.specs.Finishing.Files.{agree_outputs, remove_absent, text_outside}
use Rattle.ig_worker.specs.Finishing.Going.{GoesOn, IsHanding, IsHolding, IsKept, RunInOrder, StaysGoing}
use Rattle.ig_worker.specs.Finishing.Kept.{ahead_on, all_on, kept_on, moved_on, queue_kept, turned_kept}
use Rattle.ig_worker.specs.Finishing.Left.{left_done, left_on}
use Rattle.ig_worker.specs.Finishing.Runs.{input_is_apart, input_there, makes_of, path_is_apart}
use Rattle.ig_worker.specs.Finishing.Tries.{can_on, goes_fetching, goes_trying}
use Rattle.ig_defs.specs.Answers.{Answer, Found, Names, Put, Takes, WasThere, act_if}
use Rattle.ig_worker.specs.Finishing.CanFinish.{stage_at}
use Rattle.ig_worker.specs.Fit.{AreFitNotes, IsFetching, IsFinishing, IsRunning}
use Rattle.ig_worker.specs.Keeping.Files.{found-holds, found-path, found-sorts, next_path, next_path-among}
use Rattle.ig_worker.specs.Keeping.Handing.{nothing_there}
use Rattle.ig_worker.specs.Keeping.Leases.{known_one}
use Rattle.ig_worker.specs.Keeping.Lists.{kept_from, some_of}
use Rattle.ig_worker.specs.Keeping.Names.{task_fits-queue}
use Rattle.ig_worker.specs.Keeping.Tasks.{known_sound, ran_known}
use Rattle.ig_worker.specs.Knows.{Knows, fetched_lease, found_files, made_lease}
use Rattle.ig_worker.specs.Moves.{ActsOn, HandsOver, IsCause, IsOutcome, Makes, Move, Outcome, ReadsInput, Refuses, RunsTask, call_by, done_path, queued_path}
use Rattle.ig_worker.specs.Places.{fetched, next_try, stands}
use Rattle.ig_worker.specs.Stages.{stage_in}

-- ---- an input is read
found_goes : (notes : Notes) (name : QueueName) (paths : List (List ℕ)) (given : List Input) (names : List QueueName) (at : ℕ) (first old : Files) (path : List ℕ) (found : Option (List ℕ)) → found ≡ file_at old path
    → IsSome (file_at old path) → IsKept notes.plan.queue first old notes.known → IsHolding at first old notes name names → GoesOn at first (stands notes (fetched name paths given names path found)) old
found_goes notes name paths given names at first old path None is there kept hold = absurd (none_there (file_at old path) there (sym is))
found_goes notes name paths given names at first old path (Some bytes) is there kept hold =
    record { kept = kept; goes = goes_fetching at first old notes name paths (given ++ record { path = path; found = Some bytes } ∷ []) names hold }

-- A worker by itself that reads inputs goes on: each is there.
pub fetching_goes : (notes : Notes) (name : QueueName) (paths : List (List ℕ)) (given : List Input) (names : List QueueName) → StaysGoing (stands notes (Fetching name paths given names))
fetching_goes notes name paths given names at from to first old new m early fit sound known called goes =
    let l : ReadsInput notes name paths given names m = called.leads in
    let f : IsFetching notes name paths given names = fit.phase in
    let hold : IsHolding at first old notes name names = goes.goes in
    let lease = known_one (stages_in stage_reader notes.plan.queue old) old (fetched_lease name given) (stage_in notes.known name.stage) f.stage f.leased.stage known.leases in
    let among : Contains (inputs_of f.stage name.task) l.path
    = subst (λ (ps : List (List ℕ)). Contains ps l.path) f.inputs (length given, f.more, get_or_from_slice_get paths (length given) l.path l.path l.next) in
    let there = input_there notes first old name sound goes.kept f.stage f.leased.stage lease.is hold.can.files hold.can.run.0 hold.can.agree
    (known_sound notes fit.notes name.stage f.stage f.leased.stage) lease.below l.path among in
    subst (λ (v : Move). Takes old [] v.call v.answer called.act → GoesOn at first v.next new) (sym l.is)
    (λ taken. subst (λ (files : Files). GoesOn at first (stands notes (fetched name paths given names l.path l.found)) files) (sym (called.files ∙ ap (after old) taken.0))
    (found_goes notes name paths given names at first old l.path l.found taken.1 there goes.kept hold)) called.takes

-- ---- what it makes is handed over
text_by : (old new : Files) (a : Act) (path : List ℕ) (there : Bool) → a ≡ act_if there (act.Remove path) path → there ≡ is_some (file_at old path) → new ≡ after old a → new ≡ maps.remove old path
text_by old new a path true is_act is files = files ∙ ap (after old) is_act
text_by old new a path false is_act is files = files ∙ ap (after old) is_act ∙ remove_absent old path (nothing_there (file_at old path) is)

-- by the call for an output, it stands or is gone
text_is : (old new : Files) (a : Act) (path : List ℕ) (text : Option (List ℕ)) (answer : Answer) → Takes old [] (call_by path text) answer a → new ≡ after old a → new ≡ with_text old path text
text_is old new a path (Some bytes) Put takes files = files ∙ ap (after old) takes
text_is old new a path (Some bytes) (Names given) takes files = absurd takes
text_is old new a path (Some bytes) (Found found) takes files = absurd takes
text_is old new a path (Some bytes) (WasThere there) takes files = absurd takes
text_is old new a path None (WasThere there) takes files = text_by old new a path there takes.0 takes.1 files
text_is old new a path None (Names given) takes files = absurd takes
text_is old new a path None (Found found) takes files = absurd takes
text_is old new a path None Put takes files = absurd takes

no_done : (name : QueueName) → Queued name ≡ Done (task_of name) → ⊥
no_done name e = absurd (cc)

module _ (notes : Notes) (name : QueueName) (names : List QueueName) (at : ℕ) (first old new : Files) (a : Act) (files : new ≡ after old a)
    (sound : Sound stage_reader notes.plan.queue old) (kept : IsKept notes.plan.queue first old notes.known) where
  abbrev Goes : Move → Type 0
  Goes m = Takes old [] m.call m.answer a → GoesOn at first m.next new

  -- one output more
  handed : (output : Output) (outputs : List Output) → IsFinishing notes name (output ∷ outputs) names → Knows (stands notes (Finishing name (output ∷ outputs) names)) old
      → IsHanding at first old notes name (with_outputs old (output ∷ outputs)) names → GoesOn at first (stands notes (Finishing name outputs names)) (with_text old output.path output.text)
  handed output outputs f known h =
      let q = notes.plan.queue in
      let now = with_text old output.path output.text in
      let lease = known_one (stages_in stage_reader q old) old (made_lease name (output ∷ outputs)) (stage_in notes.known name.stage) f.stage f.leased.stage known.leases in
      let among = next_path-among (paths_of f.stage name.task) output outputs f.done (next_path (paths_of f.stage name.task) output outputs f.done f.paths) in
      let apart = path_is_apart notes first old name sound kept f.stage f.leased.stage lease.is output.path lease.below among in
      let same : queue_of q now ≡ queue_of q old = text_outside q old output.path output.text apart in
      let on = queue_kept q old now same in
      record {
        kept = kept_on q first old now notes.known on kept;
        goes = record {
          all = all_on q old now notes.known on h.all;
          held = ahead_on q old now on name (subst (λ (u : Queue). IsSome (u (Queued name))) (sym same) h.held.there) h.held;
          left = left_on notes.plan at notes.tried old now (Some name) names same h.left;
          can = h.can;
        };
      }

  -- after the last one the task is done
  called_done : IsFinishing notes name [] names → IsHanding at first old notes name old names → (there : Bool)
      → a ≡ act_if there (act.Move (queued_path notes name) (done_path notes name)) (queued_path notes name) → there ≡ is_some (file_at old (queued_path notes name))
      → GoesOn at first (stands notes (next_try names)) new
  called_done f h there is_act is =
      let q = notes.plan.queue in
      let done = Done (task_of name) in
      let t = (moved_on q old new name done a there h.held.there (task_fits-queue name f.leased.fits) (no_done name) is_act is files).0 in
      let on = turned_kept q old new name done refl t in
      record {
        kept = kept_on q first old new notes.known on kept;
        goes = goes_trying at first new notes names (all_on q old new notes.known on h.all)
            (record { left = left_done notes.plan at notes.tried old new name names t h.left; can = can_on q first old new names t.same h.can });
      }

  handing_goes : (outputs : List Output) (m : Move) → IsFinishing notes name outputs names → Knows (stands notes (Finishing name outputs names)) old
      → IsHanding at first old notes name (with_outputs old outputs) names → HandsOver notes name outputs names m → Goes m
  handing_goes [] m f known h leads = subst Goes (sym leads.1) (λ taken. called_done f h leads.0 taken.0 taken.1)
  handing_goes (output ∷ outputs) m f known h leads =
      subst Goes (sym leads.1)
      (λ taken. subst (λ (now : Files). GoesOn at first (stands notes (Finishing name outputs names)) now) (sym (text_is old new a output.path output.text leads.0 taken files))
      (handed output outputs f known h))

-- A worker by itself that hands over what a task makes goes on.
pub finishing_goes : (notes : Notes) (name : QueueName) (outputs : List Output) (names : List QueueName) → StaysGoing (stands notes (Finishing name outputs names))
finishing_goes notes name outputs names at from to first old new m early fit sound known called goes =
    handing_goes notes name names at first old new called.act called.files sound goes.kept outputs m fit.phase known goes.goes called.leads called.takes

-- ---- the task is run
no_cause : (cause : Why) (refusal : Option Refusal) → refusal ≡ None → IsCause cause refusal → ⊥
no_cause (why.Tries attempt) refusal fine is = is
no_cause (why.Malformed path cause) refusal fine is = absurd (cc)
no_cause (why.TooManyParts count) refusal fine is = absurd (cc)

module _ (notes : Notes) (name : QueueName) (given : List Input) (names : List QueueName) (at : ℕ) (first old new : Files) (a : Act) (files : new ≡ after old a) (fit : AreFitNotes notes)
    (f : IsRunning notes name given names) (sound : Sound stage_reader notes.plan.queue old) (known : Knows (stands notes (Running name given names)) old)
    (kept : IsKept notes.plan.queue first old notes.known) (hold : IsHolding at first old notes name names) (s : Stage) (is : stage_in notes.known name.stage ≡ Some s) where
  lease : IsKnownLease (stages_in stage_reader notes.plan.queue old) old (fetched_lease name given s)
  lease = known_one (stages_in stage_reader notes.plan.queue old) old (fetched_lease name given) (stage_in notes.known name.stage) s is known.leases

  sound_stage : is_sound s ≡ true
  sound_stage = known_sound notes fit name.stage s is

  input_path : (file : File) → Contains (found_files given) file → Contains (inputs_of s name.task) file.path
  input_path file among = subst (λ (t : Stage). Contains (inputs_of t name.task) file.path) (same_Some f.stage s (sym f.leased.stage ∙ is)) (subst (λ (paths : List (List ℕ)). Contains paths file.path) f.read (found-path given file among))

  -- what was found stands still: a source chunk has not changed, and a file of an earlier pass can have no other text
  stands_there : (file : File) → Contains (found_files given) file → file_at old file.path ≡ Some file.bytes
  stands_there = found-sorts s (λ file. file_at old file.path ≡ Some file.bytes) (found_files given) (λ file among. (lease.sources file among).1)
      (λ file among.
      let found = some_of (file_at old file.path) (input_there notes first old name sound kept s is lease.is hold.can.files hold.can.run.0 hold.can.agree sound_stage lease.below file.path
      (input_path file (kept_from (λ (f : File). is_scratch s f.path) (found_files given) file among).0)) in
      found.1 ∙ ap Some (kept_stands stage_reader kinds notes.plan.queue old (fetched_lease name given s) sound lease file among found.0 found.1))

  -- and so does it in the files over which the tasks can be run
  holds_there : HoldsAll (file_at hold.can.files) given
  holds_there = found-holds (file_at hold.can.files) given f.found (λ file among.
      sym (hold.can.agree file.path (input_is_apart notes first old name sound kept s is lease.is sound_stage lease.below file.path (input_path file among))) ∙ stands_there file among)

  made : task_outputs s name.task (file_at hold.can.files) ≡ Some hold.can.run.0.outputs
  made = makes_of notes first old name sound kept s is lease.is hold.can.files hold.can.run.0

  -- these are the outputs of the run
  handing : (outputs : List Output) → task_outputs s name.task (file_at hold.can.files) ≡ Some outputs → IsHanding at first old notes name (with_outputs old outputs) names
  handing outputs makes =
      let q = notes.plan.queue in
      let same : hold.can.run.0.outputs ≡ outputs = same_Some hold.can.run.0.outputs outputs (sym made ∙ makes) in
      record {
        all = hold.all;
        held = hold.held;
        left = hold.left;
        can = record {
          files = with_outputs hold.can.files outputs;
          agree = agree_outputs q old hold.can.files hold.can.agree outputs;
          run = subst (λ (outs : List Output). RunInOrder (stage_at q first) (with_outputs hold.can.files outs) names) same hold.can.run.1;
        };
      }

  ran_by : (outcome : Outcome) (m : Move) → IsOutcome s name.task given outcome → ActsOn notes name outcome names m → Takes old [] m.call m.answer a → GoesOn at first m.next new
  ran_by (Makes outputs) m comes acts =
      let ran = ran_known notes name given names old fit f known s is outputs comes in
      handing_goes notes name names at first old new a files sound kept outputs m ran.fit ran.known (handing outputs (comes (file_at hold.can.files) holds_there)) acts
  ran_by (Refuses cause) m comes acts = absurd (no_cause cause (task_refusal s name.task (file_at hold.can.files)) (made-fine s name.task (file_at hold.can.files) hold.can.run.0.outputs made).0 (comes (file_at hold.can.files) holds_there))

-- A worker by itself that runs a task goes on: it does not refuse.
pub running_goes : (notes : Notes) (name : QueueName) (given : List Input) (names : List QueueName) → StaysGoing (stands notes (Running name given names))
running_goes notes name given names at from to first old new m early fit sound known called goes =
    let l : RunsTask notes name given names m = called.leads in
    ran_by notes name given names at first old new called.act called.files fit.notes fit.phase sound known goes.kept goes.goes l.stage l.is l.outcome m l.comes l.acts called.takes
