-- What a worker's handing over of a task keeps.
use Rattle.std.specs.Prelude.{◌≡◌, ◌⊎◌, ℕ, not, Bool, true, false, List, [], ◌∷◌, Option, None, Some, is_some, Contains, refl}
use Rattle.std.specs.FinMap as maps
use Rattle.std.proofs.Common.{inl, inr, ap, sym, subst, true≢false, ◌∙◌}
use Rattle.std.proofs.lemmas.List.Elements.{All-head}
use Rattle.ig_defs.specs.declared.queue_name.QueueName.{QueueName}
use Rattle.ig_defs.specs.declared.step.Act.{Act}
use Rattle.ig_defs.specs.declared.step.Act.TheVariants as act
use Rattle.ig_defs.specs.declared.step.Step.{Step}
use Rattle.ig_defs.specs.Files.{Files, file_at}
use Rattle.ig_defs.specs.Log.{replay}
use Rattle.ig_defs.specs.Puts.{file_at-put}
use Rattle.ig_defs.specs.QueueNames.{task_of}
use Rattle.ig_cutout.specs.declared.types.Output.{Output}
use Rattle.ig_record.specs.declared.stage.Stage.{Stage}
use Rattle.ig_record.specs.Columns.{paths_of, removed_dir}
use Rattle.ig_rule.specs.Effects.{output_apart}
use Rattle.ig_rule.specs.Facts.{IsPath}
use Rattle.ig_rule.specs.Keeps.{keep_laws}
use Rattle.ig_rule.specs.Known.{IsKnownLease}
use Rattle.ig_rule.specs.QueueFiles.{Record, Done, queue_of}
use Rattle.ig_rule.specs.QueueSteps.{file_at-gone}
use Rattle.ig_rule.specs.Rule.{MayBeDone, PutsOutput, an_output}
use Rattle.ig_rule.specs.Sound.{Sound}
use Rattle.ig_rule.specs.Stages.{HasWanted, Records, stages_in}
use Rattle.ig_task.specs.Facts.{facts_of, stage_reader}
use Rattle.ig_task.specs.Kinds.{kinds}
use Rattle.ig_worker.specs.declared.notes.Notes.{Notes}
use Rattle.ig_worker.specs.declared.phase.Phase.TheVariants.{Finishing}
use Rattle.ig_defs.specs.Answers.{Answer, Put, Takes, WasThere, act_if, Names, Found}
use Rattle.ig_task.specs.Wanted.{HasText}
use Rattle.ig_worker.specs.Fit.{IsFinishing}
use Rattle.ig_worker.specs.Keeping.Files.{IsNextPath, file_of, finished-all, finished-more, made-first, made-later, next_path, next_path-among}
use Rattle.ig_worker.specs.Keeping.Known.{Carries, all_known, carries, known_with, rested, try_rests}
use Rattle.ig_worker.specs.Keeping.Leases.{known_one, one_known}
use Rattle.ig_worker.specs.Keeping.Lists.{none_in, none_in_both}
use Rattle.ig_worker.specs.Keeping.Names.{moved_by, task_fits-queue}
use Rattle.ig_worker.specs.Knows.{Knows, finished_paths, made_lease}
use Rattle.ig_worker.specs.Moves.{call_by, call_for, done_path, queued_path}
use Rattle.ig_worker.specs.Places.{next_try, stands}
use Rattle.ig_worker.specs.Stages.{stage_in}

-- ---- the lease once one more path is finished
handed_lease : (records : Records) (files : Files) (name : QueueName) (output : Output) (outputs : List Output) (done : ℕ) (s : Stage) → IsNextPath (paths_of s name.task) output outputs done
    → (is_some (removed_dir s) ≡ false → HasWanted files (facts_of name.stage s) output.path) → (is_some (removed_dir s) ≡ true → file_at files output.path ≡ None)
    → IsKnownLease records files (made_lease name (output ∷ outputs) s) → IsKnownLease records files (made_lease name outputs s)
handed_lease records files name output outputs done s next wanted gone old = record {
  is = old.is;
  below = old.below;
  clear = old.clear;
  no_inputs = λ removes file among. none_in_both file among;
  sources = λ file among. absurd (none_in file among);
  scratch = λ file among. absurd (none_in file among);
  outputs = λ makes file among. old.outputs makes file (made-later output outputs file among);
  put = λ makes path among. put_by makes path (finished-more (paths_of s name.task) output outputs done next path among);
  removed = λ removes path among. removed_by removes path (finished-more (paths_of s name.task) output outputs done next path among);
}
  where
    paths : List (List ℕ)
    paths = paths_of s name.task

    put_by : is_some (removed_dir s) ≡ false → (path : List ℕ) → Contains (finished_paths paths (output ∷ outputs)) path ⊎ (output.path ≡ path) → Contains paths path × HasWanted files (facts_of name.stage s) path
    put_by makes path (inl h) = old.put makes path h
    put_by makes path (inr e) = subst (λ p. Contains paths p × HasWanted files (facts_of name.stage s) p) e (next_path-among paths output outputs done next, wanted makes)

    removed_by : is_some (removed_dir s) ≡ true → (path : List ℕ) → Contains (finished_paths paths (output ∷ outputs)) path ⊎ (output.path ≡ path) → Contains paths path × (file_at files path ≡ None)
    removed_by removes path (inl h) = old.removed removes path h
    removed_by removes path (inr e) = subst (λ p. Contains paths p × (file_at files p ≡ None)) e (next_path-among paths output outputs done next, gone removes)

-- a text is of a stage that makes something
makes_by : (b : Bool) → true ≡ not b → b ≡ false
makes_by true e = absurd (true≢false e)
makes_by false e = refl

removes_by : (b : Bool) → false ≡ not b → b ≡ true
removes_by true e = refl
removes_by false e = absurd (true≢false (sym e))

pub nothing_there : (o : Option (List ℕ)) → false ≡ is_some o → o ≡ None
nothing_there None e = refl
nothing_there (Some bytes) e = absurd (true≢false (sym e))

-- ---- an output
module _ (notes : Notes) (name : QueueName) (output : Output) (outputs : List Output) (names : List QueueName) (now : Files) (sound : Sound stage_reader notes.plan.queue now)
    (fit : IsFinishing notes name (output ∷ outputs) names) (known : Knows (stands notes (Finishing name (output ∷ outputs) names)) now) where
  next : IsNextPath (paths_of fit.stage name.task) output outputs fit.done
  next = next_path (paths_of fit.stage name.task) output outputs fit.done fit.paths

  lease_in : (files : Files) → Knows (stands notes (Finishing name (output ∷ outputs) names)) files → IsKnownLease (stages_in stage_reader notes.plan.queue files) files (made_lease name (output ∷ outputs) fit.stage)
  lease_in files h = known_one (stages_in stage_reader notes.plan.queue files) files (made_lease name (output ∷ outputs)) (stage_in notes.known name.stage) fit.stage fit.leased.stage h.leases

  path_is : IsPath (facts_of name.stage fit.stage) output.path
  path_is = record { task = name.task; below = (lease_in now known).below; among = next_path-among (paths_of fit.stage name.task) output outputs fit.done next }

  text_is : HasText fit.stage output
  text_is = All-head (HasText fit.stage) output outputs fit.texts

  -- what is known in files where it stands, or is gone
  handed_known : (files : Files) → (is_some (removed_dir fit.stage) ≡ false → HasWanted files (facts_of name.stage fit.stage) output.path)
      → (is_some (removed_dir fit.stage) ≡ true → file_at files output.path ≡ None) → Knows (stands notes (Finishing name (output ∷ outputs) names)) files
      → Knows (stands notes (Finishing name outputs names)) files
  handed_known files wanted gone h =
      let records = stages_in stage_reader notes.plan.queue files in
      known_with records files notes.known (Finishing name outputs names) (all_known records files notes.known (Finishing name (output ∷ outputs) names) refl refl h)
      (one_known records files (made_lease name outputs) (stage_in notes.known name.stage) fit.stage fit.leased.stage
      (handed_lease records files name output outputs fit.done fit.stage next wanted gone (lease_in files h)))

  puts_carries : (bytes : List ℕ) → output.text ≡ Some bytes → Carries notes.plan.queue now (act.Put output.path bytes) (stands notes (Finishing name outputs names))
  puts_carries bytes text =
      let q = notes.plan.queue in
      let records = stages_in stage_reader q now in
      let old = lease_in now known in
      let makes : is_some (removed_dir fit.stage) ≡ false = makes_by (is_some (removed_dir fit.stage)) (ap is_some (sym text) ∙ text_is) in
      let file = file_of output.path bytes in
      let among = made-first output outputs bytes text in
      let u : PutsOutput records now output.path bytes = record {
        number = name.stage;
        stage = facts_of name.stage fit.stage;
        is = old.is;
        makes = makes;
        path_is = path_is;
        text = (old.outputs makes file among).text;
        clear = old.clear;
      } in
      carries (stands notes (Finishing name (output ∷ outputs) names)) (stands notes (Finishing name outputs names)) now (act.Put output.path bytes) sound known (an_output u)
      (λ one. output_apart q records now output.path bytes (keep_laws stage_reader kinds (queue_of q now)) sound.stages u (Record one.number) one.path_is)
      (λ h. handed_known (maps.insert now output.path bytes)
      (λ also. record { bytes = bytes; wanted = ((lease_in (maps.insert now output.path bytes) h).outputs makes file among).text; stands = file_at-put now output.path output.path bytes refl })
      (λ removes. absurd (true≢false (sym removes ∙ makes))) h)

  removes_carries : (there : Bool) → output.text ≡ None → there ≡ is_some (file_at now output.path)
      → Carries notes.plan.queue now (act_if there (act.Remove output.path) output.path) (stands notes (Finishing name outputs names))
  removes_carries there text is = by_presence there is
    where
      removes : is_some (removed_dir fit.stage) ≡ true
      removes = removes_by (is_some (removed_dir fit.stage)) (ap is_some (sym text) ∙ text_is)

      old : IsKnownLease (stages_in stage_reader notes.plan.queue now) now (made_lease name (output ∷ outputs) fit.stage)
      old = lease_in now known

      by_presence : (b : Bool) → b ≡ is_some (file_at now output.path) → Carries notes.plan.queue now (act_if b (act.Remove output.path) output.path) (stands notes (Finishing name outputs names))
      by_presence true e =
          carries (stands notes (Finishing name (output ∷ outputs) names)) (stands notes (Finishing name outputs names)) now (act.Remove output.path) sound known
          (record { number = name.stage; stage = facts_of name.stage fit.stage; is = old.is; removes = removes; path_is = path_is }) (λ one. one)
          (λ h. handed_known (maps.remove now output.path) (λ makes. absurd (true≢false (sym removes ∙ makes))) (λ also. file_at-gone now output.path output.path refl) h)
      by_presence false e = record {
        may = tt;
        known = handed_known now (λ makes. absurd (true≢false (sym removes ∙ makes))) (λ also. nothing_there (file_at now output.path) e) known;
      }

  output_by : (start : Files) (others : List Step) → replay start others ≡ now → (a : Act) (text : Option (List ℕ)) → output.text ≡ text → (answer : Answer)
      → Takes start others (call_by output.path text) answer a → Carries notes.plan.queue now a (stands notes (Finishing name outputs names))
  output_by start others e a (Some bytes) text Put takes = subst (λ v. Carries notes.plan.queue now v (stands notes (Finishing name outputs names))) (sym takes) (puts_carries bytes text)
  output_by start others e a (Some bytes) text (Names given) takes = absurd takes
  output_by start others e a (Some bytes) text (Found found) takes = absurd takes
  output_by start others e a (Some bytes) text (WasThere there) takes = absurd takes
  output_by start others e a None text (WasThere there) takes =
      subst (λ v. Carries notes.plan.queue now v (stands notes (Finishing name outputs names))) (sym takes.0)
      (removes_carries there text (takes.1 ∙ ap (λ files. is_some (file_at files output.path)) e))
  output_by start others e a None text (Names given) takes = absurd takes
  output_by start others e a None text (Found found) takes = absurd takes
  output_by start others e a None text Put takes = absurd takes

  -- the next output is put, or taken away
  pub output_carries : (start : Files) (others : List Step) → replay start others ≡ now → (a : Act) (answer : Answer) → Takes start others (call_for output) answer a
      → Carries notes.plan.queue now a (stands notes (Finishing name outputs names))
  output_carries start others e a answer takes = output_by start others e a output.text refl answer takes

-- ---- the end of a task
may_be_done : (records : Records) (files : Files) (name : QueueName) (s : Stage) → IsKnownLease records files (made_lease name [] s) → MayBeDone records files (task_of name)
may_be_done records files name s old =
    let all = finished-all (paths_of s name.task) in
    record {
      stage = facts_of name.stage s;
      is = old.is;
      stands = record {
        made = λ makes path among. (old.put makes path (subst (λ l. Contains l path) (sym all) among)).1;
        gone = λ removes path among. (old.removed removes path (subst (λ l. Contains l path) (sym all) among)).1;
      };
      clear = old.clear;
    }

-- the task is called done
pub done_carries : (notes : Notes) (name : QueueName) (names : List QueueName) (now : Files) → Sound stage_reader notes.plan.queue now → IsFinishing notes name [] names
    → Knows (stands notes (Finishing name [] names)) now → (there : Bool) (a : Act) → (a ≡ act_if there (act.Move (queued_path notes name) (done_path notes name)) (queued_path notes name))
    → there ≡ is_some (file_at now (queued_path notes name)) → Carries notes.plan.queue now a (stands notes (next_try names))
done_carries notes name names now sound fit known there a is_act is =
    let records = stages_in stage_reader notes.plan.queue now in
    let old = known_one records now (made_lease name []) (stage_in notes.known name.stage) fit.stage fit.leased.stage known.leases in
    subst (λ v. Carries notes.plan.queue now v (stands notes (next_try names))) (sym is_act)
    (moved_by (stands notes (Finishing name [] names)) now sound known name (Done (task_of name)) fit.leased.fits (task_fits-queue name fit.leased.fits)
    (refl, may_be_done records now name fit.stage old) (stands notes (next_try names)) there is
    (λ files h. rested notes (Finishing name [] names) (next_try names) files refl refl (try_rests notes.known names) h))
