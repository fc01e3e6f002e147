-- The runs of a worker's tasks: their inputs are there, and what is done already stays as it is.
use Rattle.std.specs.Prelude.{◌≡◌, ◌⊎◌, ◌<◌, ℕ, true, false, List, [], ◌∷◌, Option, None, Some, IsSome, is_some, Contains, refl}
use Rattle.std.specs.Cmp.Lexicographic.{nat_list_cmp_total}
use Rattle.std.specs.FinMap as maps
use Rattle.std.proofs.Common.{inl, inr, ap, sym, subst, ◌∙◌}
use Rattle.std.proofs.lemmas.Bool.{cases_Bool}
use Rattle.std.proofs.lemmas.List.Elements.{All-contains, Contains-append_right}
use Rattle.std.proofs.lemmas.Option.{same_Some}
use Rattle.ig_defs.specs.declared.queue_name.QueueName.{QueueName}
use Rattle.ig_defs.specs.Files.{Files, file_at}
use Rattle.ig_defs.specs.Puts.{cases_path, file_at-other, file_at-put}
use Rattle.ig_defs.specs.QueueNames.{task_of}
use Rattle.ig_cutout.specs.declared.types.Output.{Output}
use Rattle.ig_record.specs.declared.stage.Stage.{Stage}
use Rattle.ig_record.specs.Sound.{is_sound}
use Rattle.ig_record.specs.Columns.{box_read, chunks_met, inputs_of, paths_of, removed_dir, scratch_read}
use Rattle.ig_record.specs.Stage.{task_count}
use Rattle.ig_meaning.specs.Agreeing.{made-fine}
use Rattle.ig_meaning.specs.Inputs.{input-stands}
use Rattle.ig_meaning.specs.Jobs.{with_outputs, with_text}
use Rattle.ig_meaning.specs.Sequential.{HasScratch}
use Rattle.ig_meaning.specs.Task.{task_outputs}
use Rattle.ig_meaning.specs.Wants.{is_chunk_of}
use Rattle.ig_rule.specs.Facts.{Facts, KeepsChunks, StageLaws}
use Rattle.ig_rule.specs.Keeps.{keep_laws}
use Rattle.ig_rule.specs.QueueFiles.{Done, IsApartFrom, queue_of}
use Rattle.ig_rule.specs.QueueSteps.{holds}
use Rattle.ig_rule.specs.ScratchWanted.{scratch_apart, scratch_wanted}
use Rattle.ig_rule.specs.Sound.{Sound}
use Rattle.ig_rule.specs.Stages.{Clear, Stands, stages_in}
use Rattle.ig_task.specs.Facts.{facts_of, is_scratch, stage_reader}
use Rattle.ig_task.specs.GivenPasses.{held-are_wanted}
use Rattle.ig_task.specs.Kinds.{kinds}
use Rattle.ig_task.specs.OwnInputs.{inputs_are}
use Rattle.ig_task.specs.ReadPasses.{reads-passes}
use Rattle.ig_task.specs.Wanted.{AreWanted, HasWantedText, path_of}
use Rattle.ig_worker.specs.declared.notes.Notes.{Notes}
use Rattle.ig_worker.specs.declared.phase.Phase.{Phase}
use Rattle.ig_worker.specs.Finishing.Files.{chunk_apart, remove_absent, task_path_apart}
use Rattle.ig_worker.specs.Finishing.Going.{Agree, AllKnown, CanRun, IsKept, IsRun, RunInOrder, Runs}
use Rattle.ig_worker.specs.Finishing.Rounds.{noted_of}
use Rattle.ig_worker.specs.Finishing.CanFinish.{stage_at}
use Rattle.ig_worker.specs.Fit.{AreFitNotes}
use Rattle.ig_worker.specs.Keeping.Lists.{first_in, later_in, map_in, some_of, stage_in-among}
use Rattle.ig_worker.specs.Keeping.Tasks.{known_sound}
use Rattle.ig_worker.specs.Knows.{Knows}
use Rattle.ig_worker.specs.Places.{stands}
use Rattle.ig_worker.specs.Stages.{stage_in}

-- ---- outputs that are there
-- a text that is there is put, or one that is not there is taken away
text_stays : (files : Files) (path : List ℕ) (text : Option (List ℕ)) → file_at files path ≡ text → with_text files path text ≡ files
text_stays files path (Some bytes) is = maps.same_map nat_list_cmp_total (maps.slice_cmp-IsAntisymmetric maps.nat_cmp-IsAntisymmetric) (maps.insert files path bytes) files (λ p. by_path p (cases_path p path))
  where
    by_path : (p : List ℕ) → (p ≡ path) ⊎ (p ≡ path → ⊥) → file_at (maps.insert files path bytes) p ≡ file_at files p
    by_path p (inl e) = file_at-put files p path bytes e ∙ sym (ap (file_at files) e ∙ is)
    by_path p (inr differ) = file_at-other files p path bytes differ
text_stays files path None is = sym (remove_absent files path is)

outputs_stay : (files : Files) (outputs : List Output) → ((output : Output) → Contains outputs output → file_at files output.path ≡ output.text) → with_outputs files outputs ≡ files
outputs_stay files [] all = refl
outputs_stay files (output ∷ outputs) all =
    ap (λ (f : Files). with_outputs f outputs) (text_stays files output.path output.text (all output (first_in output outputs)))
    ∙ outputs_stay files outputs (λ x among. all x (later_in output outputs x among))

-- ---- a task of a stage that is known
module _ (notes : Notes) (first old : Files) (name : QueueName) (sound : Sound stage_reader notes.plan.queue old) (kept : IsKept notes.plan.queue first old notes.known) (s : Stage)
    (known : stage_in notes.known name.stage ≡ Some s) (is : stages_in stage_reader notes.plan.queue old name.stage ≡ Some (facts_of name.stage s)) where
  -- Its stage is the one of its run.
  pub makes_of : (files : Files) (run : Runs (stage_at notes.plan.queue first) files name) → task_outputs s name.task (file_at files) ≡ Some run.outputs
  makes_of files run =
      let same : run.stage ≡ s = same_Some run.stage s (sym run.is ∙ kept.known (name.stage, s) (stage_in-among notes.known name.stage s known)) in
      subst (λ (t : Stage). task_outputs t name.task (file_at files) ≡ Some run.outputs) same run.makes

  laws : StageLaws (facts_of name.stage s)
  laws = keep_laws stage_reader kinds (queue_of notes.plan.queue old) name.stage (facts_of name.stage s) is

  -- Its chunks, its inputs and its paths are no queue file's.
  chunk_is_apart : (path : List ℕ) → is_chunk_of s.source path ≡ true → IsApartFrom notes.plan.queue path
  chunk_is_apart path chunk = chunk_apart notes.plan.queue (facts_of name.stage s) path laws (sound.stages.outside name.stage (facts_of name.stage s) is) chunk

  pub input_is_apart : is_sound s ≡ true → name.task < task_count s → (path : List ℕ) → Contains (inputs_of s name.task) path → IsApartFrom notes.plan.queue path
  input_is_apart sound_stage below path among = by_sort (inputs_are s sound_stage name.task below path among).from
    where
      by_sort : (is_chunk_of s.source path ≡ true) ⊎ (is_scratch s path ≡ true) → IsApartFrom notes.plan.queue path
      by_sort (inl chunk) = chunk_is_apart path chunk
      by_sort (inr pass) = scratch_apart stage_reader kinds notes.plan.queue old name.stage (facts_of name.stage s) sound is path pass

  pub path_is_apart : (path : List ℕ) → name.task < task_count s → Contains (paths_of s name.task) path → IsApartFrom notes.plan.queue path
  path_is_apart path below among =
      task_path_apart notes.plan.queue (facts_of name.stage s) path laws (sound.stages.outside name.stage (facts_of name.stage s) is) (record { task = name.task; below = below; among = among })

  -- Each of its inputs is there.
  pub input_there : (files : Files) (run : Runs (stage_at notes.plan.queue first) files name) → Agree notes.plan.queue old files → is_sound s ≡ true → name.task < task_count s
      → (path : List ℕ) → Contains (inputs_of s name.task) path → IsSome (file_at old path)
  input_there files run agree sound_stage below path among =
      subst (λ (o : Option (List ℕ)). IsSome o) (sym (agree path (input_is_apart sound_stage below path among)))
      (input-stands s name.task (file_at files) (made-fine s name.task (file_at files) run.outputs (makes_of files run)).0 path among)

  -- ---- where it is done
  module _ (files : Files) (agree : Agree notes.plan.queue old files) (below : name.task < task_count s) (there : Stands old (facts_of name.stage s) name.task) where
    same_chunks : KeepsChunks (facts_of name.stage s) (file_at old) (file_at files)
    same_chunks = record { kept = λ path bytes chunk held. sym (agree path (chunk_is_apart path chunk)) ∙ held }

    -- earlier passes want what is there of them
    has_passes : (run : Runs (stage_at notes.plan.queue first) files name) → is_sound s ≡ true → Clear (stages_in stage_reader notes.plan.queue old) name.stage (facts_of name.stage s) → HasScratch s name.task (file_at files)
    has_passes run sound_stage clear path among =
        let given = Contains-append_right (chunks_met s.source (box_read s.kind s name.task)) (scratch_read s.kind s name.task) path among in
        let pass = (reads-passes s sound_stage).reads name.task below path among in
        let found = some_of (file_at old path) (input_there files run agree sound_stage below path given) in
        let wanted = scratch_wanted stage_reader kinds notes.plan.queue old name.stage (facts_of name.stage s) sound is (inputs_are s sound_stage name.task below path given).makes clear path found.0 pass found.1 in
        sym (agree path (input_is_apart sound_stage below path given)) ∙ found.1 ∙ sym (laws.scratch_stays (file_at old) (file_at files) path found.0 same_chunks wanted)

    made_there : (output : Output) → Contains (paths_of s name.task) output.path → is_some (removed_dir s) ≡ false → HasWantedText s (file_at files) output → file_at files output.path ≡ output.text
    made_there output among makes wanted =
        let h = there.made makes output.path among in
        let lasts = laws.wanted_stays (file_at old) (file_at files) output.path h.bytes same_chunks h.wanted in
        let same : h.bytes ≡ wanted.bytes = same_Some h.bytes wanted.bytes (sym lasts ∙ wanted.wanted) in
        sym (agree output.path (path_is_apart output.path below among)) ∙ h.stands ∙ ap Some same ∙ sym wanted.text

    gone_there : (output : Output) → Contains (paths_of s name.task) output.path → is_some (removed_dir s) ≡ true → output.text ≡ None → file_at files output.path ≡ output.text
    gone_there output among removes none = sym (agree output.path (path_is_apart output.path below among)) ∙ there.gone removes output.path among ∙ sym none

    output_there : (outputs : List Output) → AreWanted s name.task (file_at files) outputs → (output : Output) → Contains outputs output → file_at files output.path ≡ output.text
    output_there outputs wanted output among = by_sort (cases_Bool (is_some (removed_dir s)))
      where
        listed : Contains (paths_of s name.task) output.path
        listed = subst (λ (paths : List (List ℕ)). Contains paths output.path) wanted.paths (map_in path_of outputs output among)

        by_sort : (is_some (removed_dir s) ≡ true) ⊎ (is_some (removed_dir s) ≡ false) → file_at files output.path ≡ output.text
        by_sort (inl removes) = gone_there output listed removes (All-contains (λ (o : Output). o.text ≡ None) outputs output (wanted.gone removes) among)
        by_sort (inr makes) = made_there output listed makes (All-contains (HasWantedText s (file_at files)) outputs output (wanted.made makes) among)

    -- What it makes over files that agree changes none of them.
    pub run_stays : (run : Runs (stage_at notes.plan.queue first) files name) → is_sound s ≡ true → Clear (stages_in stage_reader notes.plan.queue old) name.stage (facts_of name.stage s) → with_outputs files run.outputs ≡ files
    run_stays run sound_stage clear =
        outputs_stay files run.outputs
        (output_there run.outputs (held-are_wanted s sound_stage name.task below (file_at files) run.outputs (has_passes run sound_stage clear) (makes_of files run)))

-- Where a name is gone since its task is done, the others can be run.
pub can_after : (notes : Notes) (first old : Files) (phase : Phase) (name : QueueName) (names : List QueueName) → AreFitNotes notes → Sound stage_reader notes.plan.queue old → Knows (stands notes phase) old
    → IsKept notes.plan.queue first old notes.known → AllKnown notes.plan.queue old notes.known → IsRun notes.plan.queue old name
    → CanRun notes.plan.queue (stage_at notes.plan.queue first) old (name ∷ names) → CanRun notes.plan.queue (stage_at notes.plan.queue first) old names
can_after notes first old phase name names fit sound knows kept all h can =
    let q = notes.plan.queue in
    let records = stages_in stage_reader q old in
    let noted = noted_of records notes.known knows.stages name.stage h.stage (all name.stage h.stage h.is) h.is in
    let facts = facts_of name.stage noted.stage in
    let is : records name.stage ≡ Some facts = h.is ∙ ap Some (sym noted.facts) in
    let done = holds q old (Done (task_of name)) h.done in
    let task = sound.names.tasks (Done (task_of name)) (task_of name) done.bytes refl done.is in
    let below : name.task < task_count noted.stage = subst (λ (f : Facts). name.task < f.tasks) (same_Some task.stage facts (sym task.is ∙ is)) task.below in
    let clear = subst (Clear records name.stage) (sym noted.facts) h.clear in
    let there = sound.outputs.done name.stage name.task facts is clear h.done in
    let stays = run_stays notes first old name sound kept noted.stage noted.is is can.files can.agree below there can.run.0 (known_sound notes fit name.stage noted.stage noted.is) clear in
    record { files = can.files; agree = can.agree; run = subst (λ (files : Files). RunInOrder (stage_at q first) files names) stays can.run.1 }
