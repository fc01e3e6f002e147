-- What a worker knows once it has read a record.
use Rattle.std.specs.Prelude.{◌≡◌, ◌⊎◌, ◌<◌, ◌^◌, ℕ, true, List, ◌∷◌, map, Option, None, Some, Contains, option_and_then, option_map, refl}
use Rattle.std.proofs.Common.{inl, inr, ap, sym, subst, ◌∙◌}
use Rattle.std.proofs.lemmas.Option.{same_Some}
use Rattle.ig_defs.specs.Files.{Files, file_at}
use Rattle.ig_record.specs.declared.stage.Stage.{Stage}
use Rattle.ig_record.specs.Answers.{record_fault}
use Rattle.ig_record.specs.Reading.{record_in}
use Rattle.ig_meaning.specs.QueueMaking.{record_path}
use Rattle.ig_rule.specs.Effects.{record_fit}
use Rattle.ig_rule.specs.Facts.{Facts}
use Rattle.ig_rule.specs.Known.{KeptStage}
use Rattle.ig_rule.specs.QueueFiles.{Record}
use Rattle.ig_rule.specs.QueueSteps.{queue_of-fits}
use Rattle.ig_rule.specs.Stages.{Records, stages_in}
use Rattle.ig_task.specs.Facts.{facts_of, stage_reader}
use Rattle.ig_worker.specs.declared.error.WorkerError.TheVariants.{Absent, BadRecord}
use Rattle.ig_worker.specs.declared.notes.Notes.{Notes}
use Rattle.ig_worker.specs.declared.phase.Phase.TheVariants.{Learning}
use Rattle.ig_worker.specs.declared.phase.Then.{Then}
use Rattle.ig_worker.specs.Keeping.Known.{KnowsStages, kept, known_learning, known_stopped}
use Rattle.ig_worker.specs.Keeping.Lists.{IsImage, image_of, in_cases, map_in, with_stage-from, with_stage-new, with_stage-old}
use Rattle.ig_worker.specs.Knows.{Knows, kept_of}
use Rattle.ig_worker.specs.Places.{learnt, learnt_by, stands}
use Rattle.ig_worker.specs.Stages.{Known, with_stage}

-- the stage of a record that was read is recorded
recorded_is : (q : List ℕ) (files : Files) (n : ℕ) (text : List ℕ) (s : Stage) → n < 10 ^ 4 → Some text ≡ file_at files (record_path q n) → record_in n text ≡ Some s → stages_in stage_reader q files n ≡ Some (facts_of n s)
unfolding stage_reader
recorded_is q files n text s few found reads =
    ap (option_and_then (stage_reader n)) (queue_of-fits q files (Record n) (record_fit n few) ∙ sym found) ∙ ap (option_map (facts_of n)) reads

-- ---- with one stage more
module _ (records : Records) (known : Known) (n : ℕ) (s : Stage) (unread : List ℕ) (is : records n ≡ Some (facts_of n s)) (h : KnowsStages records known (n ∷ unread)) where
  stages_with : (k : KeptStage) → Contains (map kept_of (with_stage n s known)) k → records k.number ≡ Some k.stage
  stages_with k among = by_place (with_stage-from n s known i.item i.among)
    where
      i : IsImage kept_of (with_stage n s known) k
      i = image_of kept_of (with_stage n s known) k among

      by_place : Contains known i.item ⊎ ((n, s) ≡ i.item) → records k.number ≡ Some k.stage
      by_place (inl old) = subst (λ (v : KeptStage). records v.number ≡ Some v.stage) i.is (h.stages (kept_of i.item) (map_in kept_of known i.item old))
      by_place (inr e) = subst (λ (v : KeptStage). records v.number ≡ Some v.stage) (ap kept_of e ∙ i.is) is

  -- the new one
  new_with : (r : ℕ) (t : Facts) → records r ≡ Some t → r ≡ n → Contains (map kept_of (with_stage n s known)) (kept r t)
  new_with r t is' e =
      let same : facts_of n s ≡ t = same_Some (facts_of n s) t (sym is ∙ ap records (sym e) ∙ is') in
      let both : kept n (facts_of n s) ≡ kept r t = λ i. kept (sym e i) (same i) in
      subst (λ k. Contains (map kept_of (with_stage n s known)) k) both (map_in kept_of (with_stage n s known) (n, s) (with_stage-new n s known))

  removals_with : (r : ℕ) (t : Facts) → records r ≡ Some t → t.removes ≡ true → Contains (map kept_of (with_stage n s known)) (kept r t) ⊎ Contains unread r
  removals_with r t is' removes = by_place (h.removals r t is' removes)
    where
      left_by : (n ≡ r) ⊎ Contains unread r → Contains (map kept_of (with_stage n s known)) (kept r t) ⊎ Contains unread r
      left_by (inl e) = inl (new_with r t is' (sym e))
      left_by (inr later) = inr later

      old_by : (x : ℕ × Stage) → kept_of x ≡ kept r t → Contains (with_stage n s known) x ⊎ (x.0 ≡ n) → Contains (map kept_of (with_stage n s known)) (kept r t)
      old_by x e (inl among) = subst (λ k. Contains (map kept_of (with_stage n s known)) k) e (map_in kept_of (with_stage n s known) x among)
      old_by x e (inr same) = new_with r t is' (ap (λ (k : KeptStage). k.number) (sym e) ∙ same)

      by_place : Contains (map kept_of known) (kept r t) ⊎ Contains (n ∷ unread) r → Contains (map kept_of (with_stage n s known)) (kept r t) ⊎ Contains unread r
      by_place (inl among) = let i = image_of kept_of known (kept r t) among in inl (old_by i.item i.is (with_stage-old n s known i.item i.among))
      by_place (inr left) = left_by (in_cases n unread r left)

  knows_with : KnowsStages records (with_stage n s known) unread
  knows_with = record { stages = stages_with; removals = removals_with }

-- ---- after the read
learnt_stage : (notes : Notes) (n : ℕ) (unread : List ℕ) (goal : Then) (files : Files) (text : List ℕ) → n < 10 ^ 4 → Some text ≡ file_at files (record_path notes.plan.queue n)
    → Knows (stands notes (Learning (n ∷ unread) goal)) files → (o : Option Stage) → record_in n text ≡ o → Knows (learnt_by notes n unread goal text o) files
learnt_stage notes n unread goal files text few found h None reads = known_stopped (stages_in stage_reader notes.plan.queue files) files notes.known (Learning (n ∷ unread) goal) (BadRecord (record_path notes.plan.queue n) (record_fault n text)) h
learnt_stage notes n unread goal files text few found h (Some s) reads =
    let records = stages_in stage_reader notes.plan.queue files in
    known_learning records files (with_stage n s notes.known) unread goal
    (knows_with records notes.known n s unread (recorded_is notes.plan.queue files n text s few found reads) (record { stages = h.stages; removals = h.removals refl }))

-- What a worker knows once it has read a record.
pub learnt_known : (notes : Notes) (n : ℕ) (unread : List ℕ) (goal : Then) (files : Files) → n < 10 ^ 4 → Knows (stands notes (Learning (n ∷ unread) goal)) files
    → (found : Option (List ℕ)) → found ≡ file_at files (record_path notes.plan.queue n) → Knows (learnt notes n unread goal found) files
learnt_known notes n unread goal files few h None is = known_stopped (stages_in stage_reader notes.plan.queue files) files notes.known (Learning (n ∷ unread) goal) (Absent (record_path notes.plan.queue n)) h
learnt_known notes n unread goal files few h (Some text) is = learnt_stage notes n unread goal files text few is h (record_in n text) refl
