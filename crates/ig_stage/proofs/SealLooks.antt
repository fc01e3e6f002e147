-- What a look at the seal of the last stage tells.
use Rattle.std.proofs.Common.{arith, inl, inr, ◌⊎◌, ◌≡◌, ◌<◌, ◌^◌, ◌∙◌, ℕ, suc, Bool, true, false, List, [], ◌∷◌, Option, None, Some, is_some, length, Ok, refl, ap, sym, subst, true≢false}
use Rattle.std.proofs.lemmas.Bool.{lt-ltb}
use Rattle.ig_defs.specs.declared.step.Act.{Act}
use Rattle.ig_defs.specs.declared.step.Act.TheVariants as act
use Rattle.ig_defs.specs.Files.{Files, file_at}
use Rattle.ig_defs.specs.Log.{Log, files_of, replay}
use Rattle.ig_defs.specs.Own.{Moment}
use Rattle.ig_meaning.specs.Making.{Making, Continues, Unfinished, where_it_looks}
use Rattle.ig_meaning.specs.QueueMaking.{if_sealed, last_of, making_of_last, seal_path}
use Rattle.ig_record.specs.declared.stage.Stage.{Stage}
use Rattle.ig_rule.specs.Facts.{KindLaws}
use Rattle.ig_rule.specs.QueueFiles.{Seal, queue_of}
use Rattle.ig_rule.specs.Stages.{Sealed}
use Rattle.ig_defs.specs.Turns.{Acted}
use Rattle.ig_rule.specs.WentOn.{went_of}
use Rattle.ig_rule.specs.Went.{Went}
use Rattle.ig_rule.specs.declared.role.Role.TheVariants.{Maker}
use Rattle.ig_task.specs.Facts.{stage_reader}
use Rattle.ig_task.specs.Maker.{KnowsStages}
use Rattle.ig_task.specs.MakerLaws.{knows_went, sealed_before}
use Rattle.ig_task.specs.Pipeline.{is_allowed}
use Rattle.ig_task.specs.declared.pipeline.Pipeline.{Pipeline}
use Rattle.ig_stage.specs.Looking.{Looks}
use Rattle.ig_stage.specs.Recorded.{FindsSeal, by_seal}
use Rattle.ig_stage.proofs.KnownRecords.{in_queue}
use Rattle.ig_stage.proofs.Lookings.{looks_nowhere, looks_once, reads_it}

-- there is no stage
pub no_stage : {A : Type 0} (stages : List A) → length stages ≡ 0 → stages ≡ []
no_stage [] none = refl
no_stage (s ∷ stages) none = absurd (omega (arith, none))

-- before the seal was looked at
pub unfinished : (q : List ℕ) (next : List Stage → List Moment → Making) (stages : List Stage) (n : ℕ) → suc n ≡ length stages → making_of_last q next stages [] ≡ Unfinished
unfinished q next [] n last = absurd (omega (arith, last))
unfinished q next (s ∷ stages) n last = refl

module _ (allows : Bool → Files → Act → Type 0) (q : List ℕ) (next : List Stage → List Moment → Making) where
  pub seal_unsought : (stages : List Stage) (log : Log) → stages ≡ [] → Looks allows (making_of_last q next stages) (by_seal next stages) log log (Ok true)
  seal_unsought [] log none = looks_nowhere allows (making_of_last q next []) (by_seal next []) log (Ok true) (λ rest. refl)
  seal_unsought (s ∷ stages) log none = absurd (cc)

  pub seal_seen : (stages : List Stage) (n : ℕ) (old new : Log) (path : List ℕ) (found : Bool) → suc n ≡ length stages → path ≡ seal_path q n → Acted allows old new (act.Read path)
      → found ≡ is_some (file_at (files_of new) path) → Looks allows (making_of_last q next stages) (by_seal next stages) old new (Ok found)
  seal_seen [] n old new path found last is acted finds = absurd (omega (arith, last))
  seal_seen (s ∷ stages) n old new path found last is acted finds =
      let number : n ≡ length stages = omega (arith, last) in
      let at : path ≡ seal_path q (length stages) = is ∙ ap (seal_path q) number in
      looks_once allows (making_of_last q next (s ∷ stages)) (by_seal next (s ∷ stages)) old new (Ok found) path acted
      (λ rest. ap (λ b. where_it_looks b (if_sealed (is_some (file_at (files_of new) (seal_path q (length stages)))) (next (s ∷ stages) rest) (Continues (length stages) (last_of s stages) rest)))
      (reads_it (seal_path q (length stages)) path at)
      ∙ ap (λ b. if_sealed b (next (s ∷ stages) rest) (Continues (length stages) (last_of s stages) rest)) (sym (finds ∙ ap (λ p. is_some (file_at (files_of new) p)) at)))

-- ---- beside a maker

none_from : (o : Option (List ℕ)) → is_some o ≡ false → o ≡ None
none_from None none = refl
none_from (Some text) none = absurd (true≢false none)

last_or_before : (k n count : ℕ) → suc n ≡ count → k < count → (suc k < count) ⊎ (k ≡ n)
last_or_before k n count last below = grind (arith, last, below)

pub seal_known : (rule : Pipeline) (q : List ℕ) (stages : List Stage) (n : ℕ) (old new : Log) (path : List ℕ) (found : Bool) → rule ≡ record { queue = Some q; role = Maker } → KindLaws stage_reader
    → KnowsStages q stages (files_of old) → suc n ≡ length stages → n < 10 ^ 4 → path ≡ seal_path q n → Acted (is_allowed rule) old new (act.Read path) → found ≡ is_some (file_at (files_of new) path)
    → FindsSeal q stages (files_of new) found
seal_known rule q stages n old new path found maker kinds k last few is t finds = record {
  knows = known;
  each = λ sealed m below. by_place sealed m (last_or_before m n (length stages) last below);
  lacks = λ unsealed. record { number = n; last = last; none = none_from (queue_of q (files_of new) (Seal n)) (seal ∙ unsealed) };
}
  where
    known : KnowsStages q stages (files_of new)
    known =
        let ms : List Moment = record { files = replay (files_of old) t.others; act = act.Read path } ∷ [] in
        knows_went kinds q stages old new ms (subst (λ r. Went (is_allowed r) old new ms) maker (went_of t)) (tt, tt) k

    seal : is_some (queue_of q (files_of new) (Seal n)) ≡ found
    seal = ap is_some (in_queue q (files_of new) (Seal n) (file_at (files_of new) path) (lt-ltb n (10 ^ 4) few) (ap (file_at (files_of new)) is)) ∙ sym finds

    by_place : found ≡ true → (m : ℕ) → (suc m < length stages) ⊎ (m ≡ n) → Sealed (queue_of q (files_of new)) m
    by_place sealed m (inl before) = sealed_before q stages (files_of new) known m before
    by_place sealed m (inr e) = ap (λ j. is_some (queue_of q (files_of new) (Seal j))) e ∙ seal ∙ sealed
