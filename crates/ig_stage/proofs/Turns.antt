-- What a call on a store did beside which others only read.
use Rattle.std.proofs.Common.{◌≡◌, ℕ, Bool, List, [], ◌∷◌, Option, Result, Ok, Err, refl, ap, subst, sym, ◌∙◌, inl, inr, All, Contains, slice_index_or}
use Rattle.std.proofs.lemmas.List.Elements.{All-contains_itself}
use Rattle.ig_defs.specs.declared.step.Act.{Act}
use Rattle.ig_defs.specs.declared.step.Step.{Step}
use Rattle.ig_defs.specs.declared.error.StoreError.{StoreError}
use Rattle.ig_defs.specs.declared.error.StoreError.TheVariants.{Failed, Memory}
use Rattle.ig_defs.specs.Files.{Files, file_at}
use Rattle.ig_defs.specs.Log.{Log, ByOthers, OthersOnlyRead, after, files_of, own_all, replay}
use Rattle.ig_defs.specs.Own.{own_moments}
use Rattle.ig_defs.specs.Names.{Stands, StandsOnce}
use Rattle.ig_defs.specs.Replay.{after-quiet, replay-others}
use Rattle.ig_defs.specs.TurnLaws.{files_then}
use Rattle.ig_defs.specs.Turns.{Grew}
use Rattle.ig_rule.specs.Went.{WentRead, WentPut}
use Rattle.ig_rule.specs.WentOn.{went_of}
use Rattle.ig_task.specs.declared.pipeline.Pipeline.{Pipeline}
use Rattle.ig_task.specs.Pipeline.{is_allowed}
use Rattle.ig_stage.specs.Pipeline.{local_rule}
use Rattle.ig_stage.specs.Did.{Did, DidRead, DidPut, not_made, was_made, after_all, moments_from}

pub others_only_read : OthersOnlyRead (is_allowed local_rule)
others_only_read files a quiet = quiet

-- the rule of the store is that of a process by itself
pub only_read_by : (rule : Pipeline) → rule ≡ local_rule → OthersOnlyRead (is_allowed rule)
only_read_by rule same = subst (λ (r : Pipeline). OthersOnlyRead (is_allowed r)) (sym same) others_only_read

-- own acts are their moments
own_moments-own : (files : Files) (acts : List Act) → own_moments files (own_all acts) ≡ moments_from files acts
own_moments-own files [] = refl
own_moments-own files (a ∷ acts) = ap (λ ms. record { files = files; act = a } ∷ ms) (own_moments-own (after files a) acts)

replay-own : (files : Files) (acts : List Act) → replay files (own_all acts) ≡ after_all files acts
replay-own files [] = refl
replay-own files (a ∷ acts) = replay-own (after files a) acts

did : {allows : Bool → Files → Act → Type 0} {old new : Log} {acts : List Act} → OthersOnlyRead allows → Grew allows old new acts → Did old new acts
did {allows = allows} {old = old} {acts = acts} reads t =
    let kept = replay-others allows reads (files_of old) t.others t.by in
    let w = went_of t in
    record {
      steps = w.steps;
      opening = w.opening;
      grown = w.grown;
      moments = w.moments ∙ ap (λ files. own_moments files (own_all acts)) kept ∙ own_moments-own (files_of old) acts;
      files = files_then t ∙ ap (λ files. replay files (own_all acts)) kept ∙ replay-own (files_of old) acts;
    }

-- what stood at some moment of others who only read stands before them
stands_first : (allows : Bool → Files → Act → Type 0) → OthersOnlyRead allows → (dir name : List ℕ) (files : Files) (others : List Step) → ByOthers allows files others → StandsOnce files others dir name → Stands files dir name
stands_first allows reads dir name files [] by here = here
stands_first allows reads dir name files (step ∷ others) by (inl here) = here
stands_first allows reads dir name files (step ∷ others) by (inr later) =
    subst (λ now. Stands now dir name) (after-quiet files step.act (reads files step.act by.1)) (stands_first allows reads dir name (after files step.act) others by.2 later)

pub stand_now : (allows : Bool → Files → Act → Type 0) → OthersOnlyRead allows → (files : Files) (others : List Step) → ByOthers allows files others → (dir : List ℕ) (given : List (List ℕ))
    → ((name : List ℕ) → Contains given name → StandsOnce files others dir name) → All (Stands files dir) given
stand_now allows reads files others by dir given only = λ k other below.
    let name = slice_index_or given k other in
    stands_first allows reads dir name files others by (only name (All-contains_itself given k other below))

-- ---- by the result of a call
module _ (allows : Bool → Files → Act → Type 0) (reads : OthersOnlyRead allows) (old new : Log) where
  pub did_read : (path : List ℕ) (result : Result (Option (List ℕ)) StoreError) → WentRead allows old new path result → DidRead old new path result
  did_read path (Ok found) w = (did reads w.0, w.1 ∙ ap (λ files. file_at files path) (did reads w.0).files)
  did_read path (Err e) t = did reads t

  pub did_put : (path bytes : List ℕ) (result : Result (Unit {0}) StoreError) → WentPut allows old new path bytes result → DidPut old new path bytes result
  did_put path bytes (Ok done) t = did reads t
  did_put path bytes (Err Failed) (inl t) = not_made (did reads t)
  did_put path bytes (Err Failed) (inr t) = was_made (did reads t)
  did_put path bytes (Err Memory) t = did reads t
