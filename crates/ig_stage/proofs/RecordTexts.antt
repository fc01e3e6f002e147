-- The stages of texts, one after the other.
use Rattle.std.proofs.Common.{arith, ◌≡◌, ◌<◌, ◌+◌, ◌∙◌, ℕ, suc, List, [], ◌∷◌, ◌++◌, Option, None, Some, length, drop, take, get_or, Result, Ok, Err, refl, ap, sym, subst}
use Rattle.std.proofs.Math.Seq.{drop-cons, take-suc}
use Rattle.std.proofs.lemmas.List.{take-append-drop}
use Rattle.ig_meaning.specs.Ending.{Ending, Finished, Refuses, StoreFailed, NoMemory}
use Rattle.ig_meaning.specs.QueueMaking.{record_path, stages_of, with_stage}
use Rattle.ig_meaning.specs.Refusal.{Refusal, BadRecord}
use Rattle.ig_record.specs.Reading.{record_in}
use Rattle.ig_record.specs.Answers.{record_fault}
use Rattle.ig_record.specs.declared.stage.Stage.{Stage}
use Rattle.ig_stage.specs.Errors.{ending_of_make}
use Rattle.ig_stage.specs.Recorded.{AreNoRecords, GivesStage, GivesStages, IsNoRecord}
use Rattle.ig_stage.specs.declared.error.MakeError.{MakeError}

-- what follows the first texts
abbrev goes_on : List Stage → Result (List Stage) Refusal → Result (List Stage) Refusal
goes_on stages (Ok more) = Ok (stages ++ more)
goes_on stages (Err refusal) = Err refusal

with_first : (q : List ℕ) (n : ℕ) (text : List ℕ) (s : Stage) (stages : List Stage) (rest : Result (List Stage) Refusal) → with_stage q n text (Some s) (goes_on stages rest) ≡ goes_on (s ∷ stages) rest
with_first q n text s stages (Ok more) = refl
with_first q n text s stages (Err refusal) = refl

goes_on_none : (rest : Result (List Stage) Refusal) → rest ≡ goes_on [] rest
goes_on_none (Ok more) = refl
goes_on_none (Err refusal) = refl

-- the stages of the first texts, and then those of the others
pub record IsSplit (q : List ℕ) (n : ℕ) (text : List ℕ) (texts : List (List ℕ)) (stages : List Stage) : Type 0 where
  pub first : Stage
  pub rest : List Stage
  pub given : record_in n text ≡ Some first
  pub others : stages_of q (suc n) texts ≡ Ok rest
  pub are : stages ≡ first ∷ rest

split_by : (q : List ℕ) (n : ℕ) (text : List ℕ) (texts : List (List ℕ)) (stages : List Stage) (given : Option Stage) (rest : Result (List Stage) Refusal)
    → record_in n text ≡ given → stages_of q (suc n) texts ≡ rest → with_stage q n text given rest ≡ Ok stages → IsSplit q n text texts stages
split_by q n text texts stages None rest g r e = absurd (cc)
split_by q n text texts stages (Some s) (Err refusal) g r e = absurd (cc)
split_by q n text texts stages (Some s) (Ok more) g r e = record { first = s; rest = more; given = g; others = r; are = cc }

pub split : (q : List ℕ) (n : ℕ) (text : List ℕ) (texts : List (List ℕ)) (stages : List Stage) → stages_of q n (text ∷ texts) ≡ Ok stages → IsSplit q n text texts stages
split q n text texts stages e = split_by q n text texts stages (record_in n text) (stages_of q (suc n) texts) refl refl e

stages_of-append : (q : List ℕ) (n m : ℕ) (first then : List (List ℕ)) (stages : List Stage) → m ≡ n + length first → stages_of q n first ≡ Ok stages
    → stages_of q n (first ++ then) ≡ goes_on stages (stages_of q m then)
stages_of-append q n m [] then stages place e =
    let none : [] ≡ stages = cc in
    let same : m ≡ n = omega (arith, place) in
    ap (λ k. stages_of q k then) (sym same) ∙ goes_on_none (stages_of q m then) ∙ ap (λ s. goes_on s (stages_of q m then)) none
stages_of-append q n m (text ∷ first) then stages place e =
    let s = split q n text first stages e in
    ap (λ g. with_stage q n text g (stages_of q (suc n) (first ++ then))) s.given
    ∙ ap (with_stage q n text (Some s.first)) (stages_of-append q (suc n) m first then s.rest (omega (arith, place)) s.others)
    ∙ with_first q n text s.first s.rest (stages_of q m then) ∙ ap (λ all. goes_on all (stages_of q m then)) (sym s.are)

-- as many stages as texts
pub stages_of-length : (q : List ℕ) (n : ℕ) (texts : List (List ℕ)) (stages : List Stage) → stages_of q n texts ≡ Ok stages → length stages ≡ length texts
stages_of-length q n [] stages e = let none : [] ≡ stages = cc in ap length (sym none)
stages_of-length q n (text ∷ texts) stages e =
    let s = split q n text texts stages e in
    ap length s.are ∙ ap suc (stages_of-length q (suc n) texts s.rest s.others)

module _ (q : List ℕ) (texts : List (List ℕ)) (k : ℕ) (stages : List Stage) (text : List ℕ) (below : k < length texts) (is : text ≡ get_or texts k text)
    (so : stages_of q 0 (take k texts) ≡ Ok stages) (long : length stages ≡ k) where
  place : k ≡ 0 + length (take k texts)
  place = omega (arith, stages_of-length q 0 (take k texts) stages so, long)

  -- one text more
  pub text_more : (n : ℕ) (s : Stage) (all : List Stage) → n ≡ k → record_in n text ≡ Some s → all ≡ stages ++ s ∷ [] → stages_of q 0 (take (k + 1) texts) ≡ Ok all
  text_more n s all same given whole =
      let next : k + 1 ≡ suc k = omega arith in
      ap (λ m. stages_of q 0 (take m texts)) next ∙ ap (stages_of q 0) (take-suc texts k text below)
      ∙ stages_of-append q 0 k (take k texts) (get_or texts k text ∷ []) stages place so
      ∙ ap (λ t. goes_on stages (with_stage q k t (record_in k t) (Ok []))) (sym is)
      ∙ ap (λ m. goes_on stages (with_stage q k text (record_in m text) (Ok []))) (sym same)
      ∙ ap (λ g. goes_on stages (with_stage q k text g (Ok []))) given ∙ ap Ok (sym whole)

  text_refused : record_in k text ≡ None → stages_of q 0 texts ≡ Err (BadRecord (record_path q k) (record_fault k text))
  text_refused none =
      ap (stages_of q 0) (sym (take-append-drop k texts))
      ∙ stages_of-append q 0 k (take k texts) (drop k texts) stages place so
      ∙ ap (λ rest. goes_on stages (stages_of q k rest)) (drop-cons texts k text below)
      ∙ ap (λ t. goes_on stages (with_stage q k t (record_in k t) (stages_of q (suc k) (drop (suc k) texts)))) (sym is)
      ∙ ap (λ g. goes_on stages (with_stage q k text g (stages_of q (suc k) (drop (suc k) texts)))) none

  no_record : (ending : Ending) → IsNoRecord q k text ending → AreNoRecords ending (stages_of q 0 texts)
  no_record (Refuses r) h = text_refused h.1 ∙ ap Err (sym h.0)
  no_record NoMemory h = tt
  no_record StoreFailed h = absurd h
  no_record Finished h = absurd h

  -- the next text is no record
  pub text_fails : (n : ℕ) (e : MakeError) (result : Result (List Stage) MakeError) → n ≡ k → result ≡ Err e → GivesStage q n text (Err e)
      → GivesStages result (stages_of q 0 texts)
  text_fails n e result same is_err h =
      subst (λ (r : Result (List Stage) MakeError). GivesStages r (stages_of q 0 texts)) (sym is_err)
      (no_record (ending_of_make e) (subst (λ m. IsNoRecord q m text (ending_of_make e)) same h))
