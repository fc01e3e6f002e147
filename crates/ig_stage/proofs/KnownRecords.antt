-- What a maker knows of the stages of its queue once it has read their records.
use Rattle.std.proofs.Common.{arith, inl, inr, ◌⊎◌, ◌≡◌, ◌<◌, ◌^◌, ◌∙◌, ℕ, zero, suc, true, List, [], ◌∷◌, ◌++◌, Option, None, Some, is_some, if◌then◌else◌, length, slice_get, refl, ap, sym, subst, true≢false}
use Rattle.std.proofs.lemmas.Bool.{lt-ltb}
use Rattle.std.proofs.lemmas.Option.{slice_get_past}
use Rattle.ig_defs.specs.declared.step.Act.TheVariants as act
use Rattle.ig_defs.specs.Files.{Files, file_at}
use Rattle.ig_defs.specs.Log.{Log, files_of}
use Rattle.ig_defs.specs.Own.{Moment}
use Rattle.ig_meaning.specs.QueueMaking.{record_path}
use Rattle.ig_rule.specs.QueueFiles.{QueueFile, Record, fits, path_of, queue_of}
use Rattle.ig_defs.specs.Turns.{Acted}
use Rattle.ig_rule.specs.Went.{Went}
use Rattle.ig_rule.specs.WentOn.{EachMoment, LooksOnly, went_of}
use Rattle.ig_task.specs.Maker.{KeepsStages}
use Rattle.ig_task.specs.MakerLaws.{stages_went}
use Rattle.ig_task.specs.Pipeline.{is_allowed}
use Rattle.ig_task.specs.declared.pipeline.Pipeline.{Pipeline}
use Rattle.ig_stage.specs.Recorded.{FindsRecord, FindsRecords, IsMaking}

-- ---- what stays

pub keeps_then : (q : List ℕ) (first mid last : Files) → KeepsStages q first mid → KeepsStages q mid last → KeepsStages q first last
keeps_then q first mid last a b = record { sound = b.sound; same = λ x none. b.same x none ∙ a.same x none }

pub still_making : (rule now : Pipeline) (q : List ℕ) (first files : Files) → now ≡ rule → KeepsStages q first files → IsMaking rule q first → IsMaking now q files
still_making rule now q first files same keeps m = record { is = same ∙ m.is; kinds = m.kinds; sound = keeps.sound }

-- beside a maker records and seals stay, while it only looks
pub making_keeps : (rule : Pipeline) (q : List ℕ) (old new : Log) (ms : List Moment) → IsMaking rule q (files_of old) → Went (is_allowed rule) old new ms → EachMoment LooksOnly ms
    → KeepsStages q (files_of old) (files_of new)
making_keeps rule q old new ms m w quiet =
    stages_went m.kinds q old new ms (subst (λ r. Went (is_allowed r) old new ms) m.is w) quiet m.sound

pub acted_keeps : (rule : Pipeline) (q : List ℕ) (old new : Log) (path : List ℕ) → IsMaking rule q (files_of old) → Acted (is_allowed rule) old new (act.Read path) → KeepsStages q (files_of old) (files_of new)
acted_keeps rule q old new path m t = making_keeps rule q old new _ m (went_of t) (tt, tt)

-- ---- one record

-- a file of the queue that is there
pub in_queue : (q : List ℕ) (files : Files) (x : QueueFile) (held : Option (List ℕ)) → fits x ≡ true → held ≡ file_at files (path_of q x) → queue_of q files x ≡ held
in_queue q files x held fit is = ap (λ b. if b then file_at files (path_of q x) else None) fit ∙ sym is

pub record_found : (rule : Pipeline) (q : List ℕ) (n : ℕ) (old new : Log) (path text : List ℕ) → n < 10 ^ 4 → path ≡ record_path q n
    → IsMaking rule q (files_of old) → Acted (is_allowed rule) old new (act.Read path) → Some text ≡ file_at (files_of new) path → FindsRecord q n (files_of old) (files_of new) text
record_found rule q n old new path text below is m t found =
    let keeps = acted_keeps rule q old new path m t in
    record {
      keeps = keeps;
      text_is = sym (keeps.same (Record n) refl)
          ∙ in_queue q (files_of new) (Record n) (Some text) (lt-ltb n (10 ^ 4) below) (found ∙ ap (file_at (files_of new)) is);
    }

-- ---- the records that were read

some_not_none : {A : Type 0} (x : A) → ◌≡◌ {A = Option A} (Some x) None → ⊥
some_not_none x e = true≢false (ap is_some e)

no_record_at : {A : Type 0} (n : ℕ) (x : A) → slice_get [] n ≡ Some x → ⊥
no_record_at {A = A} n x e = some_not_none x (sym e ∙ slice_get_past {X = A} [] n (omega arith))

pub finds_none : (rule : Pipeline) (q : List ℕ) (files : Files) (texts : List (List ℕ)) → texts ≡ [] → IsMaking rule q files → FindsRecords q files files texts
finds_none rule q files texts none m = record {
  keeps = record { sound = m.sound; same = λ x none. refl };
  texts_are = λ n text is. absurd (no_record_at n text (ap (λ xs. slice_get xs n) (sym none) ∙ is));
}

item_more : {A : Type 0} (xs : List A) (x y : A) (n : ℕ) → slice_get (xs ++ x ∷ []) n ≡ Some y → (slice_get xs n ≡ Some y) ⊎ ((n ≡ length xs) × (x ≡ y))
item_more [] x y zero is = inr (refl, cc)
item_more [] x y (suc n) is = absurd (no_record_at n y is)
item_more (z ∷ xs) x y zero is = inl is
item_more (z ∷ xs) x y (suc n) is = later (item_more xs x y n is)
  where
    later : (slice_get xs n ≡ Some y) ⊎ ((n ≡ length xs) × (x ≡ y)) → (slice_get (z ∷ xs) (suc n) ≡ Some y) ⊎ ((suc n ≡ length (z ∷ xs)) × (x ≡ y))
    later (inl h) = inl h
    later (inr h) = inr (ap suc h.0, h.1)

-- one record more
pub finds_more : (q : List ℕ) (k : ℕ) (old mid new : Files) (texts : List (List ℕ)) (text : List ℕ) (all : List (List ℕ)) → length texts ≡ k
    → FindsRecords q old mid texts → FindsRecord q k mid new text → all ≡ texts ++ text ∷ [] → FindsRecords q old new all
finds_more q k old mid new texts text all long so one whole = record {
  keeps = keeps_then q old mid new so.keeps one.keeps;
  texts_are = λ n other is. by_place n other (item_more texts text other n (ap (λ xs. slice_get xs n) (sym whole) ∙ is));
}
  where
    by_place : (n : ℕ) (other : List ℕ) → (slice_get texts n ≡ Some other) ⊎ ((n ≡ length texts) × (text ≡ other)) → queue_of q old (Record n) ≡ Some other
    by_place n other (inl is) = so.texts_are n other is
    by_place n other (inr is) =
        ap (λ m. queue_of q old (Record m)) (is.0 ∙ long) ∙ sym (so.keeps.same (Record k) refl) ∙ one.text_is ∙ ap Some is.1
