-- Making a stage in a queue, part by part.
use Rattle.std.proofs.Common.{◌≡◌, ◌<◌, ◌≤◌, ◌^◌, arith, ℕ, Bool, true, false, List, [], ◌∷◌, None, Some, Result, Err, refl, ap, subst, sym, ◌∙◌, length, nat_lt, if◌then◌else◌, lt-ltb}
use Rattle.std.specs.Prelude.{IfSome, IsSome, slice_get}
use Rattle.std.proofs.lemmas.Option.{get_or_from_slice_get, slice_get_within}
use Rattle.std.specs.List.{All}
use Rattle.std.proofs.lemmas.Bool.Decides.{nat_tests}
use Rattle.ig_defs.specs.declared.step.Act.{Act}
use Rattle.ig_defs.specs.Files.{Files}
use Rattle.ig_defs.specs.Log.{Log, files_of}
use Rattle.ig_defs.specs.Own.{Moment}
use Rattle.ig_meaning.specs.Making.{Making, New, Refused, making_of_request}
use Rattle.ig_meaning.specs.QueueMaking.{making_of_new}
use Rattle.ig_meaning.specs.QueueApart.{AreLayersApart}
use Rattle.ig_meaning.specs.QueueWords.{is_apart}
use Rattle.ig_meaning.specs.Refusal.{TooManyStages}
use Rattle.ig_meaning.specs.Taken.{taken_by}
use Rattle.ig_meaning.specs.Words.{Request}
use Rattle.ig_record.specs.Sound.{is_sound}
use Rattle.ig_record.specs.declared.stage.Stage.{Stage}
use Rattle.ig_rule.specs.QueueFiles.{Seal}
use Rattle.ig_rule.specs.Sound.{Legal}
use Rattle.ig_rule.specs.Went.{Went}
use Rattle.ig_rule.specs.WentOn.{went_nothing}
use Rattle.ig_task.specs.Facts.{stage_reader}
use Rattle.ig_task.specs.Kinds.{kinds}
use Rattle.ig_task.specs.Maker.{KeepsStages}
use Rattle.ig_task.specs.MakerLaws.{stages_went}
use Rattle.ig_task.specs.Pipeline.{is_allowed}
use Rattle.ig_task.specs.Rooms.{outside-planned}
use Rattle.ig_task.specs.declared.pipeline.Pipeline.{Pipeline}
use Rattle.ig_stage.specs.Drafts.{CanRun}
use Rattle.ig_stage.specs.Free.{IsFree, IsPlanned}
use Rattle.ig_stage.specs.Looking.{Looks}
use Rattle.ig_stage.specs.Made.{AreMaking, LooksFirst, MakesBy, MayRecord}
use Rattle.ig_stage.specs.Open.{maker_rule}
use Rattle.ig_stage.specs.Recorded.{FindsSeal, by_seal, continues}
use Rattle.ig_stage.specs.declared.enqueuing.Made.{Made}
use Rattle.ig_stage.specs.declared.error.MakeError.{MakeError}
use Rattle.ig_stage.specs.declared.error.MakeError.TheVariants as error
use Rattle.ig_stage.specs.Requests.{HasLimits, shown_request}
use Rattle.ig_stage.specs.declared.request.Request.{Request as Wanted}
use Rattle.ig_stage.proofs.Drafts.{layer_of}
use Rattle.ig_stage.proofs.Lookings.{look_only}
use Rattle.ig_stage.proofs.Makers.{looks_legal, quiet_first}

-- another name of the same making
pub makes_as : (allows : Bool → Files → Act → Type 0) (q : List ℕ) (making other : List Moment → Making) (old new : Log) (result : Result Made MakeError)
    → ((ms : List Moment) → making ms ≡ other ms) → MakesBy allows q other old new result → MakesBy allows q making old new result
makes_as allows q making other old new result same m = record {
  ms = m.ms;
  went = m.went;
  are = subst (λ (x : Making). AreMaking q result x m.ms) (sym (same m.ms)) m.are;
  looks = subst (λ (x : Making). LooksFirst x m.ms) (sym (same m.ms)) m.looks;
  truly = m.truly;
}

-- the rule of a store does not change
pub makes_under : (rule now : Pipeline) (q : List ℕ) (making : List Moment → Making) (old new : Log) (result : Result Made MakeError) → now ≡ rule
    → MakesBy (is_allowed now) q making old new result → MakesBy (is_allowed rule) q making old new result
makes_under rule now q making old new result same m = subst (λ (r : Pipeline). MakesBy (is_allowed r) q making old new result) same m

-- ---- a new stage

by_test : (test : Bool) (x y : Making) → test ≡ true → (if test then x else y) ≡ x
by_test test x y e = ap (λ b. if b then x else y) e

by_failed : (test : Bool) (x y : Making) → test ≡ false → (if test then x else y) ≡ y
by_failed test x y e = ap (λ b. if b then x else y) e

pub new_few : (request : Request) (stages : List Stage) → length stages < 10 ^ 4 → (ms : List Moment) → making_of_new request stages ms ≡ making_of_request stages (New (length stages)) request ms
new_few request stages few ms = by_test (nat_lt (length stages) (10 ^ 4)) _ _ (lt-ltb (length stages) (10 ^ 4) few)

pub too_many : (allows : Bool → Files → Act → Type 0) (q : List ℕ) (request : Request) (stages : List Stage) (log : Log) (n : ℕ) → n ≡ length stages → 10 ^ 4 ≤ n
    → MakesBy allows q (making_of_new request stages) log log (Err (error.TooManyStages n))
too_many allows q request stages log n number many =
    let test : nat_lt (length stages) (10 ^ 4) ≡ false = grind (arith, nat_tests, number, many) in
    record {
      ms = [];
      went = went_nothing allows log;
      are = (by_failed (nat_lt (length stages) (10 ^ 4)) _ _ test ∙ ap (λ k. Refused (TooManyStages k)) (sym number), tt);
      looks = quiet_first (making_of_new request stages []) [] tt;
      truly = λ look. tt;
    }

-- its record may be put once it was looked at
pub may_record : {T : Type 0} (rule next : Pipeline) (q : List ℕ) (n : ℕ) (stages : List Stage) (s : Stage) (request : Request) (making : List Moment → Making) (next_making : T → List Moment → Making)
    (old mid : Log) (result : Result T MakeError) → rule ≡ maker_rule q → next ≡ rule → n ≡ length stages → length stages < 10 ^ 4 → AreLayersApart q request → All (λ t. is_sound t ≡ true) stages
    → FindsSeal q stages (files_of old) true → Legal stage_reader q old → Looks (is_allowed rule) making next_making old mid result
    → CanRun s → IsPlanned stages request s → taken_by stages s ≡ None → IsFree q stages s (files_of mid) → MayRecord next q n stages s mid
may_record {T = T} rule next q n stages s request making next_making old mid result is same number few layers all finds legal looks can planned not_taken free = record {
  is = same ∙ is;
  legal = looks_legal {T = T} rule q making next_making old mid result is looks legal;
  number = number;
  can = record {
    free = free;
    sealed = λ m below. subst IsSome (sym (keeps.same (Seal m) refl)) (finds.each refl m below);
    all_sound = all;
    sound = can.sound;
    makes = can.makes;
    not_taken = not_taken;
    outside = outside-planned q stages request planned.bytes s (length stages) planned.is layers;
    few = few;
  };
}
  where
    keeps : KeepsStages q (files_of old) (files_of mid)
    keeps = stages_went kinds q old mid looks.ms (subst (λ r. Went (is_allowed r) old mid looks.ms) is looks.went) (look_only looks.ms looks.quiet) finds.knows.sound

-- ---- by the seal of the last stage

pub sealed_goes_on : (allows : Bool → Files → Act → Type 0) (q : List ℕ) (next : List Stage → List Moment → Making) (stages : List Stage) (sealed : Bool) (old new : Log) (result : Result Made MakeError)
    → sealed ≡ true → MakesBy allows q (next stages) old new result → MakesBy allows q (by_seal next stages sealed) old new result
sealed_goes_on allows q next stages sealed old new result is m =
    makes_as allows q (by_seal next stages sealed) (next stages) old new result (λ ms. ap (λ b. by_seal next stages b ms) is) m

pub unsealed_continues : (allows : Bool → Files → Act → Type 0) (q : List ℕ) (next : List Stage → List Moment → Making) (stages : List Stage) (sealed : Bool) (old new : Log) (result : Result Made MakeError)
    → sealed ≡ false → MakesBy allows q (continues stages) old new result → MakesBy allows q (by_seal next stages sealed) old new result
unsealed_continues allows q next stages sealed old new result is m =
    makes_as allows q (by_seal next stages sealed) (continues stages) old new result (λ ms. ap (λ b. by_seal next stages b ms) is) m

-- some of the stages are known from the first
pub continues_first : (stages : List Stage) → 0 < length stages → (ms : List Moment) → LooksFirst (continues stages ms) ms
continues_first [] some ms = absurd (omega (arith, some))
continues_first (s ∷ stages) some ms = tt

pub finds_as : (q : List ℕ) (stages : List Stage) (files : Files) (found sealed : Bool) → found ≡ sealed → FindsSeal q stages files found → FindsSeal q stages files sealed
finds_as q stages files found sealed is finds = subst (FindsSeal q stages files) is finds

-- ---- the layers
pub layers_apart : (q : List ℕ) (want : Wanted) → HasLimits want → is_apart q want.source ≡ true → IfSome want.dest (λ dest. is_apart q dest ≡ true) → AreLayersApart q (shown_request want)
layers_apart q want limits source dest = record {
  source = source;
  dest = λ writes.
      let d = limits.dest writes in
      ap (is_apart q) (layer_of want d) ∙ subst (λ o. IfSome o (λ d. is_apart q d ≡ true)) d.is dest;
}

-- each of these stages is sound
pub sound_at : (stages : List Stage) → All (λ t. is_sound t ≡ true) stages → (k : ℕ) (s : Stage) → slice_get stages k ≡ Some s → is_sound s ≡ true
sound_at stages all k s is = subst (λ t. is_sound t ≡ true) (get_or_from_slice_get stages k s s is) (all k s (slice_get_within stages k s is))
