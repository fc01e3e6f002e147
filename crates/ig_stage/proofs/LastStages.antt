-- The last stage of a queue, which is not sealed.
use Rattle.std.proofs.Common.{◌≡◌, arith, ℕ, suc, false, List, [], ◌∷◌, Option, None, Some, length, refl, ap, subst, sym, ◌∙◌}
use Rattle.std.specs.Prelude.{option_map, slice_get}
use Rattle.ig_defs.specs.Files.{Files}
use Rattle.ig_defs.specs.Own.{Moment}
use Rattle.ig_meaning.specs.Fault.{fault_of_making}
use Rattle.ig_meaning.specs.Making.{Continues}
use Rattle.ig_meaning.specs.QueueMaking.{last_of}
use Rattle.ig_record.specs.declared.stage.Stage.{Stage}
use Rattle.ig_rule.specs.QueueFiles.{Seal, queue_of}
use Rattle.ig_task.specs.Facts.{facts_of}
use Rattle.ig_task.specs.MakerLaws.{none_beyond}
use Rattle.ig_stage.specs.Open.{IsOpen}
use Rattle.ig_stage.specs.Recorded.{FindsSeal, continues}

last_at : (s : Stage) (stages : List Stage) → slice_get (s ∷ stages) (length stages) ≡ Some (last_of s stages)
last_at s [] = refl
last_at s (t ∷ stages) = last_at t stages

some_is : (s t : Stage) → ◌≡◌ {A = Option Stage} (Some s) (Some t) → s ≡ t
some_is s t e = cc

-- it is the one that is continued
pub continues_is : (stages : List Stage) (n : ℕ) (t : Stage) → suc n ≡ length stages → slice_get stages n ≡ Some t → (ms : List Moment) → continues stages ms ≡ Continues n t ms
continues_is [] n t long is ms = absurd (omega (arith, long))
continues_is (s ∷ stages) n t long is ms =
    let number : n ≡ length stages = omega (arith, long) in
    let last : last_of s stages ≡ t = some_is (last_of s stages) t (sym (last_at s stages) ∙ ap (slice_get (s ∷ stages)) (sym number) ∙ is) in
    ap (λ m. Continues m (last_of s stages) ms) (sym number) ∙ ap (λ u. Continues n u ms) last

pub continues_fine : (stages : List Stage) (ms : List Moment) → fault_of_making (continues stages ms) ≡ None
continues_fine [] ms = refl
continues_fine (s ∷ stages) ms = refl

-- and open
pub last_open : (q : List ℕ) (stages : List Stage) (files : Files) (n : ℕ) (s : Stage) → FindsSeal q stages files false → suc n ≡ length stages → slice_get stages n ≡ Some s → IsOpen q n s files
last_open q stages files n s finds long is =
    let lacks = finds.lacks refl in
    let number : lacks.number ≡ n = omega (arith, long, lacks.last) in
    record {
      sound = finds.knows.sound;
      last = record {
        is = finds.knows.recorded n ∙ ap (option_map (facts_of n)) is;
        none_after = λ m later. none_beyond q stages files finds.knows m (omega (arith, long, later));
      };
      unsealed = subst (λ m. queue_of q files (Seal m) ≡ None) number lacks.none;
    }
