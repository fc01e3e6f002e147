-- What the tasks of a stage read of earlier passes, kind by kind.
use Rattle.std.specs.Prelude.{◌≡◌, ◌⊎◌, ◌<◌, ℕ, not, true, false, List, [], ◌∷◌, length, None, Some, is_some, Contains}
use Rattle.std.specs.List.{All}
use Rattle.std.proofs.Common.{arith, inl, inr, ap, sym, subst, ◌∙◌}
use Rattle.std.proofs.lemmas.Bool.{cases_Bool}
use Rattle.std.proofs.lemmas.List.Elements.{All-weaker}
use Rattle.ig_layer.specs.Layer.{Reading}
use Rattle.ig_cutout.specs.declared.types.Output.{Output}
use Rattle.ig_record.specs.declared.stage.Stage.{Stage}
use Rattle.ig_record.specs.Columns.{removed_dir, scratch_read}
use Rattle.ig_record.specs.Sound.{is_sound}
use Rattle.ig_record.specs.Stage.{task_count}
use Rattle.ig_meaning.specs.Sequential.{task-wanted}
use Rattle.ig_meaning.specs.Task.{task_outputs}
use Rattle.ig_task.specs.Facts.{is_scratch}
use Rattle.ig_task.specs.MadeOutputs.{are-wanted, given-scratch, no_scratch}
use Rattle.ig_task.specs.Wanted.{AreOutputs, AreWanted, HasText, HasWantedText}

-- ---- outputs
-- Wanted outputs have texts, or none.
pub wanted-are : (s : Stage) (k : ℕ) (files : Reading) (outputs : List Output) → AreWanted s k files outputs → AreOutputs s k outputs
wanted-are s k files outputs wanted = record { paths = wanted.paths; texts = by_test (cases_Bool (is_some (removed_dir s))) }
  where
    by_test : (is_some (removed_dir s) ≡ true) ⊎ (is_some (removed_dir s) ≡ false) → All (HasText s) outputs
    by_test (inl removes) = All-weaker (λ (output : Output). output.text ≡ None) (HasText s) (λ output none. ap is_some none ∙ ap not (sym removes)) outputs (wanted.gone removes)
    by_test (inr makes) = All-weaker (HasWantedText s files) (HasText s) (λ output w. ap is_some w.text ∙ ap not (sym makes)) outputs (wanted.made makes)

-- ---- passes
-- no path comes twice
abbrev pub AreApart : List (List ℕ) → Type 0
AreApart [] = Unit {0}
AreApart (path ∷ paths) = (Contains paths path → ⊥) × AreApart paths

-- What a task reads of earlier passes are files that these make for the stage, each of them once; and by all its inputs, whatever
-- they are, it makes an output at each of its paths.
pub record ReadsPasses (s : Stage) : Type 0 where
  pub reads : (k : ℕ) → k < task_count s → (path : List ℕ) → Contains (scratch_read s.kind s k) path → is_scratch s path ≡ true
  pub once : (k : ℕ) → k < task_count s → AreApart (scratch_read s.kind s k)
  pub makes : (k : ℕ) → k < task_count s → (given : Reading) (outputs : List Output) → task_outputs s k given ≡ Some outputs → AreOutputs s k outputs

-- of a stage that builds on none
reads-none : (s : Stage) → is_sound s ≡ true → ((k : ℕ) → scratch_read s.kind s k ≡ []) → ReadsPasses s
reads-none s sound none = record {
  reads = λ k below path among. let nothing = ap length (none k) in absurd (omega (arith, among.1, nothing));
  once = λ k below. subst AreApart (sym (none k)) tt;
  makes = λ k below given outputs made.
      wanted-are s k given outputs (are-wanted s sound k below given outputs (task-wanted s k given outputs (given-scratch s sound k given) made));
}

pub reads-passes : (s : Stage) → is_sound s ≡ true → ReadsPasses s
reads-passes s sound = reads-none s sound (no_scratch s sound)
