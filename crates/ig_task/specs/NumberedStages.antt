-- Stages each task of which makes one file, that of its number.
use Rattle.std.specs.Prelude.{◌≡◌, ◌⊎◌, ◌<◌, ◌≤◌, ℕ, true, List, [], ◌∷◌, length, Option, None, Some, is_some, Contains, option_map, refl}
use Rattle.std.proofs.Common.{arith, ap, sym, subst, ◌∙◌, inl, inr}
use Rattle.std.proofs.lemmas.List.Elements.{Contains-push, Contains-push_cases}
use Rattle.std.proofs.lemmas.Option.{none-some}
use Rattle.ig_space.specs.Grid.{cell_count}
use Rattle.ig_space.specs.Path.{is_path}
use Rattle.ig_layer.specs.Faults.{first_of}
use Rattle.ig_layer.specs.Layer.{Labels, Reading, volume_at}
use Rattle.ig_defs.specs.QueueNameLaws.{are_bytes}
use Rattle.ig_record.specs.declared.stage.Stage.{Stage}
use Rattle.ig_record.specs.Columns.{numbered, output_dirs, paths_of}
use Rattle.ig_record.specs.SoundStages.{IsSound}
use Rattle.ig_record.specs.Stage.{cells, task_count}
use Rattle.ig_meaning.specs.Numbered.{number_if}
use Rattle.ig_meaning.specs.Wants.{Want, output_by, outputs_at, put_at, text_by, wanted_text, wants_by, with_first}
use Rattle.ig_rule.specs.Dirs.{LiesIn}
use Rattle.ig_rule.specs.Facts.{IsPath, LiesInOne}
use Rattle.ig_task.specs.Facts.{facts_of}
use Rattle.ig_task.specs.NumberedFiles.{number-from, number-is, numbered-lies, numbered-same}

-- The files of the tasks are those of their numbers in one output directory; this is wanted there, by the number.
pub record IsNumbered (s : Stage) (want : ℕ → Want) : Type 0 where
  pub dir : List ℕ
  pub ending : List ℕ
  pub is_dir : is_path dir ≡ true
  pub short : length dir ≤ 300
  pub bytes : are_bytes ending
  pub ends : length ending ≤ 20
  pub tasks : task_count s ≡ cell_count (cells s)
  pub file : (k : ℕ) → paths_of s k ≡ numbered dir ending k ∷ []
  pub one : Contains (output_dirs s) dir
  pub wanted : (path : List ℕ) → wants_by s.kind s path ≡ option_map want (first_of (number_if dir ending path) (cell_count (cells s)))

module _ (s : Stage) (h : IsSound s) (want : ℕ → Want) (n : IsNumbered s want) where
  of_task : (k : ℕ) (path : List ℕ) → Contains (paths_of s k) path → numbered n.dir n.ending k ≡ path
  of_task k path among = only (Contains-push_cases [] (numbered n.dir n.ending k) path (subst (λ paths. Contains paths path) (n.file k) among))
    where
      only : Contains [] path ⊎ (numbered n.dir n.ending k ≡ path) → numbered n.dir n.ending k ≡ path
      only (inl h) = absurd (omega (arith, h.1))
      only (inr e) = e

  wants_at : (k : ℕ) → k < task_count s → wants_by s.kind s (numbered n.dir n.ending k) ≡ Some (want k)
  wants_at k below =
      n.wanted (numbered n.dir n.ending k)
      ∙ ap (option_map want) (number-is n.dir n.ending n.bytes (cell_count (cells s)) k h.few_cells (omega (arith, below, n.tasks)))

  -- something is wanted at each path
  pub numbered-wants : (k : ℕ) → k < task_count s → (path : List ℕ) → Contains (paths_of s k) path → is_some (wants_by s.kind s path) ≡ true
  numbered-wants k below path among = ap (λ (o : Option Want). is_some o) (subst (λ p. wants_by s.kind s p ≡ Some (want k)) (of_task k path among) (wants_at k below))

  -- and a text at no other
  pub numbered-path : (files : Reading) (path text : List ℕ) → wanted_text s files path ≡ Some text → IsPath (facts_of 0 s) path
  numbered-path files path text e = by_number (first_of (number_if n.dir n.ending path) (cell_count (cells s))) refl (ap (text_by (volume_at files s.source)) (sym (n.wanted path)) ∙ e)
    where
      by_number : (o : Option ℕ) → first_of (number_if n.dir n.ending path) (cell_count (cells s)) ≡ o → text_by (volume_at files s.source) (option_map want o) ≡ Some text → IsPath (facts_of 0 s) path
      by_number None found e = absurd (none-some text e)
      by_number (Some t) found e =
          let p = number-from n.dir n.ending n.bytes (cell_count (cells s)) path t found in
          record {
            task = t;
            below = omega (arith, p.0, n.tasks);
            among = subst (λ paths. Contains paths path) (sym (n.file t)) (subst (λ q. Contains (numbered n.dir n.ending t ∷ []) q) p.1 (Contains-push [] (numbered n.dir n.ending t)));
          }

  pub numbered-in : (path : List ℕ) → IsPath (facts_of 0 s) path → LiesInOne (output_dirs s) path
  numbered-in path u = record {
    dir = n.dir;
    one = n.one;
    lies = subst (LiesIn n.dir) (of_task u.task path u.among) (numbered-lies n.dir n.ending n.bytes u.task n.is_dir n.short n.ends);
  }

  pub numbered-one : (j k : ℕ) (path : List ℕ) → j < task_count s → k < task_count s → Contains (paths_of s j) path → Contains (paths_of s k) path → j ≡ k
  numbered-one j k path few less a b =
      numbered-same n.dir n.ending n.bytes j k (omega (arith, few, h.few)) (omega (arith, less, h.few)) (of_task j path a ∙ sym (of_task k path b))

  -- the file of a task, by the labels of a volume
  pub numbered-made : (k : ℕ) → k < task_count s → (labels : Labels) (text : List ℕ) → text_by labels (Some (want k)) ≡ Some text
      → outputs_at s labels (paths_of s k) ≡ Some (put_at (numbered n.dir n.ending k) text ∷ [])
  numbered-made k below labels text e =
      let path = numbered n.dir n.ending k in
      ap (outputs_at s labels) (n.file k)
      ∙ ap (λ (o : Option Want). with_first (output_by labels path o) (Some [])) (wants_at k below)
      ∙ ap (λ (o : Option (List ℕ)). with_first (option_map (put_at path) o) (Some [])) e
