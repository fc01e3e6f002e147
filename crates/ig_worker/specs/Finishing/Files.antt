-- What the tasks of a worker by itself leave, where no file of the queue is.
use Rattle.std.specs.Prelude.{◌≡◌, ◌⊎◌, ℕ, true, false, List, [], ◌∷◌, Option, None, Some}
use Rattle.std.specs.Cmp.Lexicographic.{nat_list_cmp_total}
use Rattle.std.specs.FinMap as maps
use Rattle.std.proofs.Common.{inl, inr, ap, sym, ◌∙◌}
use Rattle.std.proofs.lemmas.Bool.{cases_Bool}
use Rattle.ig_defs.specs.Files.{Files, file_at}
use Rattle.ig_defs.specs.Puts.{cases_path, file_at-other, file_at-put}
use Rattle.ig_cutout.specs.declared.types.Output.{Output}
use Rattle.ig_meaning.specs.Jobs.{with_outputs, with_text}
use Rattle.ig_rule.specs.Facts.{Facts, IsPath, StageLaws}
use Rattle.ig_rule.specs.QueueFiles.{IsApartFrom, queue_of}
use Rattle.ig_rule.specs.QueuePaths.{no_queue_path}
use Rattle.ig_rule.specs.QueueSteps.{file_at-gone, file_at-kept, put_outside, remove_outside}
use Rattle.ig_rule.specs.Room.{IsOutsideQueue}
use Rattle.ig_worker.specs.Finishing.Going.{Agree}

-- ---- paths that are no queue file's
-- a source chunk of a stage
pub chunk_apart : (q : List ℕ) (s : Facts) (path : List ℕ) → StageLaws s → IsOutsideQueue q s → s.is_chunk path ≡ true → IsApartFrom q path
chunk_apart q s path laws outside chunk x e = no_queue_path q s.source path x outside.source (laws.chunk_in path chunk) e

-- what a task makes, or removes
pub task_path_apart : (q : List ℕ) (s : Facts) (path : List ℕ) → StageLaws s → IsOutsideQueue q s → IsPath s path → IsApartFrom q path
task_path_apart q s path laws outside is = by_sort (cases_Bool s.removes)
  where
    by_sort : (s.removes ≡ true) ⊎ (s.removes ≡ false) → IsApartFrom q path
    by_sort (inl removes) = chunk_apart q s path laws outside (laws.removed_chunk removes path is)
    by_sort (inr makes) = let lies = laws.path_in makes path is in λ x e. no_queue_path q lies.dir path x (outside.outputs lies.dir lies.one) lies.lies e

-- ---- outputs
-- Files that agree do so once an output is put, or is taken away,
agree_text : (q : List ℕ) (a b : Files) → Agree q a b → (path : List ℕ) (text : Option (List ℕ)) → Agree q (with_text a path text) (with_text b path text)
agree_text q a b agree path (Some bytes) p apart = by_path (cases_path p path)
  where
    by_path : (p ≡ path) ⊎ (p ≡ path → ⊥) → file_at (maps.insert a path bytes) p ≡ file_at (maps.insert b path bytes) p
    by_path (inl e) = file_at-put a p path bytes e ∙ sym (file_at-put b p path bytes e)
    by_path (inr differ) = file_at-other a p path bytes differ ∙ agree p apart ∙ sym (file_at-other b p path bytes differ)
agree_text q a b agree path None p apart = by_path (cases_path p path)
  where
    by_path : (p ≡ path) ⊎ (p ≡ path → ⊥) → file_at (maps.remove a path) p ≡ file_at (maps.remove b path) p
    by_path (inl e) = file_at-gone a p path e ∙ sym (file_at-gone b p path e)
    by_path (inr differ) = file_at-kept a p path differ ∙ agree p apart ∙ sym (file_at-kept b p path differ)

-- and once all are.
pub agree_outputs : (q : List ℕ) (a b : Files) → Agree q a b → (outputs : List Output) → Agree q (with_outputs a outputs) (with_outputs b outputs)
agree_outputs q a b agree [] = agree
agree_outputs q a b agree (output ∷ outputs) =
    agree_outputs q (with_text a output.path output.text) (with_text b output.path output.text) (agree_text q a b agree output.path output.text) outputs

-- the queue is as it was
pub text_outside : (q : List ℕ) (files : Files) (path : List ℕ) (text : Option (List ℕ)) → IsApartFrom q path → queue_of q (with_text files path text) ≡ queue_of q files
text_outside q files path (Some bytes) apart = put_outside q files path bytes apart
text_outside q files path None apart = remove_outside q files path apart

-- without a file that is not there, the files are the same
pub remove_absent : (files : Files) (path : List ℕ) → file_at files path ≡ None → files ≡ maps.remove files path
remove_absent files path none = maps.same_map nat_list_cmp_total (maps.slice_cmp-IsAntisymmetric maps.nat_cmp-IsAntisymmetric) files (maps.remove files path) (λ p. by_path p (cases_path p path))
  where
    by_path : (p : List ℕ) → (p ≡ path) ⊎ (p ≡ path → ⊥) → file_at files p ≡ file_at (maps.remove files path) p
    by_path p (inl e) = ap (file_at files) e ∙ none ∙ sym (file_at-gone files p path e)
    by_path p (inr differ) = sym (file_at-kept files p path differ)
