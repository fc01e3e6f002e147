-- The own steps of a run: what they put, read and find.
use Rattle.std.proofs.Common.{◌≡◌, List, [], ◌∷◌, ◌++◌, ℕ, refl, ap, ◌∙◌}
use Rattle.ig_defs.specs.declared.step.Act.{Act}
use Rattle.ig_defs.specs.declared.step.Act.TheVariants as act
use Rattle.ig_defs.specs.Files.{Files, file_at}
use Rattle.ig_defs.specs.Log.{after}
use Rattle.ig_defs.specs.Own.{File, Moment, put_all, puts_of, reads_of, with_put, with_read}
use Rattle.ig_meaning.specs.Fault.{Find, finds_in, finds_of, with_find}
use Rattle.ig_stage.specs.Did.{after_all, moments_from}
use Rattle.ig_stage.specs.Running.{puts_all, reads_all}

with_put-more : (a : Act) (files more : List File) → with_put a (files ++ more) ≡ with_put a files ++ more
with_put-more (act.Put path bytes) files more = refl
with_put-more (act.Read path) files more = refl
with_put-more (act.List dir given) files more = refl
with_put-more (act.Move from to) files more = refl
with_put-more (act.Remove path) files more = refl

pub puts_of-more : (ms more : List Moment) → puts_of (ms ++ more) ≡ puts_of ms ++ puts_of more
puts_of-more [] more = refl
puts_of-more (m ∷ ms) more = ap (with_put m.act) (puts_of-more ms more) ∙ with_put-more m.act (puts_of ms) (puts_of more)

with_read-more : (a : Act) (paths more : List (List ℕ)) → with_read a (paths ++ more) ≡ with_read a paths ++ more
with_read-more (act.Put path bytes) paths more = refl
with_read-more (act.Read path) paths more = refl
with_read-more (act.List dir given) paths more = refl
with_read-more (act.Move from to) paths more = refl
with_read-more (act.Remove path) paths more = refl

pub reads_of-more : (ms more : List Moment) → reads_of (ms ++ more) ≡ reads_of ms ++ reads_of more
reads_of-more [] more = refl
reads_of-more (m ∷ ms) more = ap (with_read m.act) (reads_of-more ms more) ∙ with_read-more m.act (reads_of ms) (reads_of more)

with_find-more : (a : Act) (files : Files) (finds more : List Find) → with_find a files (finds ++ more) ≡ with_find a files finds ++ more
with_find-more (act.Put path bytes) files finds more = refl
with_find-more (act.Read path) files finds more = refl
with_find-more (act.List dir given) files finds more = refl
with_find-more (act.Move from to) files finds more = refl
with_find-more (act.Remove path) files finds more = refl

pub finds_of-more : (ms more : List Moment) → finds_of (ms ++ more) ≡ finds_of ms ++ finds_of more
finds_of-more [] more = refl
finds_of-more (m ∷ ms) more = ap (with_find m.act m.files) (finds_of-more ms more) ∙ with_find-more m.act m.files (finds_of ms) (finds_of more)

-- ---- reads
pub puts_of-reads : (files : Files) (paths : List (List ℕ)) → puts_of (moments_from files (reads_all paths)) ≡ []
puts_of-reads files [] = refl
puts_of-reads files (path ∷ paths) = puts_of-reads files paths

pub reads_of-reads : (files : Files) (paths : List (List ℕ)) → reads_of (moments_from files (reads_all paths)) ≡ paths
reads_of-reads files [] = refl
reads_of-reads files (path ∷ paths) = ap (λ rest. path ∷ rest) (reads_of-reads files paths)

pub finds_of-reads : (files : Files) (paths : List (List ℕ)) → finds_of (moments_from files (reads_all paths)) ≡ finds_in (file_at files) paths
finds_of-reads files [] = refl
finds_of-reads files (path ∷ paths) = ap (λ rest. record { path = path; found = file_at files path } ∷ rest) (finds_of-reads files paths)

-- ---- puts
pub puts_of-puts : (files : Files) (outputs : List File) → puts_of (moments_from files (puts_all outputs)) ≡ outputs
puts_of-puts files [] = refl
puts_of-puts files (file ∷ outputs) = ap (λ rest. file ∷ rest) (puts_of-puts (after files (act.Put file.path file.bytes)) outputs)

pub reads_of-puts : (files : Files) (outputs : List File) → reads_of (moments_from files (puts_all outputs)) ≡ []
reads_of-puts files [] = refl
reads_of-puts files (file ∷ outputs) = reads_of-puts (after files (act.Put file.path file.bytes)) outputs

pub finds_of-puts : (files : Files) (outputs : List File) → finds_of (moments_from files (puts_all outputs)) ≡ []
finds_of-puts files [] = refl
finds_of-puts files (file ∷ outputs) = finds_of-puts (after files (act.Put file.path file.bytes)) outputs

pub after-puts : (files : Files) (outputs : List File) → after_all files (puts_all outputs) ≡ put_all files outputs
after-puts files [] = refl
after-puts files (file ∷ outputs) = after-puts (after files (act.Put file.path file.bytes)) outputs
