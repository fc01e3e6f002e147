-- The files of a leased task: those that were found, those that are to be put, and the paths that are finished.
use Rattle.std.specs.Prelude.{◌≡◌, ◌⊎◌, ◌<◌, ◌+◌, ◌-◌, ℕ, suc, not, true, false, List, [], ◌∷◌, ◌++◌, length, take, drop, get_or, map, Option, None, Some, is_some, Contains}
use Rattle.std.specs.List.{All}
use Rattle.std.proofs.Common.{arith, inl, inr, ap, sym, subst, true≢false, ◌∙◌}
use Rattle.std.proofs.Math.Seq.{drop-cons, take-suc}
use Rattle.std.proofs.lemmas.Bool.{cases_Bool}
use Rattle.std.proofs.lemmas.List.{length-drop, length-map, take_all}
use Rattle.std.proofs.lemmas.List.Elements.{All-cons, All-head, All-nil, All-tail, Contains-push_cases}
use Rattle.ig_defs.specs.Own.{File}
use Rattle.ig_layer.specs.Layer.{Reading}
use Rattle.ig_cutout.specs.declared.types.Input.{Input}
use Rattle.ig_cutout.specs.declared.types.Output.{Output}
use Rattle.ig_cutout.specs.Inputs.{HoldsAll, paths_of}
use Rattle.ig_record.specs.declared.stage.Stage.{Stage}
use Rattle.ig_task.specs.Facts.{is_scratch}
use Rattle.ig_task.specs.Wanted.{path_of}
use Rattle.ig_worker.specs.Fit.{IsFound}
use Rattle.ig_worker.specs.Keeping.Lists.{first_in, in_cases, kept_in, later_in, none_in}
use Rattle.ig_worker.specs.Knows.{finished_paths, found_files, made_files, of_passes, of_source, with_file}

abbrev pub file_of : List ℕ → List ℕ → File
file_of path bytes = record { path = path; bytes = bytes }

-- ---- one file more, or none
pub with_file-later : (path : List ℕ) (text : Option (List ℕ)) (files : List File) (file : File) → Contains files file → Contains (with_file path text files) file
with_file-later path None files file h = h
with_file-later path (Some bytes) files file h = later_in (file_of path bytes) files file h

-- the file has this path and this text
pub record IsFileOf (path : List ℕ) (text : Option (List ℕ)) (file : File) : Type 0 where
  pub path_is : path ≡ file.path
  pub text_is : text ≡ Some file.bytes

with_file-cases : (path : List ℕ) (text : Option (List ℕ)) (files : List File) (file : File) → Contains (with_file path text files) file → IsFileOf path text file ⊎ Contains files file
with_file-cases path None files file h = inr h
with_file-cases path (Some bytes) files file h = turned (in_cases (file_of path bytes) files file h)
  where
    turned : (file_of path bytes ≡ file) ⊎ Contains files file → IsFileOf path (Some bytes) file ⊎ Contains files file
    turned (inl e) = inl (record { path_is = ap (λ (f : File). f.path) e; text_is = ap (λ (f : File). Some f.bytes) e })
    turned (inr h') = inr h'

-- ---- the files that were found
more_by : (path : List ℕ) (text : Option (List ℕ)) (files more : List File) (new file : File) → (Contains more file → Contains files file ⊎ (new ≡ file)) → IsFileOf path text file ⊎ Contains more file
    → Contains (with_file path text files) file ⊎ (new ≡ file)
more_by path text files more new file later (inl is) = inl (first_by text is.text_is)
  where
    first_by : (o : Option (List ℕ)) → o ≡ Some file.bytes → Contains (with_file path o files) file
    first_by o e =
        let same : file_of path file.bytes ≡ file = λ i. file_of (is.path_is i) file.bytes in
        subst (λ t. Contains (with_file path t files) file) (sym e) (subst (λ f. Contains (file_of path file.bytes ∷ files) f) same (first_in (file_of path file.bytes) files))
more_by path text files more new file later (inr h) = turned (later h)
  where
    turned : Contains files file ⊎ (new ≡ file) → Contains (with_file path text files) file ⊎ (new ≡ file)
    turned (inl h') = inl (with_file-later path text files file h')
    turned (inr e) = inr e

-- with one more that was found
pub found-more : (given : List Input) (path bytes : List ℕ) (file : File) → Contains (found_files (given ++ record { path = path; found = Some bytes } ∷ [])) file → Contains (found_files given) file ⊎ (file_of path bytes ≡ file)
found-more [] path bytes file h = Contains-push_cases [] (file_of path bytes) file h
found-more (input ∷ given) path bytes file h =
    let more = found_files (given ++ record { path = path; found = Some bytes } ∷ []) in
    more_by input.path input.found (found_files given) more (file_of path bytes) file (found-more given path bytes file)
    (with_file-cases input.path input.found more file h)

stands_so : (files : Reading) (path : List ℕ) (text : Option (List ℕ)) (more : List File) → is_some text ≡ true → ((file : File) → Contains (with_file path text more) file → files file.path ≡ Some file.bytes) → files path ≡ text
stands_so files path None more found stands = absurd (true≢false (sym found))
stands_so files path (Some bytes) more found stands = stands (file_of path bytes) (first_in (file_of path bytes) more)

-- where they all stand, the files have what was found
pub found-holds : (files : Reading) (given : List Input) → All IsFound given → ((file : File) → Contains (found_files given) file → files file.path ≡ Some file.bytes) → HoldsAll files given
found-holds files [] found stands = All-nil (λ (input : Input). files input.path ≡ input.found)
found-holds files (input ∷ given) found stands =
    All-cons (λ (i : Input). files i.path ≡ i.found) input given
    (stands_so files input.path input.found (found_files given) (All-head IsFound input given found) stands)
    (found-holds files given (All-tail IsFound input given found) (λ file h. stands file (with_file-later input.path input.found (found_files given) file h)))

-- each is of the source, or an earlier pass made it
pub found-sorts : (s : Stage) (P : File → Type 0) (files : List File) → ((file : File) → Contains (of_source s files) file → P file) → ((file : File) → Contains (of_passes s files) file → P file)
    → (file : File) → Contains files file → P file
found-sorts s P files source pass file among = by_test (cases_Bool (is_scratch s file.path))
  where
    by_test : (is_scratch s file.path ≡ true) ⊎ (is_scratch s file.path ≡ false) → P file
    by_test (inl e) = pass file (kept_in (λ (f : File). is_scratch s f.path) files file among e)
    by_test (inr e) = source file (kept_in (λ (f : File). not (is_scratch s f.path)) files file among (ap not e))

-- each is at the path of an input
pub found-path : (given : List Input) (file : File) → Contains (found_files given) file → Contains (paths_of given) file.path
found-path [] file h = absurd (none_in file h)
found-path (input ∷ given) file h = by_place (found-path given file) (with_file-cases input.path input.found (found_files given) file h)
  where
    by_place : (Contains (found_files given) file → Contains (paths_of given) file.path) → IsFileOf input.path input.found file ⊎ Contains (found_files given) file → Contains (paths_of (input ∷ given)) file.path
    by_place later (inl is) = subst (Contains (paths_of (input ∷ given))) is.path_is (first_in input.path (paths_of given))
    by_place later (inr h') = later_in input.path (paths_of given) file.path (later h')

-- ---- the files that are to be put
-- one of the outputs puts it
pub record IsMade (outputs : List Output) (file : File) : Type 0 where
  pub output : Output
  pub among : Contains outputs output
  pub path_is : output.path ≡ file.path
  pub text_is : output.text ≡ Some file.bytes

made_by : (output : Output) (outputs : List Output) (file : File) → (Contains (made_files outputs) file → IsMade outputs file) → IsFileOf output.path output.text file ⊎ Contains (made_files outputs) file
    → IsMade (output ∷ outputs) file
made_by output outputs file later (inl is) = record { output = output; among = first_in output outputs; path_is = is.path_is; text_is = is.text_is }
made_by output outputs file later (inr h) = let m = later h in record { output = m.output; among = later_in output outputs m.output m.among; path_is = m.path_is; text_is = m.text_is }

pub made-from : (outputs : List Output) (file : File) → Contains (made_files outputs) file → IsMade outputs file
made-from [] file h = absurd (none_in file h)
made-from (output ∷ outputs) file h =
    made_by output outputs file (made-from outputs file) (with_file-cases output.path output.text (made_files outputs) file h)

-- the first of them
pub made-first : (output : Output) (outputs : List Output) (bytes : List ℕ) → output.text ≡ Some bytes → Contains (made_files (output ∷ outputs)) (file_of output.path bytes)
made-first output outputs bytes e =
    subst (λ text. Contains (with_file output.path text (made_files outputs)) (file_of output.path bytes)) (sym e)
    (first_in (file_of output.path bytes) (made_files outputs))

pub made-later : (output : Output) (outputs : List Output) (file : File) → Contains (made_files outputs) file → Contains (made_files (output ∷ outputs)) file
made-later output outputs file h = with_file-later output.path output.text (made_files outputs) file h

-- ---- the paths that are finished
-- the place of the first output among the paths of its task
pub record IsNextPath (paths : List (List ℕ)) (output : Output) (outputs : List Output) (done : ℕ) : Type 0 where
  pub below : done < length paths
  pub is : get_or paths done output.path ≡ output.path
  pub left : length paths ≡ done + suc (length outputs)
  pub later : map path_of outputs ≡ drop (suc done) paths

first_item : {A : Type 0} (x y : A) (xs ys : List A) → ◌≡◌ {A = List A} (x ∷ xs) (y ∷ ys) → (x ≡ y) × (xs ≡ ys)
first_item x y xs ys e = (ap (λ l. get_or l 0 x) e, ap (drop 1) e)

pub next_path : (paths : List (List ℕ)) (output : Output) (outputs : List Output) (done : ℕ) → map path_of (output ∷ outputs) ≡ drop done paths → IsNextPath paths output outputs done
next_path paths output outputs done e =
    let long : length (drop done paths) ≡ suc (length outputs) = ap (λ (l : List (List ℕ)). length l) (sym e) ∙ ap suc (length-map outputs path_of) in
    let rest : length (drop done paths) ≡ length paths - done = length-drop done paths in
    let below : done < length paths = omega (arith, long, rest) in
    let parts = first_item output.path (get_or paths done output.path) (map path_of outputs) (drop (suc done) paths) (e ∙ drop-cons paths done output.path below) in
    record { below = below; is = sym parts.0; left = omega (arith, long, rest); later = parts.1 }

-- is one of them
pub next_path-among : (paths : List (List ℕ)) (output : Output) (outputs : List Output) (done : ℕ) → IsNextPath paths output outputs done → Contains paths output.path
next_path-among paths output outputs done h = (done, h.below, h.is)

-- once it is handed over it is finished, and no more is
pub finished-more : (paths : List (List ℕ)) (output : Output) (outputs : List Output) (done : ℕ) → IsNextPath paths output outputs done → (path : List ℕ) → Contains (finished_paths paths outputs) path
    → Contains (finished_paths paths (output ∷ outputs)) path ⊎ (output.path ≡ path)
finished-more paths output outputs done h path among =
    let now : length paths - length outputs ≡ suc done = omega (arith, h.left) in
    let before : done ≡ length paths - suc (length outputs) = omega (arith, h.left) in
    let grown : finished_paths paths outputs ≡ finished_paths paths (output ∷ outputs) ++ output.path ∷ []
    = ap (λ n. take n paths) now ∙ take-suc paths done output.path h.below ∙ ap (λ p. take done paths ++ p ∷ []) h.is ∙ ap (λ n. take n paths ++ output.path ∷ []) before in
    Contains-push_cases (finished_paths paths (output ∷ outputs)) output.path path (subst (λ l. Contains l path) grown among)

-- after the last one all are
pub finished-all : (paths : List (List ℕ)) → finished_paths paths [] ≡ paths
finished-all paths = take_all (length paths - 0) paths (omega arith)

-- and before the first one none is
pub finished-none : (paths : List (List ℕ)) (outputs : List Output) → map path_of outputs ≡ paths → finished_paths paths outputs ≡ []
finished-none paths outputs e =
    let long : length paths ≡ length outputs = ap (λ (l : List (List ℕ)). length l) (sym e) ∙ length-map outputs path_of in
    let nothing : length paths - length outputs ≡ 0 = omega (arith, long) in
    ap (λ n. take n paths) nothing
