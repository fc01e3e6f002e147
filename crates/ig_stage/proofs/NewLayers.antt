-- What looking at the new layer tells of the making.
use Rattle.std.proofs.Common.{◌≡◌, ℕ, ◌+◌, ◌<◌, ◌≤◌, zero, suc, Bool, false, true, List, [], ◌∷◌, length, drop, get_or, Option, None, Some, slice_get, Result, Ok, Err, refl, ap, subst, sym, ◌∙◌, is_some, arith}
use Rattle.std.specs.Prelude.{option_map}
use Rattle.ig_space.specs.Path.{joined}
use Rattle.ig_defs.specs.declared.step.Act.{Act}
use Rattle.ig_defs.specs.declared.step.Act.TheVariants as act
use Rattle.ig_defs.specs.declared.error.StoreError.{StoreError}
use Rattle.ig_defs.specs.Files.{Files, file_at}
use Rattle.ig_defs.specs.Log.{Log, files_of}
use Rattle.ig_defs.specs.Own.{Moment, steps_since}
use Rattle.ig_meaning.specs.Ending.{Ending, Finished, Refuses, StoreFailed, NoMemory}
use Rattle.ig_meaning.specs.Making.{Making, Refused, fresh_info, making_of_dirs, making_of_fit, making_of_found, making_of_info, making_of_names, reads, where_it_looks}
use Rattle.ig_meaning.specs.Refusal as refusal
use Rattle.ig_meaning.specs.Taken.{unfit_after}
use Rattle.ig_record.specs.declared.stage.InfoFile.{InfoFile}
use Rattle.ig_record.specs.declared.stage.Stage.{Stage}
use Rattle.ig_record.specs.Columns.{output_dirs}
use Rattle.ig_defs.specs.Turns.{Acted, Idled, Listed}
use Rattle.ig_stage.specs.Errors.{ending_of_make, make_error_of}
use Rattle.ig_stage.specs.Looking.{AreNames, IsErrorOf, Looks, OthersLook}
use Rattle.ig_stage.specs.Making.{IsJudged, JudgesFit}
use Rattle.ig_stage.specs.declared.error.MakeError.{MakeError}
use Rattle.ig_stage.specs.declared.error.MakeError.TheVariants.{DestNotEmpty}
use Rattle.ig_stage.proofs.Lookings.{lists_it, looks_as, looks_error, looks_listed, looks_nowhere, looks_once, looks_stopped, looks_then, reads_it}

abbrev pub done : Result (Unit {0}) MakeError
done = Ok tt

-- ---- lists
drop_suc : {A : Type 0} (xs : List A) (n : ℕ) (x : A) → n < length xs → x ≡ get_or xs n x → drop n xs ≡ x ∷ drop (suc n) xs
drop_suc [] n x below is = absurd (omega (arith, below))
drop_suc (y ∷ ys) zero x below is = ap (λ z. z ∷ ys) (sym is)
drop_suc (y ∷ ys) (suc n) x below is = drop_suc ys n x (omega (arith, below)) is

drop_one : {A : Type 0} (xs : List A) (n : ℕ) (x : A) → n < length xs → x ≡ get_or xs n x → drop n xs ≡ x ∷ drop (n + 1) xs
drop_one xs n x below is = let next : suc n ≡ n + 1 = omega arith in drop_suc xs n x below is ∙ ap (λ m. x ∷ drop m xs) next

drop_whole : {A : Type 0} (xs : List A) (n : ℕ) → length xs ≤ n → drop n xs ≡ []
drop_whole [] zero over = refl
drop_whole [] (suc n) over = refl
drop_whole (x ∷ xs) zero over = absurd (omega (arith, over))
drop_whole (x ∷ xs) (suc n) over = drop_whole xs n (omega (arith, over))

-- an empty list has no first item
pub empty_from_none : {A : Type 0} (xs : List A) → None ≡ slice_get xs 0 → xs ≡ []
empty_from_none [] none = refl
empty_from_none (x ∷ xs) none = let no_item : ⊥ = cc in absurd no_item

-- ---- what was found of the info that has to be new
pub found_some : {B : Type 0} (f : B → InfoFile) (found : Option B) (b : B) (fresh : Option InfoFile) → option_map f found ≡ fresh → found ≡ Some b → fresh ≡ Some (f b)
found_some f found b fresh same is = sym same ∙ ap (option_map f) is

pub found_none : {B : Type 0} (f : B → InfoFile) (found : Option B) (fresh : Option InfoFile) → option_map f found ≡ fresh → found ≡ None → fresh ≡ None
found_none f found fresh same is = sym same ∙ ap (option_map f) is

module _ (allows : Bool → Files → Act → Type 0) (earlier : List Stage) (planned_as : Stage → List Moment → Making) where
  -- what is left is to look at these directories
  abbrev pub dirs_left : Stage → List (List ℕ) → Unit {0} → List Moment → Making
  dirs_left s dirs x = making_of_dirs earlier planned_as s dirs

  -- what is left is to look at all directories
  abbrev pub dirs : Stage → Unit {0} → List Moment → Making
  dirs s = dirs_left s (output_dirs s)

  -- what is left to judge is whether the stage fits
  abbrev pub fit : Stage → Unit {0} → List Moment → Making
  fit s x = making_of_fit planned_as s (unfit_after earlier s)

  -- ---- the info
  abbrev at : Stage → List ℕ → Bool → List Moment → Making
  at s path found = making_of_found earlier planned_as s path found

  looks_at_info : (files : Files) (s : Stage) (path : List ℕ) (rest : List Moment) (found : Bool) → found ≡ is_some (file_at files path)
      → where_it_looks (reads path (act.Read path)) (at s path (is_some (file_at files path)) rest) ≡ at s path found rest
  looks_at_info files s path rest found is =
      ap (λ b. where_it_looks b (at s path (is_some (file_at files path)) rest)) (reads_it path path refl) ∙ ap (λ b. at s path b rest) (sym is)

  module _ (old new : Log) (s : Stage) (info : InfoFile) (has : fresh_info s ≡ Some info) where
    info_looks : (result : Result (Unit {0}) MakeError) → Looks allows (making_of_info earlier planned_as s (Some info)) (dirs s) old new result
        → Looks allows (making_of_info earlier planned_as s (fresh_info s)) (dirs s) old new result
    info_looks result = subst (λ (i : Option InfoFile). Looks allows (making_of_info earlier planned_as s i) (dirs s) old new result) (sym has)

    -- it is not there
    pub info_absent : (found : Bool) → found ≡ false → Acted allows old new (act.Read info.path) → found ≡ is_some (file_at (files_of new) info.path)
        → Looks allows (making_of_info earlier planned_as s (fresh_info s)) (dirs s) old new done
    info_absent found absent acted is =
        info_looks done (looks_once allows (making_of_info earlier planned_as s (Some info)) (dirs s) old new done info.path acted
        (λ rest. looks_at_info (files_of new) s info.path rest false (sym absent ∙ is)))

    -- or it is
    pub info_present : (found : Bool) (path : List ℕ) → found ≡ true → path ≡ info.path → Acted allows old new (act.Read info.path) → found ≡ is_some (file_at (files_of new) info.path)
        → Looks allows (making_of_info earlier planned_as s (fresh_info s)) (dirs s) old new (Err (DestNotEmpty path))
    info_present found path present same acted is =
        info_looks (Err (DestNotEmpty path)) (looks_once allows (making_of_info earlier planned_as s (Some info)) (dirs s) old new (Err (DestNotEmpty path)) info.path acted
        (λ rest. looks_at_info (files_of new) s info.path rest true (sym present ∙ is) ∙ ap (λ p. Refused (refusal.NotEmpty p)) (sym same)))

    -- or the store failed
    pub info_stopped : (e : StoreError) (made : MakeError) (result : Result (Unit {0}) MakeError) → result ≡ Err made → made ≡ make_error_of e → Idled allows old new
        → Looks allows (making_of_info earlier planned_as s (fresh_info s)) (dirs s) old new result
    info_stopped e made result is same idled =
        info_looks result (looks_stopped allows (making_of_info earlier planned_as s (Some info)) (dirs s) old new e made result is same refl idled)

  -- a stage without an info that has to be new
  pub no_info : (log : Log) (s : Stage) → fresh_info s ≡ None → Looks allows (making_of_info earlier planned_as s (fresh_info s)) (dirs s) log log done
  no_info log s none = looks_nowhere allows (making_of_info earlier planned_as s (fresh_info s)) (dirs s) log done (λ rest. ap (λ i. making_of_info earlier planned_as s i rest) none)

  -- ---- a directory
  module _ (old new : Log) (s : Stage) (dir : List ℕ) (rest : List (List ℕ)) where
    pub dir_empty : (given : List (List ℕ)) → given ≡ [] → Listed allows old new dir given → (OthersLook (steps_since old new) → AreNames (files_of new) dir given)
        → Looks allows (making_of_dirs earlier planned_as s (dir ∷ rest)) (dirs_left s rest) old new done
    dir_empty given empty listed shows =
        looks_listed allows (making_of_dirs earlier planned_as s (dir ∷ rest)) (dirs_left s rest) old new done dir given listed shows
        (λ ms. ap (λ b. where_it_looks b (making_of_names dir given (making_of_dirs earlier planned_as s rest ms))) (lists_it dir dir given refl)
        ∙ ap (λ names. making_of_names dir names (making_of_dirs earlier planned_as s rest ms)) empty)

    pub dir_listed : (given : List (List ℕ)) (name path : List ℕ) → slice_get given 0 ≡ Some name → path ≡ joined dir name → Listed allows old new dir given
        → (OthersLook (steps_since old new) → AreNames (files_of new) dir given)
        → Looks allows (making_of_dirs earlier planned_as s (dir ∷ rest)) (dirs_left s rest) old new (Err (DestNotEmpty path))
    dir_listed [] name path first is listed shows = let no_name : ⊥ = cc in absurd no_name
    dir_listed (n ∷ names) name path first is listed shows =
        let same : n ≡ name = cc in
        looks_listed allows (making_of_dirs earlier planned_as s (dir ∷ rest)) (dirs_left s rest) old new (Err (DestNotEmpty path)) dir (n ∷ names) listed shows
        (λ ms. ap (λ b. where_it_looks b (making_of_names dir (n ∷ names) (making_of_dirs earlier planned_as s rest ms))) (lists_it dir dir (n ∷ names) refl)
        ∙ ap (λ p. Refused (refusal.NotEmpty p)) (ap (joined dir) same ∙ sym is))

  -- ---- the directories, one after the other
  -- the first so many were looked at
  abbrev pub LooksSoFar : Stage → List (List ℕ) → ℕ → Log → Log → Type 0
  LooksSoFar s dirs n old now = Looks allows (making_of_dirs earlier planned_as s dirs) (dirs_left s (drop n dirs)) old now done

  pub no_dir_yet : (log : Log) (s : Stage) (dirs : List (List ℕ)) → LooksSoFar s dirs 0 log log
  no_dir_yet log s dirs = looks_nowhere allows (making_of_dirs earlier planned_as s dirs) (dirs_left s dirs) log done (λ rest. refl)

  module _ (old mid new : Log) (s : Stage) (dirs : List (List ℕ)) (n : ℕ) (so : LooksSoFar s dirs n old mid) (dir : List ℕ) (below : n < length dirs) (is : dir ≡ get_or dirs n dir) where
    next_dirs : (result : Result (Unit {0}) MakeError) → Looks allows (making_of_dirs earlier planned_as s (dir ∷ drop (n + 1) dirs)) (dirs_left s (drop (n + 1) dirs)) mid new result
        → Looks allows (making_of_dirs earlier planned_as s dirs) (dirs_left s (drop (n + 1) dirs)) old new result
    next_dirs result next =
        looks_then allows (making_of_dirs earlier planned_as s dirs) (dirs_left s (drop n dirs)) (dirs_left s (drop (n + 1) dirs)) old mid new tt result so
        (subst (λ (left : List (List ℕ)). Looks allows (making_of_dirs earlier planned_as s left) (dirs_left s (drop (n + 1) dirs)) mid new result) (sym (drop_one dirs n dir below is)) next)

    -- one more is empty
    pub dirs_next : (x : Unit {0}) → Looks allows (making_of_dirs earlier planned_as s (dir ∷ drop (n + 1) dirs)) (dirs_left s (drop (n + 1) dirs)) mid new (Ok x) → LooksSoFar s dirs (n + 1) old new
    dirs_next x next = next_dirs done next

    -- or not
    pub dirs_stop : (e : MakeError) (result : Result (Unit {0}) MakeError) → result ≡ Err e
        → Looks allows (making_of_dirs earlier planned_as s (dir ∷ drop (n + 1) dirs)) (dirs_left s (drop (n + 1) dirs)) mid new (Err e)
        → Looks allows (making_of_dirs earlier planned_as s dirs) (fit s) old new result
    dirs_stop e result same next =
        looks_error allows (making_of_dirs earlier planned_as s dirs) (dirs_left s (drop (n + 1) dirs)) (fit s) old new e result same (next_dirs (Err e) next)

  -- all are empty
  pub dirs_empty : (old new : Log) (s : Stage) (dirs : List (List ℕ)) (n : ℕ) → LooksSoFar s dirs n old new → length dirs ≤ n → Looks allows (making_of_dirs earlier planned_as s dirs) (fit s) old new done
  dirs_empty old new s dirs n so over =
      looks_as allows (making_of_dirs earlier planned_as s dirs) (dirs_left s (drop n dirs)) (fit s) old new tt tt
      (λ ms. ap (λ left. making_of_dirs earlier planned_as s left ms) (drop_whole dirs n over)) so

  -- ---- whether it fits takes no step
  fit_refused : (s : Stage) (ending : Ending) → IsJudged ending (unfit_after earlier s) → IsErrorOf (making_of_fit planned_as s (unfit_after earlier s)) [] ending
  fit_refused s (Refuses r) e = λ rest. ap (λ u. making_of_fit planned_as s u rest) e
  fit_refused s NoMemory e = absurd e
  fit_refused s StoreFailed e = absurd e
  fit_refused s Finished e = absurd e

  pub looks_unfit : (log : Log) (s : Stage) (e : MakeError) → JudgesFit (unfit_after earlier s) (Err e) → Looks allows (fit s tt) planned_as log log (Err e)
  looks_unfit log s e judged = looks_nowhere allows (fit s tt) planned_as log (Err e) (fit_refused s (ending_of_make e) judged)

  pub looks_fit : (log : Log) (s : Stage) → unfit_after earlier s ≡ None → Looks allows (fit s tt) planned_as log log (Ok s)
  looks_fit log s e = looks_nowhere allows (fit s tt) planned_as log (Ok s) (λ rest. ap (λ u. making_of_fit planned_as s u rest) e)
