-- Reading the inputs of a task, one after the other.
use Rattle.std.proofs.Common.{arith, ◌≡◌, ◌<◌, ◌+◌, ℕ, suc, List, [], ◌∷◌, ◌++◌, length, take, get_or, Option, Result, Ok, Err, refl, sym, ap, subst, ◌∙◌}
use Rattle.std.proofs.Math.Seq.{take-suc}
use Rattle.std.proofs.lemmas.List.{append-nil}
use Rattle.std.proofs.lemmas.List.Elements.{All-push}
use Rattle.ig_defs.specs.declared.step.Act.TheVariants as act
use Rattle.ig_defs.specs.declared.error.StoreError.{StoreError}
use Rattle.ig_defs.specs.declared.error.StoreError.TheVariants.{Failed, Memory}
use Rattle.ig_defs.specs.Files.{Files, file_at}
use Rattle.ig_defs.specs.Log.{Log, files_of}
use Rattle.ig_cutout.specs.declared.types.Input.{Input}
use Rattle.ig_cutout.specs.Inputs.{HoldsAll}
use Rattle.ig_stage.specs.Did.{Did, DidRead, after_all}
use Rattle.ig_stage.specs.Running.{ReadSoFar, ReadsInputs, ReadsSome, FailsToRead, ending_of_local, reads_all}
use Rattle.ig_stage.specs.declared.error.LocalError.{LocalError}
use Rattle.ig_stage.specs.declared.error.LocalError.TheVariants as local
use Rattle.ig_stage.specs.Errors.{make_error_of}
use Rattle.ig_stage.proofs.Dids.{did_then}

pub reads_all-append : (paths more : List (List ℕ)) → reads_all (paths ++ more) ≡ reads_all paths ++ reads_all more
reads_all-append [] more = refl
reads_all-append (path ∷ paths) more = ap (λ acts. act.Read path ∷ acts) (reads_all-append paths more)

-- reading changes no file
pub after-reads : (files : Files) (paths : List (List ℕ)) → after_all files (reads_all paths) ≡ files
after-reads files [] = refl
after-reads files (path ∷ paths) = after-reads files paths

-- the next ones are one more
pub reads_more : (paths : List (List ℕ)) (n : ℕ) (path : List ℕ) → n < length paths → path ≡ get_or paths n path → reads_all (take (n + 1) paths) ≡ reads_all (take n paths) ++ act.Read path ∷ []
reads_more paths n path below is =
    let next : n + 1 ≡ suc n = omega arith in
    ap (λ m. reads_all (take m paths)) next ∙ ap reads_all (take-suc paths n path below)
    ∙ reads_all-append (take n paths) (get_or paths n path ∷ []) ∙ ap (λ p. reads_all (take n paths) ++ act.Read p ∷ []) (sym is)

pub take_more : (paths : List (List ℕ)) (n : ℕ) (path : List ℕ) → n < length paths → path ≡ get_or paths n path → take (n + 1) paths ≡ take n paths ++ path ∷ []
take_more paths n path below is =
    let next : n + 1 ≡ suc n = omega arith in
    ap (λ m. take m paths) next ∙ take-suc paths n path below ∙ ap (λ p. take n paths ++ p ∷ []) (sym is)

module _ (paths : List (List ℕ)) (old mid : Log) (n : ℕ) (inputs : List Input) (so : ReadSoFar paths n old mid inputs) (path : List ℕ) (below : n < length paths) (is : path ≡ get_or paths n path) where
  same_files : files_of mid ≡ files_of old
  same_files = so.did.files ∙ after-reads (files_of old) (take n paths)

  did_next : (new : Log) (copy : List ℕ) → copy ≡ path → Did mid new (act.Read copy ∷ []) → Did old new (reads_all (take (n + 1) paths))
  did_next new copy same did =
      subst (Did old new) (sym (reads_more paths n path below is))
      (did_then old mid new (reads_all (take n paths)) (act.Read path ∷ []) so.did (subst (λ p. Did mid new (act.Read p ∷ [])) same did))

  did_no_more : (new : Log) → Did mid new [] → Did old new (reads_all (take n paths))
  did_no_more new did = subst (Did old new) (append-nil (reads_all (take n paths))) (did_then old mid new (reads_all (take n paths)) [] so.did did)

  -- one more was read
  pub read_next : (new : Log) (copy : List ℕ) (found : Option (List ℕ)) (all : List Input) → copy ≡ path → DidRead mid new copy (Ok found) → all ≡ inputs ++ record { path = copy; found = found } ∷ []
      → ReadSoFar paths (n + 1) old new all
  read_next new copy found all same read whole = record {
    did = did_next new copy same read.0;
    holds = subst (HoldsAll (file_at (files_of old))) (sym whole)
        (All-push (λ (input : Input). file_at (files_of old) input.path ≡ input.found) inputs (record { path = copy; found = found }) so.holds
        (ap (λ files. file_at files copy) (sym same_files) ∙ sym read.1));
  }

  -- the next one was not read
  pub not_read : (new : Log) (copy : List ℕ) (e : StoreError) → DidRead mid new copy (Err e) → FailsToRead paths old new (ending_of_local (local.Make (make_error_of e)))
  not_read new copy Failed did = record { number = n; fewer = below; did = did_no_more new did }
  not_read new copy Memory did = record { number = n; did = did_no_more new did }

  -- memory ran out once it was read
  pub read_in_vain : (new : Log) (copy : List ℕ) (found : Option (List ℕ)) → copy ≡ path → DidRead mid new copy (Ok found) → ReadsSome paths old new
  read_in_vain new copy found same read = record { number = n + 1; did = did_next new copy same read.0 }

-- an error that is passed on
pub fails_to_read : (paths : List (List ℕ)) (old new : Log) (result : Result (List Input) LocalError) (e made : LocalError) → result ≡ Err made → made ≡ e
    → FailsToRead paths old new (ending_of_local e) → ReadsInputs paths old new result
fails_to_read paths old new result e made is same fails =
    subst (ReadsInputs paths old new) (sym (is ∙ ap Err same)) fails
