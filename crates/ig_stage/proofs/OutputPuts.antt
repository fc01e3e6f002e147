-- Putting the outputs of a task, one after the other.
use Rattle.std.proofs.Common.{arith, ◌≡◌, ◌<◌, ◌+◌, ℕ, zero, suc, List, [], ◌∷◌, ◌++◌, length, take, get_or, None, Some, Result, Ok, Err, refl, sym, ap, subst, ◌∙◌}
use Rattle.std.proofs.Math.Seq.{take-suc}
use Rattle.std.proofs.lemmas.List.{append-nil}
use Rattle.ig_defs.specs.declared.step.Act.TheVariants as act
use Rattle.ig_defs.specs.Log.{Log}
use Rattle.ig_defs.specs.Own.{File}
use Rattle.ig_meaning.specs.Ending.{Ending, Finished, Refuses, StoreFailed, NoMemory}
use Rattle.ig_meaning.specs.JobLaws.{files_put-append}
use Rattle.ig_meaning.specs.Jobs.{file_put, files_put}
use Rattle.ig_cutout.specs.declared.types.Output.{Output}
use Rattle.ig_stage.specs.Did.{Did, not_made, was_made}
use Rattle.ig_stage.specs.Running.{FailsToPut, FailsToPutAll, PutSoFar, PutsFile, PutsSome, PutsOutputs, ending_of_local, puts_all}
use Rattle.ig_stage.specs.declared.error.LocalError.{LocalError}
use Rattle.ig_stage.proofs.Dids.{did_nothing, did_then}

pub puts_all-append : (files more : List File) → puts_all (files ++ more) ≡ puts_all files ++ puts_all more
puts_all-append [] more = refl
puts_all-append (file ∷ files) more = ap (λ acts. act.Put file.path file.bytes ∷ acts) (puts_all-append files more)

puts_more : (outputs : List Output) (n : ℕ) (output : Output) → n < length outputs → output ≡ get_or outputs n output
    → puts_all (files_put (take (n + 1) outputs)) ≡ puts_all (files_put (take n outputs)) ++ puts_all (file_put output.path output.text)
puts_more outputs n output below is =
    let next : n + 1 ≡ suc n = omega arith in
    ap (λ m. puts_all (files_put (take m outputs))) next ∙ ap (λ all. puts_all (files_put all)) (take-suc outputs n output below)
    ∙ ap (λ (o : Output). puts_all (files_put (take n outputs ++ o ∷ []))) (sym is)
    ∙ ap puts_all (files_put-append (take n outputs) (output ∷ []) ∙ ap (λ last. files_put (take n outputs) ++ last) (append-nil (file_put output.path output.text)))
    ∙ puts_all-append (files_put (take n outputs)) (file_put output.path output.text)

take-none : {A : Type 0} (k : ℕ) → take {A = A} k [] ≡ []
take-none zero = refl
take-none (suc k) = refl

module _ (outputs : List Output) (old mid : Log) (n : ℕ) (so : PutSoFar outputs n old mid) (output : Output) (below : n < length outputs) (is : output ≡ get_or outputs n output) where
  did_more : (new : Log) → Did mid new (puts_all (file_put output.path output.text)) → PutSoFar outputs (n + 1) old new
  did_more new did = subst (Did old new) (sym (puts_more outputs n output below is)) (did_then old mid new (puts_all (files_put (take n outputs))) (puts_all (file_put output.path output.text)) so did)

  did_no_more : (new : Log) → Did mid new [] → PutSoFar outputs n old new
  did_no_more new did = subst (Did old new) (append-nil (puts_all (files_put (take n outputs)))) (did_then old mid new (puts_all (files_put (take n outputs))) [] so did)

  -- one more was put
  pub put_next : (new : Log) → Did mid new (puts_all (files_put (output ∷ []))) → PutSoFar outputs (n + 1) old new
  put_next new did = did_more new (subst (λ files. Did mid new (puts_all files)) (append-nil (file_put output.path output.text)) did)

  some_put : (new : Log) (number : ℕ) → Did mid new (puts_all (files_put (take number (output ∷ [])))) → PutsSome outputs old new
  some_put new zero did = record { number = n; did = did_no_more new did }
  some_put new (suc k) did = record { number = n + 1; did = put_next new (subst (λ (rest : List Output). Did mid new (puts_all (files_put (output ∷ rest)))) (take-none k) did) }

  -- the next one was not put, or it is not known
  pub not_put : (new : Log) (e : Ending) → FailsToPutAll (output ∷ []) mid new e → FailsToPutAll outputs old new e
  not_put new StoreFailed some = some_put new some.number some.did
  not_put new NoMemory some = some_put new some.number some.did
  not_put new (Refuses r) fails = absurd fails
  not_put new Finished fails = absurd fails

-- ---- one output
one_put : (output : Output) (text : List ℕ) → output.text ≡ Some text → act.Put output.path text ∷ [] ≡ puts_all (files_put (output ∷ []))
one_put output text has = ap (λ t. puts_all (file_put output.path t ++ [])) (sym has)

one_fails : (output : Output) (text : List ℕ) (old new : Log) (e : Ending) → output.text ≡ Some text → FailsToPut old new output.path text e → FailsToPutAll (output ∷ []) old new e
one_fails output text old new StoreFailed has (not_made did) = record { number = 0; did = did }
one_fails output text old new StoreFailed has (was_made did) = record { number = 1; did = subst (Did old new) (one_put output text has) did }
one_fails output text old new NoMemory has did = record { number = 0; did = did }
one_fails output text old new (Refuses r) has fails = absurd fails
one_fails output text old new Finished has fails = absurd fails

pub puts_output : (output : Output) (text : List ℕ) (old new : Log) (result : Result (Unit {0}) LocalError) → output.text ≡ Some text
    → PutsFile old new output.path text result → PutsOutputs (output ∷ []) old new result
puts_output output text old new (Ok done) has did = subst (Did old new) (one_put output text has) did
puts_output output text old new (Err e) has fails = one_fails output text old new (ending_of_local e) has fails

pub puts_no_output : (output : Output) (old : Log) → output.text ≡ None → PutsOutputs (output ∷ []) old old (Ok tt)
puts_no_output output old none = subst (λ t. Did old old (puts_all (file_put output.path t ++ []))) (sym none) (did_nothing old)

-- an error that is passed on
pub fails_to_put : (outputs : List Output) (old new : Log) (result : Result (Unit {0}) LocalError) (e made : LocalError) → result ≡ Err made → made ≡ e
    → FailsToPutAll outputs old new (ending_of_local e) → PutsOutputs outputs old new result
fails_to_put outputs old new result e made is same fails = subst (PutsOutputs outputs old new) (sym (is ∙ ap Err same)) fails
