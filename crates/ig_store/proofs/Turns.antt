-- What a call on a store did that one process has for itself.
use Rattle.std.proofs.Common.{◌≡◌, ℕ, Bool, true, false, if◌then◌else◌, List, [], ◌∷◌, ◌++◌, Option, None, Some, is_some, Result, Ok, Err, IfOk, OnOk, OnErr, refl, sym, ◌∙◌, ap, subst, inl, inr}
use Rattle.std.proofs.lemmas.List.{append-nil}
use Rattle.std.specs.FinMap as map
use Rattle.ig_defs.specs.declared.step.Act.{Act}
use Rattle.ig_defs.specs.declared.step.Act.TheVariants as act
use Rattle.ig_defs.specs.declared.step.Step.{Step}
use Rattle.ig_defs.specs.declared.error.StoreError.{StoreError}
use Rattle.ig_defs.specs.declared.error.StoreError.TheVariants.{Failed, Memory}
use Rattle.ig_defs.specs.Files.{Files}
use Rattle.ig_defs.specs.Log.{Log, replay, own, own_all, IsQuiet}
use Rattle.ig_defs.specs.Replay.{replay-append, after-quiet}
use Rattle.ig_defs.specs.Answers.{Answer, answer_by, Answered, Call, Found, IsAnswered, IsChange, Lists, Names, Put, put_answer, Puts, Reads, Removes, Sees, Shifts, Takes, WasThere}
use Rattle.ig_defs.specs.Calls.{ListsNames}
use Rattle.ig_defs.specs.Turns.{Idled}
use Rattle.ig_store.specs.Fails.{acts_of, is_made}

abbrev pub logged : Files → List Step → Log
logged opening steps = record { opening = opening; steps = steps }

module _ (allows : Bool → Files → Act → Type 0) (opening files : Files) (before later : List Step) (stand : files ≡ replay opening before) where
  -- one own act, and none of others
  taken : (a : Act) (call : Call) (answer : Answer) → later ≡ before ++ own a ∷ [] → Takes files [] call answer a → IsAnswered allows (logged opening before) (logged opening later) call answer
  taken a call answer grown takes = record {
    act = a;
    acted = record { others = []; by = tt; opening = refl; grown = grown };
    takes = subst (λ f. Takes f [] call answer a) stand takes;
  }

  -- no act
  nothing : later ≡ before → Idled allows (logged opening before) (logged opening later)
  nothing same = record { others = []; by = tt; opening = refl; grown = same ∙ sym (append-nil before) }

  -- a call failed that was not made
  not_taken : (call : Call) (e : StoreError) → later ≡ before → Answered allows (logged opening before) (logged opening later) call (Err e)
  not_taken call Failed same = inl (nothing same)
  not_taken call Memory same = nothing same

  pub read_turn : (path : List ℕ) (result : Result (Option (List ℕ)) StoreError) → OnOk result (later ≡ before ++ own (act.Read path) ∷ []) → OnErr result (later ≡ before)
      → IfOk result (λ found. found ≡ map.get files path) → Answered allows (logged opening before) (logged opening later) (Reads path) (answer_by Found result)
  read_turn path (Ok found) grown same is = taken (act.Read path) (Reads path) (Found found) grown (refl, is)
  read_turn path (Err e) grown same is = not_taken (Reads path) e same

  pub has_turn : (path : List ℕ) (result : Result Bool StoreError) → OnOk result (later ≡ before ++ own (act.Read path) ∷ []) → OnErr result (later ≡ before)
      → IfOk result (λ found. found ≡ is_some (map.get files path)) → Answered allows (logged opening before) (logged opening later) (Sees path) (answer_by WasThere result)
  has_turn path (Ok found) grown same is = taken (act.Read path) (Sees path) (WasThere found) grown (refl, is)
  has_turn path (Err e) grown same is = not_taken (Sees path) e same

  pub names_turn : (dir : List ℕ) (result : Result (List (List ℕ)) StoreError) → IfOk result (λ names. later ≡ before ++ own (act.List dir names) ∷ []) → OnErr result (later ≡ before)
      → IfOk result (λ names. ListsNames dir names files []) → Answered allows (logged opening before) (logged opening later) (Lists dir) (answer_by Names result)
  names_turn dir (Ok names) grown same lists = taken (act.List dir names) (Lists dir) (Names names) grown (refl, lists)
  names_turn dir (Err e) grown same lists = not_taken (Lists dir) e same

  pub put_turn : (path bytes : List ℕ) (fail : Option Bool) (result : Result (Unit {0}) StoreError) → later ≡ (if is_made fail result then before ++ own (act.Put path bytes) ∷ [] else before)
      → Answered allows (logged opening before) (logged opening later) (Puts path bytes) (answer_by put_answer result)
  put_turn path bytes fail (Ok done) grown = taken (act.Put path bytes) (Puts path bytes) Put grown refl
  put_turn path bytes None (Err Failed) grown = not_taken (Puts path bytes) Failed grown
  put_turn path bytes (Some false) (Err Failed) grown = not_taken (Puts path bytes) Failed grown
  put_turn path bytes (Some true) (Err Failed) grown = inr (record { answer = Put; answered = taken (act.Put path bytes) (Puts path bytes) Put grown refl; changes = tt })
  put_turn path bytes None (Err Memory) grown = not_taken (Puts path bytes) Memory grown
  put_turn path bytes (Some made) (Err Memory) grown = not_taken (Puts path bytes) Memory grown

  -- a move or a removal, by whether the file was there
  changing : (call : Call) (change look : Act) → IsChange call (WasThere true) → (there : Bool) → ((b : Bool) → b ≡ there → Takes files [] call (WasThere b) (if b then change else look))
      → (fail : Option Bool) (result : Result Bool StoreError) → IfOk result (λ found. found ≡ there) → later ≡ before ++ own_all (acts_of fail there change look result)
      → Answered allows (logged opening before) (logged opening later) call (answer_by WasThere result)
  changing call change look changes there takes fail (Ok true) is grown = taken change call (WasThere true) grown (takes true is)
  changing call change look changes there takes fail (Ok false) is grown = taken look call (WasThere false) grown (takes false is)
  changing call change look changes there takes None (Err e) is grown = not_taken call e (grown ∙ append-nil before)
  changing call change look changes there takes (Some false) (Err Failed) is grown = not_taken call Failed (grown ∙ append-nil before)
  changing call change look changes true takes (Some true) (Err Failed) is grown = inr (record { answer = WasThere true; answered = taken change call (WasThere true) grown (takes true refl); changes = changes })
  changing call change look changes false takes (Some true) (Err Failed) is grown = not_taken call Failed (grown ∙ append-nil before)
  changing call change look changes there takes (Some made) (Err Memory) is grown = not_taken call Memory (grown ∙ append-nil before)

  shifts : (from to : List ℕ) (b : Bool) → b ≡ is_some (map.get files from) → Takes files [] (Shifts from to) (WasThere b) (if b then act.Move from to else act.Read from)
  shifts from to true is = (refl, is)
  shifts from to false is = (refl, is)

  pub shift_turn : (from to : List ℕ) (fail : Option Bool) (result : Result Bool StoreError) → IfOk result (λ found. found ≡ is_some (map.get files from))
      → later ≡ before ++ own_all (acts_of fail (is_some (map.get files from)) (act.Move from to) (act.Read from) result)
      → Answered allows (logged opening before) (logged opening later) (Shifts from to) (answer_by WasThere result)
  shift_turn from to = changing (Shifts from to) (act.Move from to) (act.Read from) refl (is_some (map.get files from)) (shifts from to)

  removes : (path : List ℕ) (b : Bool) → b ≡ is_some (map.get files path) → Takes files [] (Removes path) (WasThere b) (if b then act.Remove path else act.Read path)
  removes path true is = (refl, is)
  removes path false is = (refl, is)

  pub remove_turn : (path : List ℕ) (fail : Option Bool) (result : Result Bool StoreError) → IfOk result (λ found. found ≡ is_some (map.get files path))
      → later ≡ before ++ own_all (acts_of fail (is_some (map.get files path)) (act.Remove path) (act.Read path) result)
      → Answered allows (logged opening before) (logged opening later) (Removes path) (answer_by WasThere result)
  remove_turn path = changing (Removes path) (act.Remove path) (act.Read path) refl (is_some (map.get files path)) (removes path)

-- the files stand after one more own act
one_more : (opening files : Files) (before later : List Step) (a : Act) → files ≡ replay opening before → later ≡ before ++ own a ∷ []
    → replay files (own a ∷ []) ≡ replay opening later
one_more opening files before later a stand grown =
    ap (λ f. replay f (own a ∷ [])) stand ∙ sym (replay-append opening before (own a ∷ [])) ∙ sym (ap (replay opening) grown)

-- a call that only reads keeps the files
pub kept : {T : Type 0} (opening files : Files) (before later : List Step) (a : T → Act) (result : Result T StoreError) → ((x : T) → IsQuiet (a x))
    → files ≡ replay opening before → IfOk result (λ x. later ≡ before ++ own (a x) ∷ []) → OnErr result (later ≡ before) → files ≡ replay opening later
kept opening files before later a (Ok x) quiet stand grown same =
    sym (after-quiet files (a x) (quiet x)) ∙ one_more opening files before later (a x) stand grown
kept opening files before later a (Err e) quiet stand grown same = stand ∙ sym (ap (replay opening) same)

-- a put keeps the files those of the log
pub put_kept : (opening files now : Files) (before later : List Step) (path bytes : List ℕ) (made : Bool)
    → files ≡ replay opening before → later ≡ (if made then before ++ own (act.Put path bytes) ∷ [] else before)
    → now ≡ (if made then map.insert files path bytes else files) → now ≡ replay opening later
put_kept opening files now before later path bytes true stand grown is = is ∙ one_more opening files before later (act.Put path bytes) stand grown
put_kept opening files now before later path bytes false stand same is = is ∙ stand ∙ sym (ap (replay opening) same)

-- ---- moves and removals
-- own acts keep the files those of the log
pub acts_kept : (opening files now : Files) (before later : List Step) (acts : List Act)
    → files ≡ replay opening before → later ≡ before ++ own_all acts → now ≡ replay files (own_all acts) → now ≡ replay opening later
acts_kept opening files now before later acts stand grown is =
    is ∙ ap (λ f. replay f (own_all acts)) stand ∙ sym (replay-append opening before (own_all acts)) ∙ sym (ap (replay opening) grown)
