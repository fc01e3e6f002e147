-- What one call leaves, and moments of a log.
use Rattle.std.specs.Prelude.{◌≡◌, ℕ, Bool, List, [], ◌∷◌, ◌++◌, drop, length, Err, refl}
use Rattle.std.proofs.Common.{ap, inl, inr, subst, sym, ◌∙◌, append_assoc, append-nil}
use Rattle.std.proofs.Math.Seq.{drop-append_seam}
use Rattle.ig_defs.specs.declared.step.Act.{Act}
use Rattle.ig_defs.specs.declared.step.Act.TheVariants as act
use Rattle.ig_defs.specs.declared.step.Step.{Step}
use Rattle.ig_defs.specs.declared.error.StoreError.{StoreError}
use Rattle.ig_defs.specs.declared.error.StoreError.TheVariants.{Failed, Memory}
use Rattle.ig_defs.specs.Answers.{Answer, Answered, Call, Found, IsAnswered, IsChange, Lists, Names, Put, Puts, WasThere}
use Rattle.ig_defs.specs.Calls.{ListsNames}
use Rattle.ig_defs.specs.Files.{Files}
use Rattle.ig_defs.specs.Log.{Log, after, files_of, own_all, replay}
use Rattle.ig_defs.specs.Own.{steps_since}
use Rattle.ig_defs.specs.Replay.{replay-append}
use Rattle.ig_defs.specs.Turns.{Acted, Grew, Idled, IsPrefix, Listed, ListedIn}

-- The files now are those that the steps of others left, and then the own acts.
pub files_then : {allows : Bool → Files → Act → Type 0} {old new : Log} {acts : List Act} (t : Grew allows old new acts)
    → files_of new ≡ replay (replay (files_of old) t.others) (own_all acts)
files_then {old = old} {new = new} {acts = acts} t =
    ap (λ files. replay files new.steps) t.opening ∙ ap (replay old.opening) t.grown
    ∙ replay-append old.opening old.steps (t.others ++ own_all acts) ∙ replay-append (files_of old) t.others (own_all acts)

-- no step was taken
pub idled_nothing : (allows : Bool → Files → Act → Type 0) (log : Log) → Idled allows log log
idled_nothing allows log = record { others = []; by = tt; opening = refl; grown = sym (append-nil log.steps) }

-- ---- by what a call found
pub acted_as : {allows : Bool → Files → Act → Type 0} {old new : Log} {a b : Act} → a ≡ b → Acted allows old new a → Acted allows old new b
acted_as {allows = allows} {old = old} {new = new} e t = subst (λ a. Acted allows old new a) e t

-- the files after the call
pub files_after : {allows : Bool → Files → Act → Type 0} {old new : Log} {a b : Act} → a ≡ b → (t : Acted allows old new a) → files_of new ≡ after (replay (files_of old) t.others) b
files_after {old = old} e t = files_then t ∙ ap (after (replay (files_of old) t.others)) e

-- a listing
pub listed_of : {allows : Bool → Files → Act → Type 0} {old new : Log} {dir : List ℕ} {given : List (List ℕ)} → IsAnswered allows old new (Lists dir) (Names given) → Listed allows old new dir given
listed_of {allows = allows} {old = old} {new = new} {dir = dir} {given = given} t =
    let P = λ (b : Act). (acted : Acted allows old new b) → ListsNames dir given (files_of old) acted.others → Listed allows old new dir given in
    subst P (sym t.takes.0) (λ acted names. record { acted = acted; names = names }) t.acted t.takes.1

-- a call that changes nothing was not made where it failed
pub not_made : {allows : Bool → Files → Act → Type 0} {old new : Log} (call : Call) → ((answer : Answer) → IsChange call answer → ⊥) → (e : StoreError) → Answered allows old new call (Err e) → Idled allows old new
not_made call none Failed (inl t) = t
not_made call none Failed (inr made) = absurd (none made.answer made.changes)
not_made call none Memory t = t

-- one that puts a file may have been
pub put_acted : {allows : Bool → Files → Act → Type 0} {old new : Log} {path bytes : List ℕ} (answer : Answer) → IsAnswered allows old new (Puts path bytes) answer → Acted allows old new (act.Put path bytes)
put_acted Put t = acted_as t.takes t.acted
put_acted (Names given) t = absurd t.takes
put_acted (Found bytes) t = absurd t.takes
put_acted (WasThere there) t = absurd t.takes

-- ---- moments
pub prefix_itself : (log : Log) → IsPrefix log log
prefix_itself log = record { later = []; opening = refl; grown = sym (append-nil log.steps) }

abbrev pub prefix_then : {first mid log : Log} → IsPrefix first mid → IsPrefix mid log → IsPrefix first log
prefix_then {first = first} a b = record {
  later = a.later ++ b.later;
  opening = b.opening ∙ a.opening;
  grown = b.grown ∙ ap (λ (steps : List Step). steps ++ b.later) a.grown ∙ append_assoc first.steps a.later b.later;
}

abbrev pub prefix_of : {allows : Bool → Files → Act → Type 0} {old new : Log} {acts : List Act} (t : Grew allows old new acts) → IsPrefix old new
prefix_of {acts = acts} t = record { later = t.others ++ own_all acts; opening = t.opening; grown = t.grown }

-- what came since are the later steps
pub since_is : {first log : Log} (p : IsPrefix first log) → steps_since first log ≡ p.later
since_is {first = first} p = ap (drop (length first.steps)) p.grown ∙ drop-append_seam first.steps p.later

pub files_later : {first log : Log} (p : IsPrefix first log) → files_of log ≡ replay (files_of first) p.later
files_later {first = first} {log = log} p = ap (λ files. replay files log.steps) p.opening ∙ ap (replay first.opening) p.grown ∙ replay-append first.opening first.steps p.later

-- ---- a listing at its moments
pub listed_in : {allows : Bool → Files → Act → Type 0} {old from to new : Log} {dir : List ℕ} {given : List (List ℕ)} → IsPrefix old from → (l : Listed allows from to dir given) → IsPrefix to new
    → ListedIn allows old from to new dir given l.acted.others
listed_in began l ended = record { began = began; by = l.acted.by; opening = l.acted.opening; own = l.acted.grown; names = l.names; ended = ended }

abbrev pub grew_in : {allows : Bool → Files → Act → Type 0} {old from to new : Log} {dir : List ℕ} {given : List (List ℕ)} {others : List Step} → ListedIn allows old from to new dir given others
    → Grew allows from to (act.List dir given ∷ [])
grew_in {others = others} l = record { others = others; by = l.by; opening = l.opening; grown = l.own }
