-- What a call on the store tells of the making, and parts of a making one after the other.
use Rattle.std.proofs.Common.{◌≡◌, ℕ, Bool, true, List, [], ◌∷◌, ◌++◌, append_assoc, Result, Ok, Err, ap, subst, sym, ◌∙◌}
use Rattle.std.proofs.lemmas.Slice.Eq.{bytes_eq-Decides}
use Rattle.ig_defs.specs.declared.step.Act.{Act}
use Rattle.ig_defs.specs.declared.step.Act.TheVariants as act
use Rattle.ig_defs.specs.declared.error.StoreError.{StoreError}
use Rattle.ig_defs.specs.declared.error.StoreError.TheVariants as store
use Rattle.ig_defs.specs.Files.{Files}
use Rattle.ig_defs.specs.Log.{Log, files_of, replay}
use Rattle.ig_defs.specs.Own.{Moment, steps_since}
use Rattle.ig_meaning.specs.Call.{AllLook}
use Rattle.ig_meaning.specs.Making.{Making, Unfinished, lists, reads}
use Rattle.ig_defs.specs.Turns.{Acted, Idled, Listed}
use Rattle.ig_defs.specs.TurnLaws.{files_then}
use Rattle.ig_rule.specs.Went.{Went}
use Rattle.ig_rule.specs.WentOn.{EachMoment, LooksOnly, went_then, went_nothing, went_of}
use Rattle.ig_task.specs.Pipeline.{is_allowed}
use Rattle.ig_task.specs.declared.pipeline.Pipeline.{Pipeline}
use Rattle.ig_stage.specs.Errors.{make_error_of}
use Rattle.ig_stage.specs.Looking.{AllListTruly, AreNames, IsMakingOf, Looks, OthersLook}
use Rattle.ig_stage.specs.declared.error.MakeError.{MakeError}
use Rattle.ig_stage.specs.declared.error.MakeError.TheVariants.{Absent, BadRecord, TooManyStages, Missing, BadInfo, NoScale, NoStage, DestNotEmpty, Taken, ShapeUnfit, TooManyTasks, TaskTooLarge, Failed, Memory}
use Rattle.ig_stage.proofs.OthersLooks.{look_in_parts}

-- a step that looks at a file, or lists a directory, is one that does
pub reads_it : (path other : List ℕ) → other ≡ path → reads path (act.Read other) ≡ true
reads_it path other is = (bytes_eq-Decides path other).1 (sym is)

pub lists_it : (dir other : List ℕ) (given : List (List ℕ)) → other ≡ dir → lists dir (act.List other given) ≡ true
lists_it dir other given is = (bytes_eq-Decides dir other).1 (sym is)

-- own steps that look are quiet
pub look_only : (ms : List Moment) → AllLook ms → EachMoment LooksOnly ms
look_only [] look = tt
look_only (m ∷ ms) look = (look.0, look_only ms look.1)

pub AllLook-append : (first then : List Moment) → AllLook first → AllLook then → AllLook (first ++ then)
AllLook-append [] then a b = b
AllLook-append (m ∷ first) then a b = (a.0, AllLook-append first then a.1 b)

pub AllListTruly-append : (first then : List Moment) → AllListTruly first → AllListTruly then → AllListTruly (first ++ then)
AllListTruly-append [] then a b = b
AllListTruly-append (m ∷ first) then a b = (a.0, AllListTruly-append first then a.1 b)

module _ (allows : Bool → Files → Act → Type 0) where
  -- ---- one call

  -- nothing was looked at
  pub looks_idly : {T : Type 0} (making : List Moment → Making) (next : T → List Moment → Making) (old new : Log) (result : Result T MakeError)
      → Went allows old new [] → IsMakingOf making next [] result → Looks allows making next old new result
  looks_idly making next old new result went made = record { ms = []; went = went; quiet = tt; truly = λ look. tt; made = made }

  pub looks_nowhere : {T : Type 0} (making : List Moment → Making) (next : T → List Moment → Making) (log : Log) (result : Result T MakeError)
      → IsMakingOf making next [] result → Looks allows making next log log result
  looks_nowhere making next log result made = looks_idly making next log log result (went_nothing allows log) made

  -- one file was looked at
  pub looks_once : {T : Type 0} (making : List Moment → Making) (next : T → List Moment → Making) (old new : Log) (result : Result T MakeError) (path : List ℕ)
      → Acted allows old new (act.Read path) → IsMakingOf making next (record { files = files_of new; act = act.Read path } ∷ []) result → Looks allows making next old new result
  looks_once {T = T} making next old new result path t made = record {
    ms = record { files = replay (files_of old) t.others; act = act.Read path } ∷ [];
    went = went_of t;
    quiet = (tt, tt);
    truly = λ look. (tt, tt);
    made = subst (λ files. IsMakingOf {T = T} making next (record { files = files; act = act.Read path } ∷ []) result) (files_then t) made;
  }

  -- a directory was listed
  pub looks_listed : {T : Type 0} (making : List Moment → Making) (next : T → List Moment → Making) (old new : Log) (result : Result T MakeError) (dir : List ℕ) (given : List (List ℕ))
      → Listed allows old new dir given → (OthersLook (steps_since old new) → AreNames (files_of new) dir given)
      → IsMakingOf making next (record { files = files_of new; act = act.List dir given } ∷ []) result → Looks allows making next old new result
  looks_listed {T = T} making next old new result dir given t names made = record {
    ms = record { files = replay (files_of old) t.acted.others; act = act.List dir given } ∷ [];
    went = went_of t.acted;
    quiet = (tt, tt);
    truly = λ look. (subst (λ files. AreNames files dir given) (files_then t.acted) (names look), tt);
    made = subst (λ files. IsMakingOf {T = T} making next (record { files = files; act = act.List dir given } ∷ []) result) (files_then t.acted) made;
  }

  -- ---- parts of the making, one after the other

  made_then : {U : Type 0} (making middle : List Moment → Making) (next : U → List Moment → Making) (ms more : List Moment) (result : Result U MakeError)
      → ((rest : List Moment) → making (ms ++ rest) ≡ middle rest) → IsMakingOf middle next more result → IsMakingOf making next (ms ++ more) result
  made_then making middle next ms more (Ok x) first then = λ rest. ap making (append_assoc ms more rest) ∙ first (more ++ rest) ∙ then rest
  made_then making middle next ms more (Err (Absent path)) first then = λ rest. ap making (append_assoc ms more rest) ∙ first (more ++ rest) ∙ then rest
  made_then making middle next ms more (Err (BadRecord path member)) first then = λ rest. ap making (append_assoc ms more rest) ∙ first (more ++ rest) ∙ then rest
  made_then making middle next ms more (Err (TooManyStages count)) first then = λ rest. ap making (append_assoc ms more rest) ∙ first (more ++ rest) ∙ then rest
  made_then making middle next ms more (Err (Missing path)) first then = λ rest. ap making (append_assoc ms more rest) ∙ first (more ++ rest) ∙ then rest
  made_then making middle next ms more (Err (BadInfo path cause)) first then = λ rest. ap making (append_assoc ms more rest) ∙ first (more ++ rest) ∙ then rest
  made_then making middle next ms more (Err (NoScale mip count)) first then = λ rest. ap making (append_assoc ms more rest) ∙ first (more ++ rest) ∙ then rest
  made_then making middle next ms more (Err (NoStage kind)) first then = λ rest. ap making (append_assoc ms more rest) ∙ first (more ++ rest) ∙ then rest
  made_then making middle next ms more (Err (DestNotEmpty path)) first then = λ rest. ap making (append_assoc ms more rest) ∙ first (more ++ rest) ∙ then rest
  made_then making middle next ms more (Err (Taken stage)) first then = λ rest. ap making (append_assoc ms more rest) ∙ first (more ++ rest) ∙ then rest
  made_then making middle next ms more (Err (ShapeUnfit axis)) first then = λ rest. ap making (append_assoc ms more rest) ∙ first (more ++ rest) ∙ then rest
  made_then making middle next ms more (Err (TooManyTasks count)) first then = λ rest. ap making (append_assoc ms more rest) ∙ first (more ++ rest) ∙ then rest
  made_then making middle next ms more (Err (TaskTooLarge voxels)) first then = λ rest. ap making (append_assoc ms more rest) ∙ first (more ++ rest) ∙ then rest
  made_then making middle next ms more (Err Failed) first then = first more ∙ then
  made_then making middle next ms more (Err Memory) first then = tt

  pub looks_then : {T U : Type 0} (making : List Moment → Making) (next : T → List Moment → Making) (last : U → List Moment → Making) (old mid new : Log) (x : T) (result : Result U MakeError)
      → Looks allows making next old mid (Ok x) → Looks allows (next x) last mid new result → Looks allows making last old new result
  looks_then {T = T} {U = U} making next last old mid new x result a b = record {
    ms = a.ms ++ b.ms;
    went = went_then allows old mid new a.ms b.ms a.went b.went;
    quiet = AllLook-append a.ms b.ms a.quiet b.quiet;
    truly = λ look.
        let parts = look_in_parts allows old mid new a.ms b.ms a.went b.went look in
        AllListTruly-append a.ms b.ms (a.truly parts.0) (b.truly parts.1);
    made = made_then {U = U} making (next x) last a.ms b.ms result a.made b.made;
  }

  -- an error is passed on
  pub looks_error : {T U : Type 0} (making : List Moment → Making) (next : T → List Moment → Making) (last : U → List Moment → Making) (old new : Log) (e : MakeError) (result : Result U MakeError)
      → result ≡ Err e → Looks allows making next old new (Err e) → Looks allows making last old new result
  looks_error {T = T} {U = U} making next last old new e result is a =
      subst (λ (r : Result U MakeError). Looks allows making last old new r) (sym is)
      (record { ms = a.ms; went = a.went; quiet = a.quiet; truly = a.truly; made = a.made })

  -- another value goes on in the same way
  pub looks_as : {T U : Type 0} (making : List Moment → Making) (next : T → List Moment → Making) (last : U → List Moment → Making) (old new : Log) (x : T) (y : U)
      → ((rest : List Moment) → next x rest ≡ last y rest) → Looks allows making next old new (Ok x) → Looks allows making last old new (Ok y)
  looks_as making next last old new x y same a = record { ms = a.ms; went = a.went; quiet = a.quiet; truly = a.truly; made = λ rest. a.made rest ∙ same rest }

  -- memory ran out after parts of it
  pub looks_memory : {T U : Type 0} (making : List Moment → Making) (next : T → List Moment → Making) (last : U → List Moment → Making) (old new : Log) (x : T) (e : MakeError) (result : Result U MakeError)
      → result ≡ Err e → e ≡ Memory → Looks allows making next old new (Ok x) → Looks allows making last old new result
  looks_memory {T = T} {U = U} making next last old new x e result is memory a =
      subst (λ (r : Result U MakeError). Looks allows making last old new r) (sym (is ∙ ap Err memory))
      (record { ms = a.ms; went = a.went; quiet = a.quiet; truly = a.truly; made = tt })

  -- memory ran out before a step
  pub looks_forgotten : {U : Type 0} (making : List Moment → Making) (last : U → List Moment → Making) (log : Log) (e : MakeError) (result : Result U MakeError)
      → result ≡ Err e → e ≡ Memory → Looks allows making last log log result
  looks_forgotten {U = U} making last log e result is memory =
      subst (λ (r : Result U MakeError). Looks allows making last log log r) (sym (is ∙ ap Err memory)) (looks_nowhere making last log (Err Memory) tt)

  -- a call failed before its step
  stopped : {U : Type 0} (making : List Moment → Making) (last : U → List Moment → Making) (old new : Log) (e : StoreError)
      → making [] ≡ Unfinished → Idled allows old new → Looks allows making last old new (Err (make_error_of e))
  stopped making last old new store.Failed unfinished t = looks_idly making last old new (Err Failed) (went_of t) unfinished
  stopped making last old new store.Memory unfinished t = looks_idly making last old new (Err Memory) (went_of t) tt

  pub looks_stopped : {U : Type 0} (making : List Moment → Making) (last : U → List Moment → Making) (old new : Log) (e : StoreError) (made : MakeError) (result : Result U MakeError)
      → result ≡ Err made → made ≡ make_error_of e → making [] ≡ Unfinished → Idled allows old new → Looks allows making last old new result
  looks_stopped {U = U} making last old new e made result is same unfinished t =
      subst (λ (r : Result U MakeError). Looks allows making last old new r) (sym (is ∙ ap Err same)) (stopped making last old new e unfinished t)

  -- memory ran out once a directory was listed
  pub looks_listed_memory : {U : Type 0} (making : List Moment → Making) (last : U → List Moment → Making) (old new : Log) (dir : List ℕ) (given : List (List ℕ)) (e : MakeError) (result : Result U MakeError)
      → result ≡ Err e → e ≡ Memory → Listed allows old new dir given → (OthersLook (steps_since old new) → AreNames (files_of new) dir given)
      → Looks allows making last old new result
  looks_listed_memory {U = U} making last old new dir given e result is memory listed names =
      subst (λ (r : Result U MakeError). Looks allows making last old new r) (sym (is ∙ ap Err memory)) (looks_listed making last old new (Err Memory) dir given listed names tt)

  -- and once a file was looked at
  pub looks_read_memory : {U : Type 0} (making : List Moment → Making) (last : U → List Moment → Making) (old new : Log) (path : List ℕ) (e : MakeError) (result : Result U MakeError)
      → result ≡ Err e → e ≡ Memory → Acted allows old new (act.Read path) → Looks allows making last old new result
  looks_read_memory {U = U} making last old new path e result is memory acted =
      subst (λ (r : Result U MakeError). Looks allows making last old new r) (sym (is ∙ ap Err memory)) (looks_once making last old new (Err Memory) path acted tt)

-- the rule of a store does not change
pub under_rule : {T : Type 0} (rule now : Pipeline) (making : List Moment → Making) (next : T → List Moment → Making) (old new : Log) (result : Result T MakeError) → now ≡ rule
    → Looks (is_allowed now) making next old new result → Looks (is_allowed rule) making next old new result
under_rule {T = T} rule now making next old new result same looks = subst (λ (r : Pipeline). Looks {T = T} (is_allowed r) making next old new result) same looks
