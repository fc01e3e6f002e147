-- That some own acts were taken, one part of a call after the other.
use Rattle.std.proofs.Common.{◌≡◌, ℕ, Bool, List, [], ◌++◌, Result, Ok, Err, inl, inr, subst}
use Rattle.ig_defs.specs.declared.step.Act.{Act}
use Rattle.ig_defs.specs.declared.step.Act.TheVariants as act
use Rattle.ig_defs.specs.declared.error.StoreError.{StoreError}
use Rattle.ig_defs.specs.declared.error.StoreError.TheVariants.{Failed, Memory}
use Rattle.ig_defs.specs.Files.{Files}
use Rattle.ig_defs.specs.Log.{Log}
use Rattle.ig_defs.specs.Turns.{Acted, Idled}
use Rattle.ig_rule.specs.Went.{WentList, WentPut}
use Rattle.ig_rule.specs.WentOn.{went_nothing, went_then, went_of}
use Rattle.ig_task.specs.Pipeline.{is_allowed}
use Rattle.ig_task.specs.declared.pipeline.Pipeline.{Pipeline}
use Rattle.ig_stage.specs.Open.{Does, DoesSome}

pub some_nothing : (allows : Bool → Files → Act → Type 0) (log : Log) → DoesSome allows log log
some_nothing allows log = record { ms = []; went = went_nothing allows log }

pub some_then : (rule next : Pipeline) (old mid new : Log) → next ≡ rule → DoesSome (is_allowed rule) old mid → DoesSome (is_allowed next) mid new → DoesSome (is_allowed rule) old new
some_then rule next old mid new same a b =
    let later = subst (λ (r : Pipeline). DoesSome (is_allowed r) mid new) same b in
    record { ms = a.ms ++ later.ms; went = went_then (is_allowed rule) old mid new a.ms later.ms a.went later.went }

module _ (allows : Bool → Files → Act → Type 0) (old new : Log) where
  acted_some : (a : Act) → Acted allows old new a → DoesSome allows old new
  acted_some a t = record { ms = _; went = went_of t }

  idled_some : Idled allows old new → DoesSome allows old new
  idled_some t = record { ms = []; went = went_of t }

  pub put_some : (path bytes : List ℕ) (result : Result (Unit {0}) StoreError) → WentPut allows old new path bytes result → DoesSome allows old new
  put_some path bytes (Ok done) t = acted_some (act.Put path bytes) t
  put_some path bytes (Err Failed) (inl t) = idled_some t
  put_some path bytes (Err Failed) (inr t) = acted_some (act.Put path bytes) t
  put_some path bytes (Err Memory) t = idled_some t

  pub list_some : (dir : List ℕ) (result : Result (List (List ℕ)) StoreError) → WentList allows old new dir result → DoesSome allows old new
  list_some dir (Ok given) t = acted_some (act.List dir given) t.acted
  list_some dir (Err e) t = idled_some t

  pub does_some : (acts : List Act) → Does allows old new acts → DoesSome allows old new
  does_some acts d = record { ms = d.ms; went = d.went }
