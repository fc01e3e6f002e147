-- What a call did where others only read.
use Rattle.std.specs.Prelude.{◌≡◌, ℕ, List, [], ◌∷◌, ◌++◌, Option, Result, Ok, Err}
use Rattle.ig_defs.specs.declared.step.Act.{Act}
use Rattle.ig_defs.specs.declared.step.Act.TheVariants as act
use Rattle.ig_defs.specs.declared.step.Step.{Step}
use Rattle.ig_defs.specs.declared.error.StoreError.{StoreError}
use Rattle.ig_defs.specs.declared.error.StoreError.TheVariants.{Failed, Memory}
use Rattle.ig_defs.specs.Files.{Files, file_at}
use Rattle.ig_defs.specs.Log.{Log, after, files_of}
use Rattle.ig_defs.specs.Own.{Moment, own_moments}

-- own acts, each with the files that those before it left
abbrev pub moments_from : Files → List Act → List Moment
moments_from files [] = []
moments_from files (a ∷ acts) = record { files = files; act = a } ∷ moments_from (after files a) acts

abbrev pub after_all : Files → List Act → Files
after_all files [] = files
after_all files (a ∷ acts) = after_all (after files a) acts

-- the log grew by steps whose own acts are these, and only these changed the files
pub record Did (old new : Log) (acts : List Act) : Type 0 where
  pub steps : List Step
  pub opening : new.opening ≡ old.opening
  pub grown : new.steps ≡ old.steps ++ steps
  pub moments : own_moments (files_of old) steps ≡ moments_from (files_of old) acts
  pub files : files_of new ≡ after_all (files_of old) acts

-- ---- by the result of a call on the store
abbrev pub DidRead : Log → Log → List ℕ → Result (Option (List ℕ)) StoreError → Type 0
DidRead old new path (Ok found) = Did old new (act.Read path ∷ []) × (found ≡ file_at (files_of old) path)
DidRead old new path (Err e) = Did old new []

-- a put that failed, and was made or not
pub data MayHavePut (old new : Log) (path bytes : List ℕ) : Type 0 where
  not_made : Did old new [] → MayHavePut old new path bytes
  was_made : Did old new (act.Put path bytes ∷ []) → MayHavePut old new path bytes

abbrev pub DidPut : Log → Log → List ℕ → List ℕ → Result (Unit {0}) StoreError → Type 0
DidPut old new path bytes (Ok done) = Did old new (act.Put path bytes ∷ [])
DidPut old new path bytes (Err Failed) = MayHavePut old new path bytes
DidPut old new path bytes (Err Memory) = Did old new []
