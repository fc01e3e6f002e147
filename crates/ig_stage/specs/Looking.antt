-- What a part of a making looked at, whatever others do beside it.
use Rattle.std.specs.Prelude.{◌≡◌, ℕ, Bool, false, List, [], ◌∷◌, ◌++◌, All, Contains, Result, Ok, Err}
use Rattle.ig_defs.specs.declared.step.Act.{Act}
use Rattle.ig_defs.specs.declared.step.Act.TheVariants as act
use Rattle.ig_defs.specs.declared.step.Step.{Step}
use Rattle.ig_defs.specs.Files.{Files}
use Rattle.ig_defs.specs.Log.{Log, IsQuiet}
use Rattle.ig_defs.specs.Names.{Stands}
use Rattle.ig_defs.specs.Own.{Moment, steps_since}
use Rattle.ig_rule.specs.Went.{Went}
use Rattle.ig_meaning.specs.Call.{AllLook}
use Rattle.ig_meaning.specs.Ending.{Ending, Finished, Refuses, StoreFailed, NoMemory}
use Rattle.ig_meaning.specs.Making.{Making, Refused, Unfinished}
use Rattle.ig_stage.specs.declared.error.MakeError.{MakeError}
use Rattle.ig_stage.specs.Errors.{ending_of_make}

-- these own steps end the making so
abbrev pub IsErrorOf : (List Moment → Making) → List Moment → Ending → Type 0
IsErrorOf making ms (Refuses r) = (rest : List Moment) → making (ms ++ rest) ≡ Refused r
IsErrorOf making ms StoreFailed = making ms ≡ Unfinished
IsErrorOf making ms NoMemory = Unit {0}
IsErrorOf making ms Finished = ⊥

-- the making goes on from these own steps as `next` says, or is refused, or unfinished
abbrev pub IsMakingOf : {T : Type 0} → (List Moment → Making) → (T → List Moment → Making) → List Moment → Result T MakeError → Type 0
IsMakingOf making next ms (Ok x) = (rest : List Moment) → making (ms ++ rest) ≡ next x rest
IsMakingOf making next ms (Err e) = IsErrorOf making ms (ending_of_make e)

-- each step of others only looks
abbrev pub OthersLook : List Step → Type 0
OthersLook [] = Unit {0}
OthersLook (step ∷ steps) = (step.mine ≡ false → IsQuiet step.act) × OthersLook steps

-- these are the names of the files that lie directly in the directory
pub record AreNames (files : Files) (dir : List ℕ) (given : List (List ℕ)) : Type 0 where
  pub only : All (Stands files dir) given
  pub each : (name : List ℕ) → Stands files dir name → Contains given name

-- what an act that lists gave are the names of then
abbrev pub ListsTruly : Files → Act → Type 0
ListsTruly files (act.List dir given) = AreNames files dir given
ListsTruly files (act.Read path) = Unit {0}
ListsTruly files (act.Put path bytes) = Unit {0}
ListsTruly files (act.Move from to) = Unit {0}
ListsTruly files (act.Remove path) = Unit {0}

abbrev pub AllListTruly : List Moment → Type 0
AllListTruly [] = Unit {0}
AllListTruly (m ∷ ms) = ListsTruly m.files m.act × AllListTruly ms

-- A part of the making only read and listed. Where others only looked, its listings are true.
pub record Looks {T : Type 0} (allows : Bool → Files → Act → Type 0) (making : List Moment → Making) (next : T → List Moment → Making) (old new : Log) (result : Result T MakeError) : Type 0 where
  pub ms : List Moment
  pub went : Went allows old new ms
  pub quiet : AllLook ms
  pub truly : OthersLook (steps_since old new) → AllListTruly ms
  pub made : IsMakingOf making next ms result
