-- What one call did by itself: the own steps among those that the log grew by.
use Rattle.std.specs.Prelude.{ℕ, Bool, true, false, List, [], ◌∷◌, length, drop}
use Rattle.std.specs.FinMap as map
use Rattle.ig_defs.specs.declared.step.Act.{Act}
use Rattle.ig_defs.specs.declared.step.Act.TheVariants as act
use Rattle.ig_defs.specs.declared.step.Step.{Step}
use Rattle.ig_defs.specs.Files.{Files}
use Rattle.ig_defs.specs.Log.{Log, after, files_of}

-- a file: its path and its bytes
pub record File : Type 0 where
  pub path : List ℕ
  pub bytes : List ℕ

-- the files once each of these is put, in order
abbrev pub put_all : Files → List File → Files
put_all files [] = files
put_all files (file ∷ rest) = put_all (map.insert files file.path file.bytes) rest

-- the steps that the log grew by
abbrev pub steps_since : Log → Log → List Step
steps_since old new = drop (length old.steps) new.steps

-- an own step, with the files as they were when it was taken
pub record Moment : Type 0 where
  pub files : Files
  pub act : Act

abbrev pub with_moment : Bool → Moment → List Moment → List Moment
with_moment true m ms = m ∷ ms
with_moment false m ms = ms

-- the own steps among these, which begin with these files
abbrev pub own_moments : Files → List Step → List Moment
own_moments files [] = []
own_moments files (step ∷ steps) = with_moment step.mine (record { files = files; act = step.act }) (own_moments (after files step.act) steps)

-- the own steps of a call
abbrev pub moments_since : Log → Log → List Moment
moments_since old new = own_moments (files_of old) (steps_since old new)

abbrev pub with_put : Act → List File → List File
with_put (act.Put path bytes) files = record { path = path; bytes = bytes } ∷ files
with_put (act.Read path) files = files
with_put (act.List dir given) files = files
with_put (act.Move from to) files = files
with_put (act.Remove path) files = files

-- the files that were put, in order
abbrev pub puts_of : List Moment → List File
puts_of [] = []
puts_of (m ∷ ms) = with_put m.act (puts_of ms)

abbrev pub with_read : Act → List (List ℕ) → List (List ℕ)
with_read (act.Read path) paths = path ∷ paths
with_read (act.Put path bytes) paths = paths
with_read (act.List dir given) paths = paths
with_read (act.Move from to) paths = paths
with_read (act.Remove path) paths = paths

-- the paths that were read, in order
abbrev pub reads_of : List Moment → List (List ℕ)
reads_of [] = []
reads_of (m ∷ ms) = with_read m.act (reads_of ms)
