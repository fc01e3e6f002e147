-- What was found of the files of chunks, and why a box has no labels.
use Rattle.std.specs.Prelude.{◌≡◌, ℕ, List, Option, None, Some, Result, Ok, Err, map}
use Rattle.std.specs.List.{All}
use Rattle.ig_layer.specs.Faults as layer
use Rattle.ig_layer.specs.Faults.{Fault, Absent, BadCseg, Damaged, WrongLength}
use Rattle.ig_cutout.specs.declared.types.Input.{Input}
use Rattle.ig_cutout.specs.declared.error.Cause.{Cause}
use Rattle.ig_cutout.specs.declared.error.Cause.TheVariants.{Length, Cseg}
use Rattle.ig_cutout.specs.declared.error.CutError.{CutError}
use Rattle.ig_cutout.specs.declared.error.CutError.TheVariants as cut
use Rattle.ig_cutout.specs.declared.error.TextError.{TextError}
use Rattle.ig_cutout.specs.declared.error.TextError.TheVariants.{Malformed, Memory}

-- the path of an input
abbrev pub path_of : Input → List ℕ
path_of input = input.path

-- the paths of the inputs, in order
abbrev pub paths_of : List Input → List (List ℕ)
paths_of inputs = map path_of inputs

-- at each input's path the files have what it found
abbrev pub HoldsAll : (List ℕ → Option (List ℕ)) → List Input → Type 0
HoldsAll files inputs = All (λ (input : Input). files input.path ≡ input.found) inputs

-- the cause as the definitions of layers name it
abbrev pub cause_of : Cause → layer.Cause
cause_of (Length got want) = WrongLength got want
cause_of (Cseg fault) = BadCseg fault

-- the error says that cause; want of memory may always come
abbrev pub Tells : TextError → Option layer.Cause → Type 0
Tells (Malformed cause) found = found ≡ Some (cause_of cause)
Tells Memory found = Unit {0}

-- the error says that fault; want of memory may always come
abbrev pub Says : CutError → Option Fault → Type 0
Says (cut.Missing path) fault = fault ≡ Some (Absent path)
Says (cut.Malformed path cause) fault = fault ≡ Some (Damaged path (cause_of cause))
Says cut.Memory fault = Unit {0}

-- the result is Ok exactly where there is no fault, and else names it
abbrev pub IsFaultOf : {T : Type 0} → Result T CutError → Option Fault → Type 0
IsFaultOf (Ok value) fault = fault ≡ None
IsFaultOf (Err error) fault = Says error fault
