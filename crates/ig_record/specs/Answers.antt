-- What the readers of records answer.
use Rattle.std.specs.Prelude.{◌≡◌, ℕ, List, Option, None, Some, Result, Ok, Err, codes}
use Rattle.ig_record.specs.declared.error.RecordError.{RecordError}
use Rattle.ig_record.specs.declared.error.RecordError.TheVariants.{BadRecord, Memory}

-- The member that is named of bytes which are no record of this number. It is said here alone.
abbrev pub record_fault : ℕ → List ℕ → List ℕ
record_fault number bytes = codes "$"

-- the same of bytes which are no task's text
abbrev pub task_fault : List ℕ → List ℕ
task_fault bytes = codes "$"

-- An error, where the bytes give this: none is the refusal of this member, and memory may run out at any place.
abbrev pub FailsBy : {Y : Type 0} → List ℕ → RecordError → Option Y → Type 0
FailsBy fault (BadRecord member) given = (member ≡ fault) × (given ≡ None)
FailsBy fault Memory given = Unit {0}

-- the same of `$`
abbrev pub Fails : {Y : Type 0} → RecordError → Option Y → Type 0
Fails e given = FailsBy (codes "$") e given

-- What a reader returned, seen by view, is what the bytes give, unless memory ran out.
abbrev pub GivesBy : {X Y : Type 0} → List ℕ → (X → Y) → Result X RecordError → Option Y → Type 0
GivesBy fault view (Ok x) given = given ≡ Some (view x)
GivesBy fault view (Err e) given = FailsBy fault e given

-- the same, where `$` is refused
abbrev pub Gives : {X Y : Type 0} → (X → Y) → Result X RecordError → Option Y → Type 0
Gives view result given = GivesBy (codes "$") view result given

-- this value, unless memory ran out
abbrev pub IsGiven : {X : Type 0} → X → Result X RecordError → Type 0
IsGiven x (Ok y) = y ≡ x
IsGiven x (Err (BadRecord member)) = ⊥
IsGiven x (Err Memory) = Unit {0}

-- memory ran out; or this member is refused, and there is no such value
abbrev pub Refuses : {X : Type 0} → List ℕ → (X → Type 0) → RecordError → Type 0
Refuses {X = X} fault P (BadRecord member) = (member ≡ fault) × ((x : X) → P x → ⊥)
Refuses {X = X} fault P Memory = Unit {0}
