-- What a reader answers, and what a function that reads returned.
use Rattle.std.specs.Prelude.{◌≡◌, ℕ, List, ◌++◌, Bool, true, false, Option, Some, None, Result, Ok, Err, codes, decimal}
use Rattle.ig_info.specs.declared.error.InfoError.{InfoError}
use Rattle.ig_info.specs.declared.error.InfoError.TheVariants.{NotJson, Member, Unsupported, Memory}

infixl 10 ◌>>=◌
abbrev pub ◌>>=◌ : {A B : Type 0} → Result A InfoError → (A → Result B InfoError) → Result B InfoError
(Ok x) >>= f = f x
(Err e) >>= f = Err e

-- An error, where reading gives this; memory may run out at any place.
abbrev pub Fails : {Y : Type 0} → InfoError → Result Y InfoError → Type 0
Fails Memory read = Unit {0}
Fails NotJson read = read ≡ Err NotJson
Fails (Member path) read = read ≡ Err (Member path)
Fails (Unsupported name) read = read ≡ Err (Unsupported name)

-- What a function returned, seen by view, is what reading gives, unless memory ran out.
abbrev pub Gives : {X Y : Type 0} → (X → Y) → Result X InfoError → Result Y InfoError → Type 0
Gives view (Ok x) read = read ≡ Ok (view x)
Gives view (Err e) read = Fails e read

-- the value, or the error where there is none
abbrev pub or_error : {A : Type 0} → InfoError → Option A → Result A InfoError
or_error e (Some x) = Ok x
or_error e None = Err e

-- goes on only where the test holds
abbrev pub only_if : Bool → InfoError → Result (Unit {0}) InfoError
only_if true e = Ok tt
only_if false e = Err e

-- a member of scale n
abbrev pub scale_path : ℕ → List ℕ → List ℕ
scale_path n name = codes "scales[" ++ (decimal n ++ (codes "]." ++ name))

abbrev pub in_scale : ℕ → List ℕ → InfoError
in_scale n name = Member (scale_path n name)
