-- Laws on the fault of a run: the own reads in order, each with what it found, are those of one task after the other.
use Rattle.std.specs.Prelude.{◌≡◌, ℕ, zero, suc, ◌+◌, ◌<◌, ◌&&◌, Bool, true, false, if◌then◌else◌, List, [], ◌∷◌, ◌++◌, length, take, drop, Option, None, Some, Contains}
use Rattle.std.specs.Str.{bytes_eq}
use Rattle.std.proofs.Common.{arith, ap, sym, subst, ◌∙◌, refl}
use Rattle.std.proofs.Math.Seq.{take-append_seam, drop-append_seam}
use Rattle.std.proofs.lemmas.List.{append-nil}
use Rattle.std.proofs.lemmas.Slice.Eq.{bytes_eq-Decides}
use Rattle.ig_layer.specs.Faults.{or_else}
use Rattle.ig_layer.specs.Layer.{Reading}
use Rattle.ig_record.specs.declared.stage.Stage.{Stage}
use Rattle.ig_record.specs.Columns.{inputs_of}
use Rattle.ig_meaning.specs.Agreeing.{AgreeOn, task_refusal-agrees}
use Rattle.ig_meaning.specs.Fault.{Find, begin_with, fault_of_tasks, finds_in, found_among}
use Rattle.ig_meaning.specs.Refusal.{Refusal}
use Rattle.ig_meaning.specs.Task.{task_refusal}

-- ---- finds of the paths, in order
bytes_eq-self : (text : List ℕ) → bytes_eq text text ≡ true
bytes_eq-self text = (bytes_eq-Decides text text).1 refl

pub length-finds : (given : List ℕ → Option (List ℕ)) (paths : List (List ℕ)) → length (finds_in given paths) ≡ length paths
length-finds given [] = refl
length-finds given (path ∷ paths) = omega (arith, length-finds given paths)

pub begin_with-finds : (given : List ℕ → Option (List ℕ)) (paths : List (List ℕ)) (rest : List Find) → begin_with paths (finds_in given paths ++ rest) ≡ true
begin_with-finds given [] rest = refl
begin_with-finds given (path ∷ paths) rest = rw (bytes_eq-self path) (begin_with-finds given paths rest)

pub take-finds : (given : List ℕ → Option (List ℕ)) (paths : List (List ℕ)) (rest : List Find) → take (length paths) (finds_in given paths ++ rest) ≡ finds_in given paths
take-finds given paths rest = rw (sym (length-finds given paths)) (take-append_seam (finds_in given paths) rest)

pub drop-finds : (given : List ℕ → Option (List ℕ)) (paths : List (List ℕ)) (rest : List Find) → drop (length paths) (finds_in given paths ++ rest) ≡ rest
drop-finds given paths rest = rw (sym (length-finds given paths)) (drop-append_seam (finds_in given paths) rest)

and-false : (b : Bool) → (b && false) ≡ false
and-false true = refl
and-false false = refl

-- there are fewer finds than paths
pub begin_with-short : (paths : List (List ℕ)) (finds : List Find) → length finds < length paths → begin_with paths finds ≡ false
begin_with-short [] finds short = absurd (omega (arith, short))
begin_with-short (path ∷ paths) [] short = refl
begin_with-short (path ∷ paths) (find ∷ finds) short = rw (begin_with-short paths finds (omega (arith, short))) (and-false (bytes_eq path find.path))

-- at a path that was looked at, what was found there
found_by_test : (given : Reading) (p q : List ℕ) (b : Bool) (other : Option (List ℕ)) → (b ≡ true → p ≡ q) → (b ≡ false → other ≡ given q) → (if b then given p else other) ≡ given q
found_by_test given p q true other same is = ap given (same refl)
found_by_test given p q false other same is = is refl

not_here : {A : Type 0} (x y : A) (xs : List A) → (x ≡ y → ⊥) → Contains (x ∷ xs) y → Contains xs y
not_here x y xs other (zero, below, is) = absurd (other is)
not_here x y xs other (suc k, below, is) = (k, omega (arith, below), is)

differs : (p q : List ℕ) → bytes_eq p q ≡ false → p ≡ q → ⊥
differs p q fails same = let holds = (bytes_eq-Decides p q).1 same in cc

found_among-finds : (given : Reading) (paths : List (List ℕ)) → AgreeOn paths (found_among (finds_in given paths)) given
found_among-finds given [] path among = absurd (omega (arith, among.1))
found_among-finds given (first ∷ paths) path among =
    found_by_test given first path (bytes_eq first path) _ ((bytes_eq-Decides first path).0)
    (λ fails. found_among-finds given paths path (not_here first path paths (differs first path fails) among))

-- ---- the fault of the tasks
pub task_refusal-finds : (s : Stage) (k : ℕ) (given : Reading) (rest : List Find)
    → task_refusal s k (found_among (take (length (inputs_of s k)) (finds_in given (inputs_of s k) ++ rest))) ≡ task_refusal s k given
task_refusal-finds s k given rest =
    ap (λ finds. task_refusal s k (found_among finds)) (take-finds given (inputs_of s k) rest)
    ∙ task_refusal-agrees s k (found_among (finds_in given (inputs_of s k))) given (found_among-finds given (inputs_of s k))

-- of a task whose inputs were all read
pub fault_of_tasks-read : (s : Stage) (left k : ℕ) (given : Reading) (rest : List Find)
    → fault_of_tasks s (suc left) k (finds_in given (inputs_of s k) ++ rest) ≡ or_else (task_refusal s k given) (fault_of_tasks s left (k + 1) rest)
fault_of_tasks-read s left k given rest =
    rw (begin_with-finds given (inputs_of s k) rest) (rw (task_refusal-finds s k given rest) (rw (drop-finds given (inputs_of s k) rest) refl))

pub fault_of_tasks-goes_on : (s : Stage) (left k : ℕ) (given : Reading) (rest : List Find) → task_refusal s k given ≡ None
    → fault_of_tasks s (suc left) k (finds_in given (inputs_of s k) ++ rest) ≡ fault_of_tasks s left (k + 1) rest
fault_of_tasks-goes_on s left k given rest none =
    fault_of_tasks-read s left k given rest ∙ ap (λ r. or_else r (fault_of_tasks s left (k + 1) rest)) none

pub fault_of_tasks-refuses : (s : Stage) (left k : ℕ) (given : Reading) (r : Refusal) → task_refusal s k given ≡ Some r
    → fault_of_tasks s (suc left) k (finds_in given (inputs_of s k)) ≡ Some r
fault_of_tasks-refuses s left k given r is =
    ap (fault_of_tasks s (suc left) k) (sym (append-nil (finds_in given (inputs_of s k))))
    ∙ fault_of_tasks-read s left k given [] ∙ ap (λ r. or_else r (fault_of_tasks s left (k + 1) [])) is

pub fault_of_tasks-unread : (s : Stage) (left k : ℕ) (given : List ℕ → Option (List ℕ)) (some : List (List ℕ)) → length some < length (inputs_of s k)
    → fault_of_tasks s left k (finds_in given some) ≡ None
fault_of_tasks-unread s zero k given some fewer = refl
fault_of_tasks-unread s (suc left) k given some fewer =
    rw (begin_with-short (inputs_of s k) (finds_in given some) (omega (arith, length-finds given some, fewer))) refl
