-- Where the inputs of a task are there, and why it refuses then.
use Rattle.std.specs.Prelude.{◌≡◌, ◌<◌, ℕ, zero, suc, List, [], ◌∷◌, Option, None, Some, IsSome, Contains, option_map, refl}
use Rattle.std.proofs.Common.{arith, ap, sym, subst, ◌∙◌}
use Rattle.ig_space.specs.declared.point.Box3.{Box3}
use Rattle.ig_space.specs.declared.place.Place.{Place}
use Rattle.ig_space.specs.Chunk.{chunk_path}
use Rattle.ig_space.specs.Chunks.{chunk_in}
use Rattle.ig_space.specs.Grid.{cell_count, chunks_of, hull, size_of}
use Rattle.std.proofs.lemmas.List.Elements.{Contains-append_left}
use Rattle.ig_layer.specs.Faults.{Cause, Damaged, Fault, cause_in, chunk_at, fault_in, first_of, or_else}
use Rattle.ig_layer.specs.Layer.{Reading}
use Rattle.ig_record.specs.declared.stage.Stage.{Stage}
use Rattle.ig_record.specs.Columns.{box_read, chunks_met, inputs_of, scratch_read}
use Rattle.ig_meaning.specs.Agreeing.{further, here}
use Rattle.ig_meaning.specs.Lists.{listed-has}
use Rattle.ig_meaning.specs.Refusal.{Refusal, Missing, refusal_of}
use Rattle.ig_meaning.specs.Task.{absent_in, first_absent, first_damaged, refusal_by, task_refusal, texts_given}

-- ---- none is absent
none_of : {A : Type 0} (a b : Option A) → or_else a b ≡ None → (a ≡ None) × (b ≡ None)
none_of None b none = (refl, none)
none_of (Some x) b none = absurd (cc)

not_absent : (path : List ℕ) (found : Option (List ℕ)) → absent_in path found ≡ None → IsSome found
not_absent path (Some bytes) none = refl
not_absent path None none = absurd (cc)

first_absent-each : (given : Reading) (paths : List (List ℕ)) → first_absent given paths ≡ None → (path : List ℕ) → Contains paths path → IsSome (given path)
first_absent-each given [] none path among = absurd (omega (arith, among.1))
first_absent-each given (first ∷ paths) none path (zero, below, is) =
    subst (λ p. IsSome (given p)) is (not_absent first (given first) (none_of (absent_in first (given first)) (first_absent given paths) none).0)
first_absent-each given (first ∷ paths) none path (suc k, below, is) =
    first_absent-each given paths (none_of (absent_in first (given first)) (first_absent given paths) none).1 path (k, omega (arith, below), is)

-- Each input of a task that does not refuse is there.
pub input-stands : (s : Stage) (k : ℕ) (given : Reading) → task_refusal s k given ≡ None → (path : List ℕ) → Contains (inputs_of s k) path → IsSome (given path)
input-stands s k given fine = first_absent-each given (inputs_of s k) (none_of (first_absent given (inputs_of s k)) _ fine).0

absent-not : (path : List ℕ) (found : Option (List ℕ)) → IsSome found → absent_in path found ≡ None
absent-not path (Some bytes) there = refl
absent-not path None there = absurd (cc)

pub first_absent-none : (given : Reading) (paths : List (List ℕ)) → ((path : List ℕ) → Contains paths path → IsSome (given path)) → first_absent given paths ≡ None
first_absent-none given [] there = refl
first_absent-none given (path ∷ paths) there =
    ap (λ first. or_else first (first_absent given paths)) (absent-not path (given path) (there path (here path paths)))
    ∙ first_absent-none given paths (λ p h. there p (further path p paths h))

-- ---- and then none is missing
abbrev NotMissing : Option Refusal → Type 0
NotMissing r = (path : List ℕ) → r ≡ Some (Missing path) → ⊥

abbrev NotAbsent : Option Fault → Type 0
NotAbsent fault = NotMissing (option_map refusal_of fault)

or_either : {A : Type 0} (P : Option A → Type 0) (a b : Option A) → P a → P b → P (or_else a b)
or_either P (Some x) b p q = p
or_either P None b p q = q

first_each : {A : Type 0} (P : Option A → Type 0) → P None → (f : ℕ → Option A) (n : ℕ) → ((i : ℕ) → i < n → P (f i)) → P (first_of f n)
first_each P none f zero each = none
first_each P none f (suc n) each = or_either P (first_of f n) (f n) (first_each P none f n (λ i below. each i (omega (arith, below)))) (each n (omega arith))

none_missing : NotMissing None
none_missing = λ path e. cc

damaged_not : (path : List ℕ) (cause : Option Cause) → NotAbsent (option_map (Damaged path) cause)
damaged_not path None = λ p e. cc
damaged_not path (Some cause) = λ p e. cc

fault_not : (place : Place) (chunk : Box3) (found : Option (List ℕ)) → IsSome found → NotAbsent (fault_in place chunk found)
fault_not place chunk (Some bytes) there = damaged_not (chunk_path place.dir chunk) (cause_in place.geometry.encoding place.geometry.width (size_of chunk) bytes)
fault_not place chunk None there = absurd (cc)

damaged_only : (s : Stage) (given : Reading) (box : Option Box3) → ((path : List ℕ) → Contains (chunks_met s.source box) path → IsSome (given path)) → NotMissing (first_damaged s box given)
damaged_only s given None there = none_missing
damaged_only s given (Some box) there =
    let n = cell_count (hull (chunks_of s.source.geometry) box) in
    first_each NotAbsent none_missing (λ i. fault_in s.source (chunk_at s.source box i) (given (chunk_path s.source.dir (chunk_at s.source box i)))) n
    (λ i below. fault_not s.source (chunk_at s.source box i) (given (chunk_path s.source.dir (chunk_at s.source box i))) (there (chunk_in s.source box i) (listed-has (chunk_in s.source box) n i below)))

-- Where all inputs are there, the refusal is not that one is missing.
pub not_missing : (s : Stage) (k : ℕ) (given : Reading) → ((path : List ℕ) → Contains (inputs_of s k) path → IsSome (given path)) → NotMissing (task_refusal s k given)
not_missing s k given there =
    let chunks : (path : List ℕ) → Contains (chunks_met s.source (box_read s.kind s k)) path → IsSome (given path) = λ path h. there path (Contains-append_left (chunks_met s.source (box_read s.kind s k)) (scratch_read s.kind s k) path h) in
    subst NotMissing (sym (ap (λ first. or_else first (or_else (first_damaged s (box_read s.kind s k) given) (refusal_by s.kind s k (texts_given s k given)))) (first_absent-none given (inputs_of s k) there)))
    (or_either NotMissing (first_damaged s (box_read s.kind s k) given) (refusal_by s.kind s k (texts_given s k given)) (damaged_only s given (box_read s.kind s k) chunks) none_missing)
