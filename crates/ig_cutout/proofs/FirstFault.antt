-- The first fault among the chunks that meet a box.
use Rattle.std.proofs.Common.{arith, ◌≡◌, ◌<◌, ◌⊎◌, inl, inr, ℕ, zero, suc, List, [], length, get_or, Option, None, Some, refl, ap, sym, ◌∙◌}
use Rattle.std.proofs.Math.Nat.{eq-or-lt_of_le}
use Rattle.std.proofs.lemmas.List.Elements.{All-get_or}
use Rattle.ig_space.specs.declared.point.Box3.{Box3}
use Rattle.ig_space.specs.declared.place.Place.{Place}
use Rattle.ig_space.specs.Chunk.{chunk_path}
use Rattle.ig_space.specs.Chunks.{chunks_in}
use Rattle.ig_space.specs.Grid.{cell_count, chunks_of, hull}
use Rattle.ig_layer.specs.Faults.{Fault, chunk_at, fault_in, first_fault, first_of, or_else}
use Rattle.ig_cutout.specs.declared.types.Input.{Input}
use Rattle.ig_cutout.specs.declared.error.CutError.{CutError}
use Rattle.ig_cutout.specs.declared.error.CutError.TheVariants.{Missing, Malformed, Memory}
use Rattle.ig_cutout.specs.Inputs.{HoldsAll, Says, paths_of}
use Rattle.ig_cutout.proofs.Chunks.{inputs-count, inputs-path}

pub first_of-none : {A : Type 0} (f : ℕ → Option A) (n : ℕ) → ((k : ℕ) → k < n → f k ≡ None) → first_of f n ≡ None
first_of-none f zero none = refl
first_of-none f (suc n) none = rw (first_of-none f n (λ k below. none k (omega arith)), none n (omega arith)) refl

first_of-next : {A : Type 0} (f : ℕ → Option A) (n k : ℕ) (x : A) → f k ≡ Some x → ((j : ℕ) → j < k → f j ≡ None)
    → (k ≡ n) ⊎ (k < n) → (k < n → first_of f n ≡ Some x) → or_else (first_of f n) (f n) ≡ Some x
first_of-next f n k x is none (inl last) more =
    ap (λ o. or_else o (f n)) (first_of-none f n (λ j below. none j (omega arith))) ∙ ap f (sym last) ∙ is
first_of-next f n k x is none (inr less) more = ap (λ o. or_else o (f n)) (more less)

pub first_of-some : {A : Type 0} (f : ℕ → Option A) (n k : ℕ) (x : A) → f k ≡ Some x → ((j : ℕ) → j < k → f j ≡ None) → k < n → first_of f n ≡ Some x
first_of-some f zero k x is none below = absurd (omega arith)
first_of-some f (suc n) k x is none below = first_of-next f n k x is none (eq-or-lt_of_le (omega arith)) (λ less. first_of-some f n k x is none less)

-- what the files have of a chunk is what its input found
pub found-in : (place : Place) (area : Box3) (files : List ℕ → Option (List ℕ)) (inputs : List Input) (k : ℕ) (d : Input) → paths_of inputs ≡ chunks_in place area → k < length inputs → HoldsAll files inputs
    → files (chunk_path place.dir (chunk_at place area k)) ≡ (get_or inputs k d).found
found-in place area files inputs k d paths below holds =
    ap files (sym (inputs-path place area inputs k d paths below)) ∙ All-get_or (λ (input : Input). files input.path ≡ input.found) inputs k d below holds

abbrev pub fault_at : Place → Box3 → (List ℕ → Option (List ℕ)) → ℕ → Option Fault
fault_at place area files k = fault_in place (chunk_at place area k) (files (chunk_path place.dir (chunk_at place area k)))

fault_at-is : (place : Place) (area : Box3) (files : List ℕ → Option (List ℕ)) (inputs : List Input) (k : ℕ) (d : Input) → paths_of inputs ≡ chunks_in place area → k < length inputs → HoldsAll files inputs
    → fault_at place area files k ≡ fault_in place (chunk_at place area k) (get_or inputs k d).found
fault_at-is place area files inputs k d paths below holds = ap (fault_in place (chunk_at place area k)) (found-in place area files inputs k d paths below holds)

-- inputs with no fault have no first one
pub no-fault : (place : Place) (area : Box3) (files : List ℕ → Option (List ℕ)) (inputs : List Input) → paths_of inputs ≡ chunks_in place area → HoldsAll files inputs
    → ((k : ℕ) (d : Input) → k < length inputs → fault_in place (chunk_at place area k) (get_or inputs k d).found ≡ None) → first_fault place area files ≡ None
no-fault place area files inputs paths holds sound =
    let few = inputs-count place area inputs paths in
    let d : Input = record { path = []; found = None } in
    first_of-none (fault_at place area files) (cell_count (hull (chunks_of place.geometry) area))
    (λ k below. let within : k < length inputs = omega arith in fault_at-is place area files inputs k d paths within holds ∙ sound k d within)

says-of : (error : CutError) (fault first : Option Fault) → ((x : Fault) → fault ≡ Some x → first ≡ Some x) → Says error fault → Says error first
says-of (Missing path) fault first more says = more _ says
says-of (Malformed path cause) fault first more says = more _ says
says-of Memory fault first more says = tt

-- the first input that has a fault is named
pub the-fault : (place : Place) (area : Box3) (files : List ℕ → Option (List ℕ)) (inputs : List Input) (n : ℕ) (d : Input) (error : CutError) → paths_of inputs ≡ chunks_in place area → HoldsAll files inputs → n < length inputs
    → ((k : ℕ) (d : Input) → k < n → fault_in place (chunk_at place area k) (get_or inputs k d).found ≡ None)
    → Says error (fault_in place (chunk_at place area n) (get_or inputs n d).found) → Says error (first_fault place area files)
the-fault place area files inputs n d error paths holds below sound says =
    let few = inputs-count place area inputs paths in
    says-of error _ _
    (λ x is. first_of-some (fault_at place area files) (cell_count (hull (chunks_of place.geometry) area)) n x
    (fault_at-is place area files inputs n d paths below holds ∙ is)
    (λ k less. let within : k < length inputs = omega arith in fault_at-is place area files inputs k d paths within holds ∙ sound k d less) (omega arith))
    says
