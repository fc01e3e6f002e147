-- What holds of the records of a file that is right.
use Rattle.std.proofs.Common.{arith, ◌≡◌, ◌+◌, ◌<◌, ◌≤◌, ◌^◌, ◌&&◌, ◌==◌, ℕ, zero, suc, Bool, true, false, nat_le, nat_lt, List, [], ◌∷◌, length, map, get_or, slice_index, if◌then◌else◌, Option, Some, None, All, refl, sym, subst}
use Rattle.std.proofs.lemmas.Bool.{and_parts, eqb-false, leb-true, ltb-true}
use Rattle.std.proofs.lemmas.List.{get_or-map, length-map}
use Rattle.ig_faces.specs.declared.links.Link.{Link}
use Rattle.ig_faces.specs.declared.parts.Part.{Part}
use Rattle.ig_faces.specs.LinksFile.{Others, ends_wrong, is_next, link_wrong, neighbour}
use Rattle.ig_faces.specs.PartsFile.{first_of, is_after, label_of, part_wrong}
use Rattle.ig_faces.specs.PlanesFile.{place_wrong}
use Rattle.ig_faces.specs.Records.{first_wrong, placed}
use Rattle.ig_faces.specs.TableFile.{IsNumber, number_wrong}

none_placed : (place : ℕ) (here later : Option ℕ) → placed place here later ≡ None → (here ≡ None) × (later ≡ None)
none_placed place None later e = (refl, e)
none_placed place (Some k) later e = cc

-- each record is right beside some record, or none
none_wrong : {A : Type 0} (wrong : Option A → A → Option ℕ) (each place : ℕ) (before : Option A) (rs : List A) → first_wrong wrong each place before rs ≡ None
    → (k : ℕ) (d : A) → k < length rs → (b : Option A) × (wrong b (get_or rs k d) ≡ None)
none_wrong wrong each place before [] e k d l = absurd (omega arith)
none_wrong wrong each place before (r ∷ rs) e zero d l = (before, (none_placed place (wrong before r) (first_wrong wrong each (place + each) (Some r) rs) e).0)
none_wrong wrong each place before (r ∷ rs) e (suc k) d l =
    none_wrong wrong each (place + each) (Some r) rs (none_placed place (wrong before r) (first_wrong wrong each (place + each) (Some r) rs) e).1 k d (omega arith)

chosen : (b : Bool) (k : ℕ) → (if b then None else Some k) ≡ None → b ≡ true
chosen true k e = refl
chosen false k e = cc

chosen_then : (b : Bool) (inner : Option ℕ) (k : ℕ) → (if b then inner else Some k) ≡ None → (b ≡ true) × (inner ≡ None)
chosen_then true inner k e = (refl, e)
chosen_then false inner k e = cc

not_chosen : (b : Bool) (k : ℕ) → (if b then Some k else None) ≡ None → b ≡ false
not_chosen true k e = cc
not_chosen false k e = refl

pub tested-numbers : (numbers : List ℕ) (place : ℕ) → first_wrong number_wrong 4 place None numbers ≡ None → (k : ℕ) → k < length numbers → IsNumber (slice_index numbers k)
tested-numbers numbers place e k l =
    let w = none_wrong number_wrong 4 place None numbers e k 0 l in
    let n = slice_index numbers k in
    let bounds = and_parts (nat_le 1 n) (nat_le n (2 ^ 24)) (chosen (nat_le 1 n && nat_le n (2 ^ 24)) 0 w.1) in
    (leb-true 1 n bounds.0, leb-true n (2 ^ 24) bounds.1)

pub tested-places : (top : ℕ) (numbers : List ℕ) (place : ℕ) → first_wrong (place_wrong top) 4 place None numbers ≡ None → (k : ℕ) → k < length numbers → slice_index numbers k ≤ top
tested-places top numbers place e k l =
    let w = none_wrong (place_wrong top) 4 place None numbers e k 0 l in
    leb-true (slice_index numbers k) top (chosen (nat_le (slice_index numbers k) top) 0 w.1)

pub tested-links : (own : ℕ) (others : Others) (links : List Link) (place : ℕ) → first_wrong (link_wrong own others) 12 place None links ≡ None
    → All (λ link. ends_wrong own (neighbour others link.axis) link ≡ None) links
tested-links own others links place e k d l =
    let w = none_wrong (link_wrong own others) 12 place None links e k d l in
    let link = get_or links k d in
    (chosen_then (is_next w.0 link) (ends_wrong own (neighbour others link.axis) link) 0 w.1).1

part_tests : (voxels : ℕ) (before : Option Part) (p : Part) → part_wrong voxels before p ≡ None → (p.first < voxels) × (1 ≤ p.label)
part_tests voxels before p e =
    let w = chosen_then (is_after before p.first && nat_lt p.first voxels) (if p.label == 0 then Some 4 else None) 0 e in
    let bounds = and_parts (is_after before p.first) (nat_lt p.first voxels) w.0 in
    let some : p.label ≡ 0 → ⊥ = eqb-false p.label 0 (not_chosen (p.label == 0) 4 w.1) in
    (ltb-true p.first voxels bounds.1, omega (arith, some))

nothing : Part
nothing = record { first = 0; label = 0 }

pub tested-firsts : (voxels : ℕ) (parts : List Part) (place : ℕ) → first_wrong (part_wrong voxels) 12 place None parts ≡ None
    → (k : ℕ) → k < length (map first_of parts) → slice_index (map first_of parts) k < voxels
tested-firsts voxels parts place e k l =
    let within : k < length parts = subst (λ n. k < n) (length-map parts first_of) l in
    let w = none_wrong (part_wrong voxels) 12 place None parts e k nothing within in
    subst (λ n. n < voxels) (sym (get_or-map first_of parts k nothing 0 within)) (part_tests voxels w.0 (get_or parts k nothing) w.1).0

pub tested-labels : (voxels : ℕ) (parts : List Part) (place : ℕ) → first_wrong (part_wrong voxels) 12 place None parts ≡ None
    → (k : ℕ) → k < length (map label_of parts) → 1 ≤ slice_index (map label_of parts) k
tested-labels voxels parts place e k l =
    let within : k < length parts = subst (λ n. k < n) (length-map parts label_of) l in
    let w = none_wrong (part_wrong voxels) 12 place None parts e k nothing within in
    subst (λ n. 1 ≤ n) (sym (get_or-map label_of parts k nothing 0 within)) (part_tests voxels w.0 (get_or parts k nothing) w.1).1
