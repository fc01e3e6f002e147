-- Laws of records that stand one after the other.
use Rattle.std.proofs.Common.{arith, ◌≡◌, ◌+◌, ◌*◌, ℕ, zero, suc, List, [], ◌∷◌, ◌++◌, length, take, drop, refl, ap, sym, subst, length-append, append_assoc}
use Rattle.std.proofs.lemmas.List.{drop-drop, append-nil}
use Rattle.std.proofs.Math.Nat.{mul-zero}
use Rattle.std.proofs.Math.Seq.{drop-append_seam, take-add}
use Rattle.std.specs.List.{flat_map}
use Rattle.ig_faces.specs.Records.{records_in, ReadsBack, AllReadBack}

-- one record more
pub records-more : {A : Type 0} (read : List ℕ → A) (each n : ℕ) (bytes : List ℕ)
    → records_in read each (n + 1) bytes ≡ records_in read each n bytes ++ read (drop (each * n) bytes) ∷ []
records-more read each zero bytes = let e : each * 0 ≡ 0 = mul-zero each in rw e refl
records-more read each (suc n) bytes =
    let same : suc n + 1 ≡ suc (n + 1) = omega arith in
    let far : each + each * n ≡ each * suc n = omega arith in
    let rest = records-more read each n (drop each bytes) in
    rw (same, rest, drop-drop, far) refl

-- the records of their own text
pub records-text : {A : Type 0} (each : ℕ) (read : List ℕ → A) (text : A → List ℕ) (rs : List A) → AllReadBack each read text rs
    → records_in read each (length rs) (flat_map text rs) ≡ rs
records-text each read text [] all = refl
records-text each read text (r ∷ rs) all =
    let own = all.0.back (flat_map text rs) in
    let seam : drop each (text r ++ flat_map text rs) ≡ flat_map text rs =
    subst (λ n. drop n (text r ++ flat_map text rs) ≡ flat_map text rs) all.0.length (drop-append_seam (text r) (flat_map text rs)) in
    let rest = records-text each read text rs all.1 in
    rw (own, seam, rest) refl

-- the bytes of a text
pub length-text : {A : Type 0} (each : ℕ) (read : List ℕ → A) (text : A → List ℕ) (rs : List A) → AllReadBack each read text rs
    → length (flat_map text rs) ≡ each * length rs
length-text each read text [] all = sym (mul-zero each)
length-text each read text (r ∷ rs) all =
    let own = all.0.length in
    let rest = length-text each read text rs all.1 in
    rw (length-append, own, rest) (omega arith)

-- one record more gives itself back
pub AllReadBack-push : {A : Type 0} (each : ℕ) (read : List ℕ → A) (text : A → List ℕ) (rs : List A) (r : A) → AllReadBack each read text rs
    → ReadsBack each read text r → AllReadBack each read text (rs ++ r ∷ [])
AllReadBack-push each read text [] r all own = (own, tt)
AllReadBack-push each read text (x ∷ rs) r all own = (all.0, AllReadBack-push each read text rs r all.1 own)

-- the text of one record more
pub flat_map-push : {A : Type 0} (text : A → List ℕ) (rs : List A) (r : A) → flat_map text (rs ++ r ∷ []) ≡ flat_map text rs ++ text r
flat_map-push text [] r = append-nil (text r)
flat_map-push text (x ∷ rs) r = let rest = flat_map-push text rs r in rw (rest, append_assoc) refl

-- the text with one record more that stands at the begin of the rest
pub text-more : {A : Type 0} (text : A → List ℕ) (each p : ℕ) (rs : List A) (r : A) (bytes : List ℕ) → flat_map text rs ≡ take (each * p) bytes
    → text r ≡ take each (drop (each * p) bytes) → flat_map text (rs ++ r ∷ []) ≡ take (each * (p + 1)) bytes
text-more text each p rs r bytes e own =
    let far : each * (p + 1) ≡ each * p + each = omega arith in
    rw (far, take-add (each * p) each bytes, ← e, ← own) (flat_map-push text rs r)

-- there are as many records as were asked for
pub length-records_in : {A : Type 0} (read : List ℕ → A) (each n : ℕ) (bytes : List ℕ) → length (records_in read each n bytes) ≡ n
length-records_in read each zero bytes = refl
length-records_in read each (suc n) bytes = let rest = length-records_in read each n (drop each bytes) in ap suc rest
