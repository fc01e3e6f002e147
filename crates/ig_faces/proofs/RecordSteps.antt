-- One step of the loops that read and write records.
use borrow.Rule.Slice.PartMut.{put_mid, post_of}
use Rattle.std.proofs.Common.{arith, ◌≡◌, ◌+◌, ◌-◌, ◌*◌, ◌<◌, ◌≤◌, ℕ, List, [], ◌∷◌, ◌++◌, length, take, drop, get_or, ap, sym, ◌∙◌, subst, append_assoc}
use Rattle.std.proofs.lemmas.List.{append-nil, drop-drop, drop_all, drop_at, length-drop, length-take-le, take_all, take_at, take_more, take_rest}
use Rattle.std.proofs.Math.Nat.{mul-le-mul_left}
use Rattle.std.specs.List.{flat_map}
use Rattle.ig_faces.specs.Records.{records_in, ReadsBack, AllReadBack}
use Rattle.ig_faces.proofs.RecordLaws.{AllReadBack-push, flat_map-push, length-text, records-more, records-text, text-more}

-- one record more is read
pub read-step : {A : Type 0} (read : List ℕ → A) (text : A → List ℕ) (each q p : ℕ) (bytes : List ℕ) (rs next : List A) (r : A) → q ≡ each → next ≡ rs ++ r ∷ []
    → rs ≡ records_in read each p bytes → flat_map text rs ≡ take (each * p) bytes
    → r ≡ read (take (length bytes - q * p) (drop (q * p) bytes)) → text r ≡ take each (take (length bytes - q * p) (drop (q * p) bytes))
    → (next ≡ records_in read each (p + 1) bytes) × (flat_map text next ≡ take (each * (p + 1)) bytes)
read-step read text each q p bytes rs next r same pushed so_far texts value own =
    let whole : take (length bytes - q * p) (drop (q * p) bytes) ≡ drop (each * p) bytes = take_rest bytes (q * p) ∙ ap (λ n. drop (n * p) bytes) same in
    let v : r ≡ read (drop (each * p) bytes) = value ∙ ap read whole in
    let t : text r ≡ take each (drop (each * p) bytes) = own ∙ ap (take each) whole in (
      pushed ∙ ap (λ l. l ++ r ∷ []) so_far ∙ ap (λ x. records_in read each p bytes ++ x ∷ []) v ∙ sym (records-more read each p bytes),
      ap (flat_map text) pushed ∙ text-more text each p rs r bytes texts t,
    )

-- the first records are one more
more_records : {A : Type 0} (xs : List A) (p : ℕ) (r : A) → p < length xs → r ≡ get_or xs p r → take (p + 1) xs ≡ take p xs ++ r ∷ []
more_records xs p r below at = take_more xs p r below ∙ ap (λ x. take p xs ++ x ∷ []) (sym at)

-- what is over the first bytes of the rest, put back
put_rest : (a e : ℕ) (front old bytes own new : List ℕ) → bytes ≡ front ++ drop a old → length front ≡ a
    → new ≡ own ++ drop e (take (length bytes - a) (drop a bytes)) → put_mid a (length bytes - a) bytes new ≡ (front ++ own) ++ drop (a + e) old
put_rest a e front old bytes own new is len put =
    let first : take a bytes ≡ front = ap (take a) is ∙ take_at front (drop a old) a len in
    let rest : drop a bytes ≡ drop a old = ap (drop a) is ∙ drop_at front (drop a old) a len in
    let none : post_of a (length bytes - a) bytes ≡ [] = drop_all (length bytes - a) (drop a bytes) (rw length-drop (omega arith)) in
    let mid : new ≡ own ++ drop (a + e) old = put ∙ ap (λ l. own ++ drop e l) (take_rest bytes a ∙ rest) ∙ ap (λ l. own ++ l) (drop-drop e a old) in
    ap (λ l. l ++ (new ++ post_of a (length bytes - a) bytes)) first ∙ ap (λ l. front ++ (new ++ l)) none ∙ ap (λ l. front ++ l) (append-nil new ∙ mid)
    ∙ sym (append_assoc front own (drop (a + e) old))

-- one record more is written
pub write-step : {A : Type 0} (read : List ℕ → A) (text : A → List ℕ) (each q p : ℕ) (xs : List A) (r : A) (old bytes new : List ℕ) → q ≡ each
    → p < length xs → r ≡ get_or xs p r → bytes ≡ flat_map text (take p xs) ++ drop (each * p) old → AllReadBack each read text (take p xs)
    → new ≡ text r ++ drop each (take (length bytes - q * p) (drop (q * p) bytes)) → ReadsBack each read text r
    → (put_mid (q * p) (length bytes - q * p) bytes new ≡ flat_map text (take (p + 1) xs) ++ drop (each * (p + 1)) old) × AllReadBack each read text (take (p + 1) xs)
write-step read text each q p xs r old bytes new same below at is all put back =
    let more = more_records xs p r below at in
    let len : length (flat_map text (take p xs)) ≡ each * p = length-text each read text (take p xs) all ∙ ap (λ n. each * n) (length-take-le p xs (omega arith)) in
    let there : q * p ≡ each * p = ap (λ n. n * p) same in
    let put' : new ≡ text r ++ drop each (take (length bytes - each * p) (drop (each * p) bytes)) = put ∙ ap (λ n. text r ++ drop each (take (length bytes - n) (drop n bytes))) there in
    let end : each * p + each ≡ each * (p + 1) = omega arith in (
      ap (λ n. put_mid n (length bytes - n) bytes new) there ∙ put_rest (each * p) each (flat_map text (take p xs)) old bytes (text r) new is len put'
          ∙ ap (λ n. (flat_map text (take p xs) ++ text r) ++ drop n old) end
          ∙ ap (λ l. l ++ drop (each * (p + 1)) old) (sym (ap (flat_map text) more ∙ flat_map-push text (take p xs) r)),
      subst (AllReadBack each read text) (sym more) (AllReadBack-push each read text (take p xs) r all back),
    )

-- all records are written
pub write-end : {A : Type 0} (read : List ℕ → A) (text : A → List ℕ) (each p : ℕ) (xs : List A) (old bytes : List ℕ) → length old ≡ each * length xs
    → length xs ≤ p → bytes ≡ flat_map text (take p xs) ++ drop (each * p) old → AllReadBack each read text (take p xs)
    → records_in read each (length xs) bytes ≡ xs
write-end read text each p xs old bytes whole end is all =
    let all_of : take p xs ≡ xs = take_all p xs end in
    let far : length old ≤ each * p = omega (arith, whole, mul-le-mul_left each end) in
    let texts : bytes ≡ flat_map text xs = is ∙ ap (λ l. flat_map text l ++ drop (each * p) old) all_of ∙ ap (λ l. flat_map text xs ++ l) (drop_all (each * p) old far) ∙ append-nil (flat_map text xs) in
    ap (records_in read each (length xs)) texts ∙ records-text each read text xs (subst (AllReadBack each read text) all_of all)
