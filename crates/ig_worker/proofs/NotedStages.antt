-- The stages that a worker knows, as the map's entries and as the list.
use Rattle.std.proofs.Common.{arith, ◌≡◌, ◌<◌, ◌⊎◌, inl, inr, ℕ, ◌==◌, nat_lt, Bool, true, false, cond, [], ◌∷◌, Option, Some, All, refl, ap, sym, subst, ◌∙◌, if◌then◌else◌}
use Rattle.std.proofs.lemmas.Bool.{cases_order, eq-eqb, eqb-true, lt-ltb, le-ltb, ne_eqb}
use Rattle.std.proofs.lemmas.Option.{none-some}
use Rattle.std.proofs.lemmas.List.Elements.{All-cons, All-head, All-tail}
use Rattle.std.specs.BTreeMap.{insert_entry, is_at}
use Rattle.std.specs.Map.{lookup}
use Rattle.std.specs.Ordering.{is_eq, match_ordering, nat_cmp}
use Rattle.std.specs.declared.cmp.Ordering.TheVariants.{Less, Equal, Greater}
use Rattle.ig_record.specs.declared.stage.Stage.{Stage}
use Rattle.ig_worker.specs.Fit.{IsStage}
use Rattle.ig_worker.specs.Stages.{Known, stage_in, with_stage}

-- ---- one comparison
below_is : (n m : ℕ) → n < m → nat_cmp n m ≡ Less
below_is n m less = ap (λ b. cond b Less (cond (n == m) Equal Greater)) (lt-ltb n m less)

same_is : (n m : ℕ) → n ≡ m → nat_cmp n m ≡ Equal
same_is n m e = ap (λ b. cond b Less (cond (n == m) Equal Greater)) (le-ltb n m (omega (arith, e))) ∙ ap (λ b. cond b Equal Greater) (eq-eqb n m e)

above_is : (n m : ℕ) → m < n → nat_cmp n m ≡ Greater
above_is n m more =
    ap (λ b. cond b Less (cond (n == m) Equal Greater)) (le-ltb n m (omega (arith, more))) ∙ ap (λ b. cond b Equal Greater) (ne_eqb n m (λ e. absurd (omega (arith, e, more))))

apart : (n m : ℕ) → n < m → (m == n) ≡ false
apart n m less = ne_eqb m n (λ e. absurd (omega (arith, e, less)))

apart_back : (n m : ℕ) → m < n → (m == n) ≡ false
apart_back n m more = ne_eqb m n (λ e. absurd (omega (arith, e, more)))

-- ---- a look
look_by : (n m : ℕ) (s : Stage) (rest found : Option Stage) → rest ≡ found → (n ≡ m) ⊎ ((n < m) ⊎ (m < n)) → cond (is_at (nat_cmp n) m) (Some s) rest ≡ (if m == n then Some s else found)
look_by n m s rest found same (inl e) = ap (λ r. cond (is_eq r) (Some s) rest) (same_is n m e) ∙ sym (ap (λ b. if b then Some s else found) (eq-eqb m n (sym e)))
look_by n m s rest found same (inr (inl less)) = ap (λ r. cond (is_eq r) (Some s) rest) (below_is n m less) ∙ same ∙ sym (ap (λ b. if b then Some s else found) (apart n m less))
look_by n m s rest found same (inr (inr more)) = ap (λ r. cond (is_eq r) (Some s) rest) (above_is n m more) ∙ same ∙ sym (ap (λ b. if b then Some s else found) (apart_back n m more))

pub look_is : (known : Known) (n : ℕ) → lookup (is_at (nat_cmp n)) known ≡ stage_in known n
look_is [] n = refl
look_is (r ∷ rest) n = look_by n r.0 r.1 (lookup (is_at (nat_cmp n)) rest) (stage_in rest n) (look_is rest n) (cases_order n r.0)

-- ---- a note
note_by : (n m : ℕ) (first same later : Known) → (n ≡ m) ⊎ ((n < m) ⊎ (m < n))
    → match_ordering (nat_cmp n m) first same later ≡ (if nat_lt n m then first else (if m == n then same else later))
note_by n m first same later (inl e) =
    ap (λ r. match_ordering r first same later) (same_is n m e)
    ∙ sym (ap (λ b. if b then first else (if m == n then same else later)) (le-ltb n m (omega (arith, e))) ∙ ap (λ b. if b then same else later) (eq-eqb m n (sym e)))
note_by n m first same later (inr (inl less)) =
    ap (λ r. match_ordering r first same later) (below_is n m less) ∙ sym (ap (λ b. if b then first else (if m == n then same else later)) (lt-ltb n m less))
note_by n m first same later (inr (inr more)) =
    ap (λ r. match_ordering r first same later) (above_is n m more)
    ∙ sym (ap (λ b. if b then first else (if m == n then same else later)) (le-ltb n m (omega (arith, more))) ∙ ap (λ b. if b then same else later) (apart_back n m more))

at_same : (n m : ℕ) (s : Stage) (rest : Known) (other : Known) → (if m == n then (m, s) ∷ rest else other) ≡ (if m == n then (n, s) ∷ rest else other)
at_same n m s rest other = by_test (m == n) refl
  where
    by_test : (b : Bool) → (m == n) ≡ b → (if b then (m, s) ∷ rest else other) ≡ (if b then (n, s) ∷ rest else other)
    by_test true e = ap (λ k. (k, s) ∷ rest) (eqb-true m n e)
    by_test false e = refl

pub note_is : (known : Known) (n : ℕ) (s : Stage) → insert_entry nat_cmp known n s ≡ with_stage n s known
note_is [] n s = refl
note_is (r ∷ rest) n s =
    ap (λ later. match_ordering (nat_cmp n r.0) ((n, s) ∷ r ∷ rest) ((r.0, s) ∷ rest) (r ∷ later)) (note_is rest n s)
    ∙ note_by n r.0 ((n, s) ∷ r ∷ rest) ((r.0, s) ∷ rest) (r ∷ with_stage n s rest) (cases_order n r.0)
    ∙ ap (λ (other : Known). if nat_lt n r.0 then (n, s) ∷ r ∷ rest else other) (at_same n r.0 s rest (r ∷ with_stage n s rest))

-- ---- what is so of each known stage
found_by : (r : ℕ × Stage) (n : ℕ) (s : Stage) (rest : Option Stage) (b : Bool) → (r.0 == n) ≡ b → IsStage r → (rest ≡ Some s → IsStage (n, s)) → (if b then Some r.1 else rest) ≡ Some s → IsStage (n, s)
found_by r n s rest true e here later is = let same : r.1 ≡ s = cc in let number = eqb-true r.0 n e in subst IsStage (λ i. (number i, same i)) here
found_by r n s rest false e here later is = later is

pub found_stage : (known : Known) (n : ℕ) (s : Stage) → All IsStage known → stage_in known n ≡ Some s → IsStage (n, s)
found_stage [] n s all is = absurd (none-some s is)
found_stage (r ∷ rest) n s all is =
    found_by r n s (stage_in rest n) (r.0 == n) refl (All-head IsStage r rest all) (found_stage rest n s (All-tail IsStage r rest all)) is

-- one more
each_by : (P : ℕ × Stage → Type 0) (n : ℕ) (s : Stage) (r : ℕ × Stage) (rest more : Known) (below same : Bool) → P (n, s) → All P (r ∷ rest) → All P more
    → All P (if below then (n, s) ∷ r ∷ rest else (if same then (n, s) ∷ rest else r ∷ more))
each_by P n s r rest more true same new all later = All-cons P (n, s) (r ∷ rest) new all
each_by P n s r rest more false true new all later = All-cons P (n, s) rest new (All-tail P r rest all)
each_by P n s r rest more false false new all later = All-cons P r more (All-head P r rest all) later

pub each_with : (P : ℕ × Stage → Type 0) (n : ℕ) (s : Stage) (known : Known) → P (n, s) → All P known → All P (with_stage n s known)
each_with P n s [] new all = All-cons P (n, s) [] new all
each_with P n s (r ∷ rest) new all = each_by P n s r rest (with_stage n s rest) (nat_lt n r.0) (r.0 == n) new all (each_with P n s rest new (All-tail P r rest all))
