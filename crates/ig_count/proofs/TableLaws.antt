-- A table is told by its tallies.
use Rattle.std.proofs.Common.{arith, ◌≡◌, ◌+◌, ◌<◌, ◌≤◌, ◌↔◌, ℕ, suc, List, [], ◌∷◌, ◌^◌, if◌then◌else◌, refl, ap, sym, ◌∙◌, subst, inl, inr, ◌⊎◌}
use Rattle.std.proofs.lemmas.Bool.{cases_eq, cases_order, eq-eqb, ne_eqb}
use Rattle.std.proofs.lemmas.List.Sums.{sum_by-cons}
use Rattle.ig_count.specs.declared.counts.LabelCount.{LabelCount}
use Rattle.ig_count.specs.CountsFile.{AreFew}
use Rattle.ig_count.specs.Tables.{AreCounts, IsFrom, IsListed, IsMerged, IsTable, tally, times, voxels_at}

pub first : (c : LabelCount) (cs : List LabelCount) (label : ℕ) → tally (c ∷ cs) label ≡ voxels_at label c + tally cs label
first c cs label = sum_by-cons (voxels_at label) c cs

pub own : (c : LabelCount) (label : ℕ) → c.label ≡ label → voxels_at label c ≡ c.voxels
own c label same = ap (λ b. if b then c.voxels else 0) (eq-eqb c.label label same)

none : (c : LabelCount) (label : ℕ) → (c.label ≡ label → ⊥) → voxels_at label c ≡ 0
none c label other = ap (λ b. if b then c.voxels else 0) (ne_eqb c.label label other)

-- a label below a table's first has no voxels
tally_below : (low label : ℕ) (cs : List LabelCount) → label < low → IsFrom low cs → tally cs label ≡ 0
tally_below low label [] below from = refl
tally_below low label (c ∷ cs) below from =
    let above : low ≤ c.label = from.0 in
    let rest = tally_below (suc c.label) label cs (omega arith) from.2 in
    omega (arith, first c cs label, none c label (λ same. omega (arith, same)), rest)

-- the first label of a table has its voxels alone
tally_first : (c : LabelCount) (cs : List LabelCount) → IsFrom (suc c.label) cs → tally (c ∷ cs) c.label ≡ c.voxels
tally_first c cs from =
    let rest = tally_below (suc c.label) c.label cs (omega arith) from in
    omega (arith, first c cs c.label, own c c.label refl, rest)

-- where the tallies are the same, no first label is below the other table's
not_below : (c d : LabelCount) (cs ds : List LabelCount) (low high : ℕ) → IsFrom low (c ∷ cs) → IsFrom high (d ∷ ds)
    → ((label : ℕ) → tally (c ∷ cs) label ≡ tally (d ∷ ds) label) → c.label < d.label → ⊥
not_below c d cs ds low high p q same less =
    let some : 1 ≤ c.voxels = p.1 in
    let here = tally_first c cs p.2 in
    let there = tally_below d.label c.label (d ∷ ds) less (omega arith, q.1, q.2) in
    omega (arith, same c.label, here, there)

heads : (c d : LabelCount) (cs ds : List LabelCount) (low high : ℕ) → IsFrom low (c ∷ cs) → IsFrom high (d ∷ ds)
    → ((label : ℕ) → tally (c ∷ cs) label ≡ tally (d ∷ ds) label) → (c.label ≡ d.label) ⊎ ((c.label < d.label) ⊎ (d.label < c.label)) → c.label ≡ d.label
heads c d cs ds low high p q same (inl e) = e
heads c d cs ds low high p q same (inr (inl less)) = absurd (not_below c d cs ds low high p q same less)
heads c d cs ds low high p q same (inr (inr more)) = absurd (not_below d c ds cs high low q p (λ label. sym (same label)) more)

same_item : (c d : LabelCount) → c.label ≡ d.label → c.voxels ≡ d.voxels → c ≡ d
same_item c d e f = λ i. record { label = e i; voxels = f i }

pub same-table : (low high : ℕ) (one other : List LabelCount) → IsFrom low one → IsFrom high other → ((label : ℕ) → tally one label ≡ tally other label) → one ≡ other
same-table low high [] [] p q same = refl
same-table low high [] (d ∷ ds) p q same =
    let some : 1 ≤ d.voxels = q.1 in
    let here = tally_first d ds q.2 in
    absurd (omega (arith, same d.label, here))
same-table low high (c ∷ cs) [] p q same =
    let some : 1 ≤ c.voxels = p.1 in
    let here = tally_first c cs p.2 in
    absurd (omega (arith, same c.label, here))
same-table low high (c ∷ cs) (d ∷ ds) p q same =
    let label = heads c d cs ds low high p q same (cases_order c.label d.label) in
    let voxels : c.voxels ≡ d.voxels = sym (tally_first c cs p.2) ∙ same c.label ∙ ap (tally (d ∷ ds)) label ∙ tally_first d ds q.2 in
    let item = same_item c d label voxels in
    let rest = same-table (suc c.label) (suc d.label) cs ds p.2 q.2
    (λ l. let equal = ap (voxels_at l) item in omega (arith, same l, first c cs l, first d ds l, equal)) in
    cc

pub one-table : (labels : List ℕ) (one other : List LabelCount) → AreCounts labels one → AreCounts labels other → one ≡ other
one-table labels one other p q = same-table 0 0 one other p.is_table q.is_table (λ label. p.each label ∙ sym (q.each label))

pub one-merged : (old more one other : List LabelCount) → IsMerged old more one → IsMerged old more other → one ≡ other
one-merged old more one other p q = same-table 0 0 one other p.is_table q.is_table (λ label. p.each label ∙ sym (q.each label))

-- ---- what a table lists
listed_has : (low label : ℕ) (cs : List LabelCount) → IsFrom low cs → IsListed label cs → 1 ≤ tally cs label
listed_has low label [] from h = absurd h
listed_has low label (c ∷ cs) from (inl same) = let some : 1 ≤ c.voxels = from.1 in omega (arith, first c cs label, own c label same)
listed_has low label (c ∷ cs) from (inr later) = omega (arith, first c cs label, listed_has (suc c.label) label cs from.2 later)

has_or : (label : ℕ) (c : LabelCount) (cs : List LabelCount) → (1 ≤ tally cs label → IsListed label cs) → 1 ≤ tally (c ∷ cs) label
    → (c.label ≡ label) ⊎ (c.label ≡ label → ⊥) → IsListed label (c ∷ cs)
has_or label c cs later h (inl same) = inl same
has_or label c cs later h (inr other) = inr (later (omega (arith, h, first c cs label, none c label other)))

has_listed : (label : ℕ) (cs : List LabelCount) → 1 ≤ tally cs label → IsListed label cs
has_listed label [] h = absurd (omega (arith, h))
has_listed label (c ∷ cs) h = has_or label c cs (has_listed label cs) h (cases_eq c.label label)

pub lists-labels : (labels : List ℕ) (counts : List LabelCount) → AreCounts labels counts → (label : ℕ) → (IsListed label counts ↔ 1 ≤ times labels label)
lists-labels labels counts are label = (
  λ listed. subst (λ n. 1 ≤ n) (are.each label) (listed_has 0 label counts are.is_table listed),
  λ occurs. has_listed label counts (subst (λ n. 1 ≤ n) (sym (are.each label)) occurs),
)

-- ---- tables with few voxels a label
few_or : (low label : ℕ) (c : LabelCount) (cs : List LabelCount) → IsFrom low (c ∷ cs) → c.voxels ≤ 2 ^ 44 → tally cs label ≤ 2 ^ 44
    → (c.label ≡ label) ⊎ (c.label ≡ label → ⊥) → tally (c ∷ cs) label ≤ 2 ^ 44
few_or low label c cs from here later (inl same) =
    let rest : tally cs c.label ≡ 0 = tally_below (suc c.label) c.label cs (omega arith) from.2 in
    let none : tally cs label ≡ 0 = ap (tally cs) (sym same) ∙ rest in
    omega (arith, first c cs label, own c label same, none, here)
few_or low label c cs from here later (inr other) = omega (arith, first c cs label, none c label other, later)

few_from : (low label : ℕ) (cs : List LabelCount) → IsFrom low cs → AreFew cs → tally cs label ≤ 2 ^ 44
few_from low label [] from few = omega arith
few_from low label (c ∷ cs) from few =
    few_or low label c cs from (few 0 c (omega arith)) (few_from (suc c.label) label cs from.2 (λ k d l. few (suc k) d (omega arith))) (cases_eq c.label label)

pub few-fit : (counts : List LabelCount) → IsTable counts → AreFew counts → (label : ℕ) → tally counts label ≤ 2 ^ 44
few-fit counts table few label = few_from 0 label counts table few
