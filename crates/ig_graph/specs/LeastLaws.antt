-- Laws on the least joined number, and on parts.
use Rattle.std.proofs.Common.{ℕ, suc, ◌<◌, ◌≤◌, true, false, ◌≡◌, ◌↔◌, cond, sym, ap, ◌∙◌, subst, ◌⊎◌, inl, inr, arith}
use Rattle.std.proofs.lemmas.Bool.{and_parts, and_from, eqb-true, eq-eqb, cases_order, cases_Bool}
use Rattle.ig_graph.specs.Counts.{how_many}
use Rattle.ig_graph.specs.CountLaws.{IsFound, first_below-found, how_many-less}
use Rattle.ig_graph.specs.Graph.{Graph, is_in, IsSymmetric, Joined, reaches, least, is_root, part_of}
use Rattle.ig_graph.specs.PathLaws.{Joined-self, Joined-trans, Joined-sym, Joined-in, Joined-reaches, reaches-Joined, in-below}

least-found : (g : Graph) (p q : ℕ) → q < g.size → Joined g p q → IsFound (reaches g g.size p) g.size (least g p) q
least-found g p q below a = first_below-found (reaches g g.size p) g.size p q below (Joined-reaches g p q a)

pub least-joined : (g : Graph) (p : ℕ) → p < g.size → Joined g p (least g p)
least-joined g p below = reaches-Joined g p (least g p) (least-found g p p below (Joined-self g p)).passes

pub least-below : (g : Graph) (p : ℕ) → p < g.size → least g p < g.size
least-below g p below = (least-found g p p below (Joined-self g p)).below

pub least-least : (g : Graph) (p q : ℕ) → p < g.size → q < g.size → Joined g p q → least g p ≤ q
least-least g p q p_below q_below a = (least-found g p q q_below a).least

pub least-self : (g : Graph) (p : ℕ) → p < g.size → least g p ≤ p
least-self g p below = least-least g p p below below (Joined-self g p)

pub joined-same_least : (g : Graph) → IsSymmetric g → (p q : ℕ) → p < g.size → q < g.size → Joined g p q → least g p ≡ least g q
joined-same_least g both p q p_below q_below a =
    let here = Joined-trans g p q (least g q) a (least-joined g q q_below) in
    let there = Joined-trans g q p (least g p) (Joined-sym g both p q a) (least-joined g p p_below) in
    omega (arith, least-least g p (least g q) p_below (least-below g q q_below) here, least-least g q (least g p) q_below (least-below g p p_below) there)

pub same_least-joined : (g : Graph) → IsSymmetric g → (p q : ℕ) → p < g.size → q < g.size → least g p ≡ least g q → Joined g p q
same_least-joined g both p q p_below q_below e =
    Joined-trans g p (least g p) q (least-joined g p p_below)
    (subst (λ m. Joined g m q) (sym e) (Joined-sym g both q (least g q) (least-joined g q q_below)))

pub same_least : (g : Graph) → IsSymmetric g → (p q : ℕ) → p < g.size → q < g.size → (least g p ≡ least g q) ↔ Joined g p q
same_least g both p q p_below q_below = (same_least-joined g both p q p_below q_below, joined-same_least g both p q p_below q_below)

-- ---- roots
pub root-is : (g : Graph) (p : ℕ) → is_root g p ≡ true → least g p ≡ p
root-is g p h = eqb-true (least g p) p (and_parts _ _ h).1

pub root-in : (g : Graph) (p : ℕ) → is_root g p ≡ true → is_in g p ≡ true
root-in g p h = (and_parts _ _ h).0

pub is-root : (g : Graph) (p : ℕ) → is_in g p ≡ true → least g p ≡ p → is_root g p ≡ true
is-root g p h e = and_from _ _ h (eq-eqb (least g p) p e)

pub least-in : (g : Graph) (p : ℕ) → is_in g p ≡ true → is_in g (least g p) ≡ true
least-in g p h = Joined-in g p (least g p) (least-joined g p (in-below g p h)) h

pub least-least_same : (g : Graph) → IsSymmetric g → (p : ℕ) → p < g.size → least g (least g p) ≡ least g p
least-least_same g both p below = sym (joined-same_least g both p (least g p) below (least-below g p below) (least-joined g p below))

pub least-root : (g : Graph) → IsSymmetric g → (p : ℕ) → is_in g p ≡ true → is_root g (least g p) ≡ true
least-root g both p h = is-root g (least g p) (least-in g p h) (least-least_same g both p (in-below g p h))

-- ---- parts
pub part-is : (g : Graph) (p : ℕ) → is_in g p ≡ true → part_of g p ≡ suc (how_many (is_root g) (least g p))
part-is g p h = ap (λ b. cond b (suc (how_many (is_root g) (least g p))) 0) h

pub part-none : (g : Graph) (p : ℕ) → is_in g p ≡ false → part_of g p ≡ 0
part-none g p h = ap (λ b. cond b (suc (how_many (is_root g) (least g p))) 0) h

same_count : (g : Graph) (a b : ℕ) → is_root g a ≡ true → is_root g b ≡ true → how_many (is_root g) a ≡ how_many (is_root g) b → (a ≡ b) ⊎ ((a < b) ⊎ (b < a)) → a ≡ b
same_count g a b ra rb e (inl same) = same
same_count g a b ra rb e (inr (inl less)) = absurd (omega (arith, how_many-less (is_root g) a b less ra, e))
same_count g a b ra rb e (inr (inr more)) = absurd (omega (arith, how_many-less (is_root g) b a more rb, e))

pub same_part-joined : (g : Graph) → IsSymmetric g → (p q : ℕ) → is_in g p ≡ true → is_in g q ≡ true → part_of g p ≡ part_of g q → Joined g p q
same_part-joined g both p q hp hq e =
    let counts : suc (how_many (is_root g) (least g p)) ≡ suc (how_many (is_root g) (least g q)) = sym (part-is g p hp) ∙ e ∙ part-is g q hq in
    let same : how_many (is_root g) (least g p) ≡ how_many (is_root g) (least g q) = omega arith in
    same_least-joined g both p q (in-below g p hp) (in-below g q hq)
    (same_count g (least g p) (least g q) (least-root g both p hp) (least-root g both q hq) same (cases_order (least g p) (least g q)))

pub joined-same_part : (g : Graph) → IsSymmetric g → (p q : ℕ) → is_in g p ≡ true → is_in g q ≡ true → Joined g p q → part_of g p ≡ part_of g q
joined-same_part g both p q hp hq a =
    part-is g p hp ∙ ap (λ m. suc (how_many (is_root g) m)) (joined-same_least g both p q (in-below g p hp) (in-below g q hq) a) ∙ sym (part-is g q hq)

pub same_part : (g : Graph) → IsSymmetric g → (p q : ℕ) → is_in g p ≡ true → is_in g q ≡ true → (part_of g p ≡ part_of g q) ↔ Joined g p q
same_part g both p q hp hq = (same_part-joined g both p q hp hq, joined-same_part g both p q hp hq)

no_part-out : (g : Graph) (p : ℕ) → (is_in g p ≡ true) ⊎ (is_in g p ≡ false) → part_of g p ≡ 0 → is_in g p ≡ false
no_part-out g p (inl h) e = absurd (let none : suc (how_many (is_root g) (least g p)) ≡ 0 = sym (part-is g p h) ∙ e in omega arith)
no_part-out g p (inr h) e = h

pub no_part : (g : Graph) (p : ℕ) → (part_of g p ≡ 0) ↔ (is_in g p ≡ false)
no_part g p = (no_part-out g p (cases_Bool (is_in g p)), part-none g p)
