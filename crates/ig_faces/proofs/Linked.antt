-- Links in order, each once.
use Rattle.std.proofs.Common.{arith, ◌≡◌, ◌↔◌, ◌==◌, ◌&&◌, ◌+◌, ◌<◌, ◌⊎◌, inl, inr, ℕ, Bool, true, List, [], Option, Some, Contains, slice_index, refl, sym, ap, subst, eq-eqb, ◌∙◌}
use Rattle.std.proofs.Math.Nat.{eq-or-lt_of_le}
use Rattle.std.proofs.lemmas.Bool.{and_parts, and_from, eqb-true}
use Rattle.std.proofs.lemmas.List.Kept.{Contains-dedup, Contains-from_dedup, IsStrictlySortedBy-dedup}
use Rattle.std.proofs.lemmas.List.Sorted.{Contains-permutation, IsPermutation-sym}
use Rattle.std.specs.Cmp.{IsTotalOrder, both_ways, eq_by_cmp_equiv, on_total, Equal-is}
use Rattle.std.specs.Cmp.Lexicographic.{nat_list_cmp_total}
use Rattle.std.specs.FinMap.{slice_cmp-IsAntisymmetric, nat_cmp-IsAntisymmetric}
use Rattle.std.specs.List.{dedup}
use Rattle.std.specs.List.Sorted.{IsPermutation, IsSorted, IsStrictlySortedBy}
use Rattle.std.specs.Ordering.{eq_by_cmp}
use Rattle.ig_faces.specs.declared.links.Link.{Link}
use Rattle.ig_faces.specs.Linking.{HasOrIs, IsLinkedBelow, link_between, order, rank}

is_total : IsTotalOrder order
is_total = on_total rank nat_list_cmp_total

-- links of one rank are one
one_rank : (x y : Link) → rank x ≡ rank y → x ≡ y
one_rank x y e =
    let axis : x.axis ≡ y.axis = cc in
    let own : x.own ≡ y.own = cc in
    let other : x.other ≡ y.other = cc in
    λ i. record { axis = axis i; own = own i; other = other i }

tied_is : (x y : Link) → eq_by_cmp order x y ≡ true → x ≡ y
tied_is x y e = one_rank x y (slice_cmp-IsAntisymmetric nat_cmp-IsAntisymmetric (rank x) (rank y) ((Equal-is (order x y)).0 e))

-- the test whether links are equal, member by member
abbrev pub alike : Link → Link → Bool
alike x y = (x.axis == y.axis) && ((x.own == y.own) && (x.other == y.other))

alike_is : (x y : Link) → alike x y ≡ true → x ≡ y
alike_is x y e =
    let first = and_parts (x.axis == y.axis) _ e in
    let second = and_parts (x.own == y.own) _ first.1 in
    let axis = eqb-true x.axis y.axis first.0 in
    let own = eqb-true x.own y.own second.0 in
    let other = eqb-true x.other y.other second.1 in
    λ i. record { axis = axis i; own = own i; other = other i }

alike_itself : (x : Link) → alike x x ≡ true
alike_itself x =
    and_from (x.axis == x.axis) _ (eq-eqb x.axis x.axis refl) (and_from (x.own == x.own) _ (eq-eqb x.own x.own refl) (eq-eqb x.other x.other refl))

-- it is the order's
by_order : (x y : Link) → alike x y ≡ eq_by_cmp order x y
by_order x y =
    both_ways (alike x y) (eq_by_cmp order x y)
    (λ e. subst (λ z. eq_by_cmp order x z ≡ true) (alike_is x y e) ((eq_by_cmp_equiv is_total).refl x))
    (λ e. subst (λ z. alike x z ≡ true) (tied_is x y e) (alike_itself x))

dedup_by_order : (xs : List Link) → dedup alike xs ≡ dedup (eq_by_cmp order) xs
dedup_by_order xs = ap (λ test. dedup test xs) (λ i x y. by_order x y i)

-- sorted links without repeats rise
pub rises : (sorted xs : List Link) → xs ≡ dedup alike sorted → IsSorted order sorted → IsStrictlySortedBy order xs
rises sorted xs e up = subst (IsStrictlySortedBy order) (sym (e ∙ dedup_by_order sorted)) (IsStrictlySortedBy-dedup is_total (λ x y. refl) sorted up)

-- and they are the same links
pub same_links : (before sorted xs : List Link) → xs ≡ dedup alike sorted → IsPermutation before sorted → (link : Link) → Contains xs link ↔ Contains before link
same_links before sorted xs e moved link = (
  λ has. Contains-permutation sorted before link (IsPermutation-sym before sorted moved) (Contains-from_dedup alike sorted link (subst (λ ys. Contains ys link) e has)),
  λ has. subst (λ ys. Contains ys link) (sym (e ∙ dedup_by_order sorted))
      (Contains-dedup (eq_by_cmp_equiv is_total) tied_is sorted link (Contains-permutation before sorted link moved has)),
)

-- what is linked at one place more
found_before : (n axis : ℕ) (high low own other : List ℕ) (links next : List Link) (found : Option Link) (link : Link) → found ≡ link_between axis own other (slice_index high n) (slice_index low n)
    → Contains links link ⊎ (found ≡ Some link) → (Contains links link → IsLinkedBelow n axis high low own other link) → IsLinkedBelow (n + 1) axis high low own other link
found_before n axis high low own other links next found link is (inl has) to = let w = to has in (w.0, omega (arith, w.1), w.2)
found_before n axis high low own other links next found link is (inr here) to = (n, omega arith, sym is ∙ here)

found_place : (n k axis : ℕ) (high low own other : List ℕ) (links : List Link) (found : Option Link) (link : Link) → found ≡ link_between axis own other (slice_index high n) (slice_index low n)
    → link_between axis own other (slice_index high k) (slice_index low k) ≡ Some link → (IsLinkedBelow n axis high low own other link → Contains links link) → (k ≡ n) ⊎ (k < n)
    → HasOrIs links found link
found_place n k axis high low own other links found link is at from (inl same) =
    inr (is ∙ ap (λ m. link_between axis own other (slice_index high m) (slice_index low m)) (sym same) ∙ at)
found_place n k axis high low own other links found link is at from (inr before) = inl (from (k, before, at))

pub linked-more : (n axis : ℕ) (high low own other : List ℕ) (links next : List Link) (found : Option Link) → found ≡ link_between axis own other (slice_index high n) (slice_index low n)
    → ((link : Link) → Contains links link ↔ IsLinkedBelow n axis high low own other link) → ((link : Link) → Contains next link ↔ HasOrIs links found link)
    → (link : Link) → Contains next link ↔ IsLinkedBelow (n + 1) axis high low own other link
linked-more n axis high low own other links next found is so_far pushed link = (
  λ has. found_before n axis high low own other links next found link is ((pushed link).0 has) (so_far link).0,
  λ w. (pushed link).1 (found_place n w.0 axis high low own other links found link is w.2 (so_far link).1 (eq-or-lt_of_le (omega (arith, w.1)))),
)

pub linked-none : (axis : ℕ) (high low own other : List ℕ) (link : Link) → Contains {X = Link} [] link ↔ IsLinkedBelow 0 axis high low own other link
linked-none axis high low own other link = (λ has. absurd (omega (arith, has.1)), λ w. absurd (omega (arith, w.1)))

-- links in order, each once, are those that were found
pub linked-all : (Has : Link → Type 0) (all before arranged : List Link) → all ≡ arranged → ((link : Link) → Contains arranged link ↔ Contains before link)
    → ((link : Link) → Contains before link ↔ Has link) → (link : Link) → Contains all link ↔ Has link
linked-all Has all before arranged is same each link = (
  λ has. (each link).0 ((same link).0 (subst (λ l. Contains l link) is has)),
  λ h. subst (λ l. Contains l link) (sym is) ((same link).1 ((each link).1 h)),
)
