-- The names that a walk over the paths gives.
use Rattle.std.proofs.Common.{◌≡◌, ◌≢◌, ℕ, Bool, true, false, cond, ◌==◌, if◌then◌else◌, List, [], ◌∷◌, ◌++◌, Option, None, Some, is_some, IfNone, MatchOption, Bor, All, Contains, refl, sym, ◌∙◌, ap, subst, eq-eqb}
use Rattle.std.proofs.lemmas.Bool.{eqb-true}
use Rattle.std.proofs.lemmas.List.{append-nil}
use Rattle.std.proofs.lemmas.Cmp.{tied_itself}
use Rattle.std.proofs.lemmas.List.Elements.{All-from_recursion, recursion_from_All, All-contains, All-push, Contains-push, Contains-append_left, Contains-append_right}
use Rattle.std.specs.Cmp.{nat_cmp_total}
use Rattle.std.specs.Ordering.{ordering_then, is_eq}
use Rattle.std.specs.List.{AllByRecursion, filter_map, cons_option}
use Rattle.std.specs.List.Sorted.{IsStrictlySortedBy}
use Rattle.std.specs.FinMap as map
use Rattle.std.specs.Map.{lookup, keys_of}
use Rattle.std.specs.BTreeMap.{is_at}
use Rattle.std.specs.declared.cmp.Ordering.TheVariants.{Less}
use Rattle.ig_space.specs.Path.{is_path, is_segment, joined}
use Rattle.ig_defs.specs.Names.{IsNameIn}
use Rattle.ig_defs.specs.Calls.{ListsNames}
use Rattle.ig_store.specs.Names.{name_in}
use Rattle.ig_store.proofs.Entries.{Entry, order, same, is_equal, get-from_entries}

cancel : (xs a b : List ℕ) → xs ++ a ≡ xs ++ b → a ≡ b
cancel [] a b e = e
cancel (x ∷ xs) a b e = cancel xs a b (cc)

-- no `/` comes after the directory
pub none_after : (dir path rest : List ℕ) (found : Option (Bor (List ℕ))) → path ≡ dir ++ rest
    → MatchOption found ((name : List ℕ) → rest ≢ 47 ∷ name) (λ name. rest ≡ 47 ∷ name.now) → IfNone found ((name : List ℕ) → path ≢ joined dir name)
none_after dir path rest None e lacks = λ name is. lacks name (cancel dir rest (47 ∷ name) (sym e ∙ is))
none_after dir path rest (Some name) e is = tt

-- a segment, if it is one
abbrev segment_of : Bool → List ℕ → Option (List ℕ)
segment_of is name = if is then Some name else None

name_in-joined : (dir name : List ℕ) → name_in dir (joined dir name) ≡ segment_of (is_segment name) name
name_in-joined [] name = refl
name_in-joined (d ∷ dir) name = ap (λ b. if b then name_in dir (joined dir name) else None) (eq-eqb d d refl) ∙ name_in-joined dir name

pub name_in-at : (dir path name : List ℕ) (is : Bool) → path ≡ joined dir name → is_segment name ≡ is → name_in dir path ≡ segment_of is name
name_in-at dir path name is e s = ap (name_in dir) e ∙ name_in-joined dir name ∙ ap (λ b. segment_of b name) s

at_slash : (c : ℕ) (rest name : List ℕ) (slash is : Bool) → (c == 47) ≡ slash → is_segment rest ≡ is
    → (if slash then segment_of is rest else None) ≡ Some name → (c ∷ rest ≡ 47 ∷ name) × (is_segment name ≡ true)
at_slash c rest name true true s i e =
    let c_is : c ≡ 47 = eqb-true c 47 s in
    let name_is : rest ≡ name = cc in
    ((λ k. c_is k ∷ name_is k), subst (λ n. is_segment n ≡ true) name_is i)
at_slash c rest name true false s i e = let no : ⊥ = cc in absurd no
at_slash c rest name false is s i e = let no : ⊥ = cc in absurd no

one_further : (d c : ℕ) (dir path name : List ℕ) (alike : Bool) → (d == c) ≡ alike
    → (name_in dir path ≡ Some name → (path ≡ joined dir name) × (is_segment name ≡ true))
    → (if alike then name_in dir path else None) ≡ Some name → (c ∷ path ≡ d ∷ joined dir name) × (is_segment name ≡ true)
one_further d c dir path name true s before e =
    let c_is : c ≡ d = sym (eqb-true d c s) in
    let rest = before e in
    ((λ k. c_is k ∷ rest.0 k), rest.1)
one_further d c dir path name false s before e = let no : ⊥ = cc in absurd no

pub joined-name_in : (dir path name : List ℕ) → name_in dir path ≡ Some name → (path ≡ joined dir name) × (is_segment name ≡ true)
joined-name_in [] [] name e = let no : ⊥ = cc in absurd no
joined-name_in [] (c ∷ path) name e = at_slash c path name (c == 47) (is_segment path) refl refl e
joined-name_in (d ∷ dir) [] name e = let no : ⊥ = cc in absurd no
joined-name_in (d ∷ dir) (c ∷ path) name e = one_further d c dir path name (d == c) refl (joined-name_in dir path name) e

pub name_in-none : (dir path : List ℕ) → ((name : List ℕ) → path ≢ joined dir name) → None ≡ name_in dir path
name_in-none dir path lacks =
    elim (name_in dir path) as (λ o. name_in dir path ≡ o → None ≡ o)
    [ None ↦ λ _. refl | Some name ↦ λ is. absurd (lacks name (joined-name_in dir path name is).0) ] refl

-- one more name
pub named-push : (dir path name : List ℕ) (names : List (List ℕ)) → Some name ≡ name_in dir path → is_path path ≡ true
    → All (IsNameIn dir) names → All (IsNameIn dir) (names ++ name ∷ [])
named-push dir path name names is whole all =
    let parts = joined-name_in dir path name (sym is) in
    All-push (IsNameIn dir) names name all (record { segment = parts.1; path = subst (λ p. is_path p ≡ true) parts.0 whole })

-- names in one directory come in the order of their paths
order-joined : (dir n m : List ℕ) → order (joined dir n) (joined dir m) ≡ order n m
order-joined [] n m = refl
order-joined (d ∷ dir) n m =
    ap (λ o. ordering_then o (order (joined dir n) (joined dir m))) (tied_itself nat_cmp_total d) ∙ order-joined dir n m

above : (dir path name : List ℕ) (paths : List (List ℕ)) → path ≡ joined dir name → AllByRecursion (λ p. order path p ≡ Less) paths
    → AllByRecursion (λ n. order name n ≡ Less) (filter_map (name_in dir) paths)
above dir path name [] e h = tt
above dir path name (p ∷ paths) e h =
    let rest : AllByRecursion (λ n. order name n ≡ Less) (filter_map (name_in dir) paths) = above dir path name paths e h.1 in
    elim (name_in dir p) as (λ o. name_in dir p ≡ o → AllByRecursion (λ n. order name n ≡ Less) (cons_option o (filter_map (name_in dir) paths))) [
      | None ↦ λ _. rest
      | Some n ↦ λ is. (sym (order-joined dir name n) ∙ ap (λ t. order t (joined dir n)) (sym e) ∙ ap (order path) (sym (joined-name_in dir p n is).0) ∙ h.0, rest)
    ] refl

names_sorted : (dir : List ℕ) (paths : List (List ℕ)) → IsStrictlySortedBy order paths → IsStrictlySortedBy order (filter_map (name_in dir) paths)
unfolding IsStrictlySortedBy
names_sorted dir [] h = tt
names_sorted dir (p ∷ paths) h =
    let rest = names_sorted dir paths h.1 in
    elim (name_in dir p) as (λ o. name_in dir p ≡ o → IsStrictlySortedBy order (cons_option o (filter_map (name_in dir) paths)))
    [ None ↦ λ _. rest | Some n ↦ λ is. (above dir p n paths (joined-name_in dir p n is).0 h.0, rest) ] refl

Contains-later : (o : Option (List ℕ)) (names : List (List ℕ)) (name : List ℕ) → Contains names name → Contains (cons_option o names) name
Contains-later None names name h = h
Contains-later (Some n) names name h = Contains-append_right (n ∷ []) names name h

-- a file that lies in the directory is named
each_named : (dir name : List ℕ) (es : List Entry) → is_segment name ≡ true → is_some (lookup (is_at (order (joined dir name))) es) ≡ true
    → Contains (filter_map (name_in dir) (keys_of es)) name
each_named dir name [] s h = let no : ⊥ = cc in absurd no
each_named dir name (e ∷ es) s h =
    let names : List (List ℕ) = filter_map (name_in dir) (keys_of es) in
    elim (is_eq (order (joined dir name) e.0)) as (λ b. is_eq (order (joined dir name) e.0) ≡ b
    → is_some (cond b (Some e.1) (lookup (is_at (order (joined dir name))) es)) ≡ true → Contains (cons_option (name_in dir e.0) names) name) [
      | true ↦ λ tied _.
          let at : e.0 ≡ joined dir name = sym (same _ _ (is_equal _ tied)) in
          let is : name_in dir e.0 ≡ Some name = name_in-at dir e.0 name true at s in
          subst (λ o. Contains (cons_option o names) name) (sym is) (Contains-append_left (name ∷ []) names name (Contains-push [] name))
      | false ↦ λ _ later. Contains-later (name_in dir e.0) names name (each_named dir name es s later)
    ] refl h

-- what holds of each path holds of each name
held : (P : List ℕ → Bool) (dir : List ℕ) (paths : List (List ℕ)) → AllByRecursion (λ p. P p ≡ true) paths
    → AllByRecursion (λ n. P (joined dir n) ≡ true) (filter_map (name_in dir) paths)
held P dir [] h = tt
held P dir (p ∷ paths) h =
    let rest : AllByRecursion (λ n. P (joined dir n) ≡ true) (filter_map (name_in dir) paths) = held P dir paths h.1 in
    elim (name_in dir p) as (λ o. name_in dir p ≡ o → AllByRecursion (λ n. P (joined dir n) ≡ true) (cons_option o (filter_map (name_in dir) paths)))
    [ None ↦ λ _. rest | Some n ↦ λ is. (subst (λ t. P t ≡ true) (joined-name_in dir p n is).0 h.0, rest) ] refl

-- a walk over the paths that has come to its end
pub listed : (dir : List ℕ) (names paths rest : List (List ℕ)) (es : List Entry)
    → names ++ filter_map (name_in dir) rest ≡ filter_map (name_in dir) paths → rest ≡ [] → paths ≡ keys_of es
    → IsStrictlySortedBy order (keys_of es) → All (λ p. is_some (lookup (is_at (order p)) es) ≡ true) (keys_of es)
    → All (IsNameIn dir) names → ListsNames dir names (map.from_entries es) []
listed dir names paths rest es kept ended whole sorted found named =
    let all : names ≡ filter_map (name_in dir) (keys_of es) =
    sym (append-nil names) ∙ ap (λ t. names ++ filter_map (name_in dir) t) (sym ended) ∙ kept ∙ ap (filter_map (name_in dir)) whole in
    let here : (p : List ℕ) → is_some (map.get (map.from_entries es) p) ≡ is_some (lookup (is_at (order p)) es) = λ p. ap is_some (get-from_entries es p) in
    let there : All (λ n. is_some (lookup (is_at (order (joined dir n))) es) ≡ true) names =
    subst (All (λ n. is_some (lookup (is_at (order (joined dir n))) es) ≡ true)) (sym all)
    (All-from_recursion _ _ (held (λ p. is_some (lookup (is_at (order p)) es)) dir (keys_of es) (recursion_from_All _ _ found))) in
    record {
      sorted = subst (IsStrictlySortedBy order) (sym all) (names_sorted dir (keys_of es) sorted);
      each = λ name stands. subst (λ t. Contains t name) (sym all) (each_named dir name es stands.named.segment (sym (here (joined dir name)) ∙ stands.there));
      only = λ name given. record {
        named = All-contains (IsNameIn dir) names name named given;
        there = here (joined dir name) ∙ All-contains (λ n. is_some (lookup (is_at (order (joined dir n))) es) ≡ true) names name there given;
      };
    }
