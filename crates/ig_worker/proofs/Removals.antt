-- Which directories known removals take away, in either order.
use Rattle.std.proofs.Common.{◌≡◌, ◌||◌, ◌&&◌, ◌==◌, not, ℕ, Bool, true, false, List, [], ◌∷◌, Option, Some, None, refl, ap, sym, ◌∙◌, eq-eqb, ne_eqb}
use Rattle.std.specs.List.{list_any}
use Rattle.std.specs.Str.{bytes_eq}
use Rattle.ig_record.specs.declared.stage.Stage.{Stage}
use Rattle.ig_record.specs.Columns.{is_among, removed_dir}
use Rattle.ig_worker.specs.Stages.{is_dir, is_removed, removes_among, removes_dir}

or_swap : (a b c d : Bool) → ((a || b) || (c || d)) ≡ ((a || c) || (b || d))
or_swap true b c d = refl
or_swap false true true d = refl
or_swap false true false d = refl
or_swap false false c d = refl

none_any : {A : Type 0} (xs : List A) → list_any (λ x. false) xs ≡ false
none_any [] = refl
none_any (x ∷ xs) = none_any xs

-- one of two tests
any_either : {A : Type 0} (P Q : A → Bool) (xs : List A) → list_any (λ x. P x || Q x) xs ≡ (list_any P xs || list_any Q xs)
any_either P Q [] = refl
any_either P Q (x ∷ xs) = ap (λ rest. (P x || Q x) || rest) (any_either P Q xs) ∙ or_swap (P x) (Q x) (list_any P xs) (list_any Q xs)

-- some pair passes, whichever list is gone through first
any_swap : {A B : Type 0} (P : A → B → Bool) (xs : List A) (ys : List B) → list_any (λ x. list_any (P x) ys) xs ≡ list_any (λ y. list_any (λ x. P x y) xs) ys
any_swap P [] ys = sym (none_any ys)
any_swap P (x ∷ xs) ys = ap (λ rest. list_any (P x) ys || rest) (any_swap P xs ys) ∙ sym (any_either (P x) (λ y. list_any (λ x. P x y) xs) ys)

pub removed-among : (known : List (ℕ × Stage)) (n : ℕ) (dirs : List (List ℕ)) → list_any (removes_among n dirs) known ≡ list_any (is_removed known n) dirs
removed-among known n dirs = any_swap (λ (r : ℕ × Stage) (dir : List ℕ). removes_dir n dir r) known dirs

-- of one stage
and_none : (b : Bool) → (b && false) ≡ false
and_none true = refl
and_none false = refl

and_or : (a b c : Bool) → ((a && b) || (a && c)) ≡ (a && (b || c))
and_or true b c = refl
and_or false b c = refl

pub among-none : (n other : ℕ) (stage : Stage) (dirs : List (List ℕ)) → removed_dir stage ≡ None → false ≡ removes_among n dirs (other, stage)
among-none n other stage [] none = refl
among-none n other stage (dir ∷ dirs) none =
    among-none n other stage dirs none ∙ ap (λ b. b || removes_among n dirs (other, stage)) (sym (ap (λ (o : Option (List ℕ)). not (other == n) && is_dir o dir) none ∙ and_none (not (other == n))))

pub among-some : (n other : ℕ) (stage : Stage) (dirs : List (List ℕ)) (removed : List ℕ) → removed_dir stage ≡ Some removed → (not (other == n) && is_among removed dirs) ≡ removes_among n dirs (other, stage)
among-some n other stage [] removed is = and_none (not (other == n))
among-some n other stage (dir ∷ dirs) removed is =
    sym (and_or (not (other == n)) (bytes_eq removed dir) (is_among removed dirs))
    ∙ ap (λ (o : Option (List ℕ)). (not (other == n) && is_dir o dir) || (not (other == n) && is_among removed dirs)) (sym is)
    ∙ ap (λ rest. removes_dir n dir (other, stage) || rest) (among-some n other stage dirs removed is)

-- where it is another stage, and where it is not
pub among-other : (n other : ℕ) (stage : Stage) (dirs : List (List ℕ)) (removed : List ℕ) → (other ≡ n → ⊥) → Some removed ≡ removed_dir stage → is_among removed dirs ≡ removes_among n dirs (other, stage)
among-other n other stage dirs removed differs is = ap (λ b. not b && is_among removed dirs) (sym (ne_eqb other n differs)) ∙ among-some n other stage dirs removed (sym is)

pub among-same : (n other : ℕ) (stage : Stage) (dirs : List (List ℕ)) (removed : List ℕ) → other ≡ n → Some removed ≡ removed_dir stage → not (other == n) ≡ removes_among n dirs (other, stage)
among-same n other stage dirs removed same is =
    let here : not (other == n) ≡ false = ap not (eq-eqb other n same) in
    here ∙ ap (λ b. b && is_among removed dirs) (sym here) ∙ among-some n other stage dirs removed (sym is)
