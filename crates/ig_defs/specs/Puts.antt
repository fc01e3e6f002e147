-- What stands at a path once files were put.
use Rattle.std.specs.Prelude.{◌≡◌, ◌⊎◌, ℕ, Bool, true, false, cond, List, [], ◌∷◌, ◌++◌, Some, refl}
use Rattle.std.proofs.Common.{arith, inl, inr, true≢false, ap, subst, sym, ◌∙◌}
use Rattle.std.proofs.lemmas.Bool.{cases_Bool}
use Rattle.std.proofs.lemmas.List.Elements.{Contains-append_cases, Contains-append_left, Contains-append_right, Contains-push, Contains-push_cases}
use Rattle.std.proofs.lemmas.Map.Text.{is_eq-slice_cmp}
use Rattle.std.proofs.lemmas.Slice.Eq.{bytes_eq-Decides}
use Rattle.std.specs.Bool.{Decides}
use Rattle.std.specs.List.{Contains}
use Rattle.std.specs.Str.{bytes_eq}
use Rattle.std.specs.Ordering.{nat_cmp, eq_by_cmp}
use Rattle.std.specs.Cmp.Lexicographic.{slice_cmp, nat_list_cmp_total}
use Rattle.std.specs.FinMap as map
use Rattle.ig_defs.specs.Files.{Files, file_at}
use Rattle.ig_defs.specs.Own.{File, put_all}

-- ---- one file
same : map.IsAntisymmetric (slice_cmp nat_cmp)
same = map.slice_cmp-IsAntisymmetric map.nat_cmp-IsAntisymmetric

decided : {P : Type 0} (b : Bool) → Decides b P → P ⊎ (P → ⊥)
decided true d = inl (d.0 refl)
decided false d = inr (λ p. true≢false (sym (d.1 p)))

-- whether two paths are equal
pub cases_path : (p q : List ℕ) → (p ≡ q) ⊎ (p ≡ q → ⊥)
cases_path p q = decided (bytes_eq p q) (bytes_eq-Decides p q)

-- the test of the map
tied : (path other : List ℕ) → path ≡ other → eq_by_cmp (slice_cmp nat_cmp) path other ≡ true
tied path other e = is_eq-slice_cmp path other ∙ (bytes_eq-Decides path other).1 e

not_from : (path other : List ℕ) → (bytes_eq path other ≡ true) ⊎ (bytes_eq path other ≡ false) → (path ≡ other → ⊥) → bytes_eq path other ≡ false
not_from path other (inl e) differ = absurd (differ ((bytes_eq-Decides path other).0 e))
not_from path other (inr e) differ = e

not_tied : (path other : List ℕ) → (path ≡ other → ⊥) → eq_by_cmp (slice_cmp nat_cmp) path other ≡ false
not_tied path other differ =
    is_eq-slice_cmp path other ∙ not_from path other (cases_Bool (bytes_eq path other)) differ

-- the file that was put stands at its path
pub file_at-put : (now : Files) (path other bytes : List ℕ) → path ≡ other → file_at (map.insert now other bytes) path ≡ Some bytes
file_at-put now path other bytes e = map.get-insert nat_list_cmp_total now other bytes path ∙ ap (λ b. cond b (Some bytes) (map.get now path)) (tied path other e)

-- any other path has what it had
pub file_at-other : (now : Files) (path other bytes : List ℕ) → (path ≡ other → ⊥) → file_at (map.insert now other bytes) path ≡ file_at now path
file_at-other now path other bytes differ = map.get-insert nat_list_cmp_total now other bytes path ∙ ap (λ b. cond b (Some bytes) (map.get now path)) (not_tied path other differ)

-- ---- many
pub put_all-append : (now : Files) (xs ys : List File) → put_all now (xs ++ ys) ≡ put_all (put_all now xs) ys
put_all-append now [] ys = refl
put_all-append now (x ∷ xs) ys = put_all-append (map.insert now x.path x.bytes) xs ys

-- files of one path are one
abbrev pub HasOnePerPath : List File → Type 0
HasOnePerPath files = (f g : File) → Contains files f → Contains files g → f.path ≡ g.path → f.bytes ≡ g.bytes

-- no file of the list has the path
abbrev pub IsApart : List File → List ℕ → Type 0
IsApart files path = (f : File) → Contains files f → f.path ≡ path → ⊥

-- a file of the list that has the path
pub record FileAt (files : List File) (path : List ℕ) : Type 0 where
  pub file : File
  pub one : Contains files file
  pub at : file.path ≡ path

first_in : (x : File) (xs : List File) → Contains (x ∷ xs) x
first_in x xs = Contains-append_left (x ∷ []) xs x (Contains-push [] x)

later_in : (x : File) (xs : List File) (f : File) → Contains xs f → Contains (x ∷ xs) f
later_in x xs f h = Contains-append_right (x ∷ []) xs f h

nothing_in : (f : File) → Contains [] f → ⊥
nothing_in f h = absurd (omega (arith, h.1))

only_in : (x f : File) → Contains [] f ⊎ (x ≡ f) → x ≡ f
only_in x f (inl h) = absurd (nothing_in f h)
only_in x f (inr e) = e

first_or_later : (x : File) (xs : List File) (f : File) → Contains (x ∷ []) f ⊎ Contains xs f → (x ≡ f) ⊎ Contains xs f
first_or_later x xs f (inl h) = inl (only_in x f (Contains-push_cases [] x f h))
first_or_later x xs f (inr h) = inr h

cases_in : (x : File) (xs : List File) (f : File) → Contains (x ∷ xs) f → (x ≡ f) ⊎ Contains xs f
cases_in x xs f h = first_or_later x xs f (Contains-append_cases (x ∷ []) xs f h)

apart_from : (x : File) (xs : List File) (path : List ℕ) → (x.path ≡ path → ⊥) → IsApart xs path → (f : File) → (x ≡ f) ⊎ Contains xs f → f.path ≡ path → ⊥
apart_from x xs path first later f (inl e) is = first (ap (λ (g : File). g.path) e ∙ is)
apart_from x xs path first later f (inr h) is = later f h is

file_from : (x : File) (xs : List File) (path : List ℕ) → (x.path ≡ path) ⊎ (x.path ≡ path → ⊥) → FileAt xs path ⊎ IsApart xs path → FileAt (x ∷ xs) path ⊎ IsApart (x ∷ xs) path
file_from x xs path (inl e) later = inl (record { file = x; one = first_in x xs; at = e })
file_from x xs path (inr none) (inl there) = inl (record { file = there.file; one = later_in x xs there.file there.one; at = there.at })
file_from x xs path (inr none) (inr apart) = inr (λ f h is. apart_from x xs path none apart f (cases_in x xs f h) is)

-- there is one, or none has it
pub cases_file : (files : List File) (path : List ℕ) → FileAt files path ⊎ IsApart files path
cases_file [] path = inr (λ f h is. nothing_in f h)
cases_file (x ∷ files) path = file_from x files path (cases_path x.path path) (cases_file files path)

-- a path that none has keeps its file
pub put_all-apart : (now : Files) (files : List File) (path : List ℕ) → IsApart files path → file_at (put_all now files) path ≡ file_at now path
put_all-apart now [] path apart = refl
put_all-apart now (x ∷ files) path apart =
    put_all-apart (map.insert now x.path x.bytes) files path (λ f h. apart f (later_in x files f h))
    ∙ file_at-other now path x.path x.bytes (λ e. apart x (first_in x files) (sym e))

has_later : (now : Files) (x : File) (xs : List File) (f : File) → HasOnePerPath (x ∷ xs) → Contains (x ∷ xs) f
    → ((g : File) → Contains xs g → file_at (put_all now xs) g.path ≡ Some g.bytes) → FileAt xs f.path → file_at (put_all now xs) f.path ≡ Some f.bytes
has_later now x xs f one h each there =
    let g = there.file in
    let is : file_at (put_all now xs) g.path ≡ Some f.bytes = each g there.one ∙ ap Some (one g f (later_in x xs g there.one) h there.at) in
    subst (λ path. file_at (put_all now xs) path ≡ Some f.bytes) there.at is

has_first : (now : Files) (x : File) (xs : List File) (f : File) → IsApart xs f.path → (x ≡ f) ⊎ Contains xs f
    → file_at (put_all (map.insert now x.path x.bytes) xs) f.path ≡ Some f.bytes
has_first now x xs f apart (inl e) =
    put_all-apart (map.insert now x.path x.bytes) xs f.path apart
    ∙ file_at-put now f.path x.path x.bytes (ap (λ (g : File). g.path) (sym e))
    ∙ ap (λ (g : File). Some g.bytes) e
has_first now x xs f apart (inr h) = absurd (apart f h refl)

has_from : (now : Files) (x : File) (xs : List File) (f : File) → HasOnePerPath (x ∷ xs) → Contains (x ∷ xs) f
    → ((g : File) → Contains xs g → file_at (put_all (map.insert now x.path x.bytes) xs) g.path ≡ Some g.bytes) → FileAt xs f.path ⊎ IsApart xs f.path
    → file_at (put_all (map.insert now x.path x.bytes) xs) f.path ≡ Some f.bytes
has_from now x xs f one h each (inl there) = has_later (map.insert now x.path x.bytes) x xs f one h each there
has_from now x xs f one h each (inr apart) = has_first now x xs f apart (cases_in x xs f h)

-- and each file of the list stands at its path
pub put_all-has : (now : Files) (files : List File) (f : File) → HasOnePerPath files → Contains files f → file_at (put_all now files) f.path ≡ Some f.bytes
put_all-has now [] f one h = absurd (nothing_in f h)
put_all-has now (x ∷ files) f one h =
    has_from now x files f one h
    (λ g there. put_all-has (map.insert now x.path x.bytes) files g (λ a b p q. one a b (later_in x files a p) (later_in x files b q)) there)
    (cases_file files f.path)

same_at : (now : Files) (xs ys : List File) (path : List ℕ) → HasOnePerPath ys
    → ((f : File) → Contains xs f → Contains ys f) → ((f : File) → Contains ys f → Contains xs f)
    → FileAt ys path ⊎ IsApart ys path → file_at (put_all now xs) path ≡ file_at (put_all now ys) path
same_at now xs ys path one into onto (inl there) =
    let f = there.file in
    let is : file_at (put_all now xs) f.path ≡ file_at (put_all now ys) f.path
    = put_all-has now xs f (λ a b p q. one a b (into a p) (into b q)) (onto f there.one) ∙ sym (put_all-has now ys f one there.one) in
    subst (λ p. file_at (put_all now xs) p ≡ file_at (put_all now ys) p) there.at is
same_at now xs ys path one into onto (inr apart) =
    put_all-apart now xs path (λ f h. apart f (into f h)) ∙ sym (put_all-apart now ys path apart)

-- lists of the same files leave the same
pub put_all-same : (now : Files) (xs ys : List File) → HasOnePerPath ys → ((f : File) → Contains xs f → Contains ys f) → ((f : File) → Contains ys f → Contains xs f)
    → put_all now xs ≡ put_all now ys
put_all-same now xs ys one into onto =
    map.same_map nat_list_cmp_total same _ _ (λ path. same_at now xs ys path one into onto (cases_file ys path))
