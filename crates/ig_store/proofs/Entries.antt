-- Files as the entries of a map in the order of its keys.
use Rattle.std.proofs.Common.{◌≡◌, ℕ, Bool, true, false, cond, List, [], ◌∷◌, Option, None, Some, refl, sym, ◌∙◌, ap}
use Rattle.std.specs.Ordering.{nat_cmp, eq_by_cmp, is_eq}
use Rattle.std.specs.Cmp.{eq_by_cmp_equiv}
use Rattle.std.specs.Cmp.Lexicographic.{slice_cmp, nat_list_cmp_total}
use Rattle.std.specs.FinMap as map
use Rattle.std.specs.Map.{lookup, keys_of}
use Rattle.std.specs.BTreeMap.{is_at}
use Rattle.std.specs.List.{AllByRecursion}
use Rattle.std.specs.List.Sorted.{IsStrictlySortedBy}
use Rattle.std.specs.declared.cmp.Ordering.{Ordering}
use Rattle.std.specs.declared.cmp.Ordering.TheVariants.{Less, Equal, Greater}
use Rattle.ig_defs.specs.Files.{Files}

abbrev pub Entry : Type 0
Entry = List ℕ × List ℕ

abbrev pub order : List ℕ → List ℕ → Ordering
order = slice_cmp nat_cmp

pub same : map.IsAntisymmetric order
same = map.slice_cmp-IsAntisymmetric map.nat_cmp-IsAntisymmetric

find_is_lookup : (es : List Entry) (path : List ℕ) → map.find order path es ≡ lookup (is_at (order path)) es
find_is_lookup [] path = refl
find_is_lookup (e ∷ es) path = ap (cond (eq_by_cmp order path e.0) (Some e.1)) (find_is_lookup es path)

-- the file at a path is what a lookup finds
pub get-from_entries : (es : List Entry) (path : List ℕ) → map.get (map.from_entries {R = order} es) path ≡ lookup (is_at (order path)) es
get-from_entries es path = map.get-from_entries nat_list_cmp_total es path ∙ find_is_lookup es path

-- a new file, seen at each path
pub inserted : (before now : List Entry) (path bytes : List ℕ)
    → ((q : List ℕ) → lookup (is_at (order q)) now ≡ cond (is_at (order path) q) (Some bytes) (lookup (is_at (order q)) before))
    → map.from_entries {R = order} now ≡ map.insert (map.from_entries before) path bytes
inserted before now path bytes updates = map.same_map nat_list_cmp_total same _ _ (λ q.
    get-from_entries now q ∙ updates q ∙ ap (λ b. cond b (Some bytes) (lookup (is_at (order q)) before)) ((eq_by_cmp_equiv nat_list_cmp_total).symm path q)
    ∙ ap (cond (eq_by_cmp order q path) (Some bytes)) (sym (get-from_entries before q)) ∙ sym (map.get-insert nat_list_cmp_total (map.from_entries before) path bytes q))

-- a file less, seen at each path
pub removed : (before now : List Entry) (path : List ℕ)
    → ((q : List ℕ) → lookup (is_at (order q)) now ≡ cond (is_at (order path) q) None (lookup (is_at (order q)) before))
    → map.from_entries {R = order} now ≡ map.remove (map.from_entries before) path
removed before now path updates = map.same_map nat_list_cmp_total same _ _ (λ q.
    get-from_entries now q ∙ updates q ∙ ap (λ b. cond b None (lookup (is_at (order q)) before)) ((eq_by_cmp_equiv nat_list_cmp_total).symm path q)
    ∙ ap (cond (eq_by_cmp order q path) None) (sym (get-from_entries before q)) ∙ sym (map.get-remove nat_list_cmp_total (map.from_entries before) path q))

-- the files with these put in, one after the other
abbrev pub with_all : Files → List Entry → Files
with_all files [] = files
with_all files (e ∷ es) = with_all (map.insert files e.0 e.1) es

abbrev or_else : Option (List ℕ) → Option (List ℕ) → Option (List ℕ)
or_else None later = later
or_else (Some bytes) later = Some bytes

or_else-None : (found : Option (List ℕ)) → or_else found None ≡ found
or_else-None None = refl
or_else-None (Some bytes) = refl

-- no later path ties with the first
fresh : (first path : List ℕ) (es : List Entry) → order path first ≡ Equal → AllByRecursion (λ k. order first k ≡ Less) (keys_of es) → map.find order path es ≡ None
fresh first path [] tied above = refl
fresh first path (e ∷ es) tied above =
    ap (λ o. cond (is_eq o) (Some e.1) (map.find order path es)) (nat_list_cmp_total.congr path first e.0 tied ∙ above.0)
    ∙ fresh first path es tied above.1

pub is_equal : (o : Ordering) → is_eq o ≡ true → o ≡ Equal
is_equal Less h = cc
is_equal Equal h = refl
is_equal Greater h = cc

one_more : (files : Files) (e : Entry) (es : List Entry) (path : List ℕ) (tied : Bool) → eq_by_cmp order path e.0 ≡ tied
    → AllByRecursion (λ k. order e.0 k ≡ Less) (keys_of es)
    → or_else (map.find order path es) (cond tied (Some e.1) (map.get files path)) ≡ or_else (cond tied (Some e.1) (map.find order path es)) (map.get files path)
one_more files e es path true is above = ap (λ o. or_else o (Some e.1)) (fresh e.0 path es (is_equal _ is) above)
one_more files e es path false is above = refl

get-with_all : (files : Files) (es : List Entry) (path : List ℕ) → IsStrictlySortedBy order (keys_of es)
    → map.get (with_all files es) path ≡ or_else (map.find order path es) (map.get files path)
unfolding IsStrictlySortedBy
get-with_all files [] path sorted = refl
get-with_all files (e ∷ es) path sorted =
    get-with_all (map.insert files e.0 e.1) es path sorted.1
    ∙ ap (or_else (map.find order path es)) (map.get-insert nat_list_cmp_total files e.0 e.1 path)
    ∙ one_more files e es path (eq_by_cmp order path e.0) refl sorted.0

-- entries in order, put into no files
pub with_all-from_entries : (es : List Entry) → IsStrictlySortedBy order (keys_of es) → with_all map.empty es ≡ map.from_entries es
with_all-from_entries es sorted = map.same_map nat_list_cmp_total same _ _ (λ q.
    get-with_all map.empty es q sorted ∙ ap (or_else (map.find order q es)) (map.get-empty order q) ∙ or_else-None (map.find order q es)
    ∙ sym (map.get-from_entries nat_list_cmp_total es q))

-- a loop over the entries that has put in all of them
pub copied : (files copy : Files) (start rest entries : List Entry) → with_all copy rest ≡ with_all map.empty start → rest ≡ [] → start ≡ entries
    → IsStrictlySortedBy order (keys_of entries) → map.from_entries entries ≡ files → copy ≡ files
copied files copy start rest entries kept ended begun sorted seen =
    ap (with_all copy) (sym ended) ∙ kept ∙ ap (with_all map.empty) begun ∙ with_all-from_entries entries sorted ∙ seen
