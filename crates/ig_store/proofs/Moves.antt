-- Files once one of them was moved.
use Rattle.std.proofs.Common.{◌≡◌, ℕ, Bool, true, false, cond, List, Option, None, Some, refl, sym, ◌∙◌, ap, true≢false}
use Rattle.std.proofs.lemmas.Slice.Eq.{bytes_eq-Decides}
use Rattle.std.specs.Str.{bytes_eq}
use Rattle.std.specs.Ordering.{eq_by_cmp}
use Rattle.std.specs.Cmp.Lexicographic.{nat_list_cmp_total}
use Rattle.std.specs.FinMap as map
use Rattle.ig_defs.specs.Files.{Files}
use Rattle.ig_defs.specs.Log.{moved}
use Rattle.ig_store.proofs.Entries.{order, same, is_equal}

other_way : (gone here : Bool) (bytes : List ℕ) (found : Option (List ℕ)) → (gone ≡ true → here ≡ true → ⊥)
    → cond gone None (cond here (Some bytes) found) ≡ cond here (Some bytes) (cond gone None found)
other_way true true bytes found never = absurd (never refl refl)
other_way true false bytes found never = refl
other_way false true bytes found never = refl
other_way false false bytes found never = refl

-- put at its new path, and then taken from the old one
put_first : (files : Files) (from to bytes : List ℕ) → (from ≡ to → ⊥) → map.remove (map.insert files to bytes) from ≡ map.insert (map.remove files from) to bytes
put_first files from to bytes apart = map.same_map nat_list_cmp_total same _ _ (λ q.
    map.get-remove nat_list_cmp_total (map.insert files to bytes) from q
    ∙ ap (cond (eq_by_cmp order q from) None) (map.get-insert nat_list_cmp_total files to bytes q)
    ∙ other_way (eq_by_cmp order q from) (eq_by_cmp order q to) bytes (map.get files q) (λ a b. apart (sym (same q from (is_equal _ a)) ∙ same q to (is_equal _ b)))
    ∙ sym (ap (cond (eq_by_cmp order q to) (Some bytes)) (map.get-remove nat_list_cmp_total files from q))
    ∙ sym (map.get-insert nat_list_cmp_total (map.remove files from) to bytes q))

once : (here : Bool) (bytes : List ℕ) (found : Option (List ℕ)) → cond here (Some bytes) found ≡ cond here (Some bytes) (cond here None found)
once true bytes found = refl
once false bytes found = refl

-- put where it was
put_back : (files : Files) (path bytes : List ℕ) → map.insert files path bytes ≡ map.insert (map.remove files path) path bytes
put_back files path bytes = map.same_map nat_list_cmp_total same _ _ (λ q.
    map.get-insert nat_list_cmp_total files path bytes q
    ∙ once (eq_by_cmp order q path) bytes (map.get files q)
    ∙ sym (ap (cond (eq_by_cmp order q path) (Some bytes)) (map.get-remove nat_list_cmp_total files path q))
    ∙ sym (map.get-insert nat_list_cmp_total (map.remove files path) path bytes q))

pub moved_apart : (files : Files) (from to bytes : List ℕ) (found : Option (List ℕ)) → found ≡ Some bytes → bytes_eq from to ≡ false
    → map.remove (map.insert files to bytes) from ≡ moved files from to found
moved_apart files from to bytes found is apart =
    put_first files from to bytes (λ e. true≢false (sym ((bytes_eq-Decides from to).1 e) ∙ apart)) ∙ sym (ap (moved files from to) is)

pub moved_itself : (files : Files) (from to bytes : List ℕ) (found : Option (List ℕ)) → found ≡ Some bytes → bytes_eq from to ≡ true
    → map.insert files to bytes ≡ moved files from to found
moved_itself files from to bytes found is tied =
    put_back files to bytes
    ∙ ap (λ p. map.insert (map.remove files p) to bytes) (sym ((bytes_eq-Decides from to).0 tied))
    ∙ sym (ap (moved files from to) is)
