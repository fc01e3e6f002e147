-- The members of data that was read are in the order of their names.
use Rattle.std.proofs.Common.{◌≡◌, ℕ, List, Option, Some, None, IfSome, true, false, refl, sym, ap, subst, ◌∙◌, Ordering, Less, Equal, Greater}
use Rattle.std.proofs.lemmas.Bool.{and_from, and_parts}
use Rattle.std.proofs.lemmas.Cmp.{nat_list_cmp_total}
use Rattle.std.specs.Prelude.{option_and_then, option_map}
use Rattle.std.specs.Ordering.{nat_cmp, match_ordering, ordering_reverse}
use Rattle.std.specs.Cmp.Lexicographic.{slice_cmp}
use Rattle.serde_json.specs.Data.{Data, Num, number, array, object, Items, item, Members, no_members, member, put}
use Rattle.serde_json.specs.Read.{of_json, of_items, of_members, max_depth, number_of, read}
use Rattle.json.specs.Lex.{tokens}
use Rattle.json.specs.Json as json
use Rattle.ig_info.specs.Ascending.{ascends, comes_before, comes_first, items_ascend, members_ascend}

-- what one name comes after, comes before it
before_it : (k l : List ℕ) → Greater ≡ slice_cmp nat_cmp k l → comes_before l k ≡ true
before_it k l after =
    ap (λ r. match_ordering r true false false) (nat_list_cmp_total.antisymm l k ∙ ap ordering_reverse (sym after))

-- the first of the members, one of which was put
first_case : (r : Ordering) (l k m : List ℕ) (d e : Data) (ms rest : Members) → comes_before l m ≡ true → comes_before l k ≡ true
    → comes_first l (match_ordering r (member k d (member m e ms)) (member m d ms) (member m e rest)) ≡ true
first_case Less l k m d e ms rest first new = new
first_case Equal l k m d e ms rest first new = first
first_case Greater l k m d e ms rest first new = first

comes_first-put : (l k : List ℕ) (d : Data) (ms : Members) → comes_first l ms ≡ true → comes_before l k ≡ true → comes_first l (put k d ms) ≡ true
comes_first-put l k d no_members first new = new
comes_first-put l k d (member m e ms) first new = first_case (slice_cmp nat_cmp k m) l k m d e ms (put k d ms) first new

put_case : (r : Ordering) (k m : List ℕ) (d e : Data) (ms rest : Members) → r ≡ slice_cmp nat_cmp k m → ascends d ≡ true → members_ascend (member m e ms) ≡ true
    → (r ≡ Greater → comes_first m rest ≡ true) → members_ascend rest ≡ true
    → members_ascend (match_ordering r (member k d (member m e ms)) (member m d ms) (member m e rest)) ≡ true
put_case Less k m d e ms rest is own all first more = and_from _ _ own (and_from _ _ (ap (λ r. match_ordering r true false false) (sym is)) all)
put_case Equal k m d e ms rest is own all first more = and_from _ _ own ((and_parts (ascends e) _ all).1)
put_case Greater k m d e ms rest is own all first more = and_from _ _ ((and_parts (ascends e) _ all).0) (and_from _ _ (first refl) more)

pub members_ascend-put : (k : List ℕ) (d : Data) (ms : Members) → ascends d ≡ true → members_ascend ms ≡ true → members_ascend (put k d ms) ≡ true
members_ascend-put k d no_members own all = and_from _ _ own refl
members_ascend-put k d (member m e ms) own all =
    let parts = and_parts (comes_first m ms) (members_ascend ms) ((and_parts (ascends e) _ all).1) in
    put_case (slice_cmp nat_cmp k m) k m d e ms (put k d ms) refl own all
    (λ after. comes_first-put m k d ms parts.0 (before_it k m (sym after)))
    (members_ascend-put k d ms own parts.1)

-- ---- what is read of a JSON text

mapped : {A B : Type 0} (f : A → B) (o : Option A) (P : A → Type 0) (Q : B → Type 0) → ((a : A) → P a → Q (f a)) → IfSome o P → IfSome (option_map f o) Q
mapped f None P Q step h = tt
mapped f (Some a) P Q step h = step a h

chained : {A B : Type 0} (f : A → Option B) (o : Option A) (P : A → Type 0) (Q : B → Type 0) → ((a : A) → P a → IfSome (f a) Q) → IfSome o P → IfSome (option_and_then f o) Q
chained f None P Q step h = tt
chained f (Some a) P Q step h = step a h

abbrev Ascends : Data → Type 0
Ascends d = ascends d ≡ true

abbrev ItemsAscend : Items → Type 0
ItemsAscend ds = items_ascend ds ≡ true

abbrev MembersAscend : Members → Type 0
MembersAscend ms = members_ascend ms ≡ true

number_ascends : (o : Option Num) → IfSome (option_map number o) Ascends
number_ascends None = tt
number_ascends (Some n) = refl

mutual
  of_json-ascends : (j : json.Json) → IfSome (of_json j) Ascends
  of_json-ascends json.null = refl
  of_json-ascends (json.boolean b) = refl
  of_json-ascends (json.number s) = number_ascends (number_of s)
  of_json-ascends (json.string s) = refl
  of_json-ascends (json.array js) = mapped array (of_items js) ItemsAscend Ascends (λ ds h. h) (of_items-ascend js)
  of_json-ascends (json.object ms) = mapped object (of_members ms no_members) MembersAscend Ascends (λ ns h. h) (of_members-ascend ms no_members refl)

  of_items-ascend : (js : json.Items) → IfSome (of_items js) ItemsAscend
  of_items-ascend json.no_items = refl
  of_items-ascend (json.item j js) =
      chained (λ d. option_map (item d) (of_items js)) (of_json j) Ascends ItemsAscend
      (λ d own. mapped (item d) (of_items js) ItemsAscend ItemsAscend (λ ds more. and_from _ _ own more) (of_items-ascend js))
      (of_json-ascends j)

  of_members-ascend : (ms : json.Members) (found : Members) → members_ascend found ≡ true → IfSome (of_members ms found) MembersAscend
  of_members-ascend json.no_members found h = h
  of_members-ascend (json.member k j ms) found h =
      chained (λ d. of_members ms (put k d found)) (of_json j) Ascends MembersAscend
      (λ d own. of_members-ascend ms (put k d found) (members_ascend-put k d found own h))
      (of_json-ascends j)

read_ascends : (o : Option json.Json) (d : Data) → option_and_then of_json o ≡ Some d → ascends d ≡ true
read_ascends None d e = absurd cc
read_ascends (Some j) d e = subst (λ r. IfSome r Ascends) e (of_json-ascends j)

-- the data of a text is in order
pub read-ascends : (text : List ℕ) (d : Data) → read text ≡ Some d → ascends d ≡ true
read-ascends text d e = read_ascends (option_and_then (λ p. json.if_last p.0 p.1) (json.value max_depth (tokens text))) d e
