-- A list of values with one more, and an object with one member changed.
use Rattle.std.proofs.Common.{◌≡◌, ◌≤◌, ℕ, suc, max, List, [], ◌∷◌, ◌++◌, Bool, true, false, ◌||◌, Option, Some, is_some, Ordering, Less, Equal, Greater, Vec, Global, refl, ap, subst, ◌∙◌, arith}
use Rattle.std.proofs.lemmas.Bool.{and_from, and_parts}
use Rattle.std.specs.Ordering.{nat_cmp, match_ordering}
use Rattle.std.specs.Cmp.Lexicographic.{slice_cmp}
use Rattle.serde_json.specs.Data.{Data, array, Items, no_items, item, Members, no_members, member, put, depth, items_depth, members_depth}
use Rattle.serde_json.specs.Find.{as_object, get_member}
use Rattle.serde_json.specs.Events.{items_len}
use Rattle.serde_json.specs.Written.{has_float, items_have_float, members_have_float}
use Rattle.serde_json.specs.View.{view, items_view}
use Rattle.serde_json.specs.declared.value.Value.{Value, Array}
use Rattle.serde_json.proofs.Views.{view-Array}
use Rattle.ig_info.specs.Added.{with_last}
use Rattle.ig_info.specs.Ascending.{ascends, items_ascend, members_ascend}
use Rattle.ig_info.specs.Whole.{all_objects}

items_view-with_last : (vs : List Value) (v : Value) → items_view (vs ++ v ∷ []) ≡ with_last (view v) (items_view vs)
items_view-with_last [] v = refl
items_view-with_last (x ∷ vs) v = ap (item (view x)) (items_view-with_last vs v)

pub view_longer : (all : Vec Value Global) (vs : List Value) (v : Value) (ds : Items) → all.items ≡ vs ++ v ∷ [] → items_view vs ≡ ds → view (Array all) ≡ array (with_last (view v) ds)
view_longer all vs v ds grew are =
    view-Array all ∙ ap array (ap items_view grew ∙ items_view-with_last vs v ∙ ap (with_last (view v)) are)

-- ---- items and one more

pub items_len-with_last : (d : Data) (ds : Items) → items_len (with_last d ds) ≡ suc (items_len ds)
items_len-with_last d no_items = refl
items_len-with_last d (item e ds) = ap suc (items_len-with_last d ds)

pub all_objects-with_last : (d : Data) (ds : Items) → is_some (as_object d) ≡ true → all_objects ds ≡ true → all_objects (with_last d ds) ≡ true
all_objects-with_last d no_items own all = and_from _ _ own refl
all_objects-with_last d (item e ds) own all =
    let parts = and_parts (is_some (as_object e)) (all_objects ds) all in
    and_from _ _ parts.0 (all_objects-with_last d ds own parts.1)

pub items_ascend-with_last : (d : Data) (ds : Items) → ascends d ≡ true → items_ascend ds ≡ true → items_ascend (with_last d ds) ≡ true
items_ascend-with_last d no_items own all = and_from _ _ own refl
items_ascend-with_last d (item e ds) own all =
    let parts = and_parts (ascends e) (items_ascend ds) all in
    and_from _ _ parts.0 (items_ascend-with_last d ds own parts.1)

pub items_depth-with_last : (d : Data) (ds : Items) → items_depth (with_last d ds) ≤ max (depth d) (items_depth ds)
items_depth-with_last d no_items = omega arith
items_depth-with_last d (item e ds) = let later = items_depth-with_last d ds in omega arith

neither : (a b : Bool) → a ≡ false → b ≡ false → (a || b) ≡ false
neither a b p q = rw p q

both_false : (a b : Bool) → (a || b) ≡ false → (a ≡ false) × (b ≡ false)
both_false true b e = absurd cc
both_false false b e = (refl, e)

pub items_have_float-with_last : (d : Data) (ds : Items) → has_float d ≡ false → items_have_float ds ≡ false → items_have_float (with_last d ds) ≡ false
items_have_float-with_last d no_items own all = neither _ _ own refl
items_have_float-with_last d (item e ds) own all =
    let parts = both_false (has_float e) (items_have_float ds) all in
    neither _ _ parts.0 (items_have_float-with_last d ds own parts.1)

-- ---- members, one of which was put

float_case : (r : Ordering) (k m : List ℕ) (d e : Data) (ms rest : Members) → has_float d ≡ false → has_float e ≡ false → members_have_float ms ≡ false → members_have_float rest ≡ false
    → members_have_float (match_ordering r (member k d (member m e ms)) (member m d ms) (member m e rest)) ≡ false
float_case Less k m d e ms rest own first all more = neither _ _ own (neither _ _ first all)
float_case Equal k m d e ms rest own first all more = neither _ _ own all
float_case Greater k m d e ms rest own first all more = neither _ _ first more

pub members_have_float-put : (k : List ℕ) (d : Data) (ms : Members) → has_float d ≡ false → members_have_float ms ≡ false → members_have_float (put k d ms) ≡ false
members_have_float-put k d no_members own all = neither _ _ own refl
members_have_float-put k d (member m e ms) own all =
    let parts = both_false (has_float e) (members_have_float ms) all in
    float_case (slice_cmp nat_cmp k m) k m d e ms (put k d ms) own parts.0 parts.1 (members_have_float-put k d ms own parts.1)

depth_case : (r : Ordering) (k m : List ℕ) (d e : Data) (ms rest : Members) → members_depth rest ≤ max (depth d) (members_depth ms)
    → members_depth (match_ordering r (member k d (member m e ms)) (member m d ms) (member m e rest)) ≤ max (depth d) (max (depth e) (members_depth ms))
depth_case Less k m d e ms rest later = omega arith
depth_case Equal k m d e ms rest later = omega arith
depth_case Greater k m d e ms rest later = omega arith

pub members_depth-put : (k : List ℕ) (d : Data) (ms : Members) → members_depth (put k d ms) ≤ max (depth d) (members_depth ms)
members_depth-put k d no_members = omega arith
members_depth-put k d (member m e ms) = depth_case (slice_cmp nat_cmp k m) k m d e ms (put k d ms) (members_depth-put k d ms)

-- ---- a member that is found

found_case : (r : Ordering) (e d : Data) (rest : Option Data) (P : Data → Type 0) → match_ordering r rest (Some e) rest ≡ Some d → P e → (rest ≡ Some d → P d) → P d
found_case Less e d rest P is here later = later is
found_case Equal e d rest P is here later = let same : e ≡ d = cc in subst P same here
found_case Greater e d rest P is here later = later is

pub get_member-ascends : (k : List ℕ) (ms : Members) (d : Data) → get_member k ms ≡ Some d → members_ascend ms ≡ true → ascends d ≡ true
get_member-ascends k no_members d is all = absurd cc
get_member-ascends k (member m e ms) d is all =
    let parts = and_parts (ascends e) _ all in
    let more = and_parts _ (members_ascend ms) parts.1 in
    found_case (slice_cmp nat_cmp k m) e d (get_member k ms) (λ x. ascends x ≡ true) is parts.0 (λ later. get_member-ascends k ms d later more.1)

deeper : (e d : Data) (n : ℕ) → depth d ≤ n → depth d ≤ max (depth e) n
deeper e d n h = omega arith

pub get_member-depth : (k : List ℕ) (ms : Members) (d : Data) → get_member k ms ≡ Some d → depth d ≤ members_depth ms
get_member-depth k no_members d is = absurd cc
get_member-depth k (member m e ms) d is =
    found_case (slice_cmp nat_cmp k m) e d (get_member k ms) (λ x. depth x ≤ max (depth e) (members_depth ms)) is (omega arith)
    (λ later. deeper e d (members_depth ms) (get_member-depth k ms d later))

pub get_member-whole : (k : List ℕ) (ms : Members) (d : Data) → get_member k ms ≡ Some d → members_have_float ms ≡ false → has_float d ≡ false
get_member-whole k no_members d is all = absurd cc
get_member-whole k (member m e ms) d is all =
    let parts = both_false (has_float e) (members_have_float ms) all in
    found_case (slice_cmp nat_cmp k m) e d (get_member k ms) (λ x. has_float x ≡ false) is parts.0 (λ later. get_member-whole k ms d later parts.1)
