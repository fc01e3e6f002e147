-- An info with a scale added is one.
use Rattle.std.proofs.Common.{◌≡◌, ◌≤◌, ◌<◌, ◌+◌, true, false, List, [], ◌∷◌, ◌++◌, length, Option, Some, option_and_then, unwrap_or, Result, Ok, Err, codes, refl, ap, sym, subst, ◌∙◌, arith}
use Rattle.serde_json.specs.Data.{Data, array, object, Items, no_items, Members, put, depth}
use Rattle.serde_json.specs.Events.{items_len}
use Rattle.serde_json.specs.Find.{get, as_array}
use Rattle.serde_json.specs.Read.{max_depth}
use Rattle.serde_json.proofs.Views.{get_member-put}
use Rattle.ig_space.specs.declared.geometry.Width.{Width}
use Rattle.ig_info.specs.declared.error.InfoError.{InfoError}
use Rattle.ig_info.specs.declared.scale.Scale.{Scale}
use Rattle.ig_info.specs.Answer.{◌>>=◌}
use Rattle.ig_info.specs.Added.{HasWidth, with_last, members_with}
use Rattle.ig_info.specs.Ascending.{ascends}
use Rattle.ig_info.specs.Dest.{scale_data}
use Rattle.ig_info.specs.Info.{InfoData}
use Rattle.ig_info.specs.Reading.{IsInfo, info_of}
use Rattle.ig_info.specs.Scale.{scale_fits}
use Rattle.ig_info.specs.Scales.{has_key, scale_of, scales_after}
use Rattle.ig_info.specs.Whole.{head_of, items_of_scales, scales_of}
use Rattle.ig_info.proofs.Limits.{items_of_scales-few, head_of-whole, scales_after-length, scales_of-IsInfo}
use Rattle.ig_info.proofs.Ascends.{members_ascend-put}
use Rattle.ig_info.proofs.Longer.{items_ascend-with_last, items_depth-with_last, items_have_float-with_last, members_have_float-put, members_depth-put, get_member-ascends, get_member-depth, get_member-whole}
use Rattle.ig_info.proofs.OneMore.{scale-depth, scale-whole, scale-ordered, scale-object, scales_after-last, kind-put, head-kind, head-made, items-found, items-made, one-more_fits}
use Rattle.ig_info.proofs.ReadBack.{later_read_back}
use Rattle.ig_info.proofs.Widths.{scales_after-width, width_at}

-- what the reader found of an info
parts : (head : Result Width InfoError) (items : Result Items InfoError) (scales : List Scale) → (head >>= λ w. items >>= λ ds. scales_after w [] ds) ≡ Ok scales
    → (w : Width) × (ds : Items) × (head ≡ Ok w) × (items ≡ Ok ds) × (scales_after w [] ds ≡ Ok scales)
parts (Ok w) (Ok ds) scales e = (w, ds, refl, refl, e)
parts (Ok w) (Err x) scales e = absurd cc
parts (Err x) items scales e = absurd cc

parts_of : (d : Data) (scales : List Scale) → scales_of d ≡ Ok scales
    → (w : Width) × (ds : Items) × (head_of d ≡ Ok w) × (items_of_scales d ≡ Ok ds) × (scales_after w [] ds ≡ Ok scales)
unfolding scales_of
parts_of d scales e = parts (head_of d) (items_of_scales d) scales e

scales-made : (d : Data) (w : Width) (ds : Items) (scales : List Scale) → head_of d ≡ Ok w → items_of_scales d ≡ Ok ds → scales_after w [] ds ≡ Ok scales → scales_of d ≡ Ok scales
unfolding scales_of
scales-made d w ds scales h i e = rw (h, i, e) refl

scales_left : (m : Result (List Scale) InfoError) (d : Data) (i : InfoData) → (m >>= λ (scales : List Scale). Ok (record { members = d; scales = scales })) ≡ Ok i → m ≡ Ok i.scales
scales_left (Ok scales) d i e =
    let made : InfoData = record { members = d; scales = scales } in
    let same : made ≡ i = cc in
    ap (λ (j : InfoData). Ok j.scales) same
scales_left (Err x) d i e = absurd cc

scales-read : (d : Data) (i : InfoData) → info_of d ≡ Ok i → scales_of d ≡ Ok i.scales
unfolding info_of
scales-read d i e = scales_left (scales_of d) d i e

-- the list of an info with one more
abbrev longer : Scale → Items → Data
longer s ds = array (with_last (scale_data s) ds)

abbrev object_with : Scale → Items → Members → Data
object_with s ds ms = object (put (codes "scales") (longer s ds) ms)

object-reads : (ms : Members) (w : Width) (ds : Items) (scales : List Scale) (s : Scale) → head_of (object ms) ≡ Ok w → items_of_scales (object ms) ≡ Ok ds → scales_after w [] ds ≡ Ok scales
    → s.geometry.width ≡ w → has_key scales s.key ≡ false → length scales < 100 → scale_fits s ≡ true
    → scales_of (object_with s ds ms) ≡ Ok (scales ++ s ∷ [])
object-reads ms w ds scales s head items after wide new few fits =
    let e = s.geometry.encoding in
    let found = items-found (object ms) ds items in
    let whole = head_of-whole (object ms) w head in
    let list_whole = get_member-whole (codes "scales") ms (array ds) found whole in
    let float = members_have_float-put (codes "scales") (longer s ds) ms (items_have_float-with_last (scale_data s) ds (scale-whole e s) list_whole) whole in
    let count : length scales ≡ 0 + items_len ds = scales_after-length w [] ds scales after in
    let short : items_len ds < 100 = omega arith in
    scales-made (object_with s ds ms) w (with_last (scale_data s) ds) (scales ++ s ∷ [])
    (head-made (object_with s ds ms) w refl float (kind-put (longer s ds) ms ∙ head-kind (object ms) w head))
    (items-made (object_with s ds ms) (with_last (scale_data s) ds) (get_member-put (codes "scales") (longer s ds) ms)
    (one-more_fits ds (scale_data s) (scale-object e s) (items_of_scales-few (object ms) ds items) short))
    (scales_after-last w [] ds (scale_data s) scales s after (subst (λ (v : Width). scale_of v scales (scale_data s) ≡ Ok s) wide (later_read_back scales s fits new)))

object-shallow : (ms : Members) (ds : Items) (s : Scale) → get (codes "scales") (object ms) ≡ Some (array ds) → depth (object ms) ≤ max_depth → depth (object_with s ds ms) ≤ max_depth
object-shallow ms ds s found h =
    let own = scale-depth s.geometry.encoding s in
    let list = get_member-depth (codes "scales") ms (array ds) found in
    let grown = items_depth-with_last (scale_data s) ds in
    let all = members_depth-put (codes "scales") (longer s ds) ms in
    omega arith

object-ordered : (ms : Members) (ds : Items) (s : Scale) → get (codes "scales") (object ms) ≡ Some (array ds) → ascends (object ms) ≡ true → ascends (object_with s ds ms) ≡ true
object-ordered ms ds s found h =
    let list = get_member-ascends (codes "scales") ms (array ds) found h in
    members_ascend-put (codes "scales") (longer s ds) ms (items_ascend-with_last (scale_data s) ds (scale-ordered s.geometry.encoding s) list) h

object-IsInfo : (ms : Members) (w : Width) (ds : Items) (scales : List Scale) (s : Scale) → head_of (object ms) ≡ Ok w → items_of_scales (object ms) ≡ Ok ds → scales_after w [] ds ≡ Ok scales
    → s.geometry.width ≡ w → has_key scales s.key ≡ false → length scales < 100 → scale_fits s ≡ true → depth (object ms) ≤ max_depth → ascends (object ms) ≡ true
    → IsInfo (record { members = object_with s ds ms; scales = scales ++ s ∷ [] })
object-IsInfo ms w ds scales s head items after wide new few fits shallow ordered =
    let found = items-found (object ms) ds items in
    scales_of-IsInfo (object_with s ds ms) (scales ++ s ∷ []) (object-reads ms w ds scales s head items after wide new few fits)
    (object-shallow ms ds s found shallow) (object-ordered ms ds s found ordered)

-- the members with the scale's own, once the list is known
members-listed : (ms : Members) (ds : Items) (s : Scale) → get (codes "scales") (object ms) ≡ Some (array ds) → members_with s (object ms) ≡ object_with s ds ms
members-listed ms ds s found =
    ap (λ (es : Items). object_with s es ms) (ap (λ (o : Option Data). unwrap_or (option_and_then as_array o) no_items) found)

added-found : (d : Data) (w : Width) (ds : Items) (scales : List Scale) (s : Scale) → get (codes "scales") d ≡ Some (array ds) → head_of d ≡ Ok w → items_of_scales d ≡ Ok ds
    → scales_after w [] ds ≡ Ok scales → s.geometry.width ≡ w → has_key scales s.key ≡ false → length scales < 100 → scale_fits s ≡ true → depth d ≤ max_depth → ascends d ≡ true
    → IsInfo (record { members = members_with s d; scales = scales ++ s ∷ [] })
added-found (object ms) w ds scales s found head items after wide new few fits shallow ordered =
    rw (members-listed ms ds s found) (object-IsInfo ms w ds scales s head items after wide new few fits shallow ordered)
added-found d w ds scales s found head items after wide new few fits shallow ordered = absurd cc

-- where a scale of the info has the width of the new one, whose key none has
pub added-IsInfo : (i : InfoData) (s : Scale) → IsInfo i → HasWidth i.scales s.geometry.width → has_key i.scales s.key ≡ false → length i.scales < 100 → scale_fits s ≡ true
    → IsInfo (record { members = members_with s i.members; scales = i.scales ++ s ∷ [] })
added-IsInfo i s is wide new few fits =
    let p = parts_of i.members i.scales (scales-read i.members i is.reads_back) in
    let same = width_at p.0 i.scales wide.place wide.scale wide.found (scales_after-width p.0 [] p.1 i.scales p.4 tt) in
    added-found i.members p.0 p.1 i.scales s (items-found i.members p.1 p.3) p.2 p.3 p.4 (sym wide.same ∙ same) new few fits is.shallow is.ordered

-- the same, of equal members and a list that the scale was put on
pub grown-IsInfo : (i : InfoData) (s copy : Scale) (d : Data) (before all : List Scale) → IsInfo i → HasWidth i.scales s.geometry.width → has_key i.scales s.key ≡ false → length i.scales < 100
    → scale_fits s ≡ true → d ≡ members_with s i.members → before ≡ i.scales → copy ≡ s → all ≡ before ++ copy ∷ [] → IsInfo (record { members = d; scales = all })
grown-IsInfo i s copy d before all is wide new few fits members old same grew =
    rw (grew, old, same, members) (added-IsInfo i s is wide new few fits)
