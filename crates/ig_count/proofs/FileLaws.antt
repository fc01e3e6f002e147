-- A text is right exactly where its items are a table with few voxels each.
use Rattle.std.proofs.Common.{arith, ◌≡◌, ◌+◌, ◌≤◌, ◌&&◌, ◌*◌, ◌==◌, ◌++◌, drop, take, append_assoc, Result, Ok, Err, IfOk, ℕ, suc, zero, Bool, true, false, nat_le, List, [], ◌∷◌, if◌then◌else◌, Option, Some, None, length, refl, ap, sym, ◌∙◌, subst}
use Rattle.std.proofs.lemmas.Bool.{and_parts, eq-eqb, eqb-true, leb-true, ltb-true, lt-ltb, le-leb}
use Rattle.std.proofs.lemmas.List.{drop_at, length-append, take-append-drop}
use Rattle.std.specs.List.{flat_map}
use Rattle.byteorder.specs.Endian.{little_bytes}
use Rattle.ig_faces.specs.Records.{ReadsBack, first_wrong, number_in, placed, records_in}
use Rattle.ig_count.specs.declared.counts.LabelCount.{LabelCount}
use Rattle.ig_count.specs.Tables.{IsFrom, IsTable}
use Rattle.ig_count.specs.CountsFile.{AreFew, count_in, count_text, count_wrong, counts_text, counts_wrong, is_above, most_voxels}

-- the least label that may come after an item
abbrev above : Option LabelCount → ℕ
above None = 0
above (Some c) = suc c.label

none_placed : (place : ℕ) (here later : Option ℕ) → placed place here later ≡ None → (here ≡ None) × (later ≡ None)
none_placed place None later e = (refl, e)
none_placed place (Some k) later e = cc

placed_none : (place : ℕ) (here later : Option ℕ) → here ≡ None → later ≡ None → placed place here later ≡ None
placed_none place here later e f = ap (λ h. placed place h later) e ∙ f

abbrev tested : Bool → Bool → Option ℕ
tested a b = if a then (if b then None else Some 8) else Some 0

right_tests : (a b : Bool) → tested a b ≡ None → (a ≡ true) × (b ≡ true)
right_tests true true e = (refl, refl)
right_tests true false e = cc
right_tests false b e = cc

above_is : (before : Option LabelCount) (label : ℕ) → is_above before label ≡ true → above before ≤ label
above_is None label e = omega arith
above_is (Some c) label e = ltb-true c.label label e

is_above_from : (before : Option LabelCount) (label : ℕ) → above before ≤ label → is_above before label ≡ true
is_above_from None label h = refl
is_above_from (Some c) label h = lt-ltb c.label label h

pub right-table : (place : ℕ) (before : Option LabelCount) (cs : List LabelCount) → first_wrong count_wrong 16 place before cs ≡ None → IsFrom (above before) cs
right-table place before [] e = tt
right-table place before (c ∷ cs) e =
    let parts = none_placed place (count_wrong before c) (first_wrong count_wrong 16 (place + 16) (Some c) cs) e in
    let tests = right_tests (is_above before c.label) (nat_le 1 c.voxels && nat_le c.voxels most_voxels) parts.0 in
    let bounds = and_parts (nat_le 1 c.voxels) (nat_le c.voxels most_voxels) tests.1 in
    (above_is before c.label tests.0, leb-true 1 c.voxels bounds.0, right-table (place + 16) (Some c) cs parts.1)

pub right-few : (place : ℕ) (before : Option LabelCount) (cs : List LabelCount) → first_wrong count_wrong 16 place before cs ≡ None → AreFew cs
right-few place before [] e k d l = absurd (omega arith)
right-few place before (c ∷ cs) e zero d l =
    let parts = none_placed place (count_wrong before c) (first_wrong count_wrong 16 (place + 16) (Some c) cs) e in
    let tests = right_tests (is_above before c.label) (nat_le 1 c.voxels && nat_le c.voxels most_voxels) parts.0 in
    let bounds = and_parts (nat_le 1 c.voxels) (nat_le c.voxels most_voxels) tests.1 in
    leb-true c.voxels most_voxels bounds.1
right-few place before (c ∷ cs) e (suc k) d l =
    let parts = none_placed place (count_wrong before c) (first_wrong count_wrong 16 (place + 16) (Some c) cs) e in
    right-few (place + 16) (Some c) cs parts.1 k d (omega arith)

tests_right : (a b c : Bool) → a ≡ true → b ≡ true → c ≡ true → tested a (b && c) ≡ None
tests_right true true true p q r = refl
tests_right false b c p q r = cc
tests_right true false c p q r = cc
tests_right true true false p q r = cc

pub table-right : (place : ℕ) (before : Option LabelCount) (cs : List LabelCount) → IsFrom (above before) cs → AreFew cs → first_wrong count_wrong 16 place before cs ≡ None
table-right place before [] from few = refl
table-right place before (c ∷ cs) from few =
    let here : count_wrong before c ≡ None = tests_right (is_above before c.label) (nat_le 1 c.voxels) (nat_le c.voxels most_voxels)
    (is_above_from before c.label from.0) (le-leb 1 c.voxels from.1) (le-leb c.voxels most_voxels (few 0 c (omega arith))) in
    placed_none place (count_wrong before c) (first_wrong count_wrong 16 (place + 16) (Some c) cs) here
    (table-right (place + 16) (Some c) cs from.2 (λ k d l. few (suc k) d (omega arith)))

-- the bytes of an item give it back
pub item-back : (c : LabelCount) → ReadsBack 8 (number_in 8) (little_bytes 8) c.label → ReadsBack 8 (number_in 8) (little_bytes 8) c.voxels → ReadsBack 16 count_in count_text c
item-back c label voxels =
    let first = little_bytes 8 c.label in
    let second = little_bytes 8 c.voxels in record {
      length = length-append first second ∙ omega (arith, label.length, voxels.length);
      back = λ rest.
          let whole : (first ++ second) ++ rest ≡ first ++ (second ++ rest) = append_assoc first second rest in
          let one : number_in 8 ((first ++ second) ++ rest) ≡ c.label = ap (number_in 8) whole ∙ label.back (second ++ rest) in
          let there : drop 8 ((first ++ second) ++ rest) ≡ second ++ rest = ap (drop 8) whole ∙ drop_at first (second ++ rest) 8 label.length in
          let other : number_in 8 (drop 8 ((first ++ second) ++ rest)) ≡ c.voxels = ap (number_in 8) there ∙ voxels.back rest in
          λ i. record { label = one i; voxels = other i };
    }

-- a file that is not wrong
pub whole-right : (counts : List LabelCount) (bytes : List ℕ) → length bytes ≡ 8 + 16 * length counts → number_in 8 bytes ≡ length counts
    → records_in count_in 16 (length counts) (drop 8 bytes) ≡ counts → IsTable counts → AreFew counts → counts_wrong bytes ≡ None
whole-right counts bytes whole many back table few =
    let size : (length bytes == 8 + 16 * number_in 8 bytes) ≡ true = eq-eqb (length bytes) (8 + 16 * number_in 8 bytes) (whole ∙ ap (λ n. 8 + 16 * n) (sym many)) in
    let items : records_in count_in 16 (number_in 8 bytes) (drop 8 bytes) ≡ counts = ap (λ n. records_in count_in 16 n (drop 8 bytes)) many ∙ back in
    ap (λ b. if b then first_wrong count_wrong 16 8 None (records_in count_in 16 (number_in 8 bytes) (drop 8 bytes)) else Some (length bytes)) size
    ∙ ap (first_wrong count_wrong 16 8 None) items ∙ table-right 8 None counts table few

-- the items of a file that is not wrong
pub right-whole : (counts : List LabelCount) (bytes : List ℕ) → counts_wrong bytes ≡ None → length bytes ≡ 8 + 16 * number_in 8 bytes
    → counts ≡ records_in count_in 16 (number_in 8 bytes) (drop 8 bytes) → first_wrong count_wrong 16 8 None counts ≡ None
right-whole counts bytes right whole is =
    let size : (length bytes == 8 + 16 * number_in 8 bytes) ≡ true = eq-eqb (length bytes) (8 + 16 * number_in 8 bytes) whole in
    ap (first_wrong count_wrong 16 8 None) is
    ∙ sym (ap (λ b. if b then first_wrong count_wrong 16 8 None (records_in count_in 16 (number_in 8 bytes) (drop 8 bytes)) else Some (length bytes)) size) ∙ right

sized : (b : Bool) (n : ℕ) (inner : Option ℕ) → (if b then inner else Some n) ≡ None → b ≡ true
sized true n inner e = refl
sized false n inner e = cc

pub right-size : (bytes : List ℕ) → counts_wrong bytes ≡ None → length bytes ≡ 8 + 16 * number_in 8 bytes
right-size bytes right =
    eqb-true (length bytes) (8 + 16 * number_in 8 bytes)
    (sized (length bytes == 8 + 16 * number_in 8 bytes) (length bytes) (first_wrong count_wrong 16 8 None (records_in count_in 16 (number_in 8 bytes) (drop 8 bytes))) right)

-- the text of the items that stand in a file
pub text-whole : (counts : List LabelCount) (bytes : List ℕ) (n : ℕ) → little_bytes 8 n ≡ take 8 bytes → length counts ≡ n → flat_map count_text counts ≡ drop 8 bytes
    → counts_text counts ≡ bytes
text-whole counts bytes n head many rest =
    ap (λ m. little_bytes 8 m ++ flat_map count_text counts) many ∙ ap (λ l. l ++ flat_map count_text counts) head ∙ ap (λ l. take 8 bytes ++ l) rest
    ∙ take-append-drop 8 bytes

-- a written file is not wrong
pub ok-right : {E : Type 0} (counts items : List LabelCount) (r : Result (List ℕ) E) → IfOk r (λ b. length b ≡ 8 + 16 * length items) → IfOk r (λ b. number_in 8 b ≡ length items)
    → IfOk r (λ b. records_in count_in 16 (length items) (drop 8 b) ≡ items) → items ≡ counts → IsTable counts → IfOk r (λ b. AreFew counts → counts_wrong b ≡ None)
ok-right counts items (Ok b) whole many back is table =
    λ few. whole-right items b whole many back (subst IsTable (sym is) table) (subst AreFew (sym is) few)
ok-right counts items (Err e) whole many back is table = tt
