-- The stages that a listing shows, and those whose tasks are named.
use Rattle.std.proofs.Common.{◌≡◌, ◌<◌, ◌+◌, ◌^◌, ◌++◌, arith, ℕ, suc, Bool, true, false, ◌||◌, if◌then◌else◌, List, [], ◌∷◌, Option, None, Some, IfSome, IsNone, All, is_some, length, drop, get_or, append_assoc, refl, ap, sym, ◌∙◌}
use Rattle.std.proofs.Math.Seq.{drop-cons}
use Rattle.std.proofs.lemmas.Bool.{lt-ltb, ltb-true}
use Rattle.std.proofs.lemmas.List.Elements.{All-cons, All-head, All-nil, All-tail}
use Rattle.std.proofs.lemmas.Slice.Eq.{bytes_eq-Decides}
use Rattle.std.specs.Str.{bytes_eq}
use Rattle.ig_defs.specs.declared.queue_name.QueueName.{QueueName}
use Rattle.ig_defs.specs.QueueNames.{stage_file, stage_fits}
use Rattle.ig_defs.specs.QueueNameLaws.{stage_file-same}
use Rattle.ig_layer.specs.Faults.{first_of}
use Rattle.ig_meaning.specs.QueueMaking.{stage_named}
use Rattle.ig_meaning.specs.Lists.{first_of-from, first_of-is}
use Rattle.ig_worker.specs.Stages.{Known, is_last, stage_in, unknown_after, unknown_listed, with_unknown}

-- ---- the name of a record
abbrev named_if : List ℕ → ℕ → Option ℕ
named_if name n = if bytes_eq (stage_file n) name then Some n else None

-- the file of this number has the name
record IsNumberOf (name : List ℕ) (i n : ℕ) : Type 0 where
  pub number : i ≡ n
  pub is : stage_file i ≡ name

gives_by : (name : List ℕ) (i n : ℕ) (same : Bool) → bytes_eq (stage_file i) name ≡ same → (if same then Some i else None) ≡ Some n → IsNumberOf name i n
gives_by name i n true e is = record { number = let number : i ≡ n = cc in number; is = (bytes_eq-Decides (stage_file i) name).0 e }
gives_by name i n false e is = let no_way : ⊥ = cc in absurd no_way

gives : (name : List ℕ) (i n : ℕ) → named_if name i ≡ Some n → IsNumberOf name i n
gives name i n is = gives_by name i n (bytes_eq (stage_file i) name) refl is

none_named : (name : List ℕ) (found : Option ℕ) → first_of (named_if name) (10 ^ 4) ≡ found → ((n : ℕ) → stage_fits n ≡ true → name ≡ stage_file n → ⊥) → None ≡ found
none_named name None is none = refl
none_named name (Some n) is none =
    let v = first_of-from (named_if name) (10 ^ 4) n is in
    absurd (none v.number (lt-ltb v.number (10 ^ 4) v.below) (sym (gives name v.number n v.is).is))

-- the stage that is read from a name
pub named_found : (name : List ℕ) (result : Option ℕ) → IfSome result (λ n. (stage_fits n ≡ true) × (name ≡ stage_file n))
    → (IsNone result → (n : ℕ) → stage_fits n ≡ true → name ≡ stage_file n → ⊥) → result ≡ stage_named name
unfolding stage_named
named_found name (Some n) some none =
    sym (first_of-is (named_if name) (10 ^ 4) n n (ltb-true n (10 ^ 4) some.0) (ap (λ b. if b then Some n else None) ((bytes_eq-Decides (stage_file n) name).1 (sym some.1)))
    (λ i y few e. let g = gives name i y e in sym g.number ∙ stage_file-same i n (lt-ltb i (10 ^ 4) few) some.0 (g.is ∙ some.1)))
named_found name None some none = none_named name (first_of (named_if name) (10 ^ 4)) refl (none refl)

-- ---- the stages that a listing shows
unknown_first : (known : Known) (stage : Option ℕ) (rest : List ℕ) → with_unknown known stage rest ≡ with_unknown known stage [] ++ rest
unknown_first known None rest = refl
unknown_first known (Some n) rest = by_test (is_some (stage_in known n))
  where
    by_test : (b : Bool) → (if b then rest else n ∷ rest) ≡ (if b then [] else n ∷ []) ++ rest
    by_test true = refl
    by_test false = refl

-- one name more
pub listed_more : (known : Known) (names : List (List ℕ)) (k : ℕ) (name : List ℕ) (all so more : List ℕ) → k < length names → name ≡ get_or names k name → all ≡ so ++ unknown_listed known (drop k names)
    → more ≡ so ++ with_unknown known (stage_named name) [] → all ≡ more ++ unknown_listed known (drop (k + 1) names)
listed_more known names k name all so more below is before grown =
    let next : k + 1 ≡ suc k = omega arith in
    let rest : List ℕ = unknown_listed known (drop (suc k) names) in
    before ∙ ap (λ others. so ++ unknown_listed known others) (drop-cons names k name below)
    ∙ ap (λ first. so ++ with_unknown known (stage_named first) rest) (sym is)
    ∙ ap (λ added. so ++ added) (unknown_first known (stage_named name) rest)
    ∙ sym (append_assoc so (with_unknown known (stage_named name) []) rest)
    ∙ ap (λ added. added ++ rest) (sym grown)
    ∙ ap (λ m. more ++ unknown_listed known (drop m names)) (sym next)

-- ---- the stages of names
abbrev IsFew : ℕ → Type 0
IsFew n = n < 10 ^ 4

few_by : (skip : Bool) (n : ℕ) (known more : List ℕ) → n < 10 ^ 4 → All IsFew known → All IsFew more → All IsFew (if skip then known else n ∷ more)
few_by true n known more few all later = all
few_by false n known more few all later = All-cons IsFew n more few later

-- have few numbers
pub few_named : (known : Known) (last : Option ℕ) (names : List QueueName) → All (λ (name : QueueName). name.stage < 10 ^ 4) names → All (λ n. n < 10 ^ 4) (unknown_after known last names)
few_named known last [] all = All-nil IsFew
few_named known last (name ∷ names) all =
    let P : QueueName → Type 0 = λ (name : QueueName). name.stage < 10 ^ 4 in
    let rest = All-tail P name names all in
    few_by (is_some (stage_in known name.stage) || is_last last name.stage) name.stage (unknown_after known last names) (unknown_after known (Some name.stage) names)
    (All-head P name names all) (few_named known last names rest) (few_named known (Some name.stage) names rest)
