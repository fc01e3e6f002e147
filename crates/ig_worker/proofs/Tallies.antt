-- The sums over all stages.
use Rattle.std.proofs.Common.{◌≡◌, ◌<◌, ◌≤◌, ◌+◌, ◌-◌, ◌*◌, ◌^◌, ◌==◌, arith, nat_lt, ℕ, suc, Bool, true, false, cond, List, [], ◌∷◌, All, length, map, refl, ap, sym, subst, ◌∙◌}
use Rattle.std.proofs.lemmas.Bool.{ltb-true}
use Rattle.std.proofs.lemmas.List.Elements.{All-head, All-tail}
use Rattle.std.specs.BTreeSet.{BTreeSet, contains}
use Rattle.std.specs.List.{AllByRecursion}
use Rattle.std.specs.List.Sorted.{IsStrictlySortedBy}
use Rattle.std.specs.Ordering.{nat_cmp}
use Rattle.std.specs.declared.cmp.Ordering.TheVariants.{Less, Equal, Greater}
use Rattle.ig_rule.specs.Stages.{task_id}
use Rattle.ig_record.specs.declared.stage.Stage.{Stage}
use Rattle.ig_record.specs.Stage.{task_count}
use Rattle.ig_worker.specs.Counting.{HasListed, place_of}
use Rattle.ig_worker.specs.Fit.{AreStages, IsStage, number_of}
use Rattle.ig_worker.specs.Stages.{Known, all_tasks, all_unlisted, is_listed, one_unless, unlisted}
use Rattle.ig_worker.proofs.TaskNames.{small_fits}

-- ---- the tasks of one stage
one_more : (given : List (List ℕ)) (n k count : ℕ) (there : Bool) → count ≡ unlisted given n k → is_listed given (task_id n k) ≡ there → count + one_unless there ≡ unlisted given n (k + 1)
one_more given n k count there so is =
    let next : k + 1 ≡ suc k = omega arith in
    ap (λ c. c + one_unless there) so ∙ ap (λ b. unlisted given n k + one_unless b) (sym is) ∙ sym (ap (unlisted given n) next)

-- one task more
pub counted_more : (given : List (List ℕ)) (places : BTreeSet ℕ) (n k count place new : ℕ) (found there : Bool) → HasListed given places → n < 10000 → k < 1000000 → place ≡ place_of (task_id n k)
    → found ≡ contains nat_cmp places place → found ≡ there → count ≡ unlisted given n k → new ≡ count + one_unless there → new ≡ unlisted given n (k + 1)
counted_more given places n k count place new found there has few less at tells is so grown =
    grown ∙ one_more given n k count there so
    (sym (has (task_id n k) (small_fits n k few less)) ∙ sym (ap (contains nat_cmp places) at) ∙ sym tells ∙ is)

-- ---- few stages
not_less : (b : Bool) → cond b Equal Greater ≡ Less → ⊥
not_less true e = cc
not_less false e = cc

less_by : (n m : ℕ) (b : Bool) → nat_lt n m ≡ b → cond b Less (cond (n == m) Equal Greater) ≡ Less → n < m
less_by n m true e is = ltb-true n m e
less_by n m false e is = absurd (not_less (n == m) is)

abbrev AreFrom : ℕ → Known → Type 0
AreFrom a [] = Unit {0}
AreFrom a (r ∷ rest) = (a ≤ r.0) × AreFrom a rest

after : (n : ℕ) (known : Known) → AllByRecursion (λ m. nat_cmp n m ≡ Less) (map number_of known) → AreFrom (n + 1) known
after n [] all = tt
after n (r ∷ rest) all = (let less : n < r.0 = less_by n r.0 (nat_lt n r.0) refl all.0 in omega (arith, less), after n rest all.1)

few_from : (a : ℕ) (known : Known) → AreFrom a known → IsStrictlySortedBy nat_cmp (map number_of known) → All IsStage known → length known ≤ 10 ^ 4 - a
unfolding IsStrictlySortedBy
few_from a [] from sorted all = omega arith
few_from a (r ∷ rest) from sorted all =
    let few : length rest ≤ 10 ^ 4 - (r.0 + 1) = few_from (r.0 + 1) rest (after r.0 rest sorted.0) sorted.1 (All-tail IsStage r rest all) in
    let small : r.0 < 10 ^ 4 = (All-head IsStage r rest all).few in
    omega (arith, few, small, from.0)

from_none : (known : Known) → AreFrom 0 known
from_none [] = tt
from_none (r ∷ rest) = (omega arith, from_none rest)

-- ---- the sums so far
abbrev Tallied : BTreeSet ℕ → Known → ℕ → ℕ → Known → Type 0
Tallied places all tasks left rest =
    (tasks + all_tasks rest ≡ all_tasks all) × ((given : List (List ℕ)) → HasListed given places → left + all_unlisted given rest ≡ all_unlisted given all)
    × (tasks + 1000000 * length rest ≤ 10000000000) × (left ≤ tasks) × All IsStage rest

pub tally_none : (places : BTreeSet ℕ) (known entries : Known) → entries ≡ known → AreStages known → Tallied places entries 0 0 entries
tally_none places known entries is fit =
    let few : length known ≤ 10 ^ 4 - 0 = few_from 0 known (from_none known) fit.ascending fit.each in
    let all : length entries ≤ 10 ^ 4 = omega (arith, few, ap (λ (k : Known). length k) is) in
    (omega arith, λ given has. omega arith, omega (arith, all), omega arith, subst (λ (k : Known). All IsStage k) (sym is) fit.each)

pub tally_stage : (xs rest : Known) (n : ℕ) (s : Stage) → xs ≡ (n, s) ∷ rest → All IsStage xs → IsStage (n, s)
tally_stage xs rest n s is all = All-head IsStage (n, s) rest (subst (λ (k : Known). All IsStage k) is all)

sum_more : (a b c d e f : ℕ) → a + b ≡ f → b ≡ c + d → e ≡ c → a + e + d ≡ f
sum_more a b c d e f so split same = omega (arith, so, split, same)

-- one stage more
pub tally_more : (places : BTreeSet ℕ) (all xs rest : Known) (n : ℕ) (s : Stage) (tasks left more extra : ℕ) → xs ≡ (n, s) ∷ rest → Tallied places all tasks left xs → more ≡ task_count s → more ≤ 1000000
    → ((given : List (List ℕ)) → HasListed given places → extra ≡ unlisted given n more) → extra ≤ more → Tallied places all (tasks + more) (left + extra) rest
tally_more places all xs rest n s tasks left more extra is so count few gives less =
    let now : Tallied places all tasks left ((n, s) ∷ rest) = subst (λ (k : Known). Tallied places all tasks left k) is so in (
      sum_more tasks (all_tasks ((n, s) ∷ rest)) (task_count s) (all_tasks rest) more (all_tasks all) now.0 refl count,
      λ given has. sum_more left (all_unlisted given ((n, s) ∷ rest)) (unlisted given n (task_count s)) (all_unlisted given rest) extra (all_unlisted given all) (now.1 given has) refl
          (gives given has ∙ ap (unlisted given n) count),
      (let room : tasks + 1000000 * (length rest + 1) ≤ 10000000000 = omega (arith, now.2) in omega (arith, room, few)),
      omega (arith, now.3, less),
      All-tail IsStage (n, s) rest now.4,
    )
