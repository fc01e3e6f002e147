-- One stage more is recorded.
use Rattle.std.specs.Prelude.{◌≡◌, ◌⊎◌, ◌≤◌, ◌<◌, ℕ, List, Option, None, Some, option_and_then}
use Rattle.std.proofs.Common.{inl, inr, ap, sym, ◌∙◌, arith}
use Rattle.std.proofs.lemmas.Bool.{cases_eq, cases_lt}
use Rattle.ig_defs.specs.Files.{Files}
use Rattle.ig_rule.specs.QueueFiles.{Record, Queue}
use Rattle.ig_rule.specs.Facts.{Facts, Reader}
use Rattle.ig_rule.specs.Stages.{Records, recorded, IsSpared, Clear}
use Rattle.ig_rule.specs.Rule.{PutsRecord}
use Rattle.ig_rule.specs.QueueSteps.{Sets}
use Rattle.ig_rule.specs.Keeps.{one_stage}

-- stage s has number m, and there was none from there on
pub record Grows (records grown : Records) (m : ℕ) (s : Facts) : Type 0 where
  pub at : grown m ≡ Some s
  pub others : (n : ℕ) → (n ≡ m → ⊥) → grown n ≡ records n
  pub none : (n : ℕ) → m ≤ n → records n ≡ None

-- a recorded stage is an old one, or the new one
pub data Age (records : Records) (m : ℕ) (s : Facts) (n : ℕ) (t : Facts) : Type 0 where
  is_old : n < m → records n ≡ Some t → Age records m s n t
  is_the_new : n ≡ m → s ≡ t → Age records m s n t

no_stage : (o : Option Facts) (t : Facts) → o ≡ Some t → o ≡ None → ⊥
no_stage o t e none = let both : Some t ≡ None = sym e ∙ none in absurd (cc)

pub is_below : (records grown : Records) (m : ℕ) (s : Facts) → Grows records grown m s → (n : ℕ) (t : Facts) → records n ≡ Some t → n < m
is_below records grown m s g n t is = by_order (cases_lt n m)
  where
    by_order : (n < m) ⊎ (m ≤ n) → n < m
    by_order (inl less) = less
    by_order (inr more) = absurd (no_stage (records n) t is (g.none n more))

not_the_new : (n m : ℕ) → n < m → n ≡ m → ⊥
not_the_new n m less e = omega arith

pub still_recorded : (records grown : Records) (m : ℕ) (s : Facts) → Grows records grown m s → (n : ℕ) (t : Facts) → records n ≡ Some t → grown n ≡ Some t
still_recorded records grown m s g n t is = g.others n (not_the_new n m (is_below records grown m s g n t is)) ∙ is

pub age : (records grown : Records) (m : ℕ) (s : Facts) → Grows records grown m s → (n : ℕ) (t : Facts) → grown n ≡ Some t → Age records m s n t
age records grown m s g n t is = by_number (cases_eq n m)
  where
    by_number : (n ≡ m) ⊎ (n ≡ m → ⊥) → Age records m s n t
    by_number (inl e) = is_the_new e (one_stage grown m n s t (sym e) g.at is)
    by_number (inr differ) =
        let was : records n ≡ Some t = sym (g.others n differ) ∙ is in
        is_old (is_below records grown m s g n t was) was

-- what is spared or clear of removals was so before
pub spared_before : (records grown : Records) (m : ℕ) (s : Facts) → Grows records grown m s → (n : ℕ) (dir : List ℕ) → IsSpared grown n dir → IsSpared records n dir
spared_before records grown m s g n dir spared r t other is removes = spared r t other (still_recorded records grown m s g r t is) removes

pub clear_before : (records grown : Records) (m : ℕ) (s : Facts) → Grows records grown m s → (n : ℕ) (t : Facts) → Clear grown n t → Clear records n t
clear_before records grown m s g n t clear = record {
  source = spared_before records grown m s g n t.source clear.source;
  outputs = λ dir one. spared_before records grown m s g n dir (clear.outputs dir one);
}

-- a put of a record
pub puts_grow : (read : Reader) (q : List ℕ) (files : Files) (path bytes : List ℕ) (old new : Queue) → (u : PutsRecord read old q files path bytes) → Sets (Record u.number) bytes old new
    → Grows (recorded read old) (recorded read new) u.number u.stage
puts_grow read q files path bytes old new u sets = record {
  at = ap (option_and_then (read u.number)) sets.at ∙ u.text;
  others = λ n differ. ap (option_and_then (read n)) (by_place n differ (sets.others (Record n)));
  none = λ n more. ap (option_and_then (read n)) (u.no_other n more);
}
  where
    number_is : (n m : ℕ) → Record n ≡ Record m → n ≡ m
    number_is n m e = cc

    by_place : (n : ℕ) → (n ≡ u.number → ⊥) → (Record n ≡ Record u.number) ⊎ (new (Record n) ≡ old (Record n)) → new (Record n) ≡ old (Record n)
    by_place n differ (inl e) = absurd (differ (number_is n u.number e))
    by_place n differ (inr e) = e
