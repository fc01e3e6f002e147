-- A part of a list that is written with the values of a function.
use Rattle.std.proofs.Common.{arith, rules, ◌≡◌, ◌≤◌, ◌<◌, ◌+◌, ◌-◌, ℕ, List, length, slice_index, ap, sym, subst, ◌∙◌, inl, inr, ◌⊎◌}
use Rattle.std.proofs.lemmas.Bool.{cases_lt}
use Rattle.std.proofs.lemmas.List.{places}
use borrow.Rule.Slice.PartMut.{put_mid}

put-length : (a k : ℕ) (xs ys : List ℕ) → length ys ≡ k → a + k ≤ length xs → length (put_mid a k xs ys) ≡ length xs
put-length a k xs ys e h = search (rules, places)

put-before : (a k : ℕ) (xs ys : List ℕ) (j : ℕ) → length ys ≡ k → a + k ≤ length xs → j < a → slice_index (put_mid a k xs ys) j ≡ slice_index xs j
put-before a k xs ys j e h l = search (rules, places)

put-in : (a k : ℕ) (xs ys : List ℕ) (j : ℕ) → length ys ≡ k → a + k ≤ length xs → j < k → slice_index (put_mid a k xs ys) (a + j) ≡ slice_index ys j
put-in a k xs ys j e h l = search (rules, places)

put-after : (a k : ℕ) (xs ys : List ℕ) (j : ℕ) → length ys ≡ k → a + k ≤ length xs → a + k ≤ j → slice_index (put_mid a k xs ys) j ≡ slice_index xs j
put-after a k xs ys j e h l = search (rules, places)

-- m values are written from a on: they are right, and no right value was lost
pub record Filled (f : ℕ → ℕ) (xs ws : List ℕ) (a m : ℕ) : Type 0 where
  pub length : length ws ≡ length xs
  pub kept : (j : ℕ) → slice_index xs j ≡ f j → slice_index ws j ≡ f j
  pub own : (i : ℕ) → i < m → slice_index ws (a + i) ≡ f (a + i)

kept_at : (f : ℕ → ℕ) (a k : ℕ) (xs ys : List ℕ) → length ys ≡ k → a + k ≤ length xs → ((i : ℕ) → i < k → slice_index ys i ≡ f (a + i))
    → (j : ℕ) → slice_index xs j ≡ f j → (j < a) ⊎ (a ≤ j) → (j < a + k) ⊎ (a + k ≤ j) → slice_index (put_mid a k xs ys) j ≡ f j
kept_at f a k xs ys e h each j right (inl before) q = put-before a k xs ys j e h before ∙ right
kept_at f a k xs ys e h each j right (inr from) (inr after) = put-after a k xs ys j e h after ∙ right
kept_at f a k xs ys e h each j right (inr from) (inl within) =
    let own : j - a < k = omega arith in
    let at : j ≡ a + (j - a) = omega arith in
    ap (slice_index (put_mid a k xs ys)) at ∙ put-in a k xs ys (j - a) e h own ∙ each (j - a) own ∙ ap f (sym at)

filled_by : (f : ℕ → ℕ) (a k : ℕ) (xs ys : List ℕ) → length ys ≡ k → a + k ≤ length xs → ((i : ℕ) → i < k → slice_index ys i ≡ f (a + i)) → Filled f xs (put_mid a k xs ys) a k
filled_by f a k xs ys e h each = record {
  length = put-length a k xs ys e h;
  kept = λ j right. kept_at f a k xs ys e h each j right (cases_lt j a) (cases_lt j (a + k));
  own = λ i l. put-in a k xs ys i e h l ∙ each i l;
}

pub filled : (f : ℕ → ℕ) (a k m : ℕ) (xs ys : List ℕ) → k ≡ m → length ys ≡ m → a + m ≤ length xs → ((i : ℕ) → i < m → slice_index ys i ≡ f (a + i)) → Filled f xs (put_mid a k xs ys) a m
filled f a k m xs ys same e h each = subst (λ k. Filled f xs (put_mid a k xs ys) a m) (sym same) (filled_by f a m xs ys e h each)
