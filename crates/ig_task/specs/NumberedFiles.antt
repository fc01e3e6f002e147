-- The numbered files of a pass: a path is of one number, and lies directly in their directory.
use Rattle.std.specs.Prelude.{◌≡◌, ◌^◌, ◌<◌, ◌≤◌, ℕ, ◌+◌, Bool, true, false, if◌then◌else◌, List, ◌∷◌, ◌++◌, length, None, Some, refl}
use Rattle.std.specs.Str.{bytes_eq}
use Rattle.std.proofs.Common.{arith, ap, sym, subst, ◌∙◌, length-append}
use Rattle.std.proofs.lemmas.List.{append_cancel_left}
use Rattle.std.proofs.lemmas.Option.{none-some, same_Some}
use Rattle.std.proofs.lemmas.Slice.Eq.{bytes_eq-Decides}
use Rattle.ig_space.specs.Path.{is_path}
use Rattle.ig_space.specs.Segments.{is_path-joined}
use Rattle.ig_defs.specs.OneSegment.{is_path-segment}
use Rattle.ig_defs.specs.QueueNameLaws.{are_bytes, digits-first, is_segment-digits, length-digits}
use Rattle.ig_defs.specs.QueueNames.{digits}
use Rattle.ig_record.specs.Columns.{numbered}
use Rattle.ig_meaning.specs.Lists.{first_of-from, first_of-is}
use Rattle.ig_layer.specs.Faults.{first_of}
use Rattle.ig_meaning.specs.Numbered.{number_if}
use Rattle.ig_rule.specs.DirPaths.{tail_is}
use Rattle.ig_rule.specs.Dirs.{LiesIn}

module _ (dir ending : List ℕ) (bytes : are_bytes ending) where
  pub numbered-same : (v w : ℕ) → v < 10 ^ 6 → w < 10 ^ 6 → numbered dir ending v ≡ numbered dir ending w → v ≡ w
  numbered-same v w few less e = (digits-first 6 v w ending ending few less (tail_is 47 47 (digits 6 v ++ ending) (digits 6 w ++ ending) (append_cancel_left dir _ _ e))).0

  pub numbered-lies : (v : ℕ) → is_path dir ≡ true → length dir ≤ 300 → length ending ≤ 20 → LiesIn dir (numbered dir ending v)
  numbered-lies v path short ends =
      let name = digits 6 v ++ ending in
      let segment = is_segment-digits 5 v ending bytes in
      let long : length name ≡ 6 + length ending = length-append (digits 6 v) ending ∙ ap (λ n. n + length ending) (length-digits 6 v) in
      let whole = length-append dir (47 ∷ name) in
      record {
        name = name;
        is_name = record { segment = segment; path = is_path-joined dir name path (is_path-segment name segment (omega (arith, long, ends))) (omega (arith, long, whole, short, ends)) };
        is = refl;
      }

  if_is : (path : List ℕ) (k t : ℕ) → number_if dir ending path k ≡ Some t → (numbered dir ending k ≡ path) × (k ≡ t)
  if_is path k t e = by_test (bytes_eq (numbered dir ending k) path) refl e
    where
      by_test : (b : Bool) → bytes_eq (numbered dir ending k) path ≡ b → (if b then Some k else None) ≡ Some t → (numbered dir ending k ≡ path) × (k ≡ t)
      by_test true is e = ((bytes_eq-Decides (numbered dir ending k) path).0 is, same_Some k t e)
      by_test false is e = absurd (none-some t e)

  pub number-from : (n : ℕ) (path : List ℕ) (t : ℕ) → first_of (number_if dir ending path) n ≡ Some t → (t < n) × (numbered dir ending t ≡ path)
  number-from n path t e =
      let v = first_of-from (number_if dir ending path) n t e in
      let p = if_is path v.number t v.is in
      (subst (λ k. k < n) p.1 v.below, subst (λ k. numbered dir ending k ≡ path) p.1 p.0)

  pub number-is : (n k : ℕ) → n ≤ 10 ^ 6 → k < n → first_of (number_if dir ending (numbered dir ending k)) n ≡ Some k
  number-is n k few below =
      first_of-is (number_if dir ending (numbered dir ending k)) n k k below
      (ap (λ b. if b then Some k else None) ((bytes_eq-Decides (numbered dir ending k) (numbered dir ending k)).1 refl))
      (λ i y less e. let p = if_is (numbered dir ending k) i y e in sym p.1 ∙ numbered-same i k (omega (arith, less, few)) (omega (arith, below, few)) p.0)
