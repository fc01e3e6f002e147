use Rattle.std.proofs.Common.{ℕ, ◌+◌, ◌≡◌, ◌<◌, ◌≤◌, sym, ap, subst, ◌⊎◌, inl, inr, arith, List}
use Rattle.std.proofs.lemmas.Bool.{cases_eq}
use Rattle.ig_label.specs.declared.rows.Run.{Run}
use Rattle.ig_label.specs.Runs.{run_at, end_of}
use Rattle.ig_label.proofs.JoinLaws.{IsPair, HasJoinedPair, pair-joined, low_more, high_more}
use Rattle.ig_label.proofs.joining.join_beside.Goals as goal
use Rattle.ig_label.proofs.joining.join_beside.Goals.{After-join_touching}

first_before : (runs : List Run) (low high bound : ℕ) → (low < high → (run_at runs low).first < bound) → low ≤ high → (run_at runs high).first < bound
    → (low ≡ high) ⊎ (low ≡ high → ⊥) → (run_at runs low).first < bound
first_before runs low high bound h order last (inl e) = subst (λ i. (run_at runs i).first < bound) (sym e) last
first_before runs low high bound h order last (inr n) = h (omega arith)

apart : (runs : List Run) (low high shift : ℕ) → low ≤ high → end_of (run_at runs low) + shift < end_of (run_at runs high) → (low ≡ high) ⊎ (low ≡ high → ⊥) → low + 1 ≤ high
apart runs low high shift order less (inl e) = absurd (omega (arith, ap (λ i. end_of (run_at runs i)) e))
apart runs low high shift order less (inr n) = omega arith

before_more : (runs : List Run) (from high bound : ℕ) → ((i : ℕ) → from ≤ i → i < high → (run_at runs i).first < bound) → (run_at runs high).first < bound
    → (i : ℕ) → from ≤ i → i < high + 1 → (run_at runs i).first < bound
before_more runs from high bound h last i low l = by_case (cases_eq i high) where
  by_case : (i ≡ high) ⊎ (i ≡ high → ⊥) → (run_at runs i).first < bound
  by_case (inl e) = subst (λ k. (run_at runs k).first < bound) (sym e) last
  by_case (inr n) = h i low (omega arith)

pair : (c : After-join_touching) → IsPair c.args.runs.now c.args.bound c.args.from c.loop-high.low c.loop-high.high
pair c =
    let l = c.loop-high in
    record {
      low_from = l.invariant.from;
      high_from = omega (arith, l.invariant.from, l.invariant.order);
      low_below = omega (arith, l.invariant.order, c.loop-high-test.true);
      high_below = c.loop-high-test.true;
      low_before = first_before c.args.runs.now l.low l.high c.args.bound (l.invariant.before l.low l.invariant.from) l.invariant.order c.if-runs-high.false (cases_eq l.low l.high);
      high_before = c.if-runs-high.false;
    }

joined : (c : After-join_touching) → HasJoinedPair c.args.runs.now c.args.shift c.args.bound c.args.from c.loop-high.low c.loop-high.high c.args.sets.now c.join_touching.new.sets
joined c =
    pair-joined c.args.runs.now c.args.shift c.args.bound c.args.from c.loop-high.low c.loop-high.high c.args.sets.now c.loop-high.sets (pair c) c.loop-high.invariant.joined c.join_touching.new.sets c.join_touching.ensures

pub loop-high-preserved-then-end-shift : goal.loop-high-preserved-then-end-shift
loop-high-preserved-then-end-shift c =
    let d = (goal.at.loop-high-preserved-then-end-shift c).After-join_touching in
    let l = c.loop-high in
    let less : end_of (run_at c.args.runs.now l.low) + c.args.shift < end_of (run_at c.args.runs.now l.high) = omega (arith, c.end.ensures, c.end-in-loop-high.ensures, c.if-end-shift.true) in
    record {
      from = omega (arith, l.invariant.from);
      order = apart c.args.runs.now l.low l.high c.args.shift l.invariant.order less (cases_eq l.low l.high);
      within = l.invariant.within;
      before = l.invariant.before;
      joined = low_more c.args.runs.now c.args.shift c.args.bound c.args.from l.low l.high c.args.sets.now c.join_touching.new.sets c.requires.ascending (pair d) (joined d) less;
    }

pub loop-high-preserved : goal.loop-high-preserved
loop-high-preserved c =
    let d = (goal.at.loop-high-preserved c).After-join_touching in
    let l = c.loop-high in
    let most : end_of (run_at c.args.runs.now l.high) ≤ end_of (run_at c.args.runs.now l.low) + c.args.shift = omega (arith, c.end.ensures, c.end-in-loop-high.ensures, c.if-end-shift.false) in
    record {
      from = l.invariant.from;
      order = omega (arith, l.invariant.order);
      within = omega (arith, c.loop-high-test.true);
      before = before_more c.args.runs.now c.args.from l.high c.args.bound l.invariant.before c.if-runs-high.false;
      joined = high_more c.args.runs.now c.args.shift c.args.bound c.args.from l.low l.high c.args.sets.now c.join_touching.new.sets c.requires.ascending (pair d) (joined d) most;
    }
