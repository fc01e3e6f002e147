use Rattle.std.proofs.Common.{ℕ, ◌≡◌, ◌<◌, ◌≤◌, get_or}
use Rattle.ig_label.proofs.parts.paint_run.Given as goal

abbrev pub invariant-loop-place : goal.invariant-loop-place
invariant-loop-place l = record {
  inside : (p : ℕ) → l.from ≤ p → p < l.place → get_or l.local p 0 ≡ l.part;
  before : (p : ℕ) → p < l.from → get_or l.local p 0 ≡ get_or l.fn.local p 0;
  after : (p : ℕ) → l.place ≤ p → get_or l.local p 0 ≡ get_or l.fn.local p 0;
}
