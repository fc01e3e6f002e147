use Rattle.std.proofs.Common.{◌+◌, ◌*◌, ◌<◌, ◌≡◌, ap, sym, ◌∙◌, arith, length}
use Rattle.ig_label.proofs.RunLaws.{row-is, IsRow}
use Rattle.ig_label.proofs.rows.runs_of.Goals as goal
use Rattle.ig_label.proofs.rows.runs_of.Goals.{In-loop-first}

row : (c : In-loop-first) → c.loop-first.first < length c.labels-labels.result.now → IsRow c.size.result.x c.loop-first.first (length c.labels-labels.result.now)
row c below =
    let size = c.args.volume.now.size in
    let whole : length c.labels-labels.result.now ≡ c.size.result.x * (size.y * size.z) =
    ap length c.labels-labels.ensures.labels ∙ c.labels-labels.ensures.length ∙ ap (λ (s : _). s.x * (size.y * size.z)) (sym c.size.ensures.size) in
    row-is c.size.result.x (size.y * size.z) c.loop-first.invariant.whole.0 c.loop-first.first (length c.labels-labels.result.now) whole c.loop-first.invariant.whole.1 below

pub push_row-requires-clause-row : goal.push_row-requires-clause-row
push_row-requires-clause-row c = (row (goal.at.push_row-requires-clause-row c).In-loop-first c.loop-first-test.true).starts

pub push_row-requires-clause-some : goal.push_row-requires-clause-some
push_row-requires-clause-some c = (row (goal.at.push_row-requires-clause-some c).In-loop-first c.loop-first-test.true).some

pub push_row-requires-clause-within : goal.push_row-requires-clause-within
push_row-requires-clause-within c = (row (goal.at.push_row-requires-clause-within c).In-loop-first c.loop-first-test.true).within

pub loop-first-preserved : goal.loop-first-preserved
loop-first-preserved c = record {
  so_far = c.in_ok-push_row.ensures;
  whole = (c.loop-first.invariant.whole.0 + 1, omega (arith, c.loop-first.invariant.whole.1));
  within = (row (goal.at.loop-first-preserved c).In-loop-first c.loop-first-test.true).within;
}
