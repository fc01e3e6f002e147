use Rattle.std.proofs.Common.{◌≡◌, ◌+◌, ◌*◌, ◌∙◌, get_or, length, arith}
use Rattle.ig_mode.specs.Mode.{block_mode}
use Rattle.ig_mode.proofs.Vectors.{four-more, fours-are}
use Rattle.ig_mode.proofs.row.mode_fours.Goals as goal

pub loop-four-preserved : goal.loop-four-preserved
loop-four-preserved c =
    let upper = c.args.upper.now in
    let lower = c.args.lower.now in
    let n = c.loop-four.four in
    four-more (λ k. get_or c.put.new.out k 0 ≡ block_mode (length upper) upper lower k) n
    (λ k h. c.put.ensures.before k h ∙ c.loop-four.invariant k h)
    (λ j h. c.put.ensures.written j h
    ∙ fours-are (length upper) n upper lower c.evens.result c.odds.result c.evens-in-loop-four.result c.odds-in-loop-four.result c.mode_lanes-modes.result (omega arith)
    c.evens.ensures c.odds.ensures c.evens-in-loop-four.ensures c.odds-in-loop-four.ensures c.mode_lanes-modes.ensures j h)
