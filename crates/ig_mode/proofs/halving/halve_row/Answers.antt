use Rattle.std.proofs.Common.{◌+◌, ◌-◌, ◌∙◌, ap, arith, take, drop}
use Rattle.ig_mode.specs.Mode.{block_mode}
use Rattle.ig_mode.proofs.Planes.{row-of_parts}
use Rattle.ig_mode.proofs.Written.{length-part}
use Rattle.ig_mode.proofs.halving.halve_row.Goals as goal

pub returns-clause-each : goal.returns-clause-each
returns-clause-each c k below =
    let plane = c.args.plane.now in
    let wide = c.args.wide in
    let upper = c.args.upper in
    let lower = c.args.lower in
    let long = length-part upper wide plane c.requires.upper in
    c.mode_row.ensures.each k below
    ∙ ap (λ n. block_mode n (take (upper + wide - upper) (drop upper plane)) (take (lower + wide - lower) (drop lower plane)) k) long
    ∙ row-of_parts wide upper lower k plane (omega (arith, below, c.mode_row.ensures.length))
