-- So far the lines of the first stages were written.
use Rattle.std.proofs.Common.{◌≡◌, ◌++◌, drop, string_bytes}
use Rattle.ig_cli.specs.Report.{ran_text}
use Rattle.ig_cli.proofs.done.ran_lines.Given as goal

abbrev pub invariant-loop-stage : goal.invariant-loop-stage
invariant-loop-stage l = string_bytes l.text ++ ran_text (drop l.stage-index l.ran) ≡ ran_text l.ran
