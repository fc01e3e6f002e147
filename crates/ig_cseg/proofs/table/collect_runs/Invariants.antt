-- So far the runs have the labels that were seen.
use Rattle.std.proofs.Common.{ℕ, ◌↔◌, take}
use Rattle.std.specs.List.{Contains}
use Rattle.ig_cseg.proofs.table.collect_runs.Given as goal

abbrev pub invariant-loop-k : goal.invariant-loop-k
invariant-loop-k l = (label : ℕ) → Contains l.runs.items label ↔ Contains (take l.k l.labels) label
