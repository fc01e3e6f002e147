-- The ends of the links so far are below the number of nodes.
use Rattle.std.proofs.Common.{ℕ, ◌<◌}
use Rattle.ig_global.specs.EdgeGraph.{edge_at}
use Rattle.ig_play.proofs.globals.are_within.Given as goal

abbrev pub invariant-loop-place : goal.invariant-loop-place
invariant-loop-place l = (i : ℕ) → i < l.place → ((edge_at l.edges i).a < l.nodes) × ((edge_at l.edges i).b < l.nodes)
