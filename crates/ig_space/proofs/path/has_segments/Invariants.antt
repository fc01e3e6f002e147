-- The whole text is of segments where the rest goes on as it has to.
use Rattle.std.proofs.Common.{◌≡◌, drop}
use Rattle.std.specs.List.{list_all}
use Rattle.ig_space.specs.Path.{is_segment, segments}
use Rattle.ig_space.specs.Segments.{goes_on}
use Rattle.ig_space.proofs.path.has_segments.Given as goal

abbrev pub invariant-loop-c : goal.invariant-loop-c
invariant-loop-c l = list_all is_segment (segments l.text) ≡ goes_on l.begins (drop l.c-index l.text)
