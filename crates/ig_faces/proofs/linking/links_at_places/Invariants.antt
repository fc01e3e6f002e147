-- So far the links are those at the first places.
use Rattle.std.proofs.Common.{◌↔◌}
use Rattle.std.specs.List.{Contains}
use Rattle.ig_faces.specs.declared.links.Link.{Link}
use Rattle.ig_faces.specs.Linking.{IsLinkedBelow}
use Rattle.ig_faces.proofs.linking.links_at_places.Given as goal

abbrev pub invariant-loop-place : goal.invariant-loop-place
invariant-loop-place l = (link : Link) → Contains l.links.items link ↔ IsLinkedBelow l.place l.axis l.high l.low l.own l.other link
