use Rattle.std.proofs.Common.{arith, ◌≡◌, ◌↔◌, length, subst}
use Rattle.std.specs.List.{Contains}
use Rattle.ig_faces.specs.declared.links.Link.{Link}
use Rattle.ig_faces.specs.Linking.{IsLinkedBelow}
use Rattle.ig_faces.proofs.Linked.{linked-more}
use Rattle.ig_faces.proofs.linking.links_at_places.Goals as goal

pub loop-place-preserved : goal.loop-place-preserved
loop-place-preserved c =
    linked-more c.loop-place.place c.args.axis c.args.high.now c.args.low.now c.args.own.now c.args.other.now c.loop-place.links.items c.push_found.new.links.items
    c.link_between-found.result c.link_between-found.ensures c.loop-place.invariant c.in_ok-push_found.ensures

pub returns : goal.returns
returns c =
    let end : c.loop-place.place ≡ length c.args.high.now = omega (arith, c.loop-place-test.false, c.loop-place.auto.place-end) in
    subst (λ n. (link : Link) → Contains c.loop-place.links.items link ↔ IsLinkedBelow n c.args.axis c.args.high.now c.args.low.now c.args.own.now c.args.other.now link)
    end c.loop-place.invariant
