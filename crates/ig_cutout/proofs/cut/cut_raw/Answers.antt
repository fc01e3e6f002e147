use Rattle.std.proofs.Common.{arith, ◌≡◌, ◌++◌, take, drop, length, ap, sym, ◌∙◌}
use Rattle.std.proofs.Math.Seq.{take-append_seam}
use Rattle.ig_space.specs.declared.point.Point.{Point}
use Rattle.ig_space.specs.Grid.{size_of}
use Rattle.ig_space.specs.Raw.{raw_text}
use Rattle.ig_cutout.specs.declared.layout.Layout.{Layout}
use Rattle.ig_cutout.specs.Area.{layout_of}
use Rattle.ig_cutout.specs.Gathered.{planes_of}
use Rattle.ig_cutout.proofs.Moved.{room-at}
use Rattle.ig_cutout.proofs.Places.{layout-room}
use Rattle.ig_cutout.proofs.cut.cut_raw.Goals as goal

pub write_planes-requires-clause-source : goal.write_planes-requires-clause-source
write_planes-requires-clause-source c =
    room-at 1 _ (layout_of c.args.area c.args.chunk) _ _ _ _ c.layout_of.ensures c.size_of-size.ensures (omega (arith, c.requires.length))
    (layout-room 1 c.args.area c.args.chunk c.requires.within)

pub returns : goal.returns
returns c =
    let long : length c.write_planes.new.text ≡ c.in_ok-text.text.len = let h = c.write_planes.auto.text in let k = c.deref_mut.ensures.len in omega (arith, h, k) in
    let over : take c.in_ok-text.text.len (c.write_planes.new.text ++ drop (length c.write_planes.new.text) c.in_ok-text.text.items) ≡ c.write_planes.new.text
    = ap (λ n. take n (c.write_planes.new.text ++ drop (length c.write_planes.new.text) c.in_ok-text.text.items)) (sym long) ∙ take-append_seam c.write_planes.new.text _ in
    c.from_vec.ensures ∙ over ∙ c.write_planes.ensures
    ∙ ap (λ (p : Point). raw_text c.args.width (planes_of c.args.labels.now c.layout_of.result p.x p.y p.z)) c.size_of-size.ensures
    ∙ ap (λ (l : Layout). raw_text c.args.width (planes_of c.args.labels.now l (size_of c.args.chunk).x (size_of c.args.chunk).y (size_of c.args.chunk).z)) c.layout_of.ensures
