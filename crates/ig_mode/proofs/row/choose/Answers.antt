use Rattle.std.proofs.Common.{cond, eqb, get_or, sym, subst, w64}
use Rattle.std.proofs.lemmas.Simd.{tops_compared}
use Rattle.std.specs.Simd.Lanes.{sel_l}
use Rattle.ig_mode.specs.Lanes.{HasLanes}
use Rattle.ig_mode.proofs.Vectors.{lanes-chosen}
use Rattle.ig_mode.proofs.row.choose.Goals as goal

pub returns : goal.returns
returns c =
    let a = c.args.a in
    let b = c.args.b in
    let x = c.args.x in
    let y = c.args.y in
    subst (λ ms. HasLanes (sel_l ms x y) (λ k. cond (eqb (get_or a k 0) (get_or b k 0)) (get_or x k 0) (get_or y k 0)))
    (sym (tops_compared w64 eqb a b)) (lanes-chosen a b x y c.fits-a.0 c.fits-b.0 c.fits-x.0 c.fits-y.0)
