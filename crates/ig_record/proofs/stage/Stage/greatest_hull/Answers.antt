use Rattle.std.proofs.Common.{arith, sym, ◌*◌, ◌∙◌}
use Rattle.ig_space.specs.Geometry.{Fits-from}
use Rattle.ig_record.proofs.HullLaws.{hulls-product}
use Rattle.ig_record.proofs.stage.Stage.greatest_hull.Goals as goal

pub greatest_along-x-requires-clause-some : goal.greatest_along-x-requires-clause-some
greatest_along-x-requires-clause-some c = (Fits-from c.args.self.now.source.geometry c.requires.fits).x_some

pub greatest_along-x-requires-clause-chunk : goal.greatest_along-x-requires-clause-chunk
greatest_along-x-requires-clause-chunk c = (Fits-from c.args.self.now.source.geometry c.requires.fits).x_step

pub greatest_along-x-requires-clause-small : goal.greatest_along-x-requires-clause-small
greatest_along-x-requires-clause-small c = let ends = (Fits-from c.args.self.now.source.geometry c.requires.fits).x_ends in omega (arith, ends)

pub greatest_along-y-requires-clause-some : goal.greatest_along-y-requires-clause-some
greatest_along-y-requires-clause-some c = (Fits-from c.args.self.now.source.geometry c.requires.fits).y_some

pub greatest_along-y-requires-clause-chunk : goal.greatest_along-y-requires-clause-chunk
greatest_along-y-requires-clause-chunk c = (Fits-from c.args.self.now.source.geometry c.requires.fits).y_step

pub greatest_along-y-requires-clause-small : goal.greatest_along-y-requires-clause-small
greatest_along-y-requires-clause-small c = let ends = (Fits-from c.args.self.now.source.geometry c.requires.fits).y_ends in omega (arith, ends)

pub greatest_along-z-requires-clause-some : goal.greatest_along-z-requires-clause-some
greatest_along-z-requires-clause-some c = (Fits-from c.args.self.now.source.geometry c.requires.fits).z_some

pub greatest_along-z-requires-clause-chunk : goal.greatest_along-z-requires-clause-chunk
greatest_along-z-requires-clause-chunk c = (Fits-from c.args.self.now.source.geometry c.requires.fits).z_step

pub greatest_along-z-requires-clause-small : goal.greatest_along-z-requires-clause-small
greatest_along-z-requires-clause-small c = let ends = (Fits-from c.args.self.now.source.geometry c.requires.fits).z_ends in omega (arith, ends)

pub returns : goal.returns
returns c =
    let f = Fits-from c.args.self.now.source.geometry c.requires.fits in
    let x = c.from.ensures ∙ c.greatest_along-x.ensures.value in
    let y = c.from-2.ensures ∙ c.greatest_along-y.ensures.value in
    let z = c.from-3.ensures ∙ c.greatest_along-z.ensures.value in
    (λ i. x i * (y i * z i)) ∙ sym (hulls-product c.args.self.now f.x_some f.y_some f.z_some c.requires.sides)
