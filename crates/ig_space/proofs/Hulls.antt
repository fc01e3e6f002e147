-- What a grid is that has the box and the step of a hull.
use Rattle.std.proofs.Common.{◌≡◌, sym}
use Rattle.ig_space.specs.declared.point.Box3.{Box3}
use Rattle.ig_space.specs.declared.geometry.Grid.{Grid}
use Rattle.ig_space.specs.Grid.{hull}

pub same_hull : (g : Grid) (a space : Box3) → space ≡ (hull g a).space → hull g a ≡ record { space = space; step = g.step }
same_hull g a space e = λ i. record { space = sym e i; step = g.step }
