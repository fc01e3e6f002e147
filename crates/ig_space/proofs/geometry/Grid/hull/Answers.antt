use Rattle.std.proofs.Common.{◌≡◌, ◌<◌, ℕ, subst}
use Rattle.ig_space.specs.declared.geometry.Grid.{Grid}
use Rattle.ig_space.specs.Grid.{IsIn, Meets, cell, cell_at, cell_count, number_at}
use Rattle.ig_space.specs.HullCells.{hull-ascends, hull-cells, hull-meets, hull-numbers}
use Rattle.ig_space.proofs.Hulls.{same_hull}
use Rattle.ig_space.proofs.geometry.Grid.hull.Goals as goal

pub returns-clause-cells : goal.returns-clause-cells
returns-clause-cells c =
    let g = c.args.self.now in
    let a = c.args.area in
    subst (λ (h : Grid). (k : ℕ) → k < cell_count h
    → (number_at g (cell h k).lo.x (cell h k).lo.y (cell h k).lo.z < cell_count g) × (cell g (number_at g (cell h k).lo.x (cell h k).lo.y (cell h k).lo.z) ≡ cell h k))
    (same_hull g a c.hull_space.result c.hull_space.ensures)
    (hull-cells g a c.requires.grid c.requires.within)

pub returns-clause-meets : goal.returns-clause-meets
returns-clause-meets c =
    let g = c.args.self.now in
    let a = c.args.area in
    subst (λ (h : Grid). (k : ℕ) → k < cell_count h → Meets (cell h k) a)
    (same_hull g a c.hull_space.result c.hull_space.ensures)
    (hull-meets g a c.requires.grid c.requires.within)

pub returns-clause-holds : goal.returns-clause-holds
returns-clause-holds c =
    let g = c.args.self.now in
    let a = c.args.area in
    subst (λ (h : Grid). (x y z : ℕ) → IsIn a x y z → (number_at h x y z < cell_count h) × (cell h (number_at h x y z) ≡ cell_at g x y z))
    (same_hull g a c.hull_space.result c.hull_space.ensures)
    (hull-numbers g a c.requires.grid c.requires.within)

pub returns-clause-ascends : goal.returns-clause-ascends
returns-clause-ascends c =
    let g = c.args.self.now in
    let a = c.args.area in
    subst (λ (h : Grid). (j k : ℕ) → j < k → k < cell_count h → number_at g (cell h j).lo.x (cell h j).lo.y (cell h j).lo.z < number_at g (cell h k).lo.x (cell h k).lo.y (cell h k).lo.z)
    (same_hull g a c.hull_space.result c.hull_space.ensures)
    (hull-ascends g a c.requires.grid c.requires.within)
