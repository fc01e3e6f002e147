use Rattle.std.proofs.Common.{◌≡◌, ◌≤◌, ◌^◌, ◌&&◌, eqb, ltb, get_or, ◌∙◌, arith, length, rules}
use Rattle.ig_graph.specs.Counts.{how_many}
use Rattle.ig_graph.specs.CountLaws.{how_many-bound}
use Rattle.ig_global.proofs.numbering.number_at.Goals as goal
use Rattle.ig_global.proofs.numbering.number_at.Goals.{After-count_below}

-- as many are below the bound as the contract counts
count : (c : After-count_below)
    → c.count_below.result ≡ how_many (λ a. eqb (get_or c.args.classes.now a 0) a && ltb (get_or c.args.least.now a 0) (get_or c.args.least.now (get_or c.args.classes.now c.args.place 0) 0)) (length c.args.classes.now)
count c = c.count_below.ensures ∙ c.requires.tallies (get_or c.args.least.now (get_or c.args.classes.now c.args.place 0) 0)

few : (c : After-count_below) → c.count_below.result ≤ 2 ^ 24
few c =
    let most = how_many-bound (λ a. eqb (get_or c.args.classes.now a 0) a && ltb (get_or c.args.least.now a 0) (get_or c.args.least.now (get_or c.args.classes.now c.args.place 0) 0)) (length c.args.classes.now) in
    omega (arith, count c, most, c.requires.few)

pub overflow_cast-result : goal.overflow_cast-result
overflow_cast-result c = let small = few c in search (rules, small)

pub overflow_add-result : goal.overflow_add-result
overflow_add-result c = let small = few c in search (rules, small)

pub returns : goal.returns
returns c = omega (arith, count c)
