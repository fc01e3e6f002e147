use Rattle.ig_cseg.proofs.Lookups.{found, not_missing}
use Rattle.ig_cseg.proofs.table.index_of.Goals as goal

pub unreachable-requires : goal.unreachable-requires
unreachable-requires c = not_missing c.args.table.now c.args.label _ c.requires.rises c.requires.has c.in-Err.ensures.position

pub returns : goal.returns
returns c = found c.args.table.now c.args.label c.in-Ok.index c.requires.rises c.in-Ok.ensures.bound c.in-Ok.ensures.ok
