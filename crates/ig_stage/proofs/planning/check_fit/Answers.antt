use Rattle.std.proofs.Common.{rules}
use Rattle.ig_stage.proofs.Sounds.{can_run, row}
use Rattle.ig_stage.proofs.planning.check_fit.Goals as goal

pub unfit_axis-requires-clause-few : goal.unfit_axis-requires-clause-few
unfit_axis-requires-clause-few c = (row c.args.stage.now c.requires).few

pub unfit_axis-requires-clause-fits : goal.unfit_axis-requires-clause-fits
unfit_axis-requires-clause-fits c = c.requires.fits

pub unfit_axis-requires-clause-sides : goal.unfit_axis-requires-clause-sides
unfit_axis-requires-clause-sides c = (row c.args.stage.now c.requires).unit

pub returns-clause-can_run : goal.returns-clause-can_run
returns-clause-can_run c = can_run c.args.stage.now c.requires (search rules)
