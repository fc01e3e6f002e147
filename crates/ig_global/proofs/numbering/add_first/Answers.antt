use Rattle.std.proofs.Common.{◌+◌, sym, subst}
use Rattle.ig_global.specs.Numbers.{HaveTallies}
use Rattle.ig_global.proofs.TableLaws.{tallies-push}
use Rattle.ig_global.proofs.numbering.add_first.Goals as goal

pub returns : goal.returns
returns c =
    subst (HaveTallies c.args.classes.now c.args.least.now (c.args.place + 1)) (sym c.in_ok-push.ensures.items)
    (tallies-push c.args.classes.now c.args.least.now c.args.ascending.now.items c.args.place c.requires.tallies c.if-classes-place.false)
