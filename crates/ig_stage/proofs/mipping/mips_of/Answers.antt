use Rattle.std.proofs.Common.{◌-◌, arith, subst, sym}
use Rattle.ig_info.specs.declared.scale.Scale.{Scale}
use Rattle.ig_stage.specs.Mips.{CanDouble}
use Rattle.ig_stage.proofs.MipKeys.{can-double-less, can-double-once}
use Rattle.ig_stage.proofs.MipSteps.{mips-go_on}
use Rattle.ig_stage.proofs.mipping.mips_of.Goals as goal

pub mip_of-requires : goal.mip_of-requires
mip_of-requires c = can-double-once c.loop-rest.rest c.loop-rest.last.resolution (omega (arith, c.loop-rest-test.true)) c.loop-rest.invariant.room

pub loop-rest-preserved : goal.loop-rest-preserved
loop-rest-preserved c =
    let last = c.loop-rest.last in
    let rest = c.loop-rest.rest in
    record {
      whole =
          mips-go_on c.args.levels rest c.args.scale.now last c.in_ok-last-2.last c.in_ok-copy.field-0 c.loop-rest.mips c.push.new.self (omega (arith, c.loop-rest-test.true))
          c.in_ok-last-2.ensures c.in_ok-copy.ensures c.in_ok-push.ensures.ok c.loop-rest.invariant.whole;
      room =
          subst (λ (s : Scale). CanDouble (rest - 1) s.resolution) (sym c.in_ok-last-2.ensures)
          (can-double-less rest last.resolution (omega (arith, c.loop-rest-test.true)) c.loop-rest.invariant.room);
    }
