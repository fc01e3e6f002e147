use Rattle.std.proofs.Common.{◌∙◌}
use Rattle.ig_stage.proofs.AddedMips.{wide-added}
use Rattle.ig_stage.proofs.MipSteps.{adds-one}
use Rattle.ig_stage.proofs.mipping.all_added.Goals as goal

pub loop-scale-preserved : goal.loop-scale-preserved
loop-scale-preserved c =
    let before = c.loop-scale.more in
    let new = c.in_ok-more.more in
    record {
      whole = c.loop-scale.invariant.whole
          ∙ adds-one before new c.args.scales.now _ c.loop-scale.scale-index c.scale-item.result c.as_slice-scale-items.ensures c.loop-scale-test.true c.scale-item.is
          c.in_ok-more.ensures.value;
      wide = wide-added before new c.scale-item.result c.args.scales.now c.in_ok-more.ensures.value c.loop-scale.invariant.wide;
    }
