use Rattle.std.proofs.Common.{◌+◌, List, [], ◌∷◌, ◌++◌, length, sym, subst, ap, ◌∙◌, arith}
use Rattle.ig_space.specs.Volume.{Voxels}
use Rattle.ig_mode.specs.HasMips.{HaveMips}
use Rattle.ig_mode.proofs.MipVolumes.{length-pushed, mips-first, mips-more}
use Rattle.ig_mode.proofs.levels.mips.Goals as goal

pub loop-level-init : goal.loop-level-init
loop-level-init c = record {
  long = length-pushed c.in_ok-mip_of.field-0 c.new-volumes.result c.push.new.self c.in_ok-push.ensures.ok ∙ ap (λ (l : List Voxels). length l + 1) c.new-volumes.ensures;
  each = mips-first c.args.from.now c.in_ok-mip_of.field-0 c.new-volumes.result c.push.new.self c.new-volumes.ensures c.in_ok-push.ensures.ok c.in_ok-mip_of.ensures;
}

pub loop-level-preserved : goal.loop-level-preserved
loop-level-preserved c =
    let from = c.args.from.now in
    let volumes = c.loop-level.volumes in
    let next = c.in_ok-next.next in
    record {
      long = length-pushed next volumes c.push-in-loop-level.new.self c.in_ok-push-2.ensures.ok ∙ ap (λ n. n + 1) c.loop-level.invariant.long;
      each = subst (λ (l : List Voxels). HaveMips from l) (sym c.in_ok-push-2.ensures.ok)
          (mips-more from volumes c.last.result.now next (omega arith) c.loop-level.invariant.each c.last.ensures c.in_ok-next.ensures);
    }

pub last-requires : goal.last-requires
last-requires c = omega arith
