use Rattle.ig_info.proofs.NewLayer.{made-IsInfo}
use Rattle.ig_info.proofs.dest.one_scale.Goals as goal

pub of_members-requires : goal.of_members-requires
of_members-requires c =
    made-IsInfo c.args.scale.now c.in_ok-copy.field-0 _ _ _ _ c.requires c.in_ok-members.ensures c.in_ok-scale_value.ensures c.new-scales.ensures c.in_ok-copy.ensures c.in_ok-push.ensures.ok
