use Rattle.ig_info.proofs.Limits.{scales_of-IsInfo}
use Rattle.ig_info.proofs.read.read_info.Goals as goal

pub of_members-requires : goal.of_members-requires
of_members-requires c = scales_of-IsInfo _ _ c.in_ok-scales.ensures c.in_ok-members.ensures.nests c.in_ok-members.ensures.ordered
