use Rattle.std.proofs.Common.{◌≡◌, rules}
use Rattle.serde_json.specs.View.{view}
use Rattle.ig_info.specs.Added.{members_with}
use Rattle.ig_info.proofs.AddedScale.{grown-IsInfo}
use Rattle.ig_info.proofs.added.one_scale_more.Goals as goal

pub of_members-requires : goal.of_members-requires
of_members-requires c =
    let members : view c.in_ok-members.members ≡ members_with c.args.scale.now c.args.info.now.members = search rules in
    let before : c.in_ok-scales.scales ≡ c.args.info.now.scales = search rules in
    grown-IsInfo c.args.info.now c.args.scale.now c.in_ok-copy.field-0 _ _ _ c.members.ensures.whole c.requires.width c.requires.new c.requires.few c.requires.fits members before c.in_ok-copy.ensures
    c.in_ok-push.ensures.ok
