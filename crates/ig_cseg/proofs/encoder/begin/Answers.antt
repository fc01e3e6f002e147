use Rattle.std.proofs.Common.{refl, ◌+◌, ◌*◌}
use Rattle.ig_cseg.proofs.HeaderWrites.{text-begun}
use Rattle.ig_cseg.proofs.encoder.begin.Goals as goal

pub returns : goal.returns
returns c = text-begun c.args.blocks (4 + 8 * c.args.blocks) c.in_ok-text.text.items (c.in_ok-text.ensures.items_if_clones_equal (λ y e. e)) refl
