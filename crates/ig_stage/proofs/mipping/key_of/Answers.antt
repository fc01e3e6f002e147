use Rattle.std.proofs.Common.{ap, ◌∙◌}
use Rattle.ig_space.specs.Path.{is_path}
use Rattle.ig_stage.proofs.MipKeys.{path_of_key}
use Rattle.ig_stage.proofs.mipping.key_of.Goals as goal

pub unwrap-requires : goal.unwrap-requires
unwrap-requires c = c.in_ok-new.ensures.some.1 (ap is_path (c.as_str.ensures.value ∙ c.in_ok-text.ensures) ∙ path_of_key c.args.resolution c.requires)
