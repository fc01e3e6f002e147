use Rattle.std.proofs.Common.{◌∙◌}
use Rattle.ig_cli.proofs.Prefixes.{in_front, not_in_front}
use Rattle.ig_cli.proofs.queue_words.holds.Goals as goal

pub returns-in-Some : goal.returns-in-Some
returns-in-Some c =
    c.begins_with.ensures
    ∙ in_front c.args.dir.now c.args.path.now _ _ c.as_bytes-2.ensures.value c.as_bytes.ensures.value c.in-Some.rest.now c.in-Some.ensures.cases.0 c.in-Some.ensures.cases.1

pub returns-in-None : goal.returns-in-None
returns-in-None c =
    not_in_front c.args.dir.now c.args.path.now _ _ c.as_bytes-2.ensures.value c.as_bytes.ensures.value c.in-None.ensures.cases
