use Rattle.std.proofs.Common.{sym}
use Rattle.ig_cli.specs.Parts.{shown}
use Rattle.ig_cli.proofs.Reading.{read-rest}
use Rattle.ig_cli.proofs.options.take_any.Goals as goal

pub returns-then-not-is_marked : goal.returns-then-not-is_marked
returns-then-not-is_marked c = λ ws.
    read-rest (shown c.args.parts.now) (shown c.add_rest.new.self) c.args.word.now (sym c.if-eq.ensures) (sym c.if-not-is_marked.ensures) c.in_ok-add_rest.ensures ws
