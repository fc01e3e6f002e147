use Rattle.std.proofs.Common.{ap, map}
use Rattle.ig_cli.specs.Options.{both}
use Rattle.ig_cli.specs.Parts.{shown}
use Rattle.ig_cli.specs.Words.{texts_of}
use Rattle.ig_cli.proofs.Reading.{read-first}
use Rattle.ig_cli.proofs.options.parts_of.Goals as goal

pub loop-word-init : goal.loop-word-init
loop-word-init c =
    read-first (shown (record { options = c.new.result; rest = c.new-2.result })) (texts_of c.args.words.now) (ap (map both) c.new.ensures.items) (ap (map (λ w. w.now)) c.new-2.ensures.items)
