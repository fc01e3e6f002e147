-- The parts of all words are those so far and those of the words to come.
use Rattle.std.proofs.Common.{◌≡◌, drop}
use Rattle.ig_meaning.specs.Options.{parts_of}
use Rattle.ig_cli.specs.Parts.{read_on, shown}
use Rattle.ig_cli.specs.Words.{texts_of}
use Rattle.ig_cli.proofs.options.parts_of.Given as goal

abbrev pub invariant-loop-word : goal.invariant-loop-word
invariant-loop-word l = parts_of (texts_of l.words) ≡ read_on (shown l.parts) l.next (texts_of (drop l.word-index l.words))
