-- The values of all options are the one that was found, and those of the options to come.
use Rattle.std.proofs.Common.{◌≡◌, ◌++◌, drop, map}
use Rattle.ig_meaning.specs.Options.{values_of}
use Rattle.ig_cli.specs.Options.{both, lent}
use Rattle.ig_cli.proofs.options.value_of.Given as goal

abbrev pub invariant-loop-option : goal.invariant-loop-option
invariant-loop-option l = values_of l.name (map both l.options) ≡ lent l.found ++ values_of l.name (map both (drop l.option-index l.options))
