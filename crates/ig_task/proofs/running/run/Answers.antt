use Rattle.std.proofs.Common.{Bor, List, ℕ, Some, option_map, ap, sym, ◌∙◌}
use Rattle.ig_meaning.specs.Refusal as refusal
use Rattle.ig_task.proofs.TaskRuns.{refused-missing}
use Rattle.ig_task.proofs.WantedOutputs.{wanted_if}
use Rattle.ig_task.proofs.running.run.Goals as goal

pub returns-in-Some-clause-refused : goal.returns-in-Some-clause-refused
returns-in-Some-clause-refused c = λ files holds.
    refused-missing c.args.stage.now c.args.task files c.args.given.now holds c.requires.paths c.in-Some.path.now
    (sym c.absent.ensures ∙ ap (option_map (λ (path : Bor (List ℕ)). path.now)) c.in-Some.is)
    ∙ ap (λ p. Some (refusal.Missing p)) (sym c.in_ok-copy.ensures)

pub made-requires-clause-found : goal.made-requires-clause-found
made-requires-clause-found c = sym c.absent.ensures ∙ ap (option_map (λ (path : Bor (List ℕ)). path.now)) c.in_default.is

pub returns-clause-wanted : goal.returns-clause-wanted
returns-clause-wanted c = wanted_if c.args.stage.now c.requires.sound c.args.task c.requires.below c.args.given.now c.made.result c.made.ensures.made
