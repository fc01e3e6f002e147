-- The rule of a command.
use Rattle.std.specs.Prelude.{ℕ, List, Option, None, Some}
use Rattle.ig_meaning.specs.Words.{queue_of_words}
use Rattle.ig_stage.specs.Open.{maker_rule}
use Rattle.ig_stage.specs.Pipeline.{local_rule}
use Rattle.ig_rule.specs.declared.role.Role.TheVariants.{Worker}
use Rattle.ig_task.specs.declared.pipeline.Pipeline.{Pipeline}
use Rattle.ig_worker.specs.declared.plan.Plan.{Plan}
use Rattle.ig_worker.specs.Words.{plan_of_words}

-- that of a worker on this queue
abbrev pub worker_rule : List ℕ → Pipeline
worker_rule q = record { queue = Some q; role = Worker }

-- that of a process by itself, or of one that makes stages in this queue
abbrev pub rule_with : Option (List ℕ) → Pipeline
rule_with None = local_rule
rule_with (Some q) = maker_rule q

-- that of a worker with this plan, and without one that of a process by itself, or of one that makes stages in this queue
abbrev pub rule_for : Option Plan → Option (List ℕ) → Pipeline
rule_for (Some plan) made_in = worker_rule plan.queue
rule_for None made_in = rule_with made_in

-- that of the command of these words
abbrev pub rule_of_words : List (List ℕ) → Pipeline
rule_of_words words = rule_for (plan_of_words words) (queue_of_words words)

-- the queue that the command of these words works on, if it works on one
abbrev pub queue_in_use : List (List ℕ) → Option (List ℕ)
queue_in_use words = (rule_of_words words).queue
