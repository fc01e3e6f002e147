-- The rule of a process: its queue, and its role.
use Rattle.std.specs.Prelude.{Bool}
use Rattle.ig_defs.specs.declared.step.Act.{Act}
use Rattle.ig_defs.specs.Files.{Files}
use Rattle.ig_rule.specs.Roles.{Allows}
use Rattle.ig_task.specs.declared.pipeline.Pipeline.{Pipeline}
use Rattle.ig_task.specs.Facts.{stage_reader}

-- own steps by the rule of the queue, and steps of others by it and by what the role leaves to them
abbrev pub is_allowed : Pipeline → Bool → Files → Act → Type 0
is_allowed rule mine files a = Allows stage_reader rule.role rule.queue mine files a
