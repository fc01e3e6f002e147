-- The rule of a command that runs by itself.
use Rattle.std.specs.Prelude.{None}
use Rattle.ig_rule.specs.declared.role.Role.TheVariants.{Local}
use Rattle.ig_task.specs.declared.pipeline.Pipeline.{Pipeline}

-- no queue, and by itself
abbrev pub local_rule : Pipeline
local_rule = record { queue = None; role = Local }
