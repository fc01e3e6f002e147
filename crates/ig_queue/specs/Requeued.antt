-- Names of tasks that may be leased again.
use Rattle.ig_defs.specs.declared.queue_name.QueueName.{QueueName}

-- the name of a task whose lease was ended: it may be leased at once, and was leased as often as before
abbrev pub released_name : QueueName → QueueName
released_name name = record { visible = 0; stage = name.stage; task = name.task; attempt = name.attempt }
