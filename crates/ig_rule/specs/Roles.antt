-- What a process lets others do while it works.
use Rattle.std.specs.Prelude.{Bool, true, false, List, ℕ, Option, None, Some}
use Rattle.ig_defs.specs.declared.step.Act.{Act}
use Rattle.ig_defs.specs.declared.step.Act.TheVariants as act
use Rattle.ig_defs.specs.Files.{Files}
use Rattle.ig_defs.specs.Log.{IsQuiet}
use Rattle.ig_rule.specs.Facts.{Reader}
use Rattle.ig_rule.specs.Stages.{stages_in}
use Rattle.ig_rule.specs.Rule.{PutsOutput, Allowed}
use Rattle.ig_rule.specs.Known.{RecordsRemoval}
use Rattle.ig_rule.specs.declared.role.Role.{Role}
use Rattle.ig_rule.specs.declared.role.Role.TheVariants.{Local, Maker, Worker}

-- The act puts no stage record, no info, no task name and no seal.
abbrev pub MakesNoStage : Reader → List ℕ → Files → Act → Type 0
MakesNoStage read q files (act.Put path bytes) = PutsOutput (stages_in read q files) files path bytes
MakesNoStage read q files (act.Read path) = Unit {0}
MakesNoStage read q files (act.List dir given) = Unit {0}
MakesNoStage read q files (act.Move from to) = Unit {0}
MakesNoStage read q files (act.Remove path) = Unit {0}

-- What a process of the role leaves to others: beside local work only looks; beside a maker all but making a stage; beside a
-- worker all but recording a removal.
abbrev pub IsLeft : Role → Reader → List ℕ → Files → Act → Type 0
IsLeft Local read q files a = IsQuiet a
IsLeft Maker read q files a = MakesNoStage read q files a
IsLeft Worker read q files a = RecordsRemoval read q a → ⊥

-- What a process of the role may do to a queue and its files, and what others may do beside it. Without a queue each own step
-- is allowed, and others only look.
abbrev pub Allows : Reader → Role → Option (List ℕ) → Bool → Files → Act → Type 0
Allows read role None true files a = Unit {0}
Allows read role None false files a = IsQuiet a
Allows read role (Some q) true files a = Allowed read q files a
Allows read role (Some q) false files a = Allowed read q files a × IsLeft role read q files a
