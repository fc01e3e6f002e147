-- What a drained stage says of the files, wherever the log of a maker stood.
use Rattle.std.proofs.Common.{◌≡◌, ℕ, List, ◌++◌, Some, false}
use Rattle.ig_defs.specs.declared.step.Step.{Step}
use Rattle.ig_defs.specs.Log.{Log, replay}
use Rattle.ig_rule.specs.DrainedFinished.{drained_defined, drained_exact}
use Rattle.ig_rule.specs.Facts.{Facts}
use Rattle.ig_rule.specs.Prefixes.{prefix_sound}
use Rattle.ig_rule.specs.QueueFiles.{queue_of}
use Rattle.ig_rule.specs.Sound.{Legal}
use Rattle.ig_rule.specs.Stages.{Clear, Drained, stages_in}
use Rattle.ig_meaning.specs.Exactly.{HoldsExactly}
use Rattle.ig_task.specs.Facts.{stage_reader}
use Rattle.ig_task.specs.Kinds.{kinds}

pub holds_exactly : (q : List ℕ) (log : Log) → Legal stage_reader q log → (xs ys : List Step) → log.steps ≡ xs ++ ys → (n : ℕ) (s : Facts)
    → stages_in stage_reader q (replay log.opening xs) n ≡ Some s → Drained (queue_of q (replay log.opening xs)) n → Clear (stages_in stage_reader q (replay log.opening xs)) n s
    → s.removes ≡ false → HoldsExactly s (replay log.opening xs)
holds_exactly q log legal xs ys grown n s is drained clear makes =
    let files = replay log.opening xs in
    let sound = prefix_sound stage_reader kinds q log xs ys legal grown in
    record {
      exact = drained_exact stage_reader kinds q files n s sound is drained clear makes;
      wanted = drained_defined stage_reader q files n s sound is drained clear makes;
    }
