-- So far the first texts gave these stages.
use Rattle.std.proofs.Common.{◌≡◌, All, Ok, length, take, true}
use Rattle.ig_meaning.specs.QueueMaking.{stages_of}
use Rattle.ig_record.specs.Sound.{is_sound}
use Rattle.ig_stage.proofs.records.parse_texts.Given as goal

abbrev pub invariant-loop-text : goal.invariant-loop-text
invariant-loop-text l =
    (length l.stages ≡ l.text-index) × (stages_of l.queue 0 (take l.text-index l.texts) ≡ Ok l.stages) × All (λ stage. is_sound stage ≡ true) l.stages
