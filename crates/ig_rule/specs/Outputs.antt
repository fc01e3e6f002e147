-- Outputs of stages that are not under removal stay.
use Rattle.std.specs.Prelude.{◌≡◌, ℕ, false, List, Some}
use Rattle.ig_defs.specs.declared.step.Act.{Act}
use Rattle.ig_defs.specs.Files.{Files, file_at}
use Rattle.ig_defs.specs.Log.{after}
use Rattle.ig_rule.specs.Facts.{Facts, Reader, LiesInOne, KindLaws}
use Rattle.ig_rule.specs.Stages.{stages_in, Clear}
use Rattle.ig_rule.specs.Rule.{Allowed}
use Rattle.ig_rule.specs.Sound.{Sound}
use Rattle.ig_rule.specs.Effects.{act_keeps}

-- No allowed act changes or takes away a file in an output directory of a stage that is not under removal.
pub output_stays : (read : Reader) → KindLaws read → (q : List ℕ) (files : Files) (a : Act) (n : ℕ) (s : Facts) → Sound read q files → Allowed read q files a
    → stages_in read q files n ≡ Some s → s.removes ≡ false → Clear (stages_in read q files) n s
    → (path bytes : List ℕ) → LiesInOne s.outputs path → file_at files path ≡ Some bytes → file_at (after files a) path ≡ Some bytes
output_stays read kinds q files a n s sound may is makes clear path bytes lies there = (act_keeps read kinds q files a sound may).stays n s is makes clear path bytes lies there
