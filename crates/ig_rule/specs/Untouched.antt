-- Files that are neither a queue's nor those of its stages are not touched.
use Rattle.std.specs.Prelude.{◌≡◌, ℕ, List, refl}
use Rattle.std.proofs.Common.{sym, subst, ◌∙◌}
use Rattle.ig_defs.specs.declared.step.Act.{Act}
use Rattle.ig_defs.specs.declared.step.Act.TheVariants as act
use Rattle.ig_defs.specs.Files.{Files, file_at}
use Rattle.ig_defs.specs.Log.{after}
use Rattle.ig_defs.specs.Puts.{file_at-other}
use Rattle.ig_rule.specs.QueueFiles.{Record, Seal, Queued, IsApartFrom, queue_of}
use Rattle.ig_rule.specs.Facts.{Reader, IsPath}
use Rattle.ig_rule.specs.Stages.{stages_in, task_id, IsStrange}
use Rattle.ig_rule.specs.Rule.{MayPut, an_output, a_record, an_info, a_task, a_seal, Allowed, fresh_name}
use Rattle.ig_rule.specs.QueueSteps.{file_at-kept}
use Rattle.ig_rule.specs.Effects.{move_is_within}

put_elsewhere : (read : Reader) (q : List ℕ) (files : Files) (path bytes other : List ℕ) → MayPut read (queue_of q files) q files path bytes
    → IsApartFrom q other → IsStrange (stages_in read q files) other → other ≡ path → ⊥
put_elsewhere read q files path bytes other (an_output u) apart strange e = strange.no_path u.number u.stage u.is (subst (IsPath u.stage) (sym e) u.path_is)
put_elsewhere read q files path bytes other (a_record u) apart strange e = apart (Record u.number) (e ∙ u.path_is)
put_elsewhere read q files path bytes other (an_info u) apart strange e = strange.no_info u.number u.stage u.info u.last.is u.info_is (e ∙ u.path_is)
put_elsewhere read q files path bytes other (a_task u) apart strange e = apart (Queued (fresh_name (task_id u.number u.task))) (e ∙ u.path_is)
put_elsewhere read q files path bytes other (a_seal u) apart strange e = apart (Seal u.number) (e ∙ u.path_is)

-- An allowed act changes no file but those of the queue, and paths and infos of recorded stages.
pub untouched : (read : Reader) (q : List ℕ) (files : Files) (a : Act) → Allowed read q files a
    → (path : List ℕ) → IsApartFrom q path → IsStrange (stages_in read q files) path → file_at (after files a) path ≡ file_at files path
untouched read q files (act.Read other) may path apart strange = refl
untouched read q files (act.List dir given) may path apart strange = refl
untouched read q files (act.Put other bytes) may path apart strange = file_at-other files path other bytes (put_elsewhere read q files other bytes path may apart strange)
untouched read q files (act.Move from to) may path apart strange = (move_is_within (stages_in read q files) q files from to may).same path apart
untouched read q files (act.Remove other) may path apart strange =
    file_at-kept files path other (λ e. strange.no_path may.number may.stage may.is
    (subst (IsPath may.stage) (sym e) may.path_is))
