-- What was done once the rest of a stage is made.
use Rattle.std.proofs.Common.{◌≡◌, ◌<◌, ℕ, Bool, false, List, [], ◌∷◌, ◌++◌, length, map, Some, Result, Ok, Err, IfOk, refl, ap, sym, subst, ◌∙◌}
use Rattle.std.specs.List.{slice_get}
use Rattle.std.proofs.lemmas.List.{map-append}
use Rattle.ig_space.specs.Chunks.{listed}
use Rattle.ig_defs.specs.declared.step.Act.{Act}
use Rattle.ig_defs.specs.declared.error.StoreError.{StoreError}
use Rattle.ig_defs.specs.Log.{Log, files_of}
use Rattle.ig_rule.specs.QueueFiles.{queue_of}
use Rattle.ig_rule.specs.Stages.{Named, task_id}
use Rattle.ig_record.specs.declared.stage.Stage.{Stage}
use Rattle.ig_record.specs.Stage.{task_count}
use Rattle.ig_meaning.specs.QueueActs.{IsContinuation, name_file, put_of, seal_file}
use Rattle.ig_meaning.specs.Jobs.{info_files}
use Rattle.ig_task.specs.Pipeline.{is_allowed}
use Rattle.ig_task.specs.declared.pipeline.Pipeline.{Pipeline}
use Rattle.ig_stage.specs.Listings.{DoesListAll}
use Rattle.ig_stage.specs.Open.{Does}
use Rattle.ig_stage.specs.Shown.{IsSet, unset}
use Rattle.ig_stage.proofs.Listed.{not_both, set_within}
use Rattle.ig_stage.proofs.NamesPut.{does_as, does_then_done, done_as}
use Rattle.ig_stage.proofs.OpenLogs.{does_then}
use Rattle.ig_stage.proofs.Unset.{all_unset, are_unshown}

-- the names of these tasks and the seal
abbrev pub rest_files : List ℕ → ℕ → Stage → List ℕ → List Act
rest_files q n s left = map put_of (map (name_file q n s) left ++ seal_file q n ∷ [])

-- the info, the listings, the names and the seal
continued_by : (rule second third : Pipeline) (q : List ℕ) (n : ℕ) (s : Stage) (flags : List Bool) (l0 l1 l2 l3 : Log) (result : Result (Unit {0}) StoreError) → length flags ≡ task_count s
    → second ≡ rule → third ≡ second → Does (is_allowed rule) l0 l1 (map put_of (info_files s.info)) → DoesListAll (is_allowed second) q n (task_count s) flags l1 l2
    → IfOk result (λ done. Does (is_allowed third) l2 l3 (rest_files q n s (unset flags (task_count s))))
    → IfOk result (λ done. (acts : List Act) × Does (is_allowed rule) l0 l3 acts × IsContinuation q n s acts)
continued_by rule second third q n s flags l0 l1 l2 l3 (Ok done) length_is same next a b c =
    let left = unset flags (task_count s) in (
      _,
      does_then (is_allowed rule) l0 l1 l3 _ _ a
          (does_then (is_allowed rule) l1 l2 l3 _ (rest_files q n s left) (does_as rule second l1 l2 _ same b.does) (does_as rule third l2 l3 (rest_files q n s left) (next ∙ same) c)),
      record {
        queued = b.queued;
        dead = b.dead;
        done = b.done;
        left = left;
        unshown = are_unshown (is_allowed second) q n (task_count s) flags l1 l2 length_is b;
        are = refl;
      },
    )
continued_by rule second third q n s flags l0 l1 l2 l3 (Err e) length_is same next a b c = tt

pub continued : (rule second third : Pipeline) (q : List ℕ) (n : ℕ) (s : Stage) (tasks : ℕ) (found flags : List Bool) (l0 l1 l2 l3 : Log) (result : Result (Unit {0}) StoreError)
    → tasks ≡ task_count s → flags ≡ found → length found ≡ tasks → second ≡ rule → third ≡ second
    → Does (is_allowed rule) l0 l1 (map put_of (info_files s.info)) → DoesListAll (is_allowed second) q n tasks found l1 l2
    → IfOk result (λ done. Does (is_allowed third) l2 l3 (rest_files q n s (unset flags (task_count s))))
    → IfOk result (λ done. (acts : List Act) × Does (is_allowed rule) l0 l3 acts × IsContinuation q n s acts)
continued rule second third q n s tasks found flags l0 l1 l2 l3 result count given length_is same next a b c =
    continued_by rule second third q n s flags l0 l1 l2 l3 result (ap length given ∙ length_is ∙ count) same next a
    (subst (λ m. DoesListAll (is_allowed second) q n m flags l1 l2) count (subst (λ (shown : List Bool). DoesListAll (is_allowed second) q n tasks shown l1 l2) (sym given) b)) c

-- a new stage: the info, all names and the seal
all_files : (q : List ℕ) (n : ℕ) (s : Stage) (flags : List Bool) → ((k : ℕ) → k < task_count s → slice_get flags k ≡ Some false)
    → map put_of (info_files s.info) ++ rest_files q n s (unset flags (task_count s)) ≡ map put_of (info_files s.info ++ (listed (name_file q n s) (task_count s) ++ seal_file q n ∷ []))
all_files q n s flags none =
    sym (map-append put_of (info_files s.info) (map (name_file q n s) (unset flags (task_count s)) ++ seal_file q n ∷ []))
    ∙ ap (λ names. map put_of (info_files s.info ++ (names ++ seal_file q n ∷ []))) (all_unset (name_file q n s) flags (task_count s) none)

pub filled : (rule next : Pipeline) (q : List ℕ) (n : ℕ) (s : Stage) (flags : List Bool) (l0 l1 l2 : Log) (result : Result (Unit {0}) StoreError)
    → ((k : ℕ) → k < task_count s → slice_get flags k ≡ Some false) → next ≡ rule → Does (is_allowed rule) l0 l1 (map put_of (info_files s.info))
    → IfOk result (λ done. Does (is_allowed next) l1 l2 (rest_files q n s (unset flags (task_count s))))
    → IfOk result (λ done. Does (is_allowed rule) l0 l2 (map put_of (info_files s.info ++ (listed (name_file q n s) (task_count s) ++ seal_file q n ∷ []))))
filled rule next q n s flags l0 l1 l2 result none same a b =
    does_then_done (is_allowed rule) l0 l1 l2 (map put_of (info_files s.info)) (rest_files q n s (unset flags (task_count s))) _ result (all_files q n s flags none) a
    (done_as rule next l1 l2 (rest_files q n s (unset flags (task_count s))) result same b)

-- where no flag is set, each that is set has its task named
pub none_named : (q : List ℕ) (n tasks : ℕ) (flags : List Bool) (log : Log) → length flags ≡ tasks → ((k : ℕ) → k < tasks → slice_get flags k ≡ Some false)
    → (k : ℕ) → IsSet flags k → Named (queue_of q (files_of log)) (task_id n k)
none_named q n tasks flags log same none k is = absurd (not_both flags k (none k (subst (λ m. k < m) same (set_within flags k is))) is)
