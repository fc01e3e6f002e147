-- The names of the tasks whose flags are not set are put, one after the other.
use Rattle.std.proofs.Common.{◌≡◌, ◌<◌, ◌+◌, ℕ, Bool, true, false, List, [], ◌∷◌, ◌++◌, length, map, get_or, Option, Some, Result, Ok, Err, IfOk, refl, ap, sym, subst, ◌∙◌, add-one, below_more}
use Rattle.std.specs.List.{slice_get}
use Rattle.std.proofs.lemmas.List.{map-append}
use Rattle.std.proofs.lemmas.Option.{slice_get-get_or}
use Rattle.ig_defs.specs.declared.step.Act.{Act}
use Rattle.ig_defs.specs.declared.error.StoreError.{StoreError}
use Rattle.ig_defs.specs.Files.{Files}
use Rattle.ig_defs.specs.Log.{Log, files_of}
use Rattle.ig_rule.specs.QueueFiles.{queue_of}
use Rattle.ig_rule.specs.Stages.{Named, task_id}
use Rattle.ig_record.specs.declared.stage.Stage.{Stage}
use Rattle.ig_record.specs.Stage.{task_count}
use Rattle.ig_meaning.specs.QueueActs.{name_file, put_of, seal_file}
use Rattle.ig_task.specs.Pipeline.{is_allowed}
use Rattle.ig_task.specs.declared.pipeline.Pipeline.{Pipeline}
use Rattle.ig_stage.specs.Open.{AllNamed, Does, StaysOpen}
use Rattle.ig_stage.specs.Shown.{IsSet, if_unset, name_puts, unset}
use Rattle.ig_stage.proofs.OpenLogs.{does_nothing, does_then, stays_then}

-- the flag of a number that has one
pub flag_is : (flags : List Bool) (k : ℕ) (b : Bool) → k < length flags → get_or flags k false ≡ b → slice_get flags k ≡ Some b
flag_is flags k b below e = slice_get-get_or flags k false below ∙ ap Some e

-- what was done under the same rule
pub does_as : (rule next : Pipeline) (old new : Log) (acts : List Act) → next ≡ rule → Does (is_allowed next) old new acts → Does (is_allowed rule) old new acts
does_as rule next old new acts same d = subst (λ (r : Pipeline). Does (is_allowed r) old new acts) same d

pub done_as : (rule next : Pipeline) (old new : Log) (acts : List Act) (result : Result (Unit {0}) StoreError) → next ≡ rule
    → IfOk result (λ done. Does (is_allowed next) old new acts) → IfOk result (λ done. Does (is_allowed rule) old new acts)
done_as rule next old new acts (Ok done) same d = does_as rule next old new acts same d
done_as rule next old new acts (Err e) same d = tt

-- and then what a call did
pub does_then_done : (allows : Bool → Files → Act → Type 0) (old mid new : Log) (first then all : List Act) (result : Result (Unit {0}) StoreError) → first ++ then ≡ all
    → Does allows old mid first → IfOk result (λ done. Does allows mid new then) → IfOk result (λ done. Does allows old new all)
does_then_done allows old mid new first then all (Ok done) e a b = subst (Does allows old new) e (does_then allows old mid new first then a b)
does_then_done allows old mid new first then all (Err e') e a b = tt

-- ---- one task

-- nothing was put for one whose flag is set
pub set_does : (allows : Bool → Files → Act → Type 0) (q : List ℕ) (n : ℕ) (s : Stage) (k : ℕ) (flag : Option Bool) (log : Log) → flag ≡ Some true
    → Does allows log log (name_puts q n s (if_unset flag k))
set_does allows q n s k flag log is = subst (λ (o : Option Bool). Does allows log log (name_puts q n s (if_unset o k))) (sym is) (does_nothing allows log)

-- and the name of one whose flag is not
pub unset_does : (allows : Bool → Files → Act → Type 0) (q : List ℕ) (n : ℕ) (s : Stage) (k : ℕ) (flag : Option Bool) (old new : Log) (result : Result (Unit {0}) StoreError) → flag ≡ Some false
    → IfOk result (λ done. Does allows old new (put_of (name_file q n s k) ∷ [])) → IfOk result (λ done. Does allows old new (name_puts q n s (if_unset flag k)))
unset_does allows q n s k flag old new result is did =
    subst (λ (o : Option Bool). IfOk result (λ done. Does allows old new (name_puts q n s (if_unset o k)))) (sym is) did

-- ---- one task after the other

name_puts-append : (q : List ℕ) (n : ℕ) (s : Stage) (first then : List ℕ) → name_puts q n s first ++ name_puts q n s then ≡ name_puts q n s (first ++ then)
name_puts-append q n s first then =
    sym (map-append put_of (map (name_file q n s) first) (map (name_file q n s) then)) ∙ ap (map put_of) (sym (map-append (name_file q n s) first then))

pub names_on : (rule next : Pipeline) (q : List ℕ) (n : ℕ) (s : Stage) (flags : List Bool) (k : ℕ) (old mid new : Log) → next ≡ rule
    → Does (is_allowed rule) old mid (name_puts q n s (unset flags k)) → Does (is_allowed next) mid new (name_puts q n s (if_unset (slice_get flags k) k))
    → Does (is_allowed rule) old new (name_puts q n s (unset flags (k + 1)))
names_on rule next q n s flags k old mid new same a b =
    subst (Does (is_allowed rule) old new)
    (name_puts-append q n s (unset flags k) (if_unset (slice_get flags k) k) ∙ ap (λ m. name_puts q n s (unset flags m)) (sym (add-one k)))
    (does_then (is_allowed rule) old mid new (name_puts q n s (unset flags k)) (name_puts q n s (if_unset (slice_get flags k) k)) a
    (does_as rule next mid new (name_puts q n s (if_unset (slice_get flags k) k)) same b))

-- So far the stage stays open, and each of the first tasks whose flag is not set has a name.
pub record NamedSoFar (q : List ℕ) (n : ℕ) (s : Stage) (flags : List Bool) (tasks : ℕ) (old now : Log) : Type 0 where
  pub stays : StaysOpen q n s old now
  pub named : (k : ℕ) → k < tasks → slice_get flags k ≡ Some false → Named (queue_of q (files_of now)) (task_id n k)

pub named_on : (q : List ℕ) (n : ℕ) (s : Stage) (flags : List Bool) (tasks : ℕ) (old mid new : Log) → NamedSoFar q n s flags tasks old mid → StaysOpen q n s mid new
    → (slice_get flags tasks ≡ Some false → Named (queue_of q (files_of new)) (task_id n tasks)) → NamedSoFar q n s flags (tasks + 1) old new
named_on q n s flags tasks old mid new so_far stays here = record {
  stays = stays_then q n s old mid new so_far.stays stays;
  named = below_more (λ k. slice_get flags k ≡ Some false → Named (queue_of q (files_of new)) (task_id n k)) tasks
      (λ k below is. stays.named (task_id n k) (so_far.named k below is)) here;
}

-- ---- all of them

pub all_named : (q : List ℕ) (n : ℕ) (s : Stage) (flags : List Bool) (old new : Log) → length flags ≡ task_count s → StaysOpen q n s old new
    → ((k : ℕ) → IsSet flags k → Named (queue_of q (files_of old)) (task_id n k))
    → ((k : ℕ) → k < task_count s → slice_get flags k ≡ Some false → Named (queue_of q (files_of new)) (task_id n k)) → AllNamed q n s (files_of new)
all_named q n s flags old new same stays shown put k below = by_flag (get_or flags k false) refl
  where
    by_flag : (b : Bool) → get_or flags k false ≡ b → Named (queue_of q (files_of new)) (task_id n k)
    by_flag true e = stays.named (task_id n k) (shown k (flag_is flags k true (subst (λ m. k < m) (sym same) below) e))
    by_flag false e = put k below (flag_is flags k false (subst (λ m. k < m) (sym same) below) e)

pub puts_and_seal : (q : List ℕ) (n : ℕ) (s : Stage) (left : List ℕ)
    → name_puts q n s left ++ put_of (seal_file q n) ∷ [] ≡ map put_of (map (name_file q n s) left ++ seal_file q n ∷ [])
puts_and_seal q n s left = sym (map-append put_of (map (name_file q n s) left) (seal_file q n ∷ []))
