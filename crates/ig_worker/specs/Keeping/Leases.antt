-- What a worker knows of a task that it has just leased.
use Rattle.std.specs.Prelude.{◌≡◌, ◌⊎◌, ◌<◌, ◌==◌, not, ℕ, Bool, true, false, if◌then◌else◌, List, [], length, Option, None, Some, is_some, Contains, refl}
use Rattle.std.specs.List.{list_any}
use Rattle.std.proofs.Common.{arith, inl, inr, ap, sym, subst, true≢false, ◌∙◌}
use Rattle.std.proofs.lemmas.Bool.{and_from, ne_eqb, or_parts}
use Rattle.std.proofs.lemmas.Slice.Eq.{bytes_eq-Decides}
use Rattle.ig_defs.specs.declared.queue_name.QueueName.{QueueName}
use Rattle.ig_defs.specs.Files.{Files}
use Rattle.ig_cutout.specs.declared.types.Input.{Input}
use Rattle.ig_record.specs.declared.stage.Stage.{Stage}
use Rattle.ig_record.specs.Columns.{inputs_of, output_dirs, removed_dir}
use Rattle.ig_record.specs.Stage.{task_count}
use Rattle.ig_rule.specs.Facts.{Facts}
use Rattle.ig_rule.specs.Known.{KeptStage, Lease, IsKnownLease, IsKnownOf}
use Rattle.ig_rule.specs.Stages.{Records, Clear, IsSpared}
use Rattle.ig_task.specs.Facts.{facts_of}
use Rattle.ig_task.specs.OwnedPaths.{removes_source}
use Rattle.ig_worker.specs.declared.phase.Phase.TheVariants.{Fetching, Running}
use Rattle.ig_worker.specs.Keeping.Known.{KnowsAll, kept, known_resting, known_with, memory_at, try_rests}
use Rattle.ig_worker.specs.Keeping.Listing.{known_facts}
use Rattle.ig_worker.specs.Keeping.Lists.{any_false, first_in, image_of, in_cases, none_in, none_in_both}
use Rattle.ig_worker.specs.Knows.{fetched_lease, kept_of, leases_at, one_lease}
use Rattle.ig_worker.specs.Places.{begun_by, fetching, leased_or_gone, next_try}
use Rattle.ig_worker.specs.Stages.{Known, is_dir, is_removed, is_under_removal, open_tasks, removes_dir, stage_in, tasks_by}

-- ---- stages that are not under removal
-- a directory that no known removal removes is spared
spared : (records : Records) (known : Known) → KnowsAll records known → (n : ℕ) (dir : List ℕ) → is_removed known n dir ≡ false → IsSpared records n dir
spared records known h n dir none r t differ is removes e =
    let i = image_of kept_of known (kept r t) (h.removals r t is removes) in
    let number : i.item.0 ≡ r = ap (λ (k : KeptStage). k.number) i.is in
    let facts : facts_of i.item.0 i.item.1 ≡ t = ap (λ (k : KeptStage). k.stage) i.is in
    let some : is_some (removed_dir i.item.1) ≡ true = ap (λ (f : Facts). f.removes) facts ∙ removes in
    let same : i.item.1.source.dir ≡ dir = ap (λ (f : Facts). f.source) facts ∙ e in
    let other : (i.item.0 == n) ≡ false = ne_eqb i.item.0 n (λ same_number. differ (sym number ∙ same_number)) in
    let passes : removes_dir n dir i.item ≡ true
    = and_from (not (i.item.0 == n)) (is_dir (removed_dir i.item.1) dir) (ap not other)
    (ap (λ o. is_dir o dir) (removes_source i.item.1 some) ∙ (bytes_eq-Decides i.item.1.source.dir dir).1 same) in
    absurd (true≢false (sym passes ∙ any_false (removes_dir n dir) known i.item none i.among))

open_by : (b : Bool) (k count : ℕ) → k < (if b then 0 else count) → (b ≡ false) × (k < count)
open_by true k count below = absurd (omega (arith, below))
open_by false k count below = (refl, below)

-- a task that may be run, as far as is known, is one of its stage, which is not under removal
pub record IsClearTask (records : Records) (n k : ℕ) (s : Stage) : Type 0 where
  pub is : records n ≡ Some (facts_of n s)
  pub below : k < task_count s
  pub clear : Clear records n (facts_of n s)

pub open_task : (records : Records) (known : Known) → KnowsAll records known → (n k : ℕ) (s : Stage) → stage_in known n ≡ Some s → k < open_tasks known n → IsClearTask records n k s
open_task records known h n k s e below =
    let parts = open_by (is_under_removal known n s) k (task_count s) (subst (λ o. k < tasks_by known n o) e below) in
    let none = or_parts (is_removed known n s.source.dir) (list_any (is_removed known n) (output_dirs s)) parts.0 in
    record {
      is = known_facts records known h.stages n s e;
      below = parts.1;
      clear = record {
        source = spared records known h n s.source.dir none.0;
        outputs = λ dir one. spared records known h n dir (any_false (is_removed known n) (output_dirs s) dir none.1 one);
      };
    }

-- ---- the lease
-- a lease of which no file is kept yet
new_lease : (records : Records) (files : Files) (name : QueueName) (s : Stage) → IsClearTask records name.stage name.task s → IsKnownLease records files (fetched_lease name [] s)
new_lease records files name s t = record {
  is = t.is;
  below = t.below;
  clear = t.clear;
  no_inputs = λ removes file among. none_in_both file among;
  sources = λ file among. absurd (none_in file among);
  scratch = λ file among. absurd (none_in file among);
  outputs = λ makes file among. absurd (none_in file among);
  put = λ makes path among. absurd (none_in path among);
  removed = λ removes path among. absurd (none_in path among);
}

only_lease : (records : Records) (files : Files) (first l : Lease) → IsKnownLease records files first → (first ≡ l) ⊎ Contains [] l → IsKnownLease records files l
only_lease records files first l h (inl e) = subst (λ v. IsKnownLease records files v) e h
only_lease records files first l h (inr among) = absurd (none_in l among)

-- a lease of a known stage is the only one
pub one_known : (records : Records) (files : Files) (lease : Stage → Lease) (o : Option Stage) (s : Stage) → o ≡ Some s → IsKnownLease records files (lease s) → (l : Lease) → Contains (one_lease lease o) l
    → IsKnownLease records files l
one_known records files lease o s e h l among = only_lease records files (lease s) l h (in_cases (lease s) [] l (subst (λ v. Contains (one_lease lease v) l) e among))

pub known_one : (records : Records) (files : Files) (lease : Stage → Lease) (o : Option Stage) (s : Stage) → o ≡ Some s → ((l : Lease) → Contains (one_lease lease o) l → IsKnownLease records files l)
    → IsKnownLease records files (lease s)
known_one records files lease o s e h = h (lease s) (subst (λ v. Contains (one_lease lease v) (lease s)) (sym e) (first_in (lease s) []))

-- while its inputs are read, and once they are, it has one lease
pub fetching_leases : (known : Known) (name : QueueName) (paths : List (List ℕ)) (given : List Input) (names : List QueueName)
    → leases_at known (fetching name paths given names) ≡ one_lease (fetched_lease name given) (stage_in known name.stage)
fetching_leases known name paths given names = by_test (length given == length paths)
  where
    by_test : (b : Bool) → leases_at known (if b then Running name given names else Fetching name paths given names) ≡ one_lease (fetched_lease name given) (stage_in known name.stage)
    by_test true = refl
    by_test false = refl

-- so it knows this lease
pub known_fetching : (records : Records) (files : Files) (known : Known) (name : QueueName) (paths : List (List ℕ)) (given : List Input) (names : List QueueName) (s : Stage) → KnowsAll records known
    → stage_in known name.stage ≡ Some s → IsKnownLease records files (fetched_lease name given s) → IsKnownOf records files (memory_at known (fetching name paths given names))
known_fetching records files known name paths given names s h e lease =
    known_with records files known (fetching name paths given names) h
    (λ l among. one_known records files (fetched_lease name given) (stage_in known name.stage) s e lease l
    (subst (λ ls. Contains ls l) (fetching_leases known name paths given names) among))

-- ---- once a task is leased
begun_known : (records : Records) (files : Files) (known : Known) (name : QueueName) (names : List QueueName) → KnowsAll records known → name.task < open_tasks known name.stage
    → (o : Option Stage) → stage_in known name.stage ≡ o → IsKnownOf records files (memory_at known (begun_by o name names))
begun_known records files known name names h below None e = known_resting records files known (next_try names) (try_rests known names) h
begun_known records files known name names h below (Some s) e =
    known_fetching records files known name (inputs_of s name.task) [] names s h e (new_lease records files name s (open_task records known h name.stage name.task s e below))

-- What a worker knows once a name was there to be leased, or was gone.
pub leased_known : (records : Records) (files : Files) (known : Known) (there : Bool) (name : QueueName) (names : List QueueName) → KnowsAll records known → name.task < open_tasks known name.stage
    → IsKnownOf records files (memory_at known (leased_or_gone there known name names))
leased_known records files known true name names h below = begun_known records files known name names h below (stage_in known name.stage) refl
leased_known records files known false name names h below = known_resting records files known (next_try names) (try_rests known names) h
