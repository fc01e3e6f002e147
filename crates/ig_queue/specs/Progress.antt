-- What a listing shows of the tasks in a queue: this project's own.
use Rattle.std.specs.Prelude.{ℕ, Bool, ◌+◌, ◌-◌, ◌*◌, ◌&&◌, nat_le, if◌then◌else◌, List, Option, None, Some, count_by, drop, filter_map, fold, length, take}
use Rattle.std.specs.Str.{bytes_eq}
use Rattle.ig_defs.specs.declared.queue_name.QueueName.{QueueName}
use Rattle.ig_defs.specs.QueueNames.{queue_file, queue_fits}
use Rattle.ig_queue.specs.declared.types.Progress.{Progress}

-- the number that decimal digits write
abbrev pub number : List ℕ → ℕ
number text = fold (λ v digit. v * 10 + (digit - 48)) 0 text

-- the numbers at their places in a text of the form VVVVVVVVVV--SSSS-TTTTTT-AAA.json
abbrev pub fields : List ℕ → QueueName
fields text = record {
  visible = number (take 10 text);
  stage = number (take 4 (drop 12 text));
  task = number (take 6 (drop 17 text));
  attempt = number (take 3 (drop 24 text));
}

-- the name of a task in the queue that this text writes, if it is one
unfoldable pub name_in : List ℕ → Option QueueName
name_in text = if queue_fits (fields text) && bytes_eq (queue_file (fields text)) text then Some (fields text) else None

-- the names of tasks among those that a listing gave, as they stand there
abbrev pub names_in : List (List ℕ) → List QueueName
names_in listing = filter_map name_in listing

-- the task of this name may be leased at this second
abbrev pub may_be_leased : ℕ → QueueName → Bool
may_be_leased now name = nat_le name.visible now

-- how many there are, and how many of them may be leased at this second
abbrev pub progress_of : List (List ℕ) → ℕ → Progress
progress_of listing now = record {
  listed = length (names_in listing);
  visible = count_by (may_be_leased now) (names_in listing);
}
