-- The words of a worker: execute QUEUE, with options.
use Rattle.std.specs.Prelude.{ℕ, Bool, ◌||◌, if◌then◌else◌, List, [], ◌∷◌, Option, None, option_map, option_and_then, codes}
use Rattle.std.specs.List.{list_all}
use Rattle.std.specs.Str.{bytes_eq}
use Rattle.ig_meaning.specs.Options.{Parts, number_in, parts_of, value_or, values_of}
use Rattle.ig_meaning.specs.QueueWords.{queue_in}
use Rattle.ig_worker.specs.declared.plan.Plan.{Plan}

-- the options of `execute`
abbrev pub is_plan_option : List ℕ → Bool
is_plan_option name = bytes_eq name (codes "--lease-sec") || (bytes_eq name (codes "--tries") || bytes_eq name (codes "--turns"))

-- a lease of 600 seconds, 5 tries and 10,000,000 turns, where the options give nothing else
unfoldable pub plan_with : List (List ℕ × List ℕ) → List ℕ → Option Plan
plan_with options queue =
    option_and_then (λ lease. option_and_then (λ tries. option_map
    (λ turns. record { queue = queue; lease = lease; tries = tries; turns = turns; parallel = 1 })
    (value_or 10000000 (number_in 1 1000000000) (values_of (codes "--turns") options)))
    (value_or 5 (number_in 1 100) (values_of (codes "--tries") options)))
    (value_or 600 (number_in 1 1000000) (values_of (codes "--lease-sec") options))

-- QUEUE, and no other options than those of `execute`
abbrev pub plan_for : List (List ℕ × List ℕ) → List (List ℕ) → Option Plan
plan_for options (queue ∷ []) = if list_all (λ option. is_plan_option option.0) options then option_and_then (plan_with options) (queue_in queue) else None
plan_for options rest = None

abbrev pub plan_in : Parts → Option Plan
plan_in parts = plan_for parts.options parts.rest

-- the plan of a worker that these words ask for, if they ask for one
abbrev pub plan_of_words : List (List ℕ) → Option Plan
plan_of_words (first ∷ words) = if bytes_eq first (codes "execute") then option_and_then plan_in (parts_of words) else None
plan_of_words [] = None
