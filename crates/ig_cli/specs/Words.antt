-- What the words of the command line ask for.
use Rattle.std.specs.Prelude.{◌≡◌, ◌≤◌, ◌^◌, ℕ, true, List, Option, length, IfSome, String, map, option_map, string_bytes}
use Rattle.std.specs.declared.alloc.Global.{Global}
use Rattle.ig_space.specs.Path.{is_path}
use Rattle.ig_meaning.specs.QueueWords.{is_apart}
use Rattle.ig_meaning.specs.Words as meaning
use Rattle.ig_meaning.specs.Words.{Request}
use Rattle.ig_record.specs.declared.stage.Kind.{Kind}
use Rattle.ig_record.specs.declared.stage.Kind.TheVariants.{Downsample}
use Rattle.ig_stage.specs.declared.request.Request as reading
use Rattle.ig_stage.specs.Requests.{HasLimits, HasSides, shown_coding, shown_request}
use Rattle.ig_worker.specs.declared.plan.Plan.{Plan}
use Rattle.ig_cli.specs.declared.plan_words.Numbers.{Numbers}
use Rattle.ig_cli.specs.declared.words.Command.{Command}
use Rattle.ig_cli.specs.declared.words.Command.TheVariants.{Local, Enqueue}
use Rattle.ig_cli.specs.declared.words.Sizes.{Sizes}

-- the bytes of each word
abbrev pub texts_of : List (String Global) → List (List ℕ)
texts_of words = map string_bytes words

-- the request for a stage of this kind with these layers
abbrev pub request_with : Kind → List ℕ → Option (List ℕ) → Sizes → Request
request_with kind source dest sizes = record {
  kind = kind;
  source = source;
  dest = dest;
  mip = sizes.mip;
  levels = sizes.levels;
  chunk = sizes.chunk;
  shape = sizes.shape;
  encoding = option_map shown_coding sizes.encoding;
  block = sizes.block;
}

-- the number of the scale has at most two digits, mips are one to five of the kind that makes mips, and each side that is given is
-- within its limits
pub record HasSizes (kind : Kind) (sizes : Sizes) : Type 0 where
  pub mip_limit : sizes.mip ≤ 99
  pub few_levels : sizes.levels ≤ 5
  pub some_levels : kind ≡ Downsample → 1 ≤ sizes.levels
  pub chunk_sides : IfSome sizes.chunk HasSides
  pub shape_sides : IfSome sizes.shape HasSides

-- the command that this is
abbrev pub shown_command : Command → meaning.Command
shown_command (Local request) = meaning.Local (shown_request request)
shown_command (Enqueue queue request) = meaning.Enqueue queue (shown_request request)

-- The queue's directory is a short path, and the layers lie apart from it.
pub record CanHold (queue : List ℕ) (request : reading.Request) : Type 0 where
  pub path : is_path queue ≡ true
  pub short : length queue ≤ 100
  pub source_apart : is_apart queue request.source ≡ true
  pub dest_apart : IfSome request.dest (λ dest. is_apart queue dest ≡ true)

-- what is known of a command that was read
abbrev pub IsLawful : Command → Type 0
IsLawful (Local request) = HasLimits request
IsLawful (Enqueue queue request) = HasLimits request × CanHold queue request

-- the plan of a worker on this queue with these numbers
abbrev pub plan_from : List ℕ → Numbers → Plan
plan_from queue numbers = record { queue = queue; lease = numbers.lease; tries = numbers.tries; turns = numbers.turns; parallel = 1 }

-- each of them is within its limits
pub record HasNumbers (numbers : Numbers) : Type 0 where
  pub lease : (1 ≤ numbers.lease) × (numbers.lease ≤ 10 ^ 6)
  pub tries : (1 ≤ numbers.tries) × (numbers.tries ≤ 100)
  pub turns : (1 ≤ numbers.turns) × (numbers.turns ≤ 10 ^ 9)
