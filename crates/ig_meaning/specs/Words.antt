-- The words of a command.
use Rattle.std.specs.Prelude.{ℕ, ◌&&◌, ◌||◌, Bool, true, false, not, if◌then◌else◌, List, [], ◌∷◌, Option, None, Some, option_map, option_and_then, unwrap_or, codes}
use Rattle.std.specs.List.{list_all}
use Rattle.std.specs.Str.{bytes_eq}
use Rattle.ig_space.specs.declared.point.Point.{Point}
use Rattle.ig_record.specs.declared.stage.Kind.{Kind}
use Rattle.ig_record.specs.declared.stage.Kind.TheVariants.{Xfer, Downsample, Relabel, Count}
use Rattle.ig_meaning.specs.Options.{Parts, is_short_path, number_in, parts_of, sides_of, value_or, values_of}
use Rattle.ig_meaning.specs.QueueWords.{is_apart, queue_given}

-- how the chunks of a new layer are to be written
pub data Coding : Type 0 where
  Plain : Coding
  Compressed : Coding

-- A stage that a command asks for: its kind, the layer that it reads and the new one, if it writes one, the number of the
-- scale and that of mips to be added; and where they are given, the sizes of the new chunks and of a task's box, how the new
-- chunks are written, and the sizes of their blocks.
pub record Request : Type 0 where
  pub kind : Kind
  pub source : List ℕ
  pub dest : Option (List ℕ)
  pub mip : ℕ
  pub levels : ℕ
  pub chunk : Option Point
  pub shape : Option Point
  pub encoding : Option Coding
  pub block : Option Point

-- the new layer of a request that has one
abbrev pub new_layer : Request → List ℕ
new_layer request = unwrap_or request.dest []

-- whether stages of the kind write a new layer
abbrev pub writes_layer : Kind → Bool
writes_layer Xfer = true
writes_layer Relabel = true
writes_layer kind = false

-- what a command is asked to do: a stage that it runs itself, or one that it puts into a queue
pub data Command : Type 0 where
  Local : (request : Request) → Command
  Enqueue : (queue : List ℕ) → (request : Request) → Command

-- ---- by the kind that a command asks for; the kinds that are not listed have no command
-- the names of its options
abbrev pub is_option : Kind → List ℕ → Bool
is_option Xfer name =
    bytes_eq name (codes "--mip") || (bytes_eq name (codes "--chunk-size") || (bytes_eq name (codes "--shape")
    || (bytes_eq name (codes "--encoding") || (bytes_eq name (codes "--block-size") || bytes_eq name (codes "--queue")))))
is_option Downsample name =
    bytes_eq name (codes "--mip") || (bytes_eq name (codes "--num-mips") || (bytes_eq name (codes "--shape") || bytes_eq name (codes "--queue")))
is_option Count name = bytes_eq name (codes "--mip") || (bytes_eq name (codes "--shape") || bytes_eq name (codes "--queue"))
is_option kind name = false

-- whether it may run the stage itself
abbrev pub runs_alone : Kind → Bool
runs_alone Xfer = true
runs_alone Downsample = true
runs_alone kind = false

-- ---- its words
-- two layers, which are not the same
abbrev pub are_layers : List ℕ → List ℕ → Bool
are_layers source dest = is_short_path source && is_short_path dest && not (bytes_eq source dest)

-- the sizes that an option gives, where it is given
abbrev pub sides_given : List (List ℕ) → Option (Option Point)
sides_given values = value_or None (λ text. option_map Some (sides_of text)) values

abbrev pub coding_of : List ℕ → Option Coding
coding_of text = if bytes_eq text (codes "raw") then Some Plain else if bytes_eq text (codes "compressed_segmentation") then Some Compressed else None

-- the encoding that an option gives, where it is given
abbrev pub coding_given : List (List ℕ) → Option (Option Coding)
coding_given values = value_or None (λ text. option_map Some (coding_of text)) values

-- how many mips the option asks for: one to five, and without it one; of a kind that adds none, none
abbrev pub levels_given : Kind → List (List ℕ) → Option ℕ
levels_given Downsample values = value_or 1 (number_in 1 5) values
levels_given kind values = Some 0

unfoldable pub request_of : Kind → List (List ℕ × List ℕ) → List ℕ → Option (List ℕ) → Option Request
request_of kind options source dest =
    option_and_then (λ mip. option_and_then (λ levels. option_and_then (λ chunk. option_and_then (λ shape. option_and_then (λ encoding. option_map
    (λ block. record { kind = kind; source = source; dest = dest; mip = mip; levels = levels; chunk = chunk; shape = shape; encoding = encoding; block = block })
    (sides_given (values_of (codes "--block-size") options)))
    (coding_given (values_of (codes "--encoding") options)))
    (sides_given (values_of (codes "--shape") options)))
    (sides_given (values_of (codes "--chunk-size") options)))
    (levels_given kind (values_of (codes "--num-mips") options)))
    (value_or 0 (number_in 0 99) (values_of (codes "--mip") options))

-- SRC DEST, where a new layer is written, and else SRC
abbrev pub request_between : Bool → Kind → List (List ℕ × List ℕ) → List (List ℕ) → Option Request
request_between true kind options (source ∷ dest ∷ []) = if are_layers source dest then request_of kind options source (Some dest) else None
request_between false kind options (source ∷ []) = if is_short_path source then request_of kind options source None else None
request_between writes kind options rest = None

-- no other options than those of the kind, and the layers that it has
abbrev pub request_in : Kind → Parts → Option Request
request_in kind parts =
    if list_all (λ option. is_option kind option.0) parts.options then request_between (writes_layer kind) kind parts.options parts.rest else None

abbrev pub is_dest_apart : List ℕ → Option (List ℕ) → Bool
is_dest_apart q None = true
is_dest_apart q (Some dest) = is_apart q dest

-- its layers lie apart from the queue
abbrev pub are_apart : List ℕ → Request → Bool
are_apart q request = is_apart q request.source && is_dest_apart q request.dest

-- the stage, run by the command itself, if it may, or put into the queue that is given, which lies apart from the layers
abbrev pub command_with : Bool → Option (List ℕ) → Request → Option Command
command_with alone None request = if alone then Some (Local request) else None
command_with alone (Some q) request = if are_apart q request then Some (Enqueue q request) else None

abbrev pub command_in : Kind → Parts → Option Command
command_in kind parts = option_and_then (λ queue. option_and_then (command_with (runs_alone kind) queue) (request_in kind parts)) (queue_given (values_of (codes "--queue") parts.options))

-- the words after those that name the kind
abbrev pub command_as : Kind → List (List ℕ) → Option Command
command_as kind words = option_and_then (command_in kind) (parts_of words)

-- the words after `image voxels`
abbrev pub voxels_command : List (List ℕ) → Option Command
voxels_command [] = None
voxels_command (first ∷ words) = if bytes_eq first (codes "count") then command_as Count words else None

-- the words after `image`
abbrev pub image_command : List (List ℕ) → Option Command
image_command [] = None
image_command (first ∷ words) =
    if bytes_eq first (codes "xfer") then command_as Xfer words
    else if bytes_eq first (codes "downsample") then command_as Downsample words
    else if bytes_eq first (codes "voxels") then voxels_command words
    else None

-- the command of these words, if they are one's
abbrev pub command_of : List (List ℕ) → Option Command
command_of [] = None
command_of (first ∷ words) = if bytes_eq first (codes "image") then image_command words else None

abbrev pub queue_of_command : Option Command → Option (List ℕ)
queue_of_command None = None
queue_of_command (Some (Local request)) = None
queue_of_command (Some (Enqueue q request)) = Some q

-- the queue of the command of these words, if it has one
abbrev pub queue_of_words : List (List ℕ) → Option (List ℕ)
queue_of_words words = queue_of_command (command_of words)
