-- What a command prints.
use Rattle.std.specs.Prelude.{ℕ, zero, suc, List, [], ◌∷◌, ◌++◌, codes}
use Rattle.std.specs.Fmt.{decimal}
use Rattle.ig_info.specs.declared.error.InfoError.{InfoError}
use Rattle.ig_info.specs.declared.error.InfoError.TheVariants.{NotJson, Member, Unsupported, Memory}
use Rattle.ig_cseg.specs.declared.fault.CsegFault.{CsegFault}
use Rattle.ig_cseg.specs.declared.fault.CsegFault.TheVariants.{NotWords, NoChannel, HeaderShort, BadBits, ValuesOutside, TableOutside}
use Rattle.ig_layer.specs.Faults.{Cause, BadCseg, WrongLength}
use Rattle.ig_defs.specs.QueueNames.{digits}
use Rattle.ig_record.specs.Record.{kind_word}
use Rattle.ig_meaning.specs.Refusal.{Refusal, Missing, BadInfo, NoScale, NotEmpty, ShapeUnfit, TooManyTasks, TaskTooLarge, Malformed, TooManyParts, BadRecord, TooManyStages, Taken, NoStage}
use Rattle.ig_meaning.specs.Making.{Making, Refused, Unfinished, Planned, New, Continues}
use Rattle.ig_record.specs.declared.stage.Stage.{Stage}
use Rattle.ig_record.specs.declared.stage.Kind.{Kind}
use Rattle.ig_record.specs.Stage.{task_count}

-- the text and a line end
abbrev pub line : List ℕ → List ℕ
line text = text ++ 10 ∷ []

-- two texts with a blank between them
abbrev pub spaced : List ℕ → List ℕ → List ℕ
spaced left right = left ++ 32 ∷ right

-- on standard output, once a stage has run: ran KIND tasks N
abbrev pub ran_line : Kind → ℕ → List ℕ
ran_line kind tasks = line (spaced (codes "ran") (spaced (kind_word kind) (spaced (codes "tasks") (decimal tasks))))

abbrev pub stage_line : Stage → List ℕ
stage_line s = ran_line s.kind (task_count s)

abbrev pub info_cause : InfoError → List ℕ
info_cause NotJson = codes "not JSON"
info_cause (Member path) = spaced (codes "member") path
info_cause (Unsupported member) = spaced (codes "unsupported") member
info_cause Memory = codes "out of memory"

-- on standard output, for stage n of a queue: SSSS KIND tasks N, after a word
abbrev pub queue_line : List ℕ → ℕ → Kind → ℕ → List ℕ
queue_line word n kind tasks = line (spaced word (spaced (digits 4 n) (spaced (kind_word kind) (spaced (codes "tasks") (decimal tasks)))))

-- the line of a stage that was made in a queue: `made ..` of a new one, `continued ..` of one that was there and not sealed
abbrev pub made_line : Making → List ℕ
made_line (New n s after) = queue_line (codes "made") n s.kind (task_count s)
made_line (Continues n s after) = queue_line (codes "continued") n s.kind (task_count s)
made_line (Planned s after) = []
made_line (Refused refusal) = []
made_line Unfinished = []

-- what is wrong with a compressed chunk
abbrev pub cseg_text : CsegFault → List ℕ
cseg_text NotWords = codes "not words"
cseg_text NoChannel = codes "no channel"
cseg_text HeaderShort = codes "header short"
cseg_text (BadBits block) = spaced (codes "bad bits in block") (decimal block)
cseg_text (ValuesOutside block) = spaced (codes "values outside in block") (decimal block)
cseg_text (TableOutside block) = spaced (codes "table outside in block") (decimal block)

abbrev pub cause_text : Cause → List ℕ
cause_text (BadCseg fault) = cseg_text fault
cause_text (WrongLength got want) = spaced (codes "wrong length") (spaced (decimal got) (spaced (codes "want") (decimal want)))

abbrev pub axis_text : ℕ → List ℕ
axis_text zero = codes "x"
axis_text (suc zero) = codes "y"
axis_text (suc (suc axis)) = codes "z"

abbrev pub refusal_text : Refusal → List ℕ
refusal_text (Missing path) = spaced (codes "missing") path
refusal_text (BadInfo path cause) = spaced (codes "malformed") (spaced path (info_cause cause))
refusal_text (NoScale mip count) = spaced (codes "no scale") (spaced (decimal mip) (spaced (codes "of") (decimal count)))
refusal_text (NotEmpty path) = spaced (codes "not empty") path
refusal_text (ShapeUnfit axis) = spaced (codes "shape does not fit axis") (axis_text axis)
refusal_text (TooManyTasks count) = spaced (codes "too many tasks") (decimal count)
refusal_text (TaskTooLarge voxels) = spaced (codes "task too large") (decimal voxels)
refusal_text (Malformed path cause) = spaced (codes "malformed") (spaced path (cause_text cause))
refusal_text (TooManyParts count) = spaced (codes "too many parts") (decimal count)
refusal_text (BadRecord path member) = spaced (codes "malformed") (spaced path (spaced (codes "record member") member))
refusal_text (TooManyStages count) = spaced (codes "too many stages") (decimal count)
refusal_text (Taken stage) = spaced (codes "taken by stage") (digits 4 stage)
refusal_text (NoStage kind) = spaced (codes "no stage") (kind_word kind)

-- on standard error, for the fault with which a command ends
abbrev pub fault_line : List ℕ → List ℕ
fault_line text = line (codes "igneous: " ++ text)

abbrev pub words_text : List ℕ
words_text = codes "the words are not a command"

abbrev pub store_text : List ℕ
store_text = codes "store fault"

abbrev pub memory_text : List ℕ
memory_text = codes "out of memory"
