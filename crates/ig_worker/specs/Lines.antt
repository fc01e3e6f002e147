-- What a worker prints on standard output, each with its line end.
use Rattle.std.specs.Prelude.{ℕ, List, [], ◌∷◌, ◌++◌, codes}
use Rattle.std.specs.Fmt.{decimal}
use Rattle.ig_space.specs.declared.task_id.TaskId.{TaskId}
use Rattle.ig_defs.specs.QueueNames.{digits}
use Rattle.ig_cutout.specs.Inputs.{cause_of}
use Rattle.ig_meaning.specs.Lines.{cause_text, line, spaced}
use Rattle.ig_worker.specs.declared.turn.End.{End}
use Rattle.ig_worker.specs.declared.turn.End.TheVariants.{Finished, Waiting, Letters, Spent}
use Rattle.ig_worker.specs.declared.turn.Line.{Line}
use Rattle.ig_worker.specs.declared.turn.Line.TheVariants.{Done, Late, Missing, Buried, Letter}
use Rattle.ig_worker.specs.declared.turn.Why.{Why}
use Rattle.ig_worker.specs.declared.turn.Why.TheVariants.{Tries, Malformed, TooManyParts}

-- a word and a task: its stage in four digits, and its number there in six
abbrev pub task_text : List ℕ → TaskId → List ℕ
task_text word id = spaced word (spaced (digits 4 id.stage) (digits 6 id.task))

abbrev pub why_text : Why → List ℕ
why_text (Tries attempt) = spaced (codes "tries") (decimal attempt)
why_text (Malformed path cause) = spaced (codes "malformed") (spaced path (cause_text (cause_of cause)))
why_text (TooManyParts count) = spaced (codes "too many parts") (decimal count)

abbrev pub line_text : Line → List ℕ
line_text (Done id) = line (task_text (codes "done") id)
line_text (Late id) = line (task_text (codes "late") id)
line_text (Missing id path) = line (spaced (task_text (codes "missing") id) path)
line_text (Buried id cause) = line (spaced (task_text (codes "dead") id) (why_text cause))
line_text (Letter id) = line (task_text (codes "dead-letter") id)

-- the line of its end
abbrev pub end_text : End → List ℕ
end_text (Finished tasks) = line (spaced (codes "finished") (decimal tasks))
end_text (Waiting tasks) = line (spaced (codes "waiting") (decimal tasks))
end_text (Letters count) = line (spaced (codes "letters") (decimal count))
end_text (Spent turns) = line (spaced (codes "spent") (decimal turns))

abbrev pub lines_text : List Line → List ℕ
lines_text [] = []
lines_text (l ∷ lines) = line_text l ++ lines_text lines
