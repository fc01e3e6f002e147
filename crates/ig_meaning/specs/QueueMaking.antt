-- What a maker of stages finds in a queue, by its own steps: the stages that are recorded, and whether the last is sealed.
use Rattle.std.specs.Prelude.{ℕ, zero, suc, ◌^◌, max, nat_lt, Bool, true, false, if◌then◌else◌, List, [], ◌∷◌, ◌++◌, length, Option, None, Some, is_some, Result, Ok, Err, codes}
use Rattle.std.specs.Str.{bytes_eq}
use Rattle.ig_space.specs.Path.{joined}
use Rattle.ig_defs.specs.Files.{file_at}
use Rattle.ig_defs.specs.Own.{Moment}
use Rattle.ig_defs.specs.QueueNames.{stage_file}
use Rattle.ig_layer.specs.Faults.{first_of}
use Rattle.ig_rule.specs.QueueFiles.{Record, Seal, path_of}
use Rattle.ig_record.specs.declared.stage.Stage.{Stage}
use Rattle.ig_record.specs.Answers.{record_fault}
use Rattle.ig_record.specs.Reading.{record_in}
use Rattle.ig_meaning.specs.Refusal.{Refusal, BadRecord, Missing, TooManyStages}
use Rattle.ig_meaning.specs.Making.{Making, Continues, New, Refused, Unfinished, given_by, lists, making_of_request, reads, where_it_looks}
use Rattle.ig_meaning.specs.Words.{Request}

-- ---- where they stand
abbrev pub stages_dir : List ℕ → List ℕ
stages_dir q = joined q (codes "stages")

abbrev pub record_path : List ℕ → ℕ → List ℕ
record_path q n = path_of q (Record n)

abbrev pub seal_path : List ℕ → ℕ → List ℕ
seal_path q n = path_of q (Seal n)

-- ---- how many are recorded
-- the number of the stage whose file has this name
unfoldable pub stage_named : List ℕ → Option ℕ
stage_named name = first_of (λ n. if bytes_eq (stage_file n) name then Some n else None) (10 ^ 4)

abbrev pub beyond : Option ℕ → ℕ → ℕ
beyond None count = count
beyond (Some n) count = max (suc n) count

-- one more than the highest number of these names
abbrev pub record_count : List (List ℕ) → ℕ
record_count [] = 0
record_count (name ∷ names) = beyond (stage_named name) (record_count names)

-- ---- the stages
abbrev pub with_stage : List ℕ → ℕ → List ℕ → Option Stage → Result (List Stage) Refusal → Result (List Stage) Refusal
with_stage q n text None rest = Err (BadRecord (record_path q n) (record_fault n text))
with_stage q n text (Some s) (Ok stages) = Ok (s ∷ stages)
with_stage q n text (Some s) (Err refusal) = Err refusal

-- the stages of these records, the first of which has number n, or the first of them that is refused
abbrev pub stages_of : List ℕ → ℕ → List (List ℕ) → Result (List Stage) Refusal
stages_of q n [] = Ok []
stages_of q n (text ∷ texts) = with_stage q n text (record_in n text) (stages_of q (suc n) texts)

abbrev pub making_of_texts : (List Stage → List Moment → Making) → Result (List Stage) Refusal → List Moment → Making
making_of_texts next (Ok stages) ms = next stages ms
making_of_texts next (Err refusal) ms = Refused refusal

-- what is at a path, or the refusal that it is absent
abbrev pub if_found : List ℕ → Option (List ℕ) → (List ℕ → Making) → Making
if_found path None next = Refused (Missing path)
if_found path (Some text) next = next text

-- so many records are left to read, each by one own step; these were read
abbrev pub making_of_records : List ℕ → (List Stage → List Moment → Making) → ℕ → List (List ℕ) → List Moment → Making
making_of_records q next zero texts ms = making_of_texts next (stages_of q 0 texts) ms
making_of_records q next (suc left) texts [] = Unfinished
making_of_records q next (suc left) texts (m ∷ ms) =
    where_it_looks (reads (record_path q (length texts)) m.act)
    (if_found (record_path q (length texts)) (file_at m.files (record_path q (length texts))) (λ text. making_of_records q next left (texts ++ text ∷ []) ms))

-- the records, listed by the first own step
abbrev pub making_of_queue : List ℕ → (List Stage → List Moment → Making) → List Moment → Making
making_of_queue q next [] = Unfinished
making_of_queue q next (m ∷ ms) = where_it_looks (lists (stages_dir q) m.act) (making_of_records q next (record_count (given_by m.act)) [] ms)

-- ---- the last of them
abbrev pub last_of : Stage → List Stage → Stage
last_of s [] = s
last_of s (t ∷ stages) = last_of t stages

abbrev pub if_sealed : Bool → Making → Making → Making
if_sealed true next continues = next
if_sealed false next continues = continues

-- its seal, looked at by one own step
abbrev pub making_of_last : List ℕ → (List Stage → List Moment → Making) → List Stage → List Moment → Making
making_of_last q next [] ms = next [] ms
making_of_last q next (s ∷ stages) [] = Unfinished
making_of_last q next (s ∷ stages) (m ∷ ms) =
    where_it_looks (reads (seal_path q (length stages)) m.act)
    (if_sealed (is_some (file_at m.files (seal_path q (length stages)))) (next (s ∷ stages) ms) (Continues (length stages) (last_of s stages) ms))

-- ---- all
-- a new stage after these, which are all sealed
abbrev pub making_of_new : Request → List Stage → List Moment → Making
making_of_new request stages ms =
    if nat_lt (length stages) (10 ^ 4) then making_of_request stages (New (length stages)) request ms else Refused (TooManyStages (length stages))

-- The making of a stage in a queue: where its last stage is not sealed, that one is continued.
abbrev pub making_of_enqueue : List ℕ → Request → List Moment → Making
making_of_enqueue q request ms = making_of_queue q (making_of_last q (making_of_new request)) ms
