-- What the rule of a queue reads of a stage, kind by kind: this project's own.
use Rattle.std.specs.Prelude.{ℕ, Bool, false, if◌then◌else◌, List, [], Option, None, is_some, option_map}
use Rattle.ig_rule.specs.Facts.{Facts, Pass, Reader, Reading}
use Rattle.ig_record.specs.declared.stage.Kind.{Kind}
use Rattle.ig_record.specs.declared.stage.Stage.{Stage}
use Rattle.ig_record.specs.Reading.{record_in}
use Rattle.ig_record.specs.Record.{task_text}
use Rattle.ig_record.specs.Columns.{needs_fresh_info, output_dirs, paths_of, removed_dir}
use Rattle.ig_record.specs.Stage.{task_count}
use Rattle.ig_meaning.specs.Jobs.{file_of}
use Rattle.ig_meaning.specs.Wants.{is_chunk_of, scratch_text, wanted_text}

-- ---- by the kind: the pass that a stage builds on, as which it serves later ones, and the paths of the files that earlier passes
-- make for it. The kinds that are not listed build on none.
abbrev pub needs_by : Kind → Stage → Option Pass
needs_by kind s = None

abbrev pub serves_by : Kind → Stage → Option Pass
serves_by kind s = None

abbrev pub is_scratch_by : Kind → Stage → List ℕ → Bool
is_scratch_by kind s path = false

-- ---- for every kind
abbrev pub is_scratch : Stage → List ℕ → Bool
is_scratch s path = is_scratch_by s.kind s path

-- what the rule reads of a stage with this number
abbrev pub facts_of : ℕ → Stage → Facts
facts_of n s = record {
  removes = is_some (removed_dir s);
  source = s.source.dir;
  outputs = output_dirs s;
  inputs = [];
  info = option_map file_of s.info;
  needs_fresh_info = needs_fresh_info s.kind;
  tasks = task_count s;
  paths = paths_of s;
  text = λ k. task_text (record { stage = n; task = k }) s;
  is_chunk = is_chunk_of s.source;
  wanted = wanted_text s;
  needs = needs_by s.kind s;
  serves = serves_by s.kind s;
  is_scratch = is_scratch s;
  scratch = scratch_text s;
}

-- the stage of a record
unfoldable pub stage_reader : Reader
stage_reader n bytes = option_map (facts_of n) (record_in n bytes)

-- What the tasks of a stage are to be given in these files: its source as it is there, and of earlier passes what these want.
abbrev pub given_to : Stage → Reading → Reading
given_to s files path = if is_scratch s path then scratch_text s files path else files path
