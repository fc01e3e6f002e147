-- The tasks of a stage, run one after the other, leave exactly what is wanted of the whole volume.
use Rattle.std.specs.Prelude.{◌≡◌, ◌<◌, ◌≤◌, ℕ, zero, suc, Bool, true, false, List, [], ◌∷◌, ◌++◌, Option, None, Some, Contains, map, option_map, refl}
use Rattle.std.proofs.Common.{arith, ap, sym, subst, ◌∙◌, append_assoc, append-nil}
use Rattle.std.proofs.lemmas.Option.{none-some, same_Some}
use Rattle.ig_space.specs.Chunks.{listed}
use Rattle.ig_defs.specs.Files.{Files, file_at}
use Rattle.ig_defs.specs.Puts.{file_at-other}
use Rattle.ig_layer.specs.Layer.{Labels, Reading, volume_at}
use Rattle.ig_cutout.specs.declared.types.Output.{Output}
use Rattle.ig_record.specs.declared.stage.InfoFile.{InfoFile}
use Rattle.ig_record.specs.declared.stage.Stage.{Stage}
use Rattle.ig_record.specs.Columns.{inputs_of, paths_of, scratch_read}
use Rattle.ig_record.specs.Sound.{is_sound}
use Rattle.ig_record.specs.SoundStages.{IsSound-from}
use Rattle.ig_record.specs.Stage.{task_count}
use Rattle.ig_rule.specs.QueueSteps.{file_at-kept}
use Rattle.ig_meaning.specs.Agreeing.{AgreeOn, further, here, made-fine, task_outputs-agrees}
use Rattle.ig_meaning.specs.JobLaws.{ran-next, ran_first, with_outputs-append}
use Rattle.ig_meaning.specs.Jobs.{Ran, job_of, jobs_of, run_on, sequential, with_info, with_outputs, with_task, with_text}
use Rattle.ig_meaning.specs.Lasting.{KeepsChunksOf, outputs-last, volume-lasts, within-keeps}
use Rattle.ig_meaning.specs.Task.{labels_given, task_outputs}
use Rattle.ig_meaning.specs.Wants.{Want, flattened, is_chunk_of, output_by, outputs_at, put_at, removal_of, scratch_text, text_by, wanted_outputs, wants_by, with_first}

-- ---- one task
-- The texts of earlier passes that it is given are those that these want.
abbrev pub HasScratch : Stage → ℕ → Reading → Type 0
HasScratch s k given = AgreeOn (scratch_read s.kind s k) given (scratch_text s given)

-- What a task makes is what is wanted at its paths of the whole volume.
pub task-wanted : (s : Stage) (k : ℕ) (given : Reading) (outputs : List Output) → HasScratch s k given → task_outputs s k given ≡ Some outputs
    → outputs_at s (volume_at given s.source) (paths_of s k) ≡ Some outputs
task-wanted s k given outputs scratch made =
    outputs-last s (labels_given s k given) (volume_at given s.source) (within-keeps s k given) (paths_of s k) outputs (made-fine s k given outputs made).1

-- ---- outputs
at_paths : (s : Stage) (volume : Labels) (path : List ℕ) (want : Option Want) (output : Output) → output_by volume path want ≡ Some output → output.path ≡ path
at_paths s volume path None output e = ap (λ (o : Output). o.path) (sym (same_Some (removal_of path) output e))
at_paths s volume path (Some want) output e = by_text (text_by volume (Some want)) e
  where
    by_text : (text : Option (List ℕ)) → option_map (put_at path) text ≡ Some output → output.path ≡ path
    by_text None e = absurd (none-some output e)
    by_text (Some text) e = ap (λ (o : Output). o.path) (sym (same_Some (put_at path text) output e))

pub record IsFirst {A : Type 0} (first : Option A) (rest : Option (List A)) (all : List A) : Type 0 where
  pub head : A
  pub tail : List A
  pub first_is : first ≡ Some head
  pub rest_is : rest ≡ Some tail
  pub are : head ∷ tail ≡ all

pub first-from : {A : Type 0} (first : Option A) (rest : Option (List A)) (all : List A) → with_first first rest ≡ Some all → IsFirst first rest all
first-from None rest all e = absurd (none-some all e)
first-from (Some x) None all e = absurd (none-some all e)
first-from (Some x) (Some xs) all e = record { head = x; tail = xs; first_is = refl; rest_is = refl; are = same_Some (x ∷ xs) all e }

-- the outputs are at these paths, in order
pub outputs_at-paths : (s : Stage) (volume : Labels) (paths : List (List ℕ)) (outputs : List Output) → outputs_at s volume paths ≡ Some outputs → map (λ (o : Output). o.path) outputs ≡ paths
outputs_at-paths s volume [] outputs e = ap (map (λ (o : Output). o.path)) (sym (same_Some [] outputs e))
outputs_at-paths s volume (path ∷ paths) outputs e =
    let f = first-from (output_by volume path (wants_by s.kind s path)) (outputs_at s volume paths) outputs e in
    ap (map (λ (o : Output). o.path)) (sym f.are) ∙ ap (λ p. p ∷ map (λ (o : Output). o.path) f.tail) (at_paths s volume path (wants_by s.kind s path) f.head f.first_is)
    ∙ ap (λ rest. path ∷ rest) (outputs_at-paths s volume paths f.tail f.rest_is)

pub outputs_at-append : (s : Stage) (volume : Labels) (paths more : List (List ℕ)) (xs ys : List Output) → outputs_at s volume paths ≡ Some xs → outputs_at s volume more ≡ Some ys
    → outputs_at s volume (paths ++ more) ≡ Some (xs ++ ys)
outputs_at-append s volume [] more xs ys e f = f ∙ ap (λ first. Some (first ++ ys)) (same_Some [] xs e)
outputs_at-append s volume (path ∷ paths) more xs ys e f =
    let h = first-from (output_by volume path (wants_by s.kind s path)) (outputs_at s volume paths) xs e in
    ap (with_first (output_by volume path (wants_by s.kind s path))) (outputs_at-append s volume paths more h.tail ys h.rest_is f)
    ∙ ap (λ first. with_first first (Some (h.tail ++ ys))) h.first_is ∙ ap (λ first. Some (first ++ ys)) h.are

text-apart : (now : Files) (at : List ℕ) (text : Option (List ℕ)) (path : List ℕ) → (path ≡ at → ⊥) → file_at (with_text now at text) path ≡ file_at now path
text-apart now at (Some bytes) path apart = file_at-other now path at bytes apart
text-apart now at None path apart = file_at-kept now path at apart

-- at other paths the files stay
pub outputs-apart : (now : Files) (outputs : List Output) (path : List ℕ) → (Contains (map (λ (o : Output). o.path) outputs) path → ⊥) → file_at (with_outputs now outputs) path ≡ file_at now path
outputs-apart now [] path apart = refl
outputs-apart now (output ∷ outputs) path apart =
    outputs-apart (with_text now output.path output.text) outputs path (λ h. apart (further output.path path (map (λ (o : Output). o.path) outputs) h))
    ∙ text-apart now output.path output.text path
    (λ same. apart (subst (λ p. Contains (output.path ∷ map (λ (o : Output). o.path) outputs) p) (sym same) (here output.path (map (λ (o : Output). o.path) outputs))))

flattened-append : {A : Type 0} (xss yss : List (List A)) → flattened (xss ++ yss) ≡ flattened xss ++ flattened yss
flattened-append [] yss = refl
flattened-append (xs ∷ xss) yss = ap (λ rest. xs ++ rest) (flattened-append xss yss) ∙ sym (append_assoc xs (flattened xss) (flattened yss))

-- one list more
pub flattened-next : {A : Type 0} (f : ℕ → List A) (n : ℕ) → flattened (listed f (suc n)) ≡ flattened (listed f n) ++ f n
flattened-next f n = flattened-append (listed f n) (f n ∷ []) ∙ ap (λ last. flattened (listed f n) ++ last) (append-nil (f n))

-- ---- all tasks
-- No task makes, or takes away, an input of a task of the stage, nor is its info one.
pub record IsElsewhere (s : Stage) : Type 0 where
  pub outputs : (j k : ℕ) (path : List ℕ) → j < task_count s → k < task_count s → Contains (paths_of s j) path → Contains (inputs_of s k) path → ⊥
  pub info : (info : InfoFile) → s.info ≡ Some info → (k : ℕ) → k < task_count s → Contains (inputs_of s k) info.path → ⊥
  pub no_chunk : (info : InfoFile) → s.info ≡ Some info → is_chunk_of s.source info.path ≡ true → ⊥

-- What the first n tasks left: at their paths what is wanted of the files before the first; and their inputs are as they were.
record Left (s : Stage) (files : Files) (n : ℕ) (now : Files) : Type 0 where
  outputs : List Output
  are : outputs_at s (volume_at (file_at files) s.source) (flattened (listed (paths_of s) n)) ≡ Some outputs
  left : with_outputs files outputs ≡ now
  same : (k : ℕ) → k < task_count s → AgreeOn (inputs_of s k) (file_at now) (file_at files)

record Step (s : Stage) (n : ℕ) (before : Option Files) (after : Files) : Type 0 where
  now : Files
  made : List Output
  before_is : before ≡ Some now
  is : task_outputs s n (file_at now) ≡ Some made
  left : with_outputs now made ≡ after

step_by : (s : Stage) (n : ℕ) (changes : List Output) (now after : Files) (made : Option (List Output)) → task_outputs s n (file_at now) ≡ made
    → (with_task changes now made).files ≡ Some after → Step s n (Some now) after
step_by s n changes now after None is e = absurd (none-some after e)
step_by s n changes now after (Some made) is e = record { now = now; made = made; before_is = refl; is = is; left = same_Some _ _ e }

step_of : (s : Stage) (n : ℕ) (changes : List Output) (before : Option Files) (after : Files) → (run_on (job_of s n) changes before).files ≡ Some after → Step s n before after
step_of s n changes None after e = absurd (none-some after e)
step_of s n changes (Some now) after e = step_by s n changes now after (task_outputs s n (file_at now)) refl e

module _ (s : Stage) (sound : is_sound s ≡ true) (elsewhere : IsElsewhere s) (files : Files) (scratch : (k : ℕ) → k < task_count s → HasScratch s k (file_at files)) where
  abbrev volume : Labels
  volume = volume_at (file_at files) s.source

  step : (n : ℕ) (before : Option Files) (after : Files) → n < task_count s → ((now : Files) → before ≡ Some now → Left s files n now) → Step s n before after → Left s files (suc n) after
  step n before after below earlier t =
      let l = earlier t.now t.before_is in
      let is : task_outputs s n (file_at files) ≡ Some t.made = sym (task_outputs-agrees s n (file_at t.now) (file_at files) (l.same n below) sound below) ∙ t.is in
      let made : outputs_at s volume (paths_of s n) ≡ Some t.made = task-wanted s n (file_at files) t.made (scratch n below) is in
      let paths = outputs_at-paths s volume (paths_of s n) t.made made in
      record {
        outputs = l.outputs ++ t.made;
        are = ap (outputs_at s volume) (flattened-next (paths_of s) n) ∙ outputs_at-append s volume (flattened (listed (paths_of s) n)) (paths_of s n) l.outputs t.made l.are made;
        left = with_outputs-append files l.outputs t.made ∙ ap (λ now. with_outputs now t.made) l.left ∙ t.left;
        same = λ k few path among.
            ap (λ now. file_at now path) (sym t.left)
            ∙ outputs-apart t.now t.made path (λ h. elsewhere.outputs n k path below few (subst (λ ps. Contains ps path) paths h) among)
            ∙ l.same k few path among;
      }

  left-first : (n : ℕ) (now : Files) → n ≤ task_count s → (ran_first s files n).files ≡ Some now → Left s files n now
  left-first zero now few e = record { outputs = []; are = refl; left = same_Some _ _ e; same = λ k below path among. ap (λ now. file_at now path) (sym (same_Some _ _ e)) }
  left-first (suc n) now few e =
      let ran = ran_first s files n in
      step n ran.files now few (λ before is. left-first n before (omega (arith, few)) is)
      (step_of s n ran.changes ran.files now (ap (λ (r : Ran). r.files) (sym (ran-next s files n)) ∙ e))

-- ---- once the info was put
info-same_by : (o : Option InfoFile) (files : Files) (path : List ℕ) → ((info : InfoFile) → o ≡ Some info → path ≡ info.path → ⊥) → file_at (with_info o files) path ≡ file_at files path
info-same_by None files path apart = refl
info-same_by (Some info) files path apart = file_at-other files path info.path info.text (apart info refl)

info-same : (s : Stage) → IsElsewhere s → (files : Files) (path : List ℕ) → is_chunk_of s.source path ≡ true → file_at (with_info s.info files) path ≡ file_at files path
info-same s elsewhere files path chunk = info-same_by s.info files path (λ info is same. elsewhere.no_chunk info is (subst (λ p. is_chunk_of s.source p ≡ true) same chunk))

-- The tasks of a stage, run one after the other once its info was put, leave exactly what is wanted of it.
pub sequential-wanted : (s : Stage) → is_sound s ≡ true → IsElsewhere s → (files after : Files) → ((k : ℕ) → k < task_count s → HasScratch s k (file_at (with_info s.info files)))
    → sequential (jobs_of s) (with_info s.info files) ≡ Some after
    → (outputs : List Output) × (wanted_outputs s (file_at files) ≡ Some outputs) × (with_outputs (with_info s.info files) outputs ≡ after)
sequential-wanted s sound elsewhere files after scratch ran =
    let first = with_info s.info files in
    let l = left-first s sound elsewhere first scratch (task_count s) after (omega arith) ran in
    let keeps : KeepsChunksOf s.source (file_at first) (file_at files) = λ path bytes chunk e. sym (info-same s elsewhere files path chunk) ∙ e in
    let lasts = volume-lasts s.source (IsSound-from s sound).fits (file_at first) (file_at files) keeps in
    (l.outputs, outputs-last s (volume_at (file_at first) s.source) (volume_at (file_at files) s.source) lasts (flattened (listed (paths_of s) (task_count s))) l.outputs l.are, l.left)
