-- What a task makes of what was found of its inputs.
use Rattle.std.proofs.Common.{arith, ◌≡◌, ◌<◌, ◌+◌, ℕ, suc, true, false, if◌then◌else◌, List, [], ◌∷◌, Option, None, Some, is_none, get_or, IfOk, Result, Ok, Err, option_map, option_and_then, map, refl, sym, ap, subst, true≢false, ◌∙◌}
use Rattle.ig_space.specs.declared.point.Box3.{Box3}
use Rattle.ig_space.specs.declared.place.Place.{Place}
use Rattle.ig_space.specs.Cells.{IsIn-is_in, point_at-place}
use Rattle.ig_space.specs.Chunks.{chunk_in}
use Rattle.ig_space.specs.Geometry.{count}
use Rattle.ig_space.specs.Grid.{cell, point_at, size_of, space_of}
use Rattle.ig_count.specs.CountsFile.{counts_text}
use Rattle.ig_count.specs.Tables.{counts_of}
use Rattle.ig_layer.specs.AllListed.{all_listed-agrees}
use Rattle.ig_layer.specs.Faults.{Fault, first_fault, or_else}
use Rattle.ig_layer.specs.Layer.{Labels, Reading, volume_at}
use Rattle.ig_layer.specs.Texts.{files_in, label_by_number, labels_in, text_of}
use Rattle.ig_record.specs.declared.stage.Kind.{Kind}
use Rattle.ig_record.specs.declared.stage.Kind.TheVariants.{Xfer, Count, Remove}
use Rattle.ig_record.specs.declared.stage.Stage.{Stage}
use Rattle.ig_record.specs.Sound.{has_come, is_sound}
use Rattle.ig_record.specs.SoundStages.{IsSound-from, sound-come}
use Rattle.ig_record.specs.Columns.{box_read, inputs_of, numbered, paths_of as owned_paths}
use Rattle.ig_record.specs.Stage.{cells, task_box, task_count, task_size}
use Rattle.ig_meaning.specs.ChunkPlaces.{chunk_with-is}
use Rattle.ig_meaning.specs.Refusal as refusal
use Rattle.ig_meaning.specs.Refusal.{Refusal, refusal_of}
use Rattle.ig_meaning.specs.Task.{absent_in, first_absent, first_damaged, labels_given, labels_within, makes_by, refusal_by, task_outputs, task_refusal, texts_given, unless}
use Rattle.ig_meaning.specs.Wants.{chunk_want, count_want, output_by, outputs_at, put_at, removal_of, text_by, wants_by, with_first}
use Rattle.ig_cutout.specs.declared.types.Input.{Input}
use Rattle.ig_cutout.specs.declared.types.Output.{Output}
use Rattle.ig_cutout.specs.declared.error.CutError.{CutError}
use Rattle.ig_cutout.specs.declared.error.CutError.TheVariants as cut
use Rattle.ig_cutout.specs.Inputs.{HoldsAll, Says, paths_of}
use Rattle.ig_cutout.specs.Outputs.{output_of}
use Rattle.ig_task.specs.Answers.{AreMadeOf, RefusesTask, missing_path, run_error_of}
use Rattle.ig_task.specs.Copies.{copy-of}
use Rattle.ig_task.specs.Counts.{count-numbered, count-of}
use Rattle.ig_task.specs.KindFacts.{MakesFiles}
use Rattle.ig_task.specs.NumberedStages.{IsNumbered, numbered-made}
use Rattle.ig_task.specs.OwnWants.{copy-wants, removal-wants}
use Rattle.ig_task.specs.OwnedPaths.{copy-owns}
use Rattle.ig_task.specs.Tiles.{part-chunk}
use Rattle.ig_task.proofs.CutChunks.{AreWantedOf, chunk_cut, cut_outputs}

-- ---- a sound stage
-- a copy to this scale
pub dest_of : (s : Stage) (sound : is_sound s ≡ true) (copies : s.kind ≡ Xfer) (dest : Place) → s.dests ≡ dest ∷ [] → (copy-of s sound copies).dest ≡ dest
dest_of s sound copies dest one = cc ((copy-of s sound copies).dests_are, one)

-- of other kinds no stage is sound
pub not_come : (s : Stage) → is_sound s ≡ true → has_come s.kind ≡ false → ⊥
not_come s sound other = true≢false (sym (sound-come s sound) ∙ other)

-- ---- the first input that was not found
absent_if : (path : List ℕ) (found : Option (List ℕ)) (rest : Option Refusal) (more : Option (List ℕ)) → rest ≡ option_map (λ p. refusal.Missing p) more
    → or_else (if is_none found then Some (refusal.Missing path) else None) rest ≡ option_map (λ p. refusal.Missing p) (if is_none found then Some path else more)
absent_if path None rest more e = refl
absent_if path (Some bytes) rest more e = e

absent_in-is : (path : List ℕ) (found : Option (List ℕ)) → absent_in path found ≡ (if is_none found then Some (refusal.Missing path) else None)
absent_in-is path None = refl
absent_in-is path (Some bytes) = refl

pub absent-missing : (files : Reading) (inputs : List Input) → HoldsAll files inputs → first_absent files (paths_of inputs) ≡ option_map (λ p. refusal.Missing p) (missing_path inputs)
absent-missing files [] holds = refl
absent-missing files (input ∷ inputs) holds =
    ap (λ found. or_else (absent_in input.path found) (first_absent files (paths_of inputs))) (holds 0 input (omega arith))
    ∙ ap (λ first. or_else first (first_absent files (paths_of inputs))) (absent_in-is input.path input.found)
    ∙ absent_if input.path input.found (first_absent files (paths_of inputs)) (missing_path inputs) (absent-missing files inputs (λ k d below. holds (suc k) d (omega (arith, below))))

module _ (s : Stage) (k : ℕ) (files : Reading) (inputs : List Input) (holds : HoldsAll files inputs) (paths : paths_of inputs ≡ inputs_of s k) where
  absent_of : (found : Option (List ℕ)) → missing_path inputs ≡ found → first_absent files (inputs_of s k) ≡ option_map (λ p. refusal.Missing p) found
  absent_of found e = ap (first_absent files) (sym paths) ∙ absent-missing files inputs holds ∙ ap (option_map (λ p. refusal.Missing p)) e

  pub refused-missing : (path : List ℕ) → missing_path inputs ≡ Some path → task_refusal s k files ≡ Some (refusal.Missing path)
  refused-missing path e =
      ap (λ first. or_else first (or_else (first_damaged s (box_read s.kind s k) files) (refusal_by s.kind s k (texts_given s k files)))) (absent_of (Some path) e)

  -- where all were found
  pub refused-found : missing_path inputs ≡ None → task_refusal s k files ≡ or_else (first_damaged s (box_read s.kind s k) files) (refusal_by s.kind s k (texts_given s k files))
  refused-found e =
      ap (λ first. or_else first (or_else (first_damaged s (box_read s.kind s k) files) (refusal_by s.kind s k (texts_given s k files)))) (absent_of None e)

-- ---- a task that makes files
or_none : {A : Type 0} (o : Option A) → or_else o None ≡ o
or_none None = refl
or_none (Some x) = refl

pub files-fault : (s : Stage) → MakesFiles s → (k : ℕ) (files : Reading) (inputs : List Input) → HoldsAll files inputs → paths_of inputs ≡ inputs_of s k → missing_path inputs ≡ None
    → task_refusal s k files ≡ option_map refusal_of (first_fault s.source (task_box s k) files)
files-fault s m k files inputs holds paths found =
    refused-found s k files inputs holds paths found
    ∙ or_none (first_damaged s (box_read s.kind s k) files)
    ∙ ap (λ (box : Option Box3). first_damaged s box files) (m.reads k)

says_refuses : (e : CutError) (fault : Option Fault) → Says e fault → RefusesTask (run_error_of e) (option_map refusal_of fault)
says_refuses (cut.Missing path) fault says = ap (option_map refusal_of) says
says_refuses (cut.Malformed path cause) fault says = ap (option_map refusal_of) says
says_refuses cut.Memory fault says = tt

pub refused-cut : (s : Stage) → MakesFiles s → (k : ℕ) (files : Reading) (inputs : List Input) (e : CutError) → HoldsAll files inputs → paths_of inputs ≡ inputs_of s k → missing_path inputs ≡ None
    → Says e (first_fault s.source (task_box s k) files) → RefusesTask (run_error_of e) (task_refusal s k files)
refused-cut s m k files inputs e holds paths found says =
    subst (RefusesTask (run_error_of e)) (sym (files-fault s m k files inputs holds paths found)) (says_refuses e (first_fault s.source (task_box s k) files) says)

-- the labels of a box are those within it
label-within : (volume : Labels) (box : Box3) (k : ℕ) → k < count (size_of box) → label_by_number (labels_within (Some box) volume) box k ≡ label_by_number volume box k
label-within volume box k below =
    let p = point_at (size_of box) k in
    let place = point_at-place (size_of box) k below in
    let inside = IsIn-is_in box (box.lo.x + p.x) (box.lo.y + p.y) (box.lo.z + p.z)
    (record { x_from = omega arith; x_to = omega (arith, place.x); y_from = omega arith; y_to = omega (arith, place.y); z_from = omega arith; z_to = omega (arith, place.z) }) in
    ap (λ test. if test then volume (box.lo.x + p.x) (box.lo.y + p.y) (box.lo.z + p.z) else None) inside

pub labels_in-within : (volume : Labels) (box : Box3) → labels_in (labels_within (Some box) volume) box ≡ labels_in volume box
labels_in-within volume box = all_listed-agrees (label_by_number (labels_within (Some box) volume) box) (label_by_number volume box) (count (size_of box)) (label-within volume box)

-- it makes what is made of the labels of its box
pub files-makes : (s : Stage) → MakesFiles s → (k : ℕ) (files : Reading) (inputs : List Input) (labels : List ℕ) (outputs : List Output) → HoldsAll files inputs → paths_of inputs ≡ inputs_of s k
    → missing_path inputs ≡ None → first_fault s.source (task_box s k) files ≡ None → labels_in (volume_at files s.source) (task_box s k) ≡ Some labels → AreMadeOf s k labels outputs → task_outputs s k files ≡ Some outputs
files-makes s m k files inputs labels outputs holds paths found fine are made =
    let volume = volume_at files s.source in
    let box = task_box s k in
    let given : labels_given s k files ≡ labels_within (Some box) volume = ap (λ (box : Option Box3). labels_within box volume) (m.reads k) in
    let outs : makes_by s.kind s k (labels_given s k files) (texts_given s k files) ≡ Some outputs
    = ap (λ l. outputs_at s l (owned_paths s k)) given ∙ made (labels_within (Some box) volume) (labels_in-within volume box ∙ are) in
    ap (λ r. unless r (makes_by s.kind s k (labels_given s k files) (texts_given s k files))) (files-fault s m k files inputs holds paths found ∙ ap (option_map refusal_of) fine) ∙ outs

-- ---- copies
text_then : (place : Place) (box : Box3) (o : Option (List ℕ)) → option_and_then (chunk_want place box).text o ≡ text_of place.geometry.encoding place.geometry.width (size_of box) o
text_then place box None = refl
text_then place box (Some labels) = refl

-- the chunks of the new scale are wanted of the volume itself
copy-wanted : (s : Stage) (sound : is_sound s ≡ true) (copies : s.kind ≡ Xfer) (k : ℕ) → k < task_count s → (volume : Labels) → AreWantedOf s (copy-of s sound copies).dest (task_box s k) volume volume
copy-wanted s sound copies k below volume i few bytes e =
    let copy = copy-of s sound copies in
    let box = chunk_cut copy.dest (task_box s k) i in
    let path = chunk_in copy.dest (task_box s k) i in
    let owns = copy-owns s (IsSound-from s sound) copies copy in
    let there = chunk_with-is copy.dest copy.is_dest.fits path box (part-chunk copy.dest _ owns.tiled k below i few) in
    let want : wants_by s.kind s path ≡ Some (chunk_want copy.dest box) = copy-wants s copies copy path ∙ ap (option_map (chunk_want copy.dest)) there in
    ap (text_by volume) want ∙ text_then copy.dest box (labels_in volume box) ∙ e

pub copy-made : (s : Stage) → is_sound s ≡ true → s.kind ≡ Xfer → (k : ℕ) → k < task_count s → (dest : Place) → s.dests ≡ dest ∷ [] → (volume : Labels) (outputs : List Output)
    → option_map (map output_of) (files_in dest volume (task_box s k)) ≡ Some outputs → outputs_at s volume (owned_paths s k) ≡ Some outputs
copy-made s sound copies k below dest one volume outputs cut =
    let copy = copy-of s sound copies in
    ap (outputs_at s volume) ((copy-owns s (IsSound-from s sound) copies copy).paths k)
    ∙ cut_outputs s copy.dest (task_box s k) volume volume (copy-wanted s sound copies k below volume) outputs
    (subst (λ d. option_map (map output_of) (files_in d volume (task_box s k)) ≡ Some outputs) (sym (dest_of s sound copies dest one)) cut)

-- ---- counts
-- the only file of a task
pub count-file : (s : Stage) → is_sound s ≡ true → s.kind ≡ Count → IsNumbered s (count_want s)
count-file s sound counts = count-numbered s (IsSound-from s sound) counts (count-of s sound counts)

-- the first of the paths of a task, copied
pub only-path : {E : Type 0} (own seen : List (List ℕ)) (p first : List ℕ) (copied : Result (List ℕ) E) → own ≡ p ∷ [] → seen ≡ own → first ≡ get_or seen 0 first → IfOk copied (λ path. path ≡ first)
    → IfOk copied (λ path. own ≡ path ∷ [])
only-path own seen p first (Ok path) one is at same = one ∙ ap (λ q. q ∷ []) (sym (same ∙ at ∙ ap (λ paths. get_or paths 0 first) (is ∙ one)))
only-path own seen p first (Err e) one is at same = tt

pub count-made : (s : Stage) → is_sound s ≡ true → s.kind ≡ Count → (k : ℕ) → k < task_count s → (path text : List ℕ) (labels : List ℕ) → owned_paths s k ≡ path ∷ [] → text ≡ counts_text (counts_of labels)
    → AreMadeOf s k labels (put_at path text ∷ [])
count-made s sound counts k below path text labels own is volume are =
    let h = IsSound-from s sound in
    let n = count-file s sound counts in
    let box : cell (cells s) k ≡ task_box s k = ap (λ step. cell (record { space = space_of s.source.geometry; step = step }) k) (sym (ap (λ (kind : Kind). task_size kind s) counts)) in
    let wanted : text_by volume (Some (count_want s k)) ≡ Some text = ap (option_and_then (count_want s k).text) (ap (labels_in volume) box ∙ are) ∙ ap Some (sym is) in
    let same : numbered n.dir n.ending k ≡ path = cc (n.file k, own) in
    subst (λ p. outputs_at s volume (owned_paths s k) ≡ Some (put_at p text ∷ [])) same (numbered-made s h (count_want s) n k below volume text wanted)

-- ---- removals
removed_at : (s : Stage) → s.kind ≡ Remove → (labels : Labels) (paths : List (List ℕ)) → outputs_at s labels paths ≡ Some (map removal_of paths)
removed_at s removes labels [] = refl
removed_at s removes labels (path ∷ paths) =
    ap (λ want. with_first (output_by labels path want) (outputs_at s labels paths)) (removal-wants s removes path)
    ∙ ap (with_first (Some (removal_of path))) (removed_at s removes labels paths)

pub makes_removals : (s : Stage) → s.kind ≡ Remove → (k : ℕ) (files : Reading) (inputs : List Input) (outputs : List Output) → HoldsAll files inputs → paths_of inputs ≡ inputs_of s k → missing_path inputs ≡ None
    → outputs ≡ map removal_of (owned_paths s k) → task_outputs s k files ≡ Some outputs
makes_removals s removes k files inputs outputs holds paths found is =
    let fine : task_refusal s k files ≡ None =
    refused-found s k files inputs holds paths found ∙ ap (λ (kind : Kind). or_else (first_damaged s (box_read kind s k) files) (refusal_by s.kind s k (texts_given s k files))) removes in
    ap (λ r. unless r (makes_by s.kind s k (labels_given s k files) (texts_given s k files))) fine
    ∙ removed_at s removes (labels_given s k files) (owned_paths s k) ∙ ap Some (sym is)
