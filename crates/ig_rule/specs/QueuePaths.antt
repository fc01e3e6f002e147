-- The files of a queue are told apart by their paths.
use Rattle.std.specs.Prelude.{◌≡◌, ℕ, true, if◌then◌else◌, List, ◌∷◌, None, refl, codes}
use Rattle.std.proofs.Common.{ap, sym, ◌∙◌, append_assoc}
use Rattle.std.proofs.lemmas.List.{append_cancel_left}
use Rattle.std.proofs.lemmas.Option.{same_Some}
use Rattle.std.specs.Str.{bytes_eq}
use Rattle.ig_space.specs.Path.{joined}
use Rattle.ig_defs.specs.QueueNames.{stage_file, task_file, queue_file}
use Rattle.ig_defs.specs.QueueNameLaws.{stage_file-same, task_file-same, queue_file-same, is_segment-stage_file, is_segment-task_file, is_segment-queue_file}
use Rattle.ig_rule.specs.Dirs.{LiesIn, IsOutside}
use Rattle.ig_rule.specs.DirPaths.{tail_is, dir_of, dir_of-joined, dir_of-segment, dir_within}
use Rattle.ig_rule.specs.QueueFiles.{QueueFile, Record, Seal, Queued, Dead, Done, fits, folder, file_name, path_of}

-- ---- names have no `/`

no_slash : (x : QueueFile) → dir_of (file_name x) ≡ None
unfolding file_name
no_slash (Record n) = dir_of-segment (stage_file n) (is_segment-stage_file n)
no_slash (Seal n) = dir_of-segment (stage_file n) (is_segment-stage_file n)
no_slash (Queued name) = dir_of-segment (queue_file name) (is_segment-queue_file name)
no_slash (Dead id) = dir_of-segment (task_file id) (is_segment-task_file id)
no_slash (Done id) = dir_of-segment (task_file id) (is_segment-task_file id)

-- ---- sorts of files, which their folders tell

abbrev sort : QueueFile → ℕ
sort (Record stage) = 0
sort (Seal stage) = 1
sort (Queued name) = 2
sort (Dead task) = 3
sort (Done task) = 4

abbrev sort_of : List ℕ → ℕ
sort_of text =
    if bytes_eq text (codes "stages") then 0
    else if bytes_eq text (codes "seals") then 1
    else if bytes_eq text (codes "queue") then 2
    else if bytes_eq text (codes "dead") then 3
    else 4

folder_sort : (x : QueueFile) → sort_of (folder x) ≡ sort x
unfolding folder
folder_sort (Record stage) = refl
folder_sort (Seal stage) = refl
folder_sort (Queued name) = refl
folder_sort (Dead task) = refl
folder_sort (Done task) = refl

by_sort : (x y : QueueFile) → fits x ≡ true → fits y ≡ true → sort x ≡ sort y → file_name x ≡ file_name y → x ≡ y
unfolding file_name
by_sort (Record m) (Record n) a b s e = ap Record (stage_file-same m n a b e)
by_sort (Seal m) (Seal n) a b s e = ap Seal (stage_file-same m n a b e)
by_sort (Queued x) (Queued y) a b s e = ap Queued (queue_file-same x y a b e)
by_sort (Dead x) (Dead y) a b s e = ap Dead (task_file-same x y a b e)
by_sort (Done x) (Done y) a b s e = ap Done (task_file-same x y a b e)
by_sort x y a b s e = absurd (cc)

-- files of a queue with one path are one
pub path_is : (dir : List ℕ) (x y : QueueFile) → fits x ≡ true → fits y ≡ true → path_of dir x ≡ path_of dir y → x ≡ y
path_is dir x y a b e =
    let within : joined (folder x) (file_name x) ≡ joined (folder y) (file_name y) = tail_is _ _ _ _ (append_cancel_left dir _ _ e) in
    let folders : folder x ≡ folder y
    = same_Some _ _ (sym (dir_of-joined (folder x) (file_name x) (no_slash x)) ∙ ap dir_of within ∙ dir_of-joined (folder y) (file_name y) (no_slash y)) in
    let names : file_name x ≡ file_name y
    = tail_is _ _ _ _ (append_cancel_left (folder x) _ _ (within ∙ ap (λ f. joined f (file_name y)) (sym folders))) in
    by_sort x y a b (sym (folder_sort x) ∙ ap sort_of folders ∙ folder_sort y) names

-- ---- paths outside

-- what lies directly in a directory outside the queue is no file of it
pub no_queue_path : (q dir path : List ℕ) (x : QueueFile) → IsOutside q dir → LiesIn dir path → path ≡ path_of q x → ⊥
no_queue_path q dir path x outside lies e =
    outside.not_within (folder x) (dir_within dir (joined q (folder x)) (file_name x) path lies (no_slash x) (e ∙ sym (append_assoc q (47 ∷ folder x) (47 ∷ file_name x))))
