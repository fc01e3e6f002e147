-- What stages read and write, kind by kind: this project's own.
use Rattle.std.specs.Prelude.{ℕ, suc, ◌+◌, Bool, true, false, ◌||◌, nat_lt, List, [], ◌∷◌, ◌++◌, Option, None, Some, codes}
use Rattle.std.specs.Str.{bytes_eq}
use Rattle.ig_space.specs.declared.point.Point.{Point}
use Rattle.ig_space.specs.declared.point.Box3.{Box3}
use Rattle.ig_space.specs.declared.place.Place.{Place}
use Rattle.ig_space.specs.Chunks.{chunks_in, listed}
use Rattle.ig_space.specs.Grid.{cell_count, counts, point_at}
use Rattle.ig_space.specs.Path.{joined}
use Rattle.ig_space.specs.Volume.{place_of}
use Rattle.ig_defs.specs.QueueNames.{digits}
use Rattle.ig_mode.specs.HalvedGrids.{halved_box}
use Rattle.ig_record.specs.declared.stage.Kind.{Kind}
use Rattle.ig_record.specs.declared.stage.Kind.TheVariants.{Xfer, Downsample, Faces, Links, Labels, Relabel, Count, Sum, Remove}
use Rattle.ig_record.specs.declared.stage.Stage.{Stage}
use Rattle.ig_record.specs.Stage.{cells, task_box, task_grid}

-- ---- chunks
-- the chunks of scales that meet a box, of each scale its own, where the first has number m
abbrev pub chunks_of_all : (ℕ → Box3) → ℕ → List Place → List (List ℕ)
chunks_of_all boxes m [] = []
chunks_of_all boxes m (place ∷ places) = chunks_in place (boxes m) ++ chunks_of_all boxes (suc m) places

-- those of a scale that meet a box, if there is one
abbrev pub chunks_met : Place → Option Box3 → List (List ℕ)
chunks_met place None = []
chunks_met place (Some box) = chunks_in place box

abbrev pub dirs_of_all : List Place → List (List ℕ)
dirs_of_all [] = []
dirs_of_all (place ∷ places) = place.dir ∷ dirs_of_all places

-- ---- files of passes, in a directory of their scratch
-- that directory, if there is a scratch
abbrev pub under : Option (List ℕ) → List ℕ → List (List ℕ)
under None name = []
under (Some scratch) name = joined scratch name ∷ []

-- the file of a number: six digits, and an ending
abbrev pub numbered : List ℕ → List ℕ → ℕ → List ℕ
numbered dir ending k = joined dir (digits 6 k ++ ending)

-- the files of the numbers below n, in the directory of this name
abbrev pub numbered_all : Option (List ℕ) → List ℕ → List ℕ → ℕ → List (List ℕ)
numbered_all None name ending n = []
numbered_all (Some scratch) name ending n = listed (numbered (joined scratch name) ending) n

-- the file of this name, in such a directory
abbrev pub named_one : Option (List ℕ) → List ℕ → List ℕ → List (List ℕ)
named_one None name file = []
named_one (Some scratch) name file = joined (joined scratch name) file ∷ []

-- the file of one number
abbrev pub numbered_one : Option (List ℕ) → List ℕ → List ℕ → ℕ → List (List ℕ)
numbered_one scratch name ending k = named_one scratch name (digits 6 k ++ ending)

-- the parts of a box, and the planes at its sides
abbrev pub parts_file : Option (List ℕ) → ℕ → List (List ℕ)
parts_file scratch k = numbered_one scratch (codes "faces") (codes ".parts") k

abbrev pub planes_file : Option (List ℕ) → ℕ → List (List ℕ)
planes_file scratch k = numbered_one scratch (codes "faces") (codes ".faces") k

-- both of them, of each of these boxes
abbrev pub faces_of_all : Option (List ℕ) → List ℕ → List (List ℕ)
faces_of_all scratch [] = []
faces_of_all scratch (k ∷ ks) = planes_file scratch k ++ (parts_file scratch k ++ faces_of_all scratch ks)

-- ---- neighbours
abbrev pub one_where : Bool → ℕ → List ℕ
one_where true k = k ∷ []
one_where false k = []

-- of the cell i of so many along each axis, the numbers of those one above it along x, y and z
abbrev pub above : Point → Point → List ℕ
above n i =
    one_where (nat_lt (i.x + 1) n.x) (place_of n (i.x + 1) i.y i.z)
    ++ (one_where (nat_lt (i.y + 1) n.y) (place_of n i.x (i.y + 1) i.z)
    ++ one_where (nat_lt (i.z + 1) n.z) (place_of n i.x i.y (i.z + 1)))

abbrev pub upper_neighbours : Stage → ℕ → List ℕ
upper_neighbours s k = above (counts (task_grid s)) (point_at (counts (task_grid s)) k)

-- ---- what a task reads
-- the box whose source chunks it reads
abbrev pub box_read : Kind → Stage → ℕ → Option Box3
box_read Xfer s k = Some (task_box s k)
box_read Downsample s k = Some (task_box s k)
box_read Faces s k = Some (task_box s k)
box_read Links s k = None
box_read Labels s k = None
box_read Relabel s k = Some (task_box s k)
box_read Count s k = Some (task_box s k)
box_read Sum s k = None
box_read Remove s k = None

-- the files of earlier passes that it reads, in order
abbrev pub scratch_read : Kind → Stage → ℕ → List (List ℕ)
scratch_read Xfer s k = []
scratch_read Downsample s k = []
scratch_read Faces s k = []
scratch_read Links s k = faces_of_all s.scratch (k ∷ upper_neighbours s k)
scratch_read Labels s k =
    numbered_all s.scratch (codes "faces") (codes ".parts") (cell_count (cells s))
    ++ numbered_all s.scratch (codes "links") (codes ".links") (cell_count (cells s))
scratch_read Relabel s k = numbered_one s.scratch (codes "labels") (codes ".table") k
scratch_read Count s k = []
scratch_read Sum s k = numbered_all s.scratch (codes "parts") (codes ".counts") (cell_count (cells s))
scratch_read Remove s k = []

-- the paths that a task reads, in order
abbrev pub inputs_by : Kind → Stage → ℕ → List (List ℕ)
inputs_by kind s k = chunks_met s.source (box_read kind s k) ++ scratch_read kind s k

-- ---- what a task owns
-- the box that a task has in the scale of this number, from 1 on, of those that the stage writes
abbrev pub box_written : Kind → Stage → ℕ → ℕ → Box3
box_written Downsample s k m = halved_box m s.source.geometry.offset (task_box s k)
box_written kind s k m = task_box s k

abbrev pub chunks_written : Kind → Stage → ℕ → List (List ℕ)
chunks_written kind s k = chunks_of_all (box_written kind s k) 1 s.dests

-- the files of a pass that a task writes, in order
abbrev pub files_written : Kind → Stage → ℕ → List (List ℕ)
files_written Xfer s k = []
files_written Downsample s k = []
files_written Faces s k = parts_file s.scratch k ++ planes_file s.scratch k
files_written Links s k = numbered_one s.scratch (codes "links") (codes ".links") k
files_written Labels s k = numbered_all s.scratch (codes "labels") (codes ".table") (cell_count (cells s))
files_written Relabel s k = []
files_written Count s k = numbered_one s.scratch (codes "parts") (codes ".counts") k
files_written Sum s k = named_one s.scratch (codes "total") (codes "all.counts")
files_written Remove s k = []

-- the paths that a task owns, in order: those that it writes, or takes away
abbrev pub paths_by : Kind → Stage → ℕ → List (List ℕ)
paths_by Xfer s k = chunks_written Xfer s k
paths_by Downsample s k = chunks_written Downsample s k
paths_by Faces s k = files_written Faces s k
paths_by Links s k = files_written Links s k
paths_by Labels s k = files_written Labels s k
paths_by Relabel s k = chunks_written Relabel s k
paths_by Count s k = files_written Count s k
paths_by Sum s k = files_written Sum s k
paths_by Remove s k = chunks_in s.source (task_box s k)

-- ---- directories
-- the output directories: all that a stage writes lies directly in one of them
abbrev pub dirs_by : Kind → Stage → List (List ℕ)
dirs_by Xfer s = dirs_of_all s.dests
dirs_by Downsample s = dirs_of_all s.dests
dirs_by Faces s = under s.scratch (codes "faces")
dirs_by Links s = under s.scratch (codes "links")
dirs_by Labels s = under s.scratch (codes "labels")
dirs_by Relabel s = dirs_of_all s.dests
dirs_by Count s = under s.scratch (codes "parts")
dirs_by Sum s = under s.scratch (codes "total")
dirs_by Remove s = []

-- the directory whose chunks it takes away
abbrev pub removed_by : Kind → Stage → Option (List ℕ)
removed_by Remove s = Some s.source.dir
removed_by kind s = None

-- ---- the info
-- whether no file may stand at the path of its info before: that of a new layer
abbrev pub needs_fresh_info : Kind → Bool
needs_fresh_info Xfer = true
needs_fresh_info Downsample = false
needs_fresh_info Faces = false
needs_fresh_info Links = false
needs_fresh_info Labels = false
needs_fresh_info Relabel = true
needs_fresh_info Count = false
needs_fresh_info Sum = false
needs_fresh_info Remove = false

-- ---- of a stage
abbrev pub output_dirs : Stage → List (List ℕ)
output_dirs s = dirs_by s.kind s

abbrev pub removed_dir : Stage → Option (List ℕ)
removed_dir s = removed_by s.kind s

abbrev pub inputs_of : Stage → ℕ → List (List ℕ)
inputs_of s k = inputs_by s.kind s k

abbrev pub paths_of : Stage → ℕ → List (List ℕ)
paths_of s k = paths_by s.kind s k

-- the directory is among these
abbrev pub is_among : List ℕ → List (List ℕ) → Bool
is_among dir [] = false
is_among dir (other ∷ dirs) = bytes_eq dir other || is_among dir dirs
