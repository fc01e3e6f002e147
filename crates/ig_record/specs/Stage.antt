-- The tasks of a stage, and the limits of these: this project's own.
use Rattle.std.specs.Prelude.{ℕ, zero, suc, ◌==◌, ◌%◌, ◌*◌, ◌^◌, max, if◌then◌else◌, List, [], ◌∷◌, length, Option, None, Some, option_map}
use Rattle.ig_space.specs.declared.point.Point.{Point}
use Rattle.ig_space.specs.declared.point.Box3.{Box3}
use Rattle.ig_space.specs.declared.geometry.Grid.{Grid}
use Rattle.ig_space.specs.declared.place.Place.{Place}
use Rattle.ig_space.specs.Grid.{cell, cell_count, chunks_of, hull, size_of, space_of}
use Rattle.ig_space.specs.Geometry.{count}
use Rattle.ig_record.specs.declared.stage.Kind.{Kind}
use Rattle.ig_record.specs.declared.stage.Kind.TheVariants.{Xfer, Downsample, Faces, Links, Labels, Relabel, Count, Sum, Remove}
use Rattle.ig_record.specs.declared.stage.Stage.{Stage}

-- ---- tasks: the whole box of the source, cut into boxes
-- the boxes of the shape, which limits speak of
abbrev pub cells : Stage → Grid
cells s = record { space = space_of s.source.geometry; step = s.shape }

-- How long the box of a task is: as the shape, and for kinds with one task the whole box.
abbrev pub task_size : Kind → Stage → Point
task_size Xfer s = s.shape
task_size Downsample s = s.shape
task_size Faces s = s.shape
task_size Links s = s.shape
task_size Labels s = s.source.geometry.size
task_size Relabel s = s.shape
task_size Count s = s.shape
task_size Sum s = s.source.geometry.size
task_size Remove s = s.shape

abbrev pub task_grid : Stage → Grid
task_grid s = record { space = space_of s.source.geometry; step = task_size s.kind s }

abbrev pub task_count : Stage → ℕ
task_count s = cell_count (task_grid s)

abbrev pub task_box : Stage → ℕ → Box3
task_box s k = cell (task_grid s) k

-- ---- which shapes can be run
-- a chunk that m mips make one of
abbrev pub before_mips : ℕ → Point → Point
before_mips m chunk = record { x = 2 ^ m * chunk.x; y = 2 ^ m * chunk.y; z = chunk.z }

abbrev pub first_chunk : Place → List Place → Point
first_chunk source [] = source.geometry.chunk
first_chunk source (dest ∷ dests) = dest.geometry.chunk

-- A shape is a multiple of this: the size of a chunk of the copy, of what the last of the mips makes one of, and else of the source.
abbrev pub shape_unit : Kind → Place → List Place → Point
shape_unit Xfer source dests = first_chunk source dests
shape_unit Downsample source dests = before_mips (length dests) source.geometry.chunk
shape_unit Faces source dests = source.geometry.chunk
shape_unit Links source dests = source.geometry.chunk
shape_unit Labels source dests = source.geometry.chunk
shape_unit Relabel source dests = source.geometry.chunk
shape_unit Count source dests = source.geometry.chunk
shape_unit Sum source dests = source.geometry.chunk
shape_unit Remove source dests = source.geometry.chunk

-- How many units a shape has on each axis that no request names; none where the earlier pass has it.
abbrev pub usual_units : Kind → Option ℕ
usual_units Xfer = Some 2
usual_units Downsample = Some 1
usual_units Faces = Some 2
usual_units Links = None
usual_units Labels = None
usual_units Relabel = None
usual_units Count = Some 2
usual_units Sum = None
usual_units Remove = Some 2

-- so many of a size on each axis
abbrev pub times : ℕ → Point → Point
times n p = record { x = n * p.x; y = n * p.y; z = n * p.z }

-- that shape, if no earlier pass has it
abbrev pub usual_shape : Kind → Place → List Place → Option Point
usual_shape kind source dests = option_map (λ n. times n (shape_unit kind source dests)) (usual_units kind)

-- the first axis on which the shape is no multiple
abbrev pub unfit_axis : Point → Point → Option ℕ
unfit_axis unit shape =
    if shape.x % unit.x == 0 then (if shape.y % unit.y == 0 then (if shape.z % unit.z == 0 then None else Some 2) else Some 1) else Some 0

-- the greatest of the values at 0, 1, .. below n
abbrev pub greatest : (ℕ → ℕ) → ℕ → ℕ
greatest f zero = 0
greatest f (suc n) = max (greatest f n) (f n)

-- how many voxels the chunks have that meet a box of the shape, as a box of whole chunks
abbrev pub hull_voxels : Stage → ℕ → ℕ
hull_voxels s k = count (size_of (hull (chunks_of s.source.geometry) (cell (cells s) k)).space)

abbrev pub most_tasks : ℕ
most_tasks = 1000000

abbrev pub most_voxels : ℕ
most_voxels = 2 ^ 24
