-- Which stages can be run: this project's own.
use Rattle.std.specs.Prelude.{nat_le, if◌then◌else◌, Option, None, Some, option_map}
use Rattle.ig_space.specs.Grid.{cell_count}
use Rattle.ig_layer.specs.Faults.{or_else}
use Rattle.ig_record.specs.declared.stage.Stage.{Stage}
use Rattle.ig_record.specs.Stage.{cells, greatest, hull_voxels, most_tasks, most_voxels, shape_unit, unfit_axis}
use Rattle.ig_meaning.specs.Refusal.{Refusal, ShapeUnfit, TooManyTasks, TaskTooLarge}

-- why a stage is not run: its shape, else the number of its cells, else the greatest of them
abbrev pub unfit_shape : Stage → Option Refusal
unfit_shape s = option_map ShapeUnfit (unfit_axis (shape_unit s.kind s.source s.dests) s.shape)

abbrev pub too_many_tasks : Stage → Option Refusal
too_many_tasks s = if nat_le (cell_count (cells s)) most_tasks then None else Some (TooManyTasks (cell_count (cells s)))

abbrev pub too_large_task : Stage → Option Refusal
too_large_task s =
    if nat_le (greatest (hull_voxels s) (cell_count (cells s))) most_voxels then None else Some (TaskTooLarge (greatest (hull_voxels s) (cell_count (cells s))))

abbrev pub unfit : Stage → Option Refusal
unfit s = or_else (unfit_shape s) (or_else (too_many_tasks s) (too_large_task s))
