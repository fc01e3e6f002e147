use Rattle.std.proofs.Common.{ap, refl}
use Rattle.ig_meaning.specs.Refusal as refusal
use Rattle.ig_stage.specs.Errors.{ending_of_make}
use Rattle.ig_cli.proofs.Reports.{tells_refusal}
use Rattle.ig_cli.proofs.lines.line_of_make.Goals as goal

pub returns-in-Missing : goal.returns-in-Missing
returns-in-Missing c =
    tells_refusal (refusal.Missing c.as_str-in-Missing.result.now) (refusal.Missing c.in-Missing.path) _ _ (ap (λ p. refusal.Missing p) c.as_str-in-Missing.ensures.value)
    (ap ending_of_make c.in-Missing.is) (c.refused-in-Missing.ensures _ c.missing-in-Missing.ensures)

pub returns-in-BadInfo : goal.returns-in-BadInfo
returns-in-BadInfo c =
    tells_refusal (refusal.BadInfo c.as_str-in-BadInfo.result.now c.in-BadInfo.cause) (refusal.BadInfo c.in-BadInfo.path c.in-BadInfo.cause) _ _
    (ap (λ p. refusal.BadInfo p c.in-BadInfo.cause) c.as_str-in-BadInfo.ensures.value)
    (ap ending_of_make c.in-BadInfo.is) (c.refused-in-BadInfo.ensures (refusal.BadInfo c.as_str-in-BadInfo.result.now c.in-BadInfo.cause) c.bad_info.ensures)

pub returns-in-DestNotEmpty : goal.returns-in-DestNotEmpty
returns-in-DestNotEmpty c =
    tells_refusal (refusal.NotEmpty c.as_str-in-DestNotEmpty.result.now) (refusal.NotEmpty c.in-DestNotEmpty.path) _ _
    (ap (λ p. refusal.NotEmpty p) c.as_str-in-DestNotEmpty.ensures.value)
    (ap ending_of_make c.in-DestNotEmpty.is) (c.refused-in-DestNotEmpty.ensures _ c.not_empty.ensures)

pub returns-in-NoScale : goal.returns-in-NoScale
returns-in-NoScale c =
    tells_refusal (refusal.NoScale c.in-NoScale.mip c.in-NoScale.count) (refusal.NoScale c.in-NoScale.mip c.in-NoScale.count) _ _ refl
    (ap ending_of_make c.in-NoScale.is) (c.refused-in-NoScale.ensures (refusal.NoScale c.in-NoScale.mip c.in-NoScale.count) c.no_scale.ensures)

pub returns-in-NoStage : goal.returns-in-NoStage
returns-in-NoStage c =
    tells_refusal (refusal.NoStage c.in-NoStage.kind) (refusal.NoStage c.in-NoStage.kind) _ _ refl
    (ap ending_of_make c.in-NoStage.is) (c.refused-in-NoStage.ensures (refusal.NoStage c.in-NoStage.kind) c.no_stage.ensures)

pub returns-in-ShapeUnfit : goal.returns-in-ShapeUnfit
returns-in-ShapeUnfit c =
    tells_refusal (refusal.ShapeUnfit c.in-ShapeUnfit.axis) (refusal.ShapeUnfit c.in-ShapeUnfit.axis) _ _ refl
    (ap ending_of_make c.in-ShapeUnfit.is) (c.refused-in-ShapeUnfit.ensures (refusal.ShapeUnfit c.in-ShapeUnfit.axis) c.shape_unfit.ensures)

pub returns-in-TooManyTasks : goal.returns-in-TooManyTasks
returns-in-TooManyTasks c =
    tells_refusal (refusal.TooManyTasks c.in-TooManyTasks.count) (refusal.TooManyTasks c.in-TooManyTasks.count) _ _ refl
    (ap ending_of_make c.in-TooManyTasks.is) (c.refused-in-TooManyTasks.ensures (refusal.TooManyTasks c.in-TooManyTasks.count) c.too_many_tasks.ensures)

pub returns-in-TaskTooLarge : goal.returns-in-TaskTooLarge
returns-in-TaskTooLarge c =
    tells_refusal (refusal.TaskTooLarge c.in-TaskTooLarge.voxels) (refusal.TaskTooLarge c.in-TaskTooLarge.voxels) _ _ refl
    (ap ending_of_make c.in-TaskTooLarge.is) (c.refused-in-TaskTooLarge.ensures (refusal.TaskTooLarge c.in-TaskTooLarge.voxels) c.task_too_large.ensures)

pub returns-in-Absent : goal.returns-in-Absent
returns-in-Absent c =
    tells_refusal (refusal.Missing c.as_str.result.now) (refusal.Missing c.in-Absent.path) _ _ (ap (λ p. refusal.Missing p) c.as_str.ensures.value)
    (ap ending_of_make c.in-Absent.is) (c.refused.ensures _ c.missing.ensures)

pub returns-in-TooManyStages : goal.returns-in-TooManyStages
returns-in-TooManyStages c =
    tells_refusal (refusal.TooManyStages c.in-TooManyStages.count) (refusal.TooManyStages c.in-TooManyStages.count) _ _ refl
    (ap ending_of_make c.in-TooManyStages.is) (c.refused-in-TooManyStages.ensures (refusal.TooManyStages c.in-TooManyStages.count) c.too_many_stages.ensures)

pub returns-in-Taken : goal.returns-in-Taken
returns-in-Taken c =
    tells_refusal (refusal.Taken c.in-Taken.stage) (refusal.Taken c.in-Taken.stage) _ _ refl
    (ap ending_of_make c.in-Taken.is) (c.refused-in-Taken.ensures (refusal.Taken c.in-Taken.stage) c.taken.ensures)

pub returns-in-BadRecord : goal.returns-in-BadRecord
returns-in-BadRecord c =
    tells_refusal (refusal.BadRecord c.as_str-in-BadRecord.result.now c.as_str-in-BadRecord-2.result.now) (refusal.BadRecord c.in-BadRecord.path c.in-BadRecord.member) _ _
    (λ i. refusal.BadRecord (c.as_str-in-BadRecord.ensures.value i) (c.as_str-in-BadRecord-2.ensures i)) (ap ending_of_make c.in-BadRecord.is)
    (c.refused-in-BadRecord.ensures (refusal.BadRecord c.as_str-in-BadRecord.result.now c.as_str-in-BadRecord-2.result.now) c.bad_record.ensures)
