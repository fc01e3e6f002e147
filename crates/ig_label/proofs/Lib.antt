mod RunLaws
mod JoinLaws
mod ClassLaws
mod NumberingLaws
mod VoxelLaws
mod QuotientOfRuns
mod PartLaws
