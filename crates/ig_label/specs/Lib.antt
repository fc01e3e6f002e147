pub mod VoxelGraph
pub mod Runs
pub mod RunGraph
pub mod Joining
pub mod Numbering
pub mod Painting
