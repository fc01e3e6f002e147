pub mod TaskCounts
pub mod Splits
pub mod ChunkLists
pub mod Texts
pub mod Verdicts
pub mod HullLaws
mod Names
mod Above
