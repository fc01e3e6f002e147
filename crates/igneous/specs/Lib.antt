pub mod Temp
pub mod Counts
