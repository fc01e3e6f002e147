pub mod Segments
pub mod Temps
pub mod Sorted
