pub mod Counted
pub mod DueNames
pub mod Marks
pub mod Moving
pub mod Numbers
pub mod Parsed
pub mod Ranks
