pub mod Tables
pub mod Merging
pub mod CountsFile
