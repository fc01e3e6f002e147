pub mod TextReads
pub mod Chunks
pub mod Volumes
pub mod Texts
