pub mod Candidates
pub mod Moves
pub mod Progress
pub mod Requeued
pub mod TaskNames
-- what the paths of the files are made of
pub mod FilesAt
-- what is read of names
pub mod NamesRead
