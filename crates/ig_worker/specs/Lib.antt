pub mod Errors
pub mod Plans
pub mod Stages
pub mod Places
pub mod Moves
pub mod Fit
pub mod Knows
pub mod Left
pub mod Steps
pub mod Led
pub mod Learning
pub mod Going
pub mod Course
pub mod Words
pub mod Lines
pub mod Counting
-- what its moves keep
pub mod FoundInputs
pub mod Acting
-- the ends of a worker
-- what follows a lease
-- a worker by itself
pub mod Leasing
pub mod Finishing
pub mod Ending
pub mod Keeping
