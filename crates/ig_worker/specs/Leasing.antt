pub mod Leases
pub mod Course
pub mod Moves
pub mod Places
pub mod Tasks
