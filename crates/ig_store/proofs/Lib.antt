pub mod Entries
pub mod Listings
pub mod Moves
pub mod Turns
