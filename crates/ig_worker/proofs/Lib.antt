pub mod NotedStages
pub mod QueuedNames
pub mod AnyCandidates
pub mod ListedStages
pub mod Exits
pub mod Learns
pub mod Listings
pub mod RecordReads
mod Stepping
mod LastTurns
mod Nearing
mod TaskNames
mod Tallies
mod Endings
pub mod Leading
pub mod ShiftAnswers
pub mod Fetches
pub mod Handings
pub mod Runs
mod Keeping
pub mod Tries
mod Removals
