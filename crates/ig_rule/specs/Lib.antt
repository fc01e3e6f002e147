-- what a stranger reads: files, stages, the rule, what holds at each moment, and what processes know and leave to others
pub mod Dirs
pub mod QueueFiles
pub mod Facts
pub mod Stages
pub mod Room
pub mod Rule
pub mod Sound
pub mod Known
pub mod Roles
-- the laws
pub mod SoundKept
pub mod Prefixes
pub mod DrainedFinished
pub mod Outputs
pub mod KnownKept
pub mod NoQueue
pub mod Untouched
pub mod ScratchWanted
pub mod KeptInputs
pub mod QueueStays
pub mod Beside
-- what a process did beside others
pub mod Went
pub mod WentOn
-- what they rest on
pub mod DirPaths
pub mod QueuePaths
pub mod QueueSteps
pub mod Keeps
pub mod KeepsEach
pub mod Effects
pub mod SoundFiles
pub mod SoundNames
pub mod SoundMoves
pub mod Grown
pub mod SoundRecord
pub mod SoundGrown
