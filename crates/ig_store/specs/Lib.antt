pub mod Fails
pub mod Memory
pub mod Names
pub mod Sink
pub mod Ticks
