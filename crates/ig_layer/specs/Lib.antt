pub mod Layer
pub mod Texts
pub mod Faults
pub mod Listed
pub mod SameVolume
pub mod ChunkFiles
pub mod AllListed
