pub mod Inputs
pub mod Outputs
pub mod Area
pub mod Laid
pub mod Gathered
pub mod Pasted
