pub mod Starts
pub mod Shifts
pub mod Ready
pub mod Progress
pub mod Parts
