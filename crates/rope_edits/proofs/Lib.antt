pub mod Fit
pub mod Ropes
pub mod Sides
