pub mod Fit
pub mod Sides
