pub mod Levels
pub mod Walks
pub mod Counts
pub mod Lasts
mod Descents
pub mod Bounds
