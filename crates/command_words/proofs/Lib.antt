pub mod Numbers
pub mod Commands
pub mod Kept
pub mod Ranges
pub mod Stops
pub mod Takes
pub mod Rows
