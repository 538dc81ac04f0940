pub mod Kept
pub mod Keeping
pub mod Newest
pub mod Equal
pub mod Selecting
pub mod Placing
mod Rows
