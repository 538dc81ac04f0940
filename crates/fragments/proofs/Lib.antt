mod Widening
mod Beside
mod Stamping
pub mod Searching
mod Replacing
mod Exchanging
pub mod Entries
pub mod Runs
pub mod Deletions
pub mod Counts
pub mod Founds
pub mod Bases
pub mod Cells
pub mod Indexes
pub mod Rises
