pub mod Greatest
pub mod Early
pub mod Seeking
pub mod Setting
pub mod Entries
pub mod NextCounts
mod Rows
