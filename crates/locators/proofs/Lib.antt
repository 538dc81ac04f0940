pub mod Between
pub mod Reading
mod Rows
pub mod RunLists
