pub mod Finding
pub mod Reported
mod Rows
