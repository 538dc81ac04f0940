pub mod Finding
pub mod Named
pub mod Outcomes
pub mod Reported
mod Rows
