pub mod Logs
pub mod Rule
pub mod States
pub mod Fields
