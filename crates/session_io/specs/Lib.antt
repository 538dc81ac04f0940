pub mod Causes
pub mod Traffic
pub mod Memory
