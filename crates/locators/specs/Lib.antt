pub mod Locator
pub mod Reading
pub mod Runs
